use Rattle.std.proofs.Common.{◌∙◌, rules}
use Rattle.std.proofs.lemmas.Result.{IfOk-weaker}
use Rattle.tables_audit.proofs.RecordedLemmas.{path_written}
use Rattle.tables_audit.proofs.as_recorded.paths.path_of.Goals as goal

pub returns : goal.returns
returns c =
    IfOk-weaker c.format.result _ _ (λ path wrote. wrote ∙ path_written c.args.item.now c.args.name.now _ (search rules)) c.format.ensures.ok
