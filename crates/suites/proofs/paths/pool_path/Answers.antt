use Rattle.std.proofs.Common.{◌∙◌}
use Rattle.std.proofs.lemmas.Result.{IfOk-weaker}
use Rattle.suites.proofs.WrittenNames.{path_written}
use Rattle.suites.proofs.paths.pool_path.Goals as goal

pub returns : goal.returns
returns c =
    IfOk-weaker c.format.result _ _ (λ text wrote. wrote ∙ path_written c.args.component.now c.prefix-prefix.result.now c.args.source.now c.args.file.now c.prefix-prefix.ensures)
    c.format.ensures.ok
