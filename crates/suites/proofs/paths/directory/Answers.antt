use Rattle.std.proofs.Common.{◌∙◌}
use Rattle.std.proofs.lemmas.Result.{IfOk-weaker}
use Rattle.suites.proofs.WrittenNames.{directory_written}
use Rattle.suites.proofs.paths.directory.Goals as goal

pub returns : goal.returns
returns c =
    IfOk-weaker c.format.result _ _ (λ text wrote. wrote ∙ directory_written c.args.component.now c.prefix-prefix.result.now c.args.source.now c.prefix-prefix.ensures)
    c.format.ensures.ok
