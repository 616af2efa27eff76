use Rattle.std.proofs.Common.{sym}
use Rattle.std.specs.Prelude.{bytes_eq}
use Rattle.rules.specs.Suites.{keeps_component}
use Rattle.rules.proofs.JudgeLemmas.{list_any-no_position}
use Rattle.rules.proofs.judgement.place_in.Goals as goal

pub returns-in-None-clause-none : goal.returns-in-None-clause-none
unfolding keeps_component
returns-in-None-clause-none g c =
    list_any-no_position (bytes_eq c.args.component.now) (g.S.Judging.as_suite c.args.claiming.now).components (sym c.in-None.ensures)
