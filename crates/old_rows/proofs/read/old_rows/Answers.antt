use Rattle.std.proofs.Common.{Ok, ap, sym, subst, ◌∙◌}
use Rattle.std.proofs.lemmas.Result.{IfOk-at_ok}
use Rattle.old_rows.proofs.WholeLemmas.{all_shown}
use Rattle.old_rows.specs.Layouts.{AreShown}
use Rattle.sqlite.specs.Held.{state}
use Rattle.old_rows.proofs.read.old_rows.Goals as goal

pub returns-in-Some-clause-some : goal.returns-in-Some-clause-some
returns-in-Some-clause-some g c clean =
    subst (AreShown c.args.asked.now (state g.S.Store c.args.from.now).now) (sym c.all_of.ensures)
    (all_shown c.args.asked.now (state g.S.Store c.args.from.now).now c.in-Some.rows (IfOk-at_ok _ (c.in_ok-rows.was ∙ ap (λ o. Ok o) c.in-Some.is) (c.read.ensures.is clean)))

pub returns-in-None-clause-none : goal.returns-in-None-clause-none
returns-in-None-clause-none g c clean e = IfOk-at_ok _ (c.in_ok-rows.was ∙ ap (λ o. Ok o) c.in-None.is) (c.read.ensures.is clean)
