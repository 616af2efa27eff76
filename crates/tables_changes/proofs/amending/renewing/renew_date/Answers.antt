use Rattle.std.proofs.Common.{sym, ◌∙◌}
use Rattle.std.proofs.lemmas.Bool.{cond-true, cond-false}
use Rattle.sqlite.specs.Held.{state}
use Rattle.book.specs.Scan.{some_touches}
use Rattle.tables.specs.Dates.{with_new_date}
use Rattle.tables.proofs.TransactionLemmas.{on_ok}
use Rattle.tables_meaning.proofs.AmendLemmas.{makes_as, makes_if_changed, makes_none}
use Rattle.tables_changes.proofs.amending.renewing.renew_date.Goals as goal

pub returns-then-some_changes_suite-clause-ok : goal.returns-then-some_changes_suite-clause-ok
returns-then-some_changes_suite-clause-ok g c clean inside =
    let a = state g.S.Store c.args.tx.now.conn.now in
    let b = state g.S.Store c.update_date.new.tx.conn.now in
    let next = rw c.as_str.ensures at (c.update_date.ensures.ok clean inside) in
    on_ok _ next (λ h. makes_as a b _ _ (λ t was. (sym (cond-true (some_touches c.args.at c.args.steps.now) (with_new_date c.args.suite.now.codename c.args.moment t) t (sym c.some_changes_suite.ensures ∙ c.if-some_changes_suite.true)))) (makes_if_changed a b _ h))

pub returns-else-some_changes_suite-clause-ok : goal.returns-else-some_changes_suite-clause-ok
returns-else-some_changes_suite-clause-ok g c clean inside =
    let a = state g.S.Store c.args.tx.now.conn.now in
    makes_as a a _ _ (λ t was. (sym (cond-false (some_touches c.args.at c.args.steps.now) (with_new_date c.args.suite.now.codename c.args.moment t) t (sym c.some_changes_suite.ensures ∙ c.if-some_changes_suite.false)))) (makes_none a inside)
