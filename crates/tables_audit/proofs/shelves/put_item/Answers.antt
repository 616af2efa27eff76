use Rattle.std.proofs.Common.{[], ◌∷◌, List, refl, sym, ap, subst, ◌∙◌}
use Rattle.std.specs.List.{list_any}
use Rattle.suites.specs.Admission.{MayJoin}
use Rattle.suites.specs.Items.{IsAtHome}
use Rattle.suites.specs.Shelves.{pool}
use Rattle.suites.specs.declared.item.PoolFile.{PoolFile}
use Rattle.suites.specs.declared.key.ShelfKey.{ShelfKey}
use Rattle.tables_meaning.specs.Shown.{may_not_join}
use Rattle.tables_meaning.proofs.ShownLemmas.{may_join}
use Rattle.tables_audit.proofs.shelves.put_item.Goals as goal

pub put-requires-clause-home : goal.put-requires-clause-home
put-requires-clause-home c = subst (λ (k : ShelfKey). IsAtHome (k, c.args.item)) (sym c.in_ok-key.ensures) refl

pub put-requires-clause-joins : goal.put-requires-clause-joins
put-requires-clause-joins c =
    subst (λ (k : ShelfKey). MayJoin c.args.shelves.now ((k, c.args.item) ∷ [])) (sym c.in_ok-key.ensures)
    (may_join c.args.shelves.now c.args.suite c.args.item c.agree.ensures
    (ap (λ (fs : List PoolFile). list_any (may_not_join (pool c.args.shelves.now) fs) fs) (sym c.as_slice.ensures)
    ∙ sym c.some_may_not_join.ensures ∙ c.if-some_may_not_join.false))
