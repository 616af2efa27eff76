use Rattle.std.proofs.Common.{List, sym, ap, subst, ◌∙◌}
use Rattle.suites.specs.Plan.{references}
use Rattle.suites.specs.PoolChange.{ListsExactly, gained, lost}
use Rattle.suites.specs.declared.item.PoolFile.{PoolFile}
use Rattle.suites.specs.declared.plan.Reference.{Reference}
use Rattle.suites.proofs.admission.plan_of.Goals as goal

pub returns-clause-plan : goal.returns-clause-plan
returns-clause-plan c =
    let put_is = c.in_ok-references_put.ensures ∙ ap references c.deref.ensures.value in
    let dropped_is = c.in_ok-references_dropped.ensures ∙ ap references c.deref-2.ensures.value in
    record {
      put_are = c.from_vec.ensures;
      dropped_are = c.from_vec-2.ensures;
      references_put = c.from_vec-3.ensures ∙ put_is;
      references_dropped = c.from_vec-4.ensures ∙ dropped_is;
      added = subst (λ (p : List PoolFile × List Reference). ListsExactly p.0 (gained c.args.shelves.now p.1))
          (λ i. (sym c.from_vec-5.ensures i, (c.deref-3.ensures.value ∙ put_is) i)) c.in_ok-added.ensures.added;
      removed = subst (λ (p : List PoolFile × List Reference × List Reference). ListsExactly p.0 (lost c.args.shelves.now p.1 p.2))
          (λ i. (sym c.from_vec-6.ensures i, (c.deref-3.ensures.value ∙ put_is) i, (c.deref-4.ensures.value ∙ dropped_is) i)) c.in_ok-added.ensures.removed;
    }
