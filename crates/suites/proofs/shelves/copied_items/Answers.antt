use Rattle.std.proofs.Common.{◌≡◌, ◌++◌, ◌∷◌, refl, sym, ap, ◌∙◌, append-nil, rules}
use Rattle.std.proofs.lemmas.List.{map-id}
use Rattle.std.specs.BTreeMap.{insert_entry}
use Rattle.suites.specs.Keys.{key_order}
use Rattle.suites.specs.KeyLemmas.{key_order_total}
use Rattle.suites.proofs.MapEntries.{read, copied_more}
use Rattle.suites.proofs.shelves.copied_items.Goals as goal

pub loop-key-preserved-in_ok-insert : goal.loop-key-preserved-in_ok-insert
loop-key-preserved-in_ok-insert c =
    ap (λ es. read (λ k. k) es ++ c.next.new.self) c.in_ok-insert.ensures.entries
    ∙ (λ i. read (λ k. k) (insert_entry key_order c.loop-key.copy.entries (c.in_ok-try_clone.ensures i) (c.in_ok-try_clone-2.ensures i)) ++ c.next.new.self)
    ∙ copied_more (λ k. k) key_order_total c.args.items.now.entries c.loop-key.copy.entries c.in-Some.key.now c.in-Some.item.now c.next.new.self
    c.into_iter-key-iterator.ensures.into_iter_gives.5
    (ap (λ es. read (λ k. k) c.loop-key.copy.entries ++ es) (sym c.in-Some.ensures.steps) ∙ c.loop-key.invariant)

pub loop-key-preserved : goal.loop-key-preserved
loop-key-preserved c =
    ap (λ es. read (λ k. k) es ++ c.next.new.self) c.in_ok-insert.ensures.entries
    ∙ (λ i. read (λ k. k) (insert_entry key_order c.loop-key.copy.entries (c.in_ok-try_clone.ensures i) (c.in_ok-try_clone-2.ensures i)) ++ c.next.new.self)
    ∙ copied_more (λ k. k) key_order_total c.args.items.now.entries c.loop-key.copy.entries c.in-Some.key.now c.in-Some.item.now c.next.new.self
    c.into_iter-key-iterator.ensures.into_iter_gives.5
    (ap (λ es. read (λ k. k) c.loop-key.copy.entries ++ es) (sym c.in-Some.ensures.steps) ∙ c.loop-key.invariant)

pub returns : goal.returns
returns c =
    sym (map-id c.loop-key.copy.entries) ∙ sym (append-nil (read (λ k. k) c.loop-key.copy.entries))
    ∙ ap (λ es. read (λ k. k) c.loop-key.copy.entries ++ es) (sym c.in-None.ensures.steps.0)
    ∙ c.loop-key.invariant
