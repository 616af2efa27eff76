use Rattle.std.proofs.Common.{rules, ◌∙◌}
use Rattle.std.proofs.lemmas.Fn.{always_returns_same}
use Rattle.suites.specs.Keys.{key_order}
use Rattle.suites.specs.KeyLemmas.{key_order_total}
use Rattle.suites.specs.declared.item.Item.{Item}
use Rattle.suites.specs.declared.key.ShelfKey.{ShelfKey}
use Rattle.suites.proofs.Searching.{searched}
use Rattle.suites.proofs.plan.Plan.puts.Goals as goal

pub returns : goal.returns
returns c =
    let facts = c.binary_search_by.ensures in
    let by_key = facts.position (λ (e : ShelfKey × Item). key_order e.0 c.args.key.now) (always_returns_same _ _ _ (λ a r g called. search rules)) in
    c.is_ok.ensures.value ∙ rw c.as_slice.ensures at (searched key_order_total c.args.key.now c.as_slice.result.now c.binary_search_by.result (rw c.as_slice.ensures c.requires) facts.bound by_key)
