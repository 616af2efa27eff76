use Rattle.std.proofs.Common.{◌≡◌, ℕ, List, map}
use Rattle.std.specs.BTreeMap.{get_by_text}
use Rattle.std.specs.Map.Iter.{deref_pair}
use Rattle.book.specs.Groups.{group_in}
use Rattle.history.proofs.PromotionGroups.{keys_among}
use Rattle.history.proofs.promotion.groups_of.Given as goal

abbrev pub invariant-loop-key : goal.invariant-loop-key
invariant-loop-key l = (q : List ℕ) → group_in (get_by_text l.groups q) ≡ keys_among l.suite q (map deref_pair l.yielded)
