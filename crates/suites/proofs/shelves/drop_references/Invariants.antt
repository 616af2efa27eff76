use Rattle.std.proofs.Common.{◌≡◌, ℕ, List, take, fold}
use Rattle.std.specs.BTreeMap.{get_by_text}
use Rattle.suites.specs.Applying.{without_reference}
use Rattle.suites.proofs.shelves.drop_references.Given as goal

abbrev pub invariant-loop-reference : goal.invariant-loop-reference
invariant-loop-reference l = (path : List ℕ) → get_by_text l.files path ≡ fold (without_reference path) (get_by_text l.initial.files path) (take l.reference-index l.dropped)
