use Rattle.std.proofs.Common.{rules}
use Rattle.std.proofs.lemmas.List.Sorted.{answers_always}
use Rattle.tables_audit.specs.declared.uploads.places.Placed.{Placed}
use Rattle.tables_audit.proofs.PlacesLemmas.{sorted_placed}
use Rattle.tables_audit.proofs.uploads.places.by_place.Goals as goal

pub returns : goal.returns
returns c =
    sorted_placed c.in_ok-placed.placed.items c.sort_by_key.new.self.items c.sort_by_key.ensures.permutation
    (c.sort_by_key.ensures.stable (λ (p : Placed). p.place) (answers_always _ _ _ (λ f a r g h. search rules))) c.args.uploads.now c.in_ok-placed.ensures
