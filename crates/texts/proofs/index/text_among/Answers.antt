use Rattle.std.proofs.Common.{◌≡◌, ℕ, List, true, false, Some, map, bytes_eq, refl, sym, ap, ◌∙◌, arith}
use Rattle.indices.specs.Places.{place_entry, place_path}
use Rattle.indices.specs.declared.index.IndexPlace.{IndexPlace}
use Rattle.indices.proofs.Found.{found_at, other_at, nothing_left}
use Rattle.texts.proofs.index.text_among.Goals as goal

pub returns-then-branch : goal.returns-then-branch
returns-then-branch c =
    let path : List ℕ = c.args.path.now in
    let place : IndexPlace = c.place-item.result in
    let there : bytes_eq (place_path place) path ≡ true = sym c.in_ok-is_at.ensures ∙ c.if-branch.true in
    ap Some c.in_ok-text.ensures
    ∙ found_at path c.args.places.now c.loop-place.place-index place (omega arith) c.place-item.is (place_entry c.args.shelves.now c.args.suite) there
    ∙ c.loop-place.invariant

pub loop-place-preserved : goal.loop-place-preserved
loop-place-preserved c =
    let path : List ℕ = c.args.path.now in
    let place : IndexPlace = c.place-item.result in
    let elsewhere : bytes_eq (place_path place) path ≡ false = sym c.in_ok-is_at.ensures ∙ c.if-branch.false in
    other_at path c.args.places.now c.loop-place.place-index place (omega arith) c.place-item.is (place_entry c.args.shelves.now c.args.suite) elsewhere
    ∙ c.loop-place.invariant

pub returns : goal.returns
returns c =
    nothing_left c.args.path.now (map (place_entry c.args.shelves.now c.args.suite)) c.args.places.now c.loop-place.place-index (omega arith) refl
    ∙ c.loop-place.invariant
