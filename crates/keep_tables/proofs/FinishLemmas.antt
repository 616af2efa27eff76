-- The rows without the bodies that are not whole.
use Rattle.std.proofs.Common.{◌≡◌, ◌≢◌, ℕ, None, Bool, true, false, not, ◌&&◌, ◌||◌, cond, nat_eq, List, [], ◌∷◌, map, filter, All, IsTrue, refl, sym, ap, subst, ◌∙◌}
use Rattle.std.specs.List.{AllByRecursion, list_any}
use Rattle.std.proofs.lemmas.Bool.{and_right, or_parts}
use Rattle.std.proofs.lemmas.List.Elements.{All-from_recursion, recursion_from_All}
use Rattle.std.proofs.lemmas.List.Folds.{Any-from_list_any}
use Rattle.std.proofs.lemmas.List.Kept.{AllPairs-filter}
use Rattle.std.proofs.Math.Bool.{or-false}
use Rattle.sqlite_keyed.proofs.ListLemmas.{all_both, all_weaker, none_from_any}
use Rattle.tables.specs.Pieces.{is_of}
use Rattle.tables.specs.Rows.{Numbered, Rises, Tables, rows_of, without}
use Rattle.tables.specs.declared.rows.BodyRow.{BodyRow}
use Rattle.tables.specs.declared.rows.Piece.{Piece}
use Rattle.tables_read.specs.All.{AreConstrained}
use Rattle.tables_meaning.specs.Finished.{finished, is_of_unfinished, is_unfinished, without_all}
use Rattle.tables_meaning.specs.Kept.{AreReadable, has_body}
use Rattle.tables_meaning.proofs.Searches.{any_parts}
use Rattle.tables_meaning.proofs.FinishedLemmas.{has_unfinished, tells, not_left}
use Rattle.tables_meaning.proofs.SweptFinished.{and_true}
use Rattle.tables_bodies.proofs.RemovedLemmas.{removed_each, taken_out}
use Rattle.suites.proofs.ListTests.{filter_same_on, same_any, list_any-filter}
use Rattle.tables_cleaning.proofs.CleanedRows.{is_numbered_turned}
use Rattle.keep_tables.specs.Finishing.{are_named, is_among, unfinished_ids}
use Rattle.tables_audit.specs.Whole.{KeepsNone}

-- ---- tests and lists

-- ---- the numbers of bodies that are not whole

any_unfinished : (bodies : Numbered BodyRow) (id : ℕ) → has_unfinished bodies id ≡ is_among (unfinished_ids bodies) id
any_unfinished [] id = refl
any_unfinished (x ∷ xs) id =
    let more = any_unfinished xs id in
    elim (is_unfinished x) as (λ u. ((nat_eq id x.0 && u) || has_unfinished xs id) ≡ is_among (map (λ y. y.0) (cond u (x ∷ filter is_unfinished xs) (filter is_unfinished xs))) id) [
      | true ↦ λ i. and_true (nat_eq id x.0) i || more i
      | false ↦ λ i. and_right (nat_eq id x.0) false refl i || more i
    ]

-- ---- the rows that are left

others_left : (t : Tables) → without (λ (p : ℕ × Piece). is_among (unfinished_ids t.bodies) p.1.body) t.pieces ≡ without (λ p. is_of_unfinished t p.1) t.pieces
others_left t = λ i. without (λ (p : ℕ × Piece). sym (any_unfinished t.bodies p.1.body) i) t.pieces

pub rows_finished : (t : Tables) (bodies : Numbered BodyRow) (pieces : Numbered Piece) → bodies ≡ without is_unfinished t.bodies → pieces ≡ without (λ p. is_among (unfinished_ids t.bodies) p.1.body) t.pieces
    → record t { bodies = bodies; pieces = pieces } ≡ finished t
unfolding finished
rows_finished t bodies pieces b p = let q = p ∙ others_left t in λ i. record t { bodies = b i; pieces = q i }

-- the bodies that are not whole are taken out by their numbers
pub finished_as : (t : Tables) → Rises t.bodies → without_all (unfinished_ids t.bodies) t ≡ finished t
finished_as t up =
    let ids = unfinished_ids t.bodies in
    let same = all_weaker (λ y. has_unfinished t.bodies y.0 ≡ is_unfinished y) (λ y. not (is_among ids y.0) ≡ not (is_unfinished y)) (λ y is. ap not (sym (any_unfinished t.bodies y.0) ∙ is)) t.bodies (tells t.bodies up) in
    removed_each ids t
    ∙ rows_finished t _ _
    (taken_out (λ n x. nat_eq x.0 n) ids t.bodies ∙ filter_same_on (λ x. not (is_among ids x.0)) (λ x. not (is_unfinished x)) t.bodies same)
    (taken_out (λ n x. is_of n x.1) ids t.pieces)

-- ---- what the keys keep true

-- a body of this number is there
abbrev is_there : Numbered BodyRow → ℕ → Bool
is_there bodies id = list_any (λ x. nat_eq x.0 id) bodies

swapped : (u : Bool) (a b : ℕ) → (not (not u) && nat_eq a b) ≡ (nat_eq b a && u)
swapped true a b = is_numbered_turned a b ∙ sym (and_true (nat_eq b a))
swapped false a b = sym (and_right (nat_eq b a) false refl)

-- a body that is there is left if it is whole
stays : (bodies : Numbered BodyRow) (id : ℕ) → is_there bodies id ≡ true → has_unfinished bodies id ≡ false → is_there (without is_unfinished bodies) id ≡ true
stays bodies id there none =
    let q = λ (x : ℕ × BodyRow). not (is_unfinished x) in
    let p = λ (x : ℕ × BodyRow). nat_eq x.0 id in
    let others : list_any (λ x. not (q x) && p x) bodies ≡ false = same_any (λ x. not (q x) && p x) (λ x. nat_eq id x.0 && is_unfinished x) (λ x. swapped (is_unfinished x) x.0 id) bodies ∙ none in
    list_any-filter p q bodies ∙ sym (or-false _) ∙ ap (λ b. list_any (λ x. q x && p x) bodies || b) (sym others) ∙ sym (any_parts q p bodies) ∙ there

owned_pieces : (t : Tables) (xs : Numbered Piece) → AllByRecursion (λ p. IsTrue (is_there t.bodies p.body)) (rows_of xs)
    → AllByRecursion (λ p. IsTrue (is_there (without is_unfinished t.bodies) p.body)) (rows_of (without (λ p. is_of_unfinished t p.1) xs))
owned_pieces t [] h = tt
owned_pieces t (x ∷ xs) h = go (is_of_unfinished t x.1) refl (owned_pieces t xs h.1)
  where
    go : (b : Bool) → is_of_unfinished t x.1 ≡ b → AllByRecursion (λ p. IsTrue (is_there (without is_unfinished t.bodies) p.body)) (rows_of (without (λ p. is_of_unfinished t p.1) xs))
        → AllByRecursion (λ p. IsTrue (is_there (without is_unfinished t.bodies) p.body))
        (rows_of (cond (not b) (x ∷ without (λ p. is_of_unfinished t p.1) xs) (without (λ p. is_of_unfinished t p.1) xs)))
    go true e more = more
    go false e more = (stays t.bodies x.1.body h.0 e, more)

owners_stay : {X : Type 0} (bodies : Numbered BodyRow) (body : X → ℕ) (xs : List X) → All (λ a. IsTrue (is_there bodies (body a))) xs → list_any (λ a. is_among (unfinished_ids bodies) (body a)) xs ≡ false
    → All (λ a. IsTrue (is_there (without is_unfinished bodies) (body a))) xs
owners_stay {X} bodies body xs owned none =
    let P = λ (a : X). IsTrue (is_there bodies (body a)) in
    let Q = λ (a : X). is_among (unfinished_ids bodies) (body a) ≡ false in
    let R = λ (a : X). IsTrue (is_there (without is_unfinished bodies) (body a)) in
    All-from_recursion R xs
    (all_both P Q R (λ a there no. stays bodies (body a) there (any_unfinished bodies (body a) ∙ no)) xs (recursion_from_All P xs owned) (none_from_any (λ a. is_among (unfinished_ids bodies) (body a)) xs none))

constrained_finished : (t : Tables) → AreConstrained t → are_named t (unfinished_ids t.bodies) ≡ false → AreConstrained (finished t)
unfolding finished
constrained_finished t keys none =
    let free = or_parts _ _ none in
    record {
      bodies_apart = AllPairs-filter (λ x y. x.1.print ≢ None → x.1.print ≢ y.1.print) (λ x. not (is_unfinished x)) t.bodies keys.bodies_apart;
      pieces_owned = All-from_recursion _ _ (owned_pieces t t.pieces (recursion_from_All (λ p. IsTrue (is_there t.bodies p.body)) (rows_of t.pieces) keys.pieces_owned));
      arrivals_owned = owners_stay t.bodies (λ a. a.body) (rows_of t.arrivals) keys.arrivals_owned free.0;
      arrivals_apart = keys.arrivals_apart;
      uploads_apart = keys.uploads_apart;
      places_apart = keys.places_apart;
      wants_owned = keys.wants_owned;
      items_apart = keys.items_apart;
      refs_owned = keys.refs_owned;
      files_owned = owners_stay t.bodies (λ f. f.body) (rows_of t.files) keys.files_owned free.1;
      files_apart = keys.files_apart;
    }

pub constrained_whole : (t whole : Tables) → whole ≡ finished t → AreConstrained t → are_named t (unfinished_ids t.bodies) ≡ false → AreConstrained whole
constrained_whole t whole is keys none = subst AreConstrained (sym is) (constrained_finished t keys none)

pub readable_whole : (t whole : Tables) → whole ≡ finished t → AreReadable t → AreReadable whole
unfolding finished
readable_whole t whole is readable = subst AreReadable (sym is) readable

-- ---- what names a body that is not whole

gone : (bodies : Numbered BodyRow) (id : ℕ) → Rises bodies → is_among (unfinished_ids bodies) id ≡ true → is_there (without is_unfinished bodies) id ≡ false
gone bodies id up among = not_left bodies id up (any_unfinished bodies id ∙ among)

no_owner : {X : Type 0} (bodies : Numbered BodyRow) (body : X → ℕ) (xs : List X) → Rises bodies → list_any (λ a. is_among (unfinished_ids bodies) (body a)) xs ≡ true
    → All (λ a. IsTrue (is_there (without is_unfinished bodies) (body a))) xs → ⊥
no_owner bodies body xs up named all =
    let some = Any-from_list_any (λ a. is_among (unfinished_ids bodies) (body a)) xs named in
    let there = subst (λ a. IsTrue (is_there (without is_unfinished bodies) (body a))) some.3 (all some.0 some.1 some.2) in
    let both : false ≡ true = sym (gone bodies (body some.1) up some.4) ∙ there in
    absurd cc

pub named_none : (t : Tables) → Rises t.bodies → are_named t (unfinished_ids t.bodies) ≡ true → KeepsNone (finished t)
unfolding finished has_body
named_none t up named config judged shown dates h = go (list_any (λ a. is_among (unfinished_ids t.bodies) a.body) (rows_of t.arrivals)) refl
  where
    go : (b : Bool) → list_any (λ a. is_among (unfinished_ids t.bodies) a.body) (rows_of t.arrivals) ≡ b → ⊥
    go true e = no_owner t.bodies (λ a. a.body) (rows_of t.arrivals) up e h.arrivals.bodies
    go false e = no_owner t.bodies (λ f. f.body) (rows_of t.files) up (subst (λ b. (b || list_any (λ f. is_among (unfinished_ids t.bodies) f.body) (rows_of t.files)) ≡ true) e named) h.files.bodies
