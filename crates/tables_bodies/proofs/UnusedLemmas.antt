-- Which bodies nothing uses, and what is left without them.
use Rattle.std.proofs.Common.{◌≡◌, ℕ, Bool, true, false, not, ◌&&◌, nat_eq, List, [], ◌∷◌, map, filter, fold, refl, sym, ap, ◌∙◌}
use Rattle.std.specs.List.{AllByRecursion, list_any}
use Rattle.std.specs.List.Sorted.{IsPermutation}
use Rattle.std.proofs.lemmas.Bool.{and_right, eqb-true, or_left, or_right, eq-eqb}
use Rattle.std.proofs.lemmas.List.Sorted.{list_any-IsPermutation}
use Rattle.sqlite_keyed.proofs.ListLemmas.{all_weaker, filter-map}
use Rattle.tables.specs.Pieces.{is_of}
use Rattle.tables.specs.Rows.{Numbered, Tables, without}
use Rattle.tables.specs.declared.rows.BodyRow.{BodyRow}
use Rattle.tables.specs.declared.rows.Piece.{Piece}
use Rattle.suites.proofs.ListTests.{filter_same_on, same_any, list_any-filter, any_with}
use Rattle.sums.proofs.Words.{list_any-map}
use Rattle.tables_bodies.specs.Unused.{unused_in}
use Rattle.tables_bodies.proofs.RemovedLemmas.{removed_each, taken_out}
use Rattle.tables_meaning.specs.Finished.{without_all}
use Rattle.tables_meaning.specs.Kept.{is_used, used_in}
use Rattle.tables_meaning.specs.Sweeping.{swept}
use Rattle.tables_meaning.proofs.SweptFinished.{and_true}

-- ---- bodies that nothing uses

-- the unused bodies are those whose numbers are not among the used ones
pub unused_are : (t : Tables) (used : List ℕ) → IsPermutation (used_in t) used
    → filter (λ id. not (list_any (λ n. nat_eq n id) used)) (map (λ x. x.0) t.bodies) ≡ unused_in t
unfolding is_used
unused_are t used same =
    filter-map (λ id. not (list_any (λ n. nat_eq n id) used)) (λ (x : ℕ × BodyRow). x.0) t.bodies
    ∙ (λ i. map (λ (x : ℕ × BodyRow). x.0) (filter (λ (x : ℕ × BodyRow). not (sym (list_any-IsPermutation (λ n. nat_eq n x.0) (used_in t) used same) i)) t.bodies))

-- a test of a number, together with the test that it equals another
at_number : (r : ℕ → Bool) (id n : ℕ) → (r n && nat_eq id n) ≡ (r id && nat_eq id n)
at_number r id n = go (nat_eq id n) refl
  where
    go : (b : Bool) → nat_eq id n ≡ b → (r n && b) ≡ (r id && b)
    go true e = ap (λ m. r m && true) (sym (eqb-true id n e))
    go false e = and_right (r n) false refl ∙ sym (and_right (r id) false refl)

-- each number is that of a body
each_there : (xs : Numbered BodyRow) → AllByRecursion (λ x. list_any (λ y. nat_eq x.0 y.0) xs ≡ true) xs
each_there [] = tt
each_there (x ∷ xs) = (
  or_left (nat_eq x.0 x.0) (list_any (λ y. nat_eq x.0 y.0) xs) (eq-eqb x.0 x.0 refl),
  all_weaker (λ y. list_any (λ z. nat_eq y.0 z.0) xs ≡ true) (λ y. list_any (λ z. nat_eq y.0 z.0) (x ∷ xs) ≡ true)
      (λ y h. or_right (nat_eq y.0 x.0) (list_any (λ z. nat_eq y.0 z.0) xs) h) xs (each_there xs),
)

-- a number is among those of the bodies that pass a test on it
among_passing : (r : ℕ → Bool) (id : ℕ) (xs : Numbered BodyRow) → list_any (λ n. nat_eq id n) (map (λ x. x.0) (filter (λ x. r x.0) xs)) ≡ (r id && list_any (λ x. nat_eq id x.0) xs)
among_passing r id xs =
    list_any-map (λ (x : ℕ × BodyRow). x.0) (λ n. nat_eq id n) (filter (λ x. r x.0) xs)
    ∙ list_any-filter (λ x. nat_eq id x.0) (λ x. r x.0) xs
    ∙ same_any (λ x. r x.0 && nat_eq id x.0) (λ x. r id && nat_eq id x.0) (λ x. at_number r id x.0) xs
    ∙ any_with (r id) (λ x. nat_eq id x.0) xs

module _ (t : Tables) where
  abbrev unused : ℕ → Bool
  unused id = not (is_used t id)

  named : AllByRecursion (λ x. not (list_any (λ n. nat_eq x.0 n) (unused_in t)) ≡ not (unused x.0)) t.bodies
  named =
      all_weaker (λ x. list_any (λ y. nat_eq x.0 y.0) t.bodies ≡ true) (λ x. not (list_any (λ n. nat_eq x.0 n) (unused_in t)) ≡ not (unused x.0))
      (λ x there. ap not (among_passing unused x.0 t.bodies ∙ ap (λ b. unused x.0 && b) there ∙ and_true (unused x.0))) t.bodies (each_there t.bodies)

  bodies_left : fold (λ rest n. without (λ x. nat_eq x.0 n) rest) t.bodies (unused_in t) ≡ without (λ x. unused x.0) t.bodies
  bodies_left =
      taken_out (λ n (x : ℕ × BodyRow). nat_eq x.0 n) (unused_in t) t.bodies
      ∙ filter_same_on (λ x. not (list_any (λ n. nat_eq x.0 n) (unused_in t))) (λ x. not (unused x.0)) t.bodies named

  owned : (p : Piece) → list_any (λ n. is_of n p) (unused_in t) ≡ list_any (λ x. unused x.0 && is_of x.0 p) t.bodies
  owned p =
      list_any-map (λ (x : ℕ × BodyRow). x.0) (λ n. is_of n p) (filter (λ x. unused x.0) t.bodies)
      ∙ list_any-filter (λ x. is_of x.0 p) (λ x. unused x.0) t.bodies

  pieces_left : fold (λ rest n. without (λ x. is_of n x.1) rest) t.pieces (unused_in t) ≡ without (λ p. list_any (λ x. unused x.0 && is_of x.0 p.1) t.bodies) t.pieces
  pieces_left =
      taken_out (λ n (x : ℕ × Piece). is_of n x.1) (unused_in t) t.pieces
      ∙ (λ i. without (λ (p : ℕ × Piece). owned p.1 i) t.pieces)

  -- bodies that go one after another leave what they leave if they go at once
  pub swept_by_number : without_all (unused_in t) t ≡ swept t
  unfolding swept
  swept_by_number = removed_each (unused_in t) t ∙ (λ i. record t { bodies = bodies_left i; pieces = pieces_left i })
