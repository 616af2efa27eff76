-- Nothing uses a body that is not whole: it goes with the unused bodies.
use Rattle.std.proofs.Common.{◌≡◌, ℕ, Bool, true, false, not, ◌&&◌, ◌||◌, nat_eq, All, Contains, IsTrue, refl, sym, ap, ap₂, subst, ◌∙◌, inl, inr}
use Rattle.std.specs.List.{AllByRecursion, list_any}
use Rattle.std.proofs.lemmas.Bool.{and_right, both_ways, eqb-true, false_from_ne_true, or_cases}
use Rattle.std.proofs.lemmas.List.Elements.{All-contains, All-from_recursion}
use Rattle.sqlite_keyed.proofs.ListLemmas.{all_weaker, filter_same}
use Rattle.sums.proofs.Members.{any_some}
use Rattle.tables.specs.Pieces.{is_of}
use Rattle.tables.specs.Rows.{Rises, Tables, rows_of, without}
use Rattle.tables.specs.declared.rows.ArrivalRow.{ArrivalRow}
use Rattle.tables.specs.declared.rows.BodyRow.{BodyRow}
use Rattle.tables.specs.declared.rows.File.{File}
use Rattle.tables.specs.declared.rows.Piece.{Piece}
use Rattle.suites.proofs.ListTests.{filter_same_on, list_any-filter, not_either}
use Rattle.tables_meaning.specs.Finished.{finished, is_of_unfinished, is_unfinished}
use Rattle.tables_meaning.specs.Kept.{AreArrivals, has_body, is_used}
use Rattle.tables_meaning.specs.Sweeping.{swept}
use Rattle.tables_meaning.proofs.BodyLemmas.{arrival_has, file_has, used_by}
use Rattle.book.proofs.Arrivals.{any_same}
use Rattle.tables_meaning.proofs.FinishedLemmas.{has_unfinished, left_whole, tells}
use Rattle.tables_meaning.proofs.Searches.{any_parts, filter_twice}

pub and_true : (b : Bool) → (b && true) ≡ b
and_true true = refl
and_true false = refl

-- the bodies of arrivals and of files are whole
pub record UseWhole (u : Tables) : Type 0 where
  pub arrivals : All (λ a. IsTrue (has_body (finished u) a.body)) (rows_of u.arrivals)
  pub files : All (λ f. IsTrue (has_body (finished u) f.body)) (rows_of u.files)

module _ (u : Tables) (up : Rises u.bodies) (whole : UseWhole u) where
  used_whole : (id : ℕ) → is_used u id ≡ true → has_body (finished u) id ≡ true
  used_whole id used = elim (or_cases (arrival_has u id) (file_has u id) (sym (used_by u id) ∙ used)) [
    | inl e ↦
        let a = any_some (λ (a : ArrivalRow). nat_eq a.body id) (rows_of u.arrivals) e in
        subst (λ n. has_body (finished u) n ≡ true) (eqb-true a.0.body id a.2) (All-contains (λ (a : ArrivalRow). IsTrue (has_body (finished u) a.body)) (rows_of u.arrivals) a.0 whole.arrivals a.1)
    | inr e ↦
        let f = any_some (λ (f : File). nat_eq f.body id) (rows_of u.files) e in
        subst (λ n. has_body (finished u) n ≡ true) (eqb-true f.0.body id f.2) (All-contains (λ (f : File). IsTrue (has_body (finished u) f.body)) (rows_of u.files) f.0 whole.files f.1)
  ]

  -- a body that is not whole is not used
  abbrev IsHidden : ℕ × BodyRow → Type 0
  IsHidden x = is_unfinished x ≡ true → is_used u x.0 ≡ false

  hidden : AllByRecursion IsHidden u.bodies
  hidden =
      all_weaker (λ y. has_unfinished u.bodies y.0 ≡ is_unfinished y) IsHidden
      (λ y is un. false_from_ne_true (is_used u y.0) (λ used. both_ways (has_unfinished u.bodies y.0) (left_whole u up y.0 (used_whole y.0 used)) (is ∙ un)))
      u.bodies (tells u.bodies up)

  hidden_at : (x : ℕ × BodyRow) → Contains u.bodies x → IsHidden x
  hidden_at x c = All-contains IsHidden u.bodies x (All-from_recursion IsHidden u.bodies hidden) c

  abbrev gone : ℕ × BodyRow → Bool
  gone x = not (is_used u x.0)

  abbrev goes : Piece → Bool
  goes p = list_any (λ x. gone x && is_of x.0 p) u.bodies

  -- the piece is one of a body that goes and is whole
  abbrev goes_too : Piece → Bool
  goes_too p = list_any (λ x. gone x && is_of x.0 p) (without is_unfinished u.bodies)

  bodies_same : without gone u.bodies ≡ without gone (without is_unfinished u.bodies)
  bodies_same =
      filter_same_on (λ x. not (gone x)) (λ x. not (is_unfinished x) && not (gone x)) u.bodies
      (all_weaker IsHidden (λ x. not (gone x) ≡ (not (is_unfinished x) && not (gone x))) (λ x h. each x h (is_unfinished x) refl) u.bodies hidden)
      ∙ filter_twice (λ x. not (is_unfinished x)) (λ x. not (gone x)) u.bodies
    where
      each : (x : ℕ × BodyRow) → IsHidden x → (b : Bool) → is_unfinished x ≡ b → not (gone x) ≡ (not b && not (gone x))
      each x h true e = ap (λ b. not (not b)) (h e)
      each x h false e = refl

  of_unfinished : (p : Piece) → list_any (λ x. is_unfinished x && (gone x && is_of x.0 p)) u.bodies ≡ is_of_unfinished u p
  of_unfinished p =
      any_same (λ x. is_unfinished x && (gone x && is_of x.0 p)) (λ x. is_of x.0 p && is_unfinished x) u.bodies
      (λ x c. each x (hidden_at x c) (is_unfinished x) refl)
    where
      each : (x : ℕ × BodyRow) → IsHidden x → (b : Bool) → is_unfinished x ≡ b → (b && (gone x && is_of x.0 p)) ≡ (is_of x.0 p && b)
      each x h true e = ap (λ b. not b && is_of x.0 p) (h e) ∙ sym (and_true (is_of x.0 p))
      each x h false e = sym (and_right (is_of x.0 p) false refl)

  goes_both : (p : Piece) → goes p ≡ (is_of_unfinished u p || goes_too p)
  goes_both p =
      any_parts is_unfinished (λ x. gone x && is_of x.0 p) u.bodies
      ∙ ap₂ ◌||◌ (of_unfinished p) (sym (list_any-filter (λ x. gone x && is_of x.0 p) (λ x. not (is_unfinished x)) u.bodies))

  pieces_same : without (λ p. goes p.1) u.pieces ≡ without (λ p. goes_too p.1) (without (λ p. is_of_unfinished u p.1) u.pieces)
  pieces_same =
      filter_same (λ p. not (goes p.1)) (λ p. not (is_of_unfinished u p.1) && not (goes_too p.1))
      (λ p. ap not (goes_both p.1) ∙ not_either (is_of_unfinished u p.1) (goes_too p.1)) u.pieces
      ∙ filter_twice (λ p. not (is_of_unfinished u p.1)) (λ p. not (goes_too p.1)) u.pieces

  -- The rows without unused bodies are those of the finished rows.
  pub swept_finished : swept u ≡ swept (finished u)
  unfolding swept finished is_used
  swept_finished = λ i. record u { bodies = bodies_same i; pieces = pieces_same i }

-- the arrivals and the files of finished rows that stand have whole bodies
pub use_whole : (u : Tables) → AreArrivals (finished u) → All (λ f. IsTrue (has_body (finished u) f.body)) (rows_of (finished u).files) → UseWhole u
unfolding finished
use_whole u arrivals files = record { arrivals = arrivals.bodies; files = files }
