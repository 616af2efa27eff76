-- The pieces of bodies that are not whole, in finished rows and in rows with the same bodies and pieces.
use Rattle.std.proofs.Common.{◌≡◌, ℕ, false, not, All, Option, None, is_some, sym, ap, subst, subst₂, ◌∙◌, true≢false}
use Rattle.std.specs.List.{AllByRecursion, flat_map}
use Rattle.std.proofs.lemmas.List.Elements.{All-from_recursion}
use Rattle.sqlite_keyed.proofs.ListLemmas.{all_weaker}
use Rattle.sums.specs.declared.print.Print.{Print}
use Rattle.tables.specs.Rows.{Numbered, Tables, rows_of}
use Rattle.tables.specs.declared.rows.BodyRow.{BodyRow}
use Rattle.tables.specs.declared.rows.Piece.{Piece}
use Rattle.tables_meaning.specs.Finished.{AreUnderWay, finished, is_unfinished}
use Rattle.tables_meaning.specs.Kept.{bytes_of, pieces_among, pieces_for, pieces_of}
use Rattle.tables_meaning.proofs.FinishedLemmas.{whole_left}

has_print : (o : Option Print) → not (is_some o) ≡ false → o ≡ None → ⊥
has_print o some none = true≢false (sym (ap (λ p. not (is_some p)) none) ∙ some)

-- `AreUnderWay` holds if each body is whole
pub whole_under_way : (t : Tables) → AllByRecursion (λ x. is_unfinished x ≡ false) t.bodies → AreUnderWay t
whole_under_way t whole =
    let P : ℕ × BodyRow → Type 0 = λ x. x.1.print ≡ None → pieces_of t x.0 ≡ pieces_for x.0 (bytes_of t x.0) in
    record {
      pieces = All-from_recursion P t.bodies (all_weaker (λ x. is_unfinished x ≡ false) P (λ x some none. absurd (has_print x.1.print some none)) t.bodies whole);
    }

-- `AreUnderWay` holds of finished rows
pub finished_under_way : (t : Tables) → finished t ≡ t → AreUnderWay t
unfolding finished
finished_under_way t same = whole_under_way t (subst (λ (u : Tables). AllByRecursion (λ x. is_unfinished x ≡ false) u.bodies) same (whole_left t.bodies))

-- `AreUnderWay` depends on the bodies and the pieces alone
pub like_under_way : (t u : Tables) → u.bodies ≡ t.bodies → u.pieces ≡ t.pieces → AreUnderWay t → AreUnderWay u
unfolding bytes_of
like_under_way t u bodies pieces h =
    let AreIn : Numbered BodyRow → Numbered Piece → Type 0 =
    λ bodies pieces. All (λ x. x.1.print ≡ None → pieces_among (rows_of pieces) x.0 ≡ pieces_for x.0 (flat_map (λ p. p.bytes) (pieces_among (rows_of pieces) x.0))) bodies in
    record { pieces = subst₂ AreIn (sym bodies) (sym pieces) h.pieces }
