-- A piece of a file that is read is the one that the book has.
use Rattle.std.proofs.Common.{◌≡◌, ◌≤◌, ◌<◌, ◌+◌, ◌*◌, ◌∙◌, ℕ, List, [], find, drop, length, take, All, Option, Some, None, IsTrue, inl, inr, refl, sym, ap, arith, subst, true, unwrap_or}
use Rattle.std.specs.Option.{option_and_then, option_map, option_map_or}
use Rattle.std.proofs.lemmas.Bool.{cases_lt}
use Rattle.std.proofs.lemmas.List.{drop_all}
use Rattle.std.proofs.lemmas.List.Elements.{All-contains}
use Rattle.sqlite.specs.Effect.{Database}
use Rattle.sums.specs.Prints.{print as print_of}
use Rattle.sums.proofs.Members.{all_at}
use Rattle.rules.specs.Values.{ConfigValue}
use Rattle.suites.specs.Shelves.{ShelvesValue}
use Rattle.book.specs.Pieces.{PieceValue, piece_of_body}
use Rattle.book.specs.declared.change.Judgement.{Judgement}
use Rattle.book.proofs.Finds.{found_in}
use Rattle.tables.specs.Files.{is_file_at}
use Rattle.tables.specs.Rows.{Rises, Tables, rows_of, tables_in}
use Rattle.tables.specs.declared.rows.File.{File}
use Rattle.tables_bodies.specs.FilePieces.{piece_in, piece_with, stored_piece}
use Rattle.tables_meaning.specs.Archives.{KeepsArchive, book_in_database}
use Rattle.tables_meaning.specs.Coming.{bytes_at}
use Rattle.tables_meaning.specs.Finished.{finished}
use Rattle.tables_meaning.specs.Kept.{AreStored, book_in, bytes_of, files_in, has_body, piece_at, piece_count, pieces_for, pieces_of}
use Rattle.tables_meaning.proofs.AmendedLemmas.{print_is}
use Rattle.tables_meaning.proofs.BodyLemmas.{are_stored, row_of_body}
use Rattle.tables_meaning.proofs.DeliveredLemmas.{numbered}
use Rattle.tables_meaning.proofs.FinishedLemmas.{pieces_finished, print_finished}
use Rattle.tables_meaning.proofs.SamePieces.{at_place, behind_place}

-- after the last piece there are no bytes
none_after : (bytes : List ℕ) (k : ℕ) → piece_count bytes ≤ k → piece_at bytes k ≡ []
none_after bytes k h =
    let past : length bytes ≤ 65536 * k = omega (arith, h) in
    ap (take 65536) (drop_all (65536 * k) bytes past)

-- the bytes of the row of a piece, or no bytes, are those of the piece
row_is : (t : Tables) (id : ℕ) (bytes : List ℕ) → pieces_of t id ≡ pieces_for id bytes → (k : ℕ) → unwrap_or (bytes_at t id (k + 1)) [] ≡ piece_at bytes k
row_is t id bytes has k = elim (cases_lt k (piece_count bytes)) [
  | inl within ↦ ap (λ o. unwrap_or o []) (at_place t id bytes has k within)
  | inr past ↦ ap (λ o. unwrap_or o []) (behind_place t id bytes has k past) ∙ sym (none_after bytes k past)
]

module _ (t : Tables) (up : Rises t.bodies) (stored : AreStored (finished t)) where
  abbrev whole : Tables
  whole = finished t

  its_pieces : (id : ℕ) → has_body whole id ≡ true → pieces_of whole id ≡ pieces_for id (bytes_of whole id)
  its_pieces id there =
      let row = row_of_body whole id there in
      subst (λ n. pieces_of whole n ≡ pieces_for n (bytes_of whole n)) row.number
      (All-contains (λ x. pieces_of whole x.0 ≡ pieces_for x.0 (bytes_of whole x.0)) whole.bodies row.body stored.pieces row.within)

  one_piece : (number id : ℕ) → has_body whole id ≡ true → stored_piece t number id ≡ Some (piece_of_body number (bytes_of whole id))
  one_piece number id there =
      let print = sym (print_finished t up id there) ∙ print_is whole stored id there in
      let bytes = row_is t id (bytes_of whole id) (sym (pieces_finished t up id there) ∙ its_pieces id there) number in
      ap (option_map (piece_with t number id)) print
      ∙ ap (λ (piece : List ℕ). Some (record { size = length (bytes_of whole id); bytes = piece })) bytes

  module _ (all : All (λ f. IsTrue (has_body whole f.body)) (rows_of t.files)) (path : List ℕ) (number : ℕ) where
    by_file : (o : Option File) → find (is_file_at path) (rows_of t.files) ≡ o
        → option_and_then (λ (f : File). stored_piece t number f.body) o ≡ option_map (piece_of_body number) (option_map (λ (f : File). bytes_of whole f.body) o)
    by_file None e = refl
    by_file (Some f) e =
        one_piece number f.body (all_at (λ (g : File). IsTrue (has_body whole g.body)) (rows_of t.files) f all (found_in (is_file_at path) (rows_of t.files) f e))

    -- ONE PIECE OF A FILE
    pub piece_is : piece_in t path number ≡ option_map (piece_of_body number) (files_in whole path)
    unfolding piece_in files_in finished
    piece_is = by_file (find (is_file_at path) (rows_of t.files)) refl

-- ---- the book

module _ (db : Database) (config : ConfigValue) (judged : List Judgement) (shown : ShelvesValue) (dates : List ℕ) (keeps : KeepsArchive db config judged shown dates) where
  pub piece_of_book : (path : List ℕ) (number : ℕ) → piece_in (tables_in db) path number ≡ option_map (piece_of_body number) ((book_in_database db config judged shown dates).files path)
  unfolding book_in finished
  piece_of_book path number =
      piece_is (tables_in db) (numbered db (tables_in db) keeps.held).bodies (are_stored (finished (tables_in db)) keeps.kept.bodies) keeps.kept.files.bodies path number
