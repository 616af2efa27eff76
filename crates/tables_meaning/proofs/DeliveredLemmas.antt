-- What a delivery leaves of an archive, and whether it is new there.
use Rattle.std.proofs.Common.{◌≡◌, ℕ, ◌≤◌, Bool, true, false, ◌&&◌, List, Option, Some, None, option_map, is_some, refl, ap, ◌∙◌}
use Rattle.std.specs.List.{list_any}
use Rattle.std.specs.Prelude.{if◌then◌else◌}
use Rattle.std.specs.Result.{result_ok}
use Rattle.records.specs.Records.{changes_in}
use Rattle.rules.specs.Values.{ConfigValue}
use Rattle.sums.specs.Prints.{print as print_of}
use Rattle.sums.specs.declared.entries.Entry.{Entry}
use Rattle.suites.specs.Shelves.{ShelvesValue}
use Rattle.book.specs.Book.{current, has_arrival, latest, with_delivery}
use Rattle.sums.specs.FileNames.{is_changes_name}
use Rattle.book.specs.Keeping.{IsDeliverable}
use Rattle.book.specs.declared.change.Judgement.{Judgement}
use Rattle.sqlite.specs.Effect.{Database}
use Rattle.tables.specs.Arrivals.{is_arrival}
use Rattle.tables.specs.Bodies.{body_with}
use Rattle.tables.specs.Rows.{Tables, Holds, next_in, with_body}
use Rattle.tables.specs.declared.rows.ArrivalRow.{ArrivalRow}
use Rattle.tables.specs.declared.rows.Piece.{Piece}
use Rattle.tables_meaning.specs.Cleaning.{counts_row}
use Rattle.tables_meaning.specs.Kept.{AreNumbered, IsBook, book_in, bytes_of, pieces_for}
use Rattle.tables_meaning.specs.Making.{number_with, with_bytes, with_delivered, with_pieces}
use Rattle.tables_meaning.proofs.ArrivalLemmas.{delivered_bodies}
use Rattle.tables_meaning.proofs.BodyLemmas.{only_pieces}
use Rattle.tables_meaning.proofs.DeliveredArchive as archive

-- the rowids of the tables of an archive rise
pub numbered : (db : Database) (t : Tables) → Holds db t → AreNumbered t
numbered db t h = record { bodies = h.rows.bodies.rise; arrivals = h.rows.arrivals.rise; uploads = h.rows.uploads.rise; items = h.rows.items.rise }

-- a body that is stored does not change the arrivals
arrivals_beside : (t : Tables) (bytes : List ℕ) → (with_bytes (print_of bytes) bytes t).arrivals ≡ t.arrivals
unfolding with_bytes
arrivals_beside t bytes = by (is_some (body_with (print_of bytes) t.bodies))
  where
    pieces : List Piece
    pieces = pieces_for (next_in t.bodies) bytes

    one : Tables
    one = with_body (record { print = Some (print_of bytes) }) t

    by : (b : Bool) → (if b then t else with_pieces pieces one).arrivals ≡ t.arrivals
    by true = refl
    by false = ap (λ (x : Tables). x.arrivals) (only_pieces pieces one)

-- After a delivery the tables keep the book with one more arrival, and the rows say whether it was there and counted.
pub record KeepsDelivery (t new : Tables) (config : ConfigValue) (judged : List Judgement) (shown : ShelvesValue) (dates : List ℕ) (name bytes : List ℕ) (moment : ℕ) : Type 0 where
  pub kept : IsBook new config judged shown dates
  pub book : book_in config judged shown dates new ≡ with_delivery (book_in config judged shown dates t) (record { name = name; body = bytes; moment = moment })
  pub known : (seconds : Option ℕ) (at : ℕ)
      → list_any (λ x. is_arrival name (number_with (print_of bytes) (with_bytes (print_of bytes) bytes t)) x.1 && counts_row seconds at x.1) (with_bytes (print_of bytes) bytes t).arrivals
      ≡ has_arrival (current seconds at (book_in config judged shown dates t).arrivals) (record { name = name; body = bytes; moment = moment })

pub delivered_archive : (t : Tables) (config : ConfigValue) (judged : List Judgement) (shown : ShelvesValue) (dates : List ℕ) (name bytes : List ℕ) (moment : ℕ) (listed : Option (List Entry))
    → AreNumbered t → IsBook t config judged shown dates → moment ≤ latest → IsDeliverable name bytes
    → ((found : ℕ) → body_with (print_of bytes) t.bodies ≡ Some found → bytes_of t found ≡ bytes)
    → listed ≡ (if is_changes_name name then option_map (λ c. c.entries) (result_ok (changes_in bytes)) else None)
    → KeepsDelivery t (with_delivered name (print_of bytes) bytes moment listed t) config judged shown dates name bytes moment
unfolding book_in
delivered_archive t config judged shown dates name bytes moment listed up h in_time deliverable same lists =
    let delivered = archive.delivered_archive t config judged shown dates name bytes moment listed up h in_time deliverable same lists in
    record {
      kept = delivered.kept;
      book = delivered.book;
      known = λ seconds at.
          ap (list_any (λ (x : ℕ × ArrivalRow). is_arrival name (number_with (print_of bytes) (with_bytes (print_of bytes) bytes t)) x.1 && counts_row seconds at x.1)) (arrivals_beside t bytes)
          ∙ (delivered_bodies t up h.bodies h.arrivals name bytes moment in_time deliverable same listed).known seconds at;
    }
