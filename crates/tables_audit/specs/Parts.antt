-- The parts of `IsBook`, each as far as the keys of the tables leave it open.
use Rattle.std.specs.Prelude.{◌≡◌, ◌≢◌, ◌≤◌, ℕ, ◌+◌, not, nat_eq, ◌&&◌, All, List, map, filter, find, None, Some, slice_get, option_map, IsTrue, IsPermutation}
use Rattle.std.specs.List.{list_any}
use Rattle.sums.specs.Prints.{print as print_of}
use Rattle.book.specs.Book.{candidates, is_judged, latest}
use Rattle.book.specs.Keeping.{IsDeliverable}
use Rattle.book.specs.declared.change.Judgement.{Judgement}
use Rattle.tables.specs.Rows.{Tables, rows_of}
use Rattle.tables.specs.Uploads.{is_judged as has_place}
use Rattle.tables_meaning.specs.Kept.{arrivals_in, bytes_of, is_placed, is_used, judged_row, pieces_for, pieces_of, request_in, request_of}

-- Each body is whole, in pieces, with the print of its bytes, and has arrived under some name or is that of a file.
pub record BodiesFit (t : Tables) : Type 0 where
  pub whole : All (λ x. x.1.print ≡ Some (print_of (bytes_of t x.0))) t.bodies
  pub pieces : All (λ x. pieces_of t x.0 ≡ pieces_for x.0 (bytes_of t x.0)) t.bodies
  pub used : All (λ x. IsTrue (is_used t x.0)) t.bodies

-- Each arrival is one that may be kept.
abbrev pub ArrivalsFit : Tables → Type 0
ArrivalsFit t = All (λ a. IsDeliverable a.name a.body × (a.moment ≤ latest)) (arrivals_in t)

-- The uploads without a verdict are the .changes that arrived and are not judged, with the entries that each lists. The
-- others are these judged ones, at places from 1 on.
pub record UploadsFit (t : Tables) (judged : List Judgement) : Type 0 where
  pub waiting : IsPermutation (map (request_in t) (filter (λ x. not (has_place x.1)) t.uploads))
      (map (request_of (arrivals_in t)) (filter (λ c. not (is_judged judged c)) (candidates (arrivals_in t))))
  pub owned : All (λ w. IsTrue (list_any (λ x. nat_eq x.0 w.upload && not (has_place x.1)) t.uploads)) (rows_of t.wants)
  pub unjudged : All (λ u. u.place ≡ None → u.verdict ≡ None) (rows_of t.uploads)
  pub places : (n : ℕ) → find (is_placed (n + 1)) (rows_of t.uploads) ≡ option_map (judged_row (n + 1)) (slice_get judged n)
  pub from_one : All (λ u. u.place ≢ Some 0) (rows_of t.uploads)
