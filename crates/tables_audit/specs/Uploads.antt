-- The words of the functions on uploads.
use Rattle.std.specs.Prelude.{◌≡◌, ◌≢◌, ℕ, nat_eq, nat_lt, Bool, ◌&&◌, not, if◌then◌else◌, List, map, filter, find, fold, bytes_eq, All, IsTrue, IsPermutation, Option, Some, None, option_map}
use Rattle.std.specs.List.{AllPairs, list_any, flat_map}
use Rattle.std.specs.declared.cmp.Ordering.{Ordering}
use Rattle.sqlite_keyed.specs.Lists.{sort_by as sorted_by}
use Rattle.std.specs.Option.{option_and_then}
use Rattle.std.specs.Result.{result_ok}
use Rattle.records.specs.Records.{changes_in}
use Rattle.records.specs.Values.{ChangesValue}
use Rattle.rules.specs.Verdicts.{verdict_numbered}
use Rattle.sums.specs.declared.entries.Entry.{Entry}
use Rattle.sums.specs.declared.print.Print.{Print}
use Rattle.sums.specs.Prints.{same_print}
use Rattle.book.specs.Book.{candidates, is_judged, judging_order}
use Rattle.sums.specs.FileNames.{is_changes_name}
use Rattle.book.specs.declared.change.Judgement.{Judgement}
use Rattle.tables.specs.Rows.{Numbered, Tables, rows_of}
use Rattle.tables.specs.Uploads.{is_judged as has_place}
use Rattle.tables.specs.Wants.{is_wanted_by}
use Rattle.tables.specs.declared.rows.ArrivalRow.{ArrivalRow}
use Rattle.tables.specs.declared.rows.BodyRow.{BodyRow}
use Rattle.tables.specs.declared.rows.Piece.{Piece}
use Rattle.tables.specs.declared.rows.UploadRow.{UploadRow}
use Rattle.tables.specs.declared.rows.Want.{Want}
use Rattle.tables_meaning.specs.Kept.{Request, arrivals_in, is_placed, pieces_among, print_in, request_in, request_of, sign_in, want_order}
use Rattle.tables_matching.specs.Rows.{listed_row, want_row}
use Rattle.tables_audit.specs.declared.uploads.arrived.Arrived.{Arrived}
use Rattle.tables_audit.specs.declared.uploads.awaited.Awaited.{Awaited}

-- ---- judged uploads

-- an upload without a place has no verdict, and no upload has the place 0
pub record IsPlacedWell (u : UploadRow) : Type 0 where
  pub unjudged : u.place ≡ None → u.verdict ≡ None
  pub from_one : u.place ≢ Some 0

-- the judgement that a row is, if the row has the number of a verdict
unfoldable pub judgement_in : UploadRow → Option Judgement
judgement_in u = option_map (λ v. record { name = u.name; print = u.print; verdict = v }) (option_and_then verdict_numbered u.verdict)

-- the judgement at a place
unfoldable pub judged_at : Numbered UploadRow → ℕ → Option Judgement
judged_at uploads place = option_and_then judgement_in (find (is_placed place) (rows_of uploads))

-- the later of a place and the one that an upload has
abbrev pub later : ℕ → Option ℕ → ℕ
later last None = last
later last (Some place) = if nat_lt last place then place else last

-- the last place that an upload has
abbrev pub last_of : Numbered UploadRow → ℕ
last_of uploads = fold (λ last x. later last x.1.place) 0 uploads

-- ---- what has arrived

-- an arrival, and the print of its body
abbrev pub Printed : Type 0
Printed = ArrivalRow × Print

abbrev pub printed : Arrived → Printed
printed a = (a.arrival.now, a.print)

-- the print of the body of a number
unfoldable pub print_among : Numbered BodyRow → ℕ → Option Print
print_among bodies id = print_in bodies id

-- an arrival, with the print of its body
abbrev pub with_print : Arrived → ArrivalRow × Option Print
with_print a = (a.arrival.now, Some a.print)

abbrev pub with_print_in : Numbered BodyRow → ArrivalRow → ArrivalRow × Option Print
with_print_in bodies a = (a, print_among bodies a.body)

-- the arrival has the listed name and print
abbrev pub is_listed_as : Entry → Printed → Bool
is_listed_as e p = bytes_eq p.0.name e.name && same_print p.1 e.print

-- a body of the listed name and print has arrived
abbrev pub is_there_among : List Printed → Entry → Bool
is_there_among arrived e = list_any (is_listed_as e) arrived

-- ---- the .changes that wait for a verdict

-- the bytes of a body
abbrev pub bytes_among : Numbered Piece → ℕ → List ℕ
bytes_among pieces id = flat_map (λ p. p.bytes) (pieces_among (rows_of pieces) id)

-- one of the judgements is on what arrived
abbrev pub has_judgement : List Judgement → Printed → Bool
has_judgement judged p = list_any (λ j. bytes_eq j.name p.0.name && same_print j.print p.1) judged

-- the record that waits for a verdict
unfoldable pub changes_awaited : Numbered Piece → List Judgement → Printed → Option ChangesValue
changes_awaited pieces judged p =
    if is_changes_name p.0.name
    then (if has_judgement judged p then None else result_ok (changes_in (bytes_among pieces p.0.body)))
    else None

-- what arrived and waits for a verdict, with its record
abbrev pub Waiting : Type 0
Waiting = Printed × ChangesValue

abbrev pub awaited_view : Awaited → Waiting
awaited_view a = ((a.arrival.now, a.print), a.changes)

abbrev pub found_awaited : Numbered Piece → List Judgement → Printed → Option Waiting
found_awaited pieces judged p = option_map (λ c. (p, c)) (changes_awaited pieces judged p)

-- ---- what they want

abbrev pub wanted_among : List Printed → Entry → List ℕ × Print × Bool
wanted_among arrived e = listed_row e (is_there_among arrived e)

abbrev pub wants_among : Numbered Want → ℕ → List (List ℕ × Print × Bool)
wants_among wants id = sorted_by want_order (map want_row (filter (is_wanted_by id) (rows_of wants)))

abbrev pub request_row : Numbered Want → ℕ × UploadRow → Request
request_row wants x = ((x.1.name, x.1.print), wants_among wants x.0)

abbrev pub request_among : List Printed → Waiting → Request
request_among arrived w = ((w.0.0.name, w.0.1), sorted_by want_order (map (wanted_among arrived) w.1.entries))

-- the order of judging, of requests and of what waits
abbrev pub request_order : Request → Request → Ordering
request_order r s = judging_order r.0 s.0

abbrev pub waiting_order : Waiting → Waiting → Ordering
waiting_order v w = judging_order (v.0.0.name, v.0.1) (w.0.0.name, w.0.1)

-- The rows without a place are those of the .changes that wait, in some order, with what they want.
abbrev pub AreAsked : Numbered UploadRow → Numbered Want → List Arrived → List Awaited → Type 0
AreAsked uploads wants arrived awaited = IsPermutation (map (request_row wants) (filter (λ x. not (has_place x.1)) uploads)) (map (request_among (map printed arrived)) (map awaited_view awaited))

-- no two uploads have the same name and print
abbrev pub AreApart : Numbered UploadRow → Type 0
AreApart uploads = AllPairs (λ u v. sign_in u ≢ sign_in v) (rows_of uploads)

-- Beside these judged ones, the uploads are the .changes that wait for a verdict, with the entries that each lists.
pub record AreBesides (t : Tables) (judged : List Judgement) : Type 0 where
  pub waiting : IsPermutation (map (request_in t) (filter (λ x. not (has_place x.1)) t.uploads))
      (map (request_of (arrivals_in t)) (filter (λ c. not (is_judged judged c)) (candidates (arrivals_in t))))
  pub owned : All (λ w. IsTrue (list_any (λ x. nat_eq x.0 w.upload && not (has_place x.1)) t.uploads)) (rows_of t.wants)
