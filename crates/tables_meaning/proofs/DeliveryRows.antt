-- What a delivery leaves of the rows: it touches bodies, their pieces, arrivals, uploads and wants alone, and rowids still
-- rise.
use Rattle.std.proofs.Common.{◌≡◌, ℕ, true, false, if◌then◌else◌, nat_eq, nat_lt, List, [], ◌∷◌, find, Option, Some, None, is_some, refl, ◌∙◌}
use Rattle.std.specs.List.{list_any}
use Rattle.std.specs.Option.{option_map_or}
use Rattle.sums.specs.declared.entries.Entry.{Entry}
use Rattle.sums.specs.declared.print.Print.{Print}
use Rattle.tables.specs.Arrivals.{is_arrival, with_moment}
use Rattle.tables.specs.Bodies.{body_with}
use Rattle.tables.specs.Rows.{Numbered, Rises, Tables, next_in, rows_of, with_arrival, with_body, with_piece, with_upload, with_want}
use Rattle.tables.specs.Uploads.{is_upload}
use Rattle.tables.specs.Wants.{with_here}
use Rattle.tables.specs.declared.rows.ArrivalRow.{ArrivalRow}
use Rattle.tables.specs.declared.rows.BodyRow.{BodyRow}
use Rattle.tables.specs.declared.rows.Piece.{Piece}
use Rattle.tables.specs.declared.rows.UploadRow.{UploadRow}
use Rattle.tables.specs.declared.rows.Want.{Want}
use Rattle.tables.proofs.RowLemmas.{rises_added}
use Rattle.tables_meaning.specs.Kept.{AreNumbered, pieces_for}
use Rattle.tables_meaning.specs.Making.{is_here, number_with, with_arrived, with_bytes, with_delivered, with_pieces, with_requested, with_wants}
use Rattle.tables_meaning.proofs.StepLemmas.{rises_changed}

-- only bodies, pieces, arrivals, uploads and wants may differ, and rowids still rise
pub record LeavesShown (old new : Tables) : Type 0 where
  pub meta : new.meta ≡ old.meta
  pub items : new.items ≡ old.items
  pub refs : new.refs ≡ old.refs
  pub files : new.files ≡ old.files
  pub texts : new.texts ≡ old.texts
  pub dates : new.dates ≡ old.dates
  pub numbered : AreNumbered old → AreNumbered new

leaves_then : (a b c : Tables) → LeavesShown a b → LeavesShown b c → LeavesShown a c
leaves_then a b c p q = record {
  meta = q.meta ∙ p.meta;
  items = q.items ∙ p.items;
  refs = q.refs ∙ p.refs;
  files = q.files ∙ p.files;
  texts = q.texts ∙ p.texts;
  dates = q.dates ∙ p.dates;
  numbered = λ h. q.numbered (p.numbered h);
}

-- other rows in those tables
module _ (t : Tables) (bodies : Numbered BodyRow) (pieces : Numbered Piece) (arrivals : Numbered ArrivalRow) (uploads : Numbered UploadRow) (wants : Numbered Want)
    (bodies_rise : Rises t.bodies → Rises bodies) (arrivals_rise : Rises t.arrivals → Rises arrivals) (uploads_rise : Rises t.uploads → Rises uploads) where
  with_rows : LeavesShown t (record t { bodies = bodies; pieces = pieces; arrivals = arrivals; uploads = uploads; wants = wants })
  with_rows = record {
    meta = refl;
    items = refl;
    refs = refl;
    files = refl;
    texts = refl;
    dates = refl;
    numbered = λ h. record { bodies = bodies_rise h.bodies; arrivals = arrivals_rise h.arrivals; uploads = uploads_rise h.uploads; items = h.items };
  }

same_rows : (t : Tables) → LeavesShown t t
same_rows t = with_rows t t.bodies t.pieces t.arrivals t.uploads t.wants (λ h. h) (λ h. h) (λ h. h)

pieces_leave : (pieces : List Piece) (t : Tables) → LeavesShown t (with_pieces pieces t)
pieces_leave [] t = same_rows t
pieces_leave (p ∷ pieces) t =
    let one = with_piece p t in
    leaves_then t one (with_pieces pieces one) (with_rows t t.bodies one.pieces t.arrivals t.uploads t.wants (λ h. h) (λ h. h) (λ h. h)) (pieces_leave pieces one)

bytes_leave : (print : Print) (bytes : List ℕ) (t : Tables) → LeavesShown t (with_bytes print bytes t)
unfolding with_bytes
bytes_leave print bytes t =
    let row : BodyRow = record { print = Some print } in
    let one = with_body row t in
    let put = with_pieces (pieces_for (next_in t.bodies) bytes) one in
    elim (is_some (body_with print t.bodies)) as (λ b. LeavesShown t (if b then t else put)) [
      | true ↦ same_rows t
      | false ↦
          leaves_then t one put (with_rows t one.bodies t.pieces t.arrivals t.uploads t.wants (rises_added t.bodies row) (λ h. h) (λ h. h))
          (pieces_leave (pieces_for (next_in t.bodies) bytes) one)
    ]

arrived_leave : (name : List ℕ) (body moment : ℕ) (t : Tables) → LeavesShown t (with_arrived name body moment t)
unfolding with_arrived
arrived_leave name body moment t = go (find (λ x. is_arrival name body x.1) t.arrivals)
  where
    row : ArrivalRow
    row = record { name = name; body = body; moment = moment }

    go : (o : Option (ℕ × ArrivalRow)) → LeavesShown t (option_map_or (λ x. if nat_lt x.1.moment moment then with_moment x.0 moment t else t) o (with_arrival row t))
    go None = with_rows t t.bodies t.pieces (with_arrival row t).arrivals t.uploads t.wants (λ h. h) (rises_added t.arrivals row) (λ h. h)
    go (Some x) = elim (nat_lt x.1.moment moment) as (λ b. LeavesShown t (if b then with_moment x.0 moment t else t)) [
      | true ↦ with_rows t t.bodies t.pieces (with_moment x.0 moment t).arrivals t.uploads t.wants (λ h. h)
          (rises_changed (λ y. nat_eq y.0 x.0) (λ (y : ArrivalRow). record y { moment = moment }) t.arrivals) (λ h. h)
      | false ↦ same_rows t
    ]

wants_leave : (id : ℕ) (entries : List Entry) (t : Tables) → LeavesShown t (with_wants id entries t)
wants_leave id [] t = same_rows t
wants_leave id (e ∷ entries) t =
    let one = with_want (record { upload = id; name = e.name; print = e.print; here = is_here t e }) t in
    leaves_then t one (with_wants id entries one) (with_rows t t.bodies t.pieces t.arrivals t.uploads one.wants (λ h. h) (λ h. h) (λ h. h)) (wants_leave id entries one)

requested_leave : (name : List ℕ) (print : Print) (entries : List Entry) (t : Tables) → LeavesShown t (with_requested name print entries t)
unfolding with_requested
requested_leave name print entries t =
    let row : UploadRow = record { name = name; print = print; place = None; verdict = None } in
    let one = with_upload row t in
    elim (list_any (is_upload name print) (rows_of t.uploads)) as (λ b. LeavesShown t (if b then t else with_wants (next_in t.uploads) entries one)) [
      | true ↦ same_rows t
      | false ↦
          leaves_then t one (with_wants (next_in t.uploads) entries one) (with_rows t t.bodies t.pieces t.arrivals one.uploads t.wants (λ h. h) (λ h. h) (rises_added t.uploads row))
          (wants_leave (next_in t.uploads) entries one)
    ]

pub delivery_leaves : (name : List ℕ) (print : Print) (bytes : List ℕ) (moment : ℕ) (listed : Option (List Entry)) (t : Tables) → LeavesShown t (with_delivered name print bytes moment listed t)
unfolding with_delivered
delivery_leaves name print bytes moment listed t = go listed
  where
    stored : Tables
    stored = with_bytes print bytes t

    arrived : Tables
    arrived = with_arrived name (number_with print stored) moment stored

    marked : Tables
    marked = with_here name print arrived

    past : LeavesShown t marked
    past =
        leaves_then t stored marked (bytes_leave print bytes t)
        (leaves_then stored arrived marked (arrived_leave name (number_with print stored) moment stored)
        (with_rows arrived arrived.bodies arrived.pieces arrived.arrivals arrived.uploads marked.wants (λ h. h) (λ h. h) (λ h. h)))

    go : (o : Option (List Entry)) → LeavesShown t (option_map_or (λ entries. with_requested name print entries marked) o marked)
    go None = past
    go (Some entries) = leaves_then t marked (with_requested name print entries marked) past (requested_leave name print entries marked)
