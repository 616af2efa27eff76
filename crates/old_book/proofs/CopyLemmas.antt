-- The rows that were written one after another into tables that had none are the copied ones.
use Rattle.std.proofs.Common.{◌≡◌, ℕ, ◌+◌, [], ◌∷◌, ◌++◌, map, fold, refl, sym, ap, subst, ◌∙◌, append-nil, append_assoc}
use Rattle.std.specs.List.{enumerate_from}
use Rattle.std.proofs.lemmas.List.{map-id}
use Rattle.sqlite.specs.State.{State}
use Rattle.tables.specs.Rows.{Tables, Numbered, Holds, Rises, added, first_number, next_from, next_in, rows_of}
use Rattle.old_book.specs.Copying.{AreRising, Copies, IsBare, anew, arrived_at, copied}
use Rattle.old_book.specs.Placed.{Writes, each, put_at, with_arrival_at, with_arrived, with_body_at, with_file_of, with_item_at, with_piece_of, with_ref_of, with_shown, with_upload_at, with_uploaded, with_want_of}
use Rattle.old_book.proofs.PutLemmas.{puts_all}

-- ---- one table after another

abbrev puts : {X : Type 0} → Numbered X → Numbered X → Numbered X
puts rows now = fold (λ now x. put_at x now) now rows

abbrev adds : {X Y : Type 0} → (X → Y) → Numbered X → Numbered Y → Numbered Y
adds f rows now = fold (λ now x. added now (f x.1)) now rows

bodies_are : (rows : Numbered _) (t : Tables) → each with_body_at rows t ≡ record t { bodies = puts rows t.bodies }
unfolding each
bodies_are [] t = refl
bodies_are (x ∷ rows) t = bodies_are rows (with_body_at x t)

pieces_are : (rows : Numbered _) (t : Tables) → each with_piece_of rows t ≡ record t { pieces = adds (λ x. x) rows t.pieces }
unfolding each
pieces_are [] t = refl
pieces_are (x ∷ rows) t = pieces_are rows (with_piece_of x t)

arrivals_are : (moment : ℕ) (rows : Numbered _) (t : Tables) → each (with_arrival_at moment) rows t ≡ record t { arrivals = adds (arrived_at moment) rows t.arrivals }
unfolding each
arrivals_are moment [] t = refl
arrivals_are moment (x ∷ rows) t = arrivals_are moment rows (with_arrival_at moment x t)

uploads_are : (rows : Numbered _) (t : Tables) → each with_upload_at rows t ≡ record t { uploads = puts rows t.uploads }
unfolding each
uploads_are [] t = refl
uploads_are (x ∷ rows) t = uploads_are rows (with_upload_at x t)

wants_are : (rows : Numbered _) (t : Tables) → each with_want_of rows t ≡ record t { wants = adds (λ x. x) rows t.wants }
unfolding each
wants_are [] t = refl
wants_are (x ∷ rows) t = wants_are rows (with_want_of x t)

items_are : (rows : Numbered _) (t : Tables) → each with_item_at rows t ≡ record t { items = puts rows t.items }
unfolding each
items_are [] t = refl
items_are (x ∷ rows) t = items_are rows (with_item_at x t)

refs_are : (rows : Numbered _) (t : Tables) → each with_ref_of rows t ≡ record t { refs = adds (λ x. x) rows t.refs }
unfolding each
refs_are [] t = refl
refs_are (x ∷ rows) t = refs_are rows (with_ref_of x t)

files_are : (rows : Numbered _) (t : Tables) → each with_file_of rows t ≡ record t { files = adds (λ x. x) rows t.files }
unfolding each
files_are [] t = refl
files_are (x ∷ rows) t = files_are rows (with_file_of x t)

-- ---- rows under the next numbers

next_last : {X : Type 0} (n : ℕ) (front : Numbered X) (x : ℕ × X) → next_from n (front ++ x ∷ []) ≡ x.0 + 1
next_last n [] x = refl
next_last n (y ∷ front) x = next_last (y.0 + 1) front x

adds_behind : {X Y : Type 0} (f : X → Y) (rows : Numbered X) (front : Numbered Y) → adds f rows front ≡ front ++ enumerate_from (next_in front) (map f (rows_of rows))
adds_behind f [] front = sym (append-nil front)
adds_behind {X} {Y} f (x ∷ rows) front =
    let one : ℕ × Y = (next_in front, f x.1) in
    adds_behind f rows (added front (f x.1))
    ∙ ap (λ n. (front ++ one ∷ []) ++ enumerate_from n (map f (rows_of rows))) (next_last first_number front one)
    ∙ append_assoc front (one ∷ []) (enumerate_from (next_in front + 1) (map f (rows_of rows)))

-- rows that are added to a table without rows
adds_anew : {X Y : Type 0} (f : X → Y) (rows : Numbered X) (now : Numbered Y) → now ≡ [] → adds f rows now ≡ anew (map f (rows_of rows))
adds_anew f rows now none = ap (adds f rows) none ∙ adds_behind f rows []

adds_rows : {X : Type 0} (rows now : Numbered X) → now ≡ [] → adds (λ x. x) rows now ≡ anew (rows_of rows)
adds_rows rows now none = adds_anew (λ x. x) rows now none ∙ ap anew (map-id (rows_of rows))

puts_rows : {X : Type 0} (rows now : Numbered X) → now ≡ [] → Rises rows → puts rows now ≡ rows
puts_rows rows now none up = ap (puts rows) none ∙ puts_all rows up

-- ---- all eight tables

written_are : (t : Tables) (moment : ℕ) (into : Tables) → AreRising t → IsBare into → with_shown t (with_uploaded t (with_arrived t moment into)) ≡ copied t moment into
written_are t moment into up bare =
    ap (λ now. with_shown t (with_uploaded t now))
    (ap (λ now. each (with_arrival_at moment) t.arrivals (each with_piece_of t.pieces now)) (bodies_are t.bodies into)
    ∙ ap (each (with_arrival_at moment) t.arrivals) (pieces_are t.pieces _) ∙ arrivals_are moment t.arrivals _)
    ∙ ap (with_shown t) (ap (each with_want_of t.wants) (uploads_are t.uploads _) ∙ wants_are t.wants _)
    ∙ ap (λ now. each with_file_of t.files (each with_ref_of t.refs now)) (items_are t.items _)
    ∙ ap (each with_file_of t.files) (refs_are t.refs _) ∙ files_are t.files _
    ∙ (λ i. record into {
      bodies = puts_rows t.bodies into.bodies bare.bodies up.bodies i;
      pieces = adds_rows t.pieces into.pieces bare.pieces i;
      arrivals = adds_anew (arrived_at moment) t.arrivals into.arrivals bare.arrivals i;
      uploads = puts_rows t.uploads into.uploads bare.uploads up.uploads i;
      wants = adds_rows t.wants into.wants bare.wants i;
      items = puts_rows t.items into.items bare.items up.items i;
      refs = adds_rows t.refs into.refs bare.refs i;
      files = adds_rows t.files into.files bare.files i;
    })

pub copies_if_written : (a b : State) (t : Tables) (moment : ℕ) → AreRising t → Writes a b (λ into. with_shown t (with_uploaded t (with_arrived t moment into))) → Copies a b t moment
copies_if_written a b t moment up h = record {
  held = λ into bare was. subst (Holds b.now) (written_are t moment into up bare) (h.held into was);
  kept = h.kept;
  stays = h.stays;
  mode = h.mode;
}
