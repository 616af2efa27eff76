-- The rows without the bodies that are not whole: what they are, and that reads find the same in them.
use Rattle.std.proofs.Common.{◌≡◌, ◌≢◌, ℕ, length, ◌<◌, Bool, true, false, not, ◌&&◌, cond, if◌then◌else◌, nat_eq, List, [], ◌∷◌, map, filter, find, All, Option, Some, None, is_some, option_map, unwrap_or, IsTrue, refl, sym, ap, ◌∙◌, arith, true≢false}
use Rattle.std.specs.List.{AllByRecursion, filter_map, flat_map, list_any}
use Rattle.std.specs.Option.{option_and_then, option_map_or}
use Rattle.std.specs.Result.{result_ok}
use Rattle.std.proofs.lemmas.Bool.{and_right, eqb-true, false≢true, not-true, eq-eqb}
use Rattle.std.proofs.lemmas.Bool.Decides.{nat_tests}
use Rattle.std.proofs.lemmas.List.Elements.{recursion_from_All}
use Rattle.std.proofs.Math.Bool.{or-false}
use Rattle.sqlite_keyed.proofs.ListLemmas.{all_both, all_of, all_weaker, any_from_none, ascending-filter, filter_all}
use Rattle.sqlite_keyed.specs.Lists.{sort_by as sorted_by}
use Rattle.records.specs.Records.{changes_in}
use Rattle.records.specs.Values.{ChangesValue}
use Rattle.rules.specs.declared.suite.Suite.{Suite}
use Rattle.sums.specs.Prints.{print as print_of, same_print}
use Rattle.sums.specs.declared.entries.Entry.{Entry}
use Rattle.sums.specs.declared.print.Print.{Print}
use Rattle.sums.proofs.Members.{all_at}
use Rattle.suites.specs.Shelves.{ShelvesValue}
use Rattle.suites.specs.Upload.{UploadValue, has_text}
use Rattle.suites.proofs.ListTests.{list_any-filter}
use Rattle.book.specs.Book.{Book, due, unjudged, upload_of, waiting_of}
use Rattle.book.proofs.Finds.{found_in}
use Rattle.tables.specs.Bodies.{body_with, has_print}
use Rattle.tables.specs.Files.{is_file_at}
use Rattle.tables.specs.Pieces.{is_of}
use Rattle.tables.specs.Rows.{Numbered, Rises, Tables, rows_of, without}
use Rattle.tables.specs.declared.rows.BodyRow.{BodyRow}
use Rattle.tables.specs.declared.rows.File.{File}
use Rattle.tables.specs.declared.rows.Piece.{Piece}
use Rattle.tables.specs.declared.rows.UploadRow.{UploadRow}
use Rattle.tables_meaning.specs.Finished.{finished, is_of_unfinished, is_unfinished}
use Rattle.tables_meaning.specs.Kept.{AreArrivals, AreBodies, AreItems, AreNumbered, AreUploads, arrivals_in, bytes_of, files_in, has_body, piece_order, pieces_of, print_at, wants_in}
use Rattle.tables_meaning.specs.Reads.{bytes_with, due_in, lacks_in, missing_in, text_in, upload_in, waiting_in, wanting, wanting_rows}
use Rattle.tables_meaning.specs.Shown.{shown_in}
use Rattle.tables_meaning.proofs.BodyLemmas.{are_stored, body_found, has_body_if, row_of_found}
use Rattle.tables_meaning.proofs.DueLemmas.{due_are}
use Rattle.tables_meaning.proofs.LikeLemmas.{items_like}
use Rattle.tables_meaning.proofs.RowLists.{all_filtered, find_kept}
use Rattle.tables_meaning.proofs.WaitingLemmas.{waits_are}

pub some_length : (ids : List ℕ) → ids ≢ [] → 0 < length ids
some_length [] some = absurd (some refl)
some_length (n ∷ ns) some = omega arith

-- ---- rows that are whole are left

module _ (t : Tables) (whole : AllByRecursion (λ x. is_unfinished x ≡ false) t.bodies) where
  none_unfinished : (p : Piece) → is_of_unfinished t p ≡ false
  none_unfinished p =
      any_from_none (λ x. is_of x.0 p && is_unfinished x) t.bodies
      (all_weaker (λ x. is_unfinished x ≡ false) (λ x. (is_of x.0 p && is_unfinished x) ≡ false) (λ x w. and_right (is_of x.0 p) (is_unfinished x) w) t.bodies whole)

  pub finished_whole : finished t ≡ t
  unfolding finished
  finished_whole =
      let bodies = filter_all (λ x. not (is_unfinished x)) t.bodies (all_weaker (λ x. is_unfinished x ≡ false) (λ x. not (is_unfinished x) ≡ true) (λ x w. ap not w) t.bodies whole) in
      let pieces = filter_all (λ p. not (is_of_unfinished t p.1)) t.pieces (all_of (λ p. not (is_of_unfinished t p.1) ≡ true) (λ p. ap not (none_unfinished p.1)) t.pieces) in
      λ i. record t { bodies = bodies i; pieces = pieces i }

-- each body of an archive is whole
pub bodies_whole : (t : Tables) → AreBodies t → AllByRecursion (λ x. is_unfinished x ≡ false) t.bodies
bodies_whole t h =
    all_weaker (λ x. x.1.print ≡ Some (print_of (bytes_of t x.0))) (λ x. is_unfinished x ≡ false) (λ x is. ap (λ o. not (is_some o)) is) t.bodies
    (recursion_from_All (λ x. x.1.print ≡ Some (print_of (bytes_of t x.0))) t.bodies h.whole)

-- the rows of an archive are finished
pub kept_finished : (t : Tables) → AreBodies t → finished t ≡ t
kept_finished t h = finished_whole t (bodies_whole t h)

pub whole_left : (bodies : Numbered BodyRow) → AllByRecursion (λ x. is_unfinished x ≡ false) (without is_unfinished bodies)
whole_left bodies =
    all_filtered (λ x. is_unfinished x ≡ false) (λ x. not (is_unfinished x)) bodies
    (all_of (λ x. not (is_unfinished x) ≡ true → is_unfinished x ≡ false) (λ x. not-true (is_unfinished x)) bodies)

pub finished_twice : (t : Tables) → finished (finished t) ≡ finished t
unfolding finished
finished_twice t = finished_whole (finished t) (whole_left t.bodies)

-- the rowids that are left rise
pub finished_rises : (t : Tables) → Rises t.bodies → Rises (finished t).bodies
unfolding finished
finished_rises t up = ascending-filter (λ a b. a.0 < b.0) (λ x. not (is_unfinished x)) t.bodies up

pub finished_numbered : (t : Tables) → AreNumbered t → AreNumbered (finished t)
unfolding finished
finished_numbered t h = record { bodies = finished_rises t h.bodies; arrivals = h.arrivals; uploads = h.uploads; items = h.items }

-- ---- what is shown

pub shown_finished : (suites : List Suite) (t : Tables) → shown_in suites (finished t) ≡ shown_in suites t
unfolding finished shown_in
shown_finished suites t = refl

pub items_finished : (t : Tables) (suites : List Suite) (shown : ShelvesValue) → AreItems (finished t) suites shown → AreItems t suites shown
unfolding finished
items_finished t suites shown h = items_like (finished t) t suites shown refl refl h

-- ---- a body by its print

no_print : (p : Print) (o : Option Print) → not (is_some o) ≡ true → option_map_or (λ q. same_print q p) o false ≡ false
no_print p None e = refl
no_print p (Some q) e = absurd (true≢false (sym e))

pub body_finished : (p : Print) (t : Tables) → body_with p (finished t).bodies ≡ body_with p t.bodies
unfolding finished
body_finished p t =
    ap (option_map (λ x. x.0))
    (find_kept (λ x. has_print p x.1) is_unfinished t.bodies (all_of (λ x. is_unfinished x ≡ true → has_print p x.1 ≡ false) (λ x. no_print p x.1.print) t.bodies))

-- ---- the pieces of a body that is whole

-- a body of this number is not whole
abbrev pub has_unfinished : Numbered BodyRow → ℕ → Bool
has_unfinished bodies id = list_any (λ x. nat_eq id x.0 && is_unfinished x) bodies

pub other_below : (a b : ℕ) → a < b → nat_eq a b ≡ false
other_below a b below = grind (arith, nat_tests)

pub other_above : (a b : ℕ) → a < b → nat_eq b a ≡ false
other_above a b below = grind (arith, nat_tests)

pub none_past : (n : ℕ) (xs : Numbered BodyRow) → AllByRecursion (λ y. n < y.0) xs → has_unfinished xs n ≡ false
none_past n [] h = refl
none_past n (x ∷ xs) h = rw (other_below n x.0 h.0, none_past n xs h.1) refl

-- the number of a body says whether it is whole
pub tells : (xs : Numbered BodyRow) → Rises xs → AllByRecursion (λ y. has_unfinished xs y.0 ≡ is_unfinished y) xs
tells [] up = tt
tells (x ∷ xs) up = (
  rw ((eq-eqb x.0 x.0 refl), none_past x.0 xs up.0) (or-false (is_unfinished x)),
  all_both (λ y. x.0 < y.0) (λ y. has_unfinished xs y.0 ≡ is_unfinished y) (λ y. has_unfinished (x ∷ xs) y.0 ≡ is_unfinished y) (λ y below is. rw (other_above x.0 y.0 below) is) xs up.0 (tells xs up.1),
)

-- a body that is not whole is not left
pub not_left : (bodies : Numbered BodyRow) (id : ℕ) → Rises bodies → has_unfinished bodies id ≡ true → list_any (λ x. nat_eq x.0 id) (without is_unfinished bodies) ≡ false
not_left bodies id up unfinished =
    list_any_without
    ∙ any_from_none (λ x. not (is_unfinished x) && nat_eq x.0 id) bodies
    (all_weaker (λ y. has_unfinished bodies y.0 ≡ is_unfinished y) (λ y. (not (is_unfinished y) && nat_eq y.0 id) ≡ false) (λ y is. go y is (nat_eq y.0 id) refl) bodies (tells bodies up))
  where
    list_any_without : list_any (λ x. nat_eq x.0 id) (without is_unfinished bodies) ≡ list_any (λ x. not (is_unfinished x) && nat_eq x.0 id) bodies
    list_any_without = list_any-filter (λ x. nat_eq x.0 id) (λ x. not (is_unfinished x)) bodies

    go : (y : ℕ × BodyRow) → has_unfinished bodies y.0 ≡ is_unfinished y → (b : Bool) → nat_eq y.0 id ≡ b → (not (is_unfinished y) && b) ≡ false
    go y is true e = let u : is_unfinished y ≡ true = sym is ∙ ap (has_unfinished bodies) (eqb-true y.0 id e) ∙ unfinished in rw u refl
    go y is false e = and_right (not (is_unfinished y)) false refl

-- the number of a body that is left is that of no other
pub left_whole : (t : Tables) → Rises t.bodies → (id : ℕ) → has_body (finished t) id ≡ true → has_unfinished t.bodies id ≡ false
unfolding finished has_body
left_whole t up id there = go (has_unfinished t.bodies id) refl
  where
    go : (b : Bool) → has_unfinished t.bodies id ≡ b → b ≡ false
    go true e = absurd (false≢true (sym (not_left t.bodies id up e) ∙ there))
    go false e = refl

-- the print of a body that is left is the one that it had
pub print_finished : (t : Tables) → Rises t.bodies → (id : ℕ) → has_body (finished t) id ≡ true → print_at (finished t) id ≡ print_at t id
unfolding finished
print_finished t up id there =
    ap (option_and_then (λ (x : ℕ × BodyRow). x.1.print))
    (find_kept (λ x. nat_eq x.0 id) is_unfinished t.bodies
    (all_weaker (λ y. has_unfinished t.bodies y.0 ≡ is_unfinished y) (λ y. is_unfinished y ≡ true → nat_eq y.0 id ≡ false) (λ y is un. other y is un (nat_eq y.0 id) refl) t.bodies
    (tells t.bodies up)))
  where
    other : (y : ℕ × BodyRow) → has_unfinished t.bodies y.0 ≡ is_unfinished y → is_unfinished y ≡ true → (b : Bool) → nat_eq y.0 id ≡ b → b ≡ false
    other y is un true same = absurd (false≢true (sym (left_whole t up id there) ∙ sym (ap (has_unfinished t.bodies) (eqb-true y.0 id same)) ∙ is ∙ un))
    other y is un false same = refl

-- the pieces of a body that is whole are left
pieces_left : (t : Tables) (id : ℕ) → has_unfinished t.bodies id ≡ false → (xs : Numbered Piece)
    → filter (is_of id) (rows_of (without (λ p. is_of_unfinished t p.1) xs)) ≡ filter (is_of id) (rows_of xs)
pieces_left t id none [] = refl
pieces_left t id none (x ∷ xs) = go (is_of_unfinished t x.1) (is_of id x.1) refl refl (pieces_left t id none xs)
  where
    go : (b c : Bool) → is_of_unfinished t x.1 ≡ b → is_of id x.1 ≡ c
        → filter (is_of id) (rows_of (without (λ p. is_of_unfinished t p.1) xs)) ≡ filter (is_of id) (rows_of xs)
        → filter (is_of id) (rows_of (cond (not b) (x ∷ without (λ p. is_of_unfinished t p.1) xs) (without (λ p. is_of_unfinished t p.1) xs)))
        ≡ cond c (x.1 ∷ filter (is_of id) (rows_of xs)) (filter (is_of id) (rows_of xs))
    go true true e f more = absurd (true≢false (sym e ∙ ap (has_unfinished t.bodies) (eqb-true x.1.body id f) ∙ none))
    go true false e f more = more
    go false c e f more = λ i. cond (f i) (x.1 ∷ more i) (more i)

pub pieces_finished : (t : Tables) → Rises t.bodies → (id : ℕ) → has_body (finished t) id ≡ true → pieces_of (finished t) id ≡ pieces_of t id
unfolding finished
pieces_finished t up id there = ap (sorted_by piece_order) (pieces_left t id (left_whole t up id there) t.pieces)

pub bytes_finished : (t : Tables) → Rises t.bodies → (id : ℕ) → has_body (finished t) id ≡ true → bytes_of (finished t) id ≡ bytes_of t id
unfolding bytes_of finished
bytes_finished t up id there = ap (λ (ps : List Piece). flat_map (λ (p : Piece). p.bytes) (sorted_by piece_order ps)) (pieces_left t id (left_whole t up id there) t.pieces)

-- ---- what reads find

file_finished : (t : Tables) → Rises t.bodies → All (λ f. IsTrue (has_body (finished t) f.body)) (rows_of t.files) → (path : List ℕ) (o : Option File) → find (is_file_at path) (rows_of t.files) ≡ o
    → option_map (λ (f : File). bytes_of t f.body) o ≡ option_map (λ (f : File). bytes_of (finished t) f.body) o
file_finished t up all path None e = refl
file_finished t up all path (Some f) e =
    let there : IsTrue (has_body (finished t) f.body) = all_at (λ (g : File). IsTrue (has_body (finished t) g.body)) (rows_of t.files) f all (found_in (is_file_at path) (rows_of t.files) f e) in
    ap Some (sym (bytes_finished t up f.body there))

pub files_finished : (t : Tables) → Rises t.bodies → All (λ f. IsTrue (has_body (finished t) f.body)) (rows_of (finished t).files) → (path : List ℕ) → files_in t path ≡ files_in (finished t) path
unfolding files_in finished
files_finished t up all path = file_finished t up all path (find (is_file_at path) (rows_of t.files)) refl

bytes_by_print : (t : Tables) → Rises t.bodies → (p : Print) (o : Option ℕ) → body_with p t.bodies ≡ o → option_map (bytes_of t) (body_with p t.bodies) ≡ option_map (bytes_of (finished t)) (body_with p (finished t).bodies)
bytes_by_print t up p None e = ap (option_map (bytes_of t)) e ∙ ap (option_map (bytes_of (finished t))) (sym (body_finished p t ∙ e))
bytes_by_print t up p (Some id) e =
    let same : body_with p (finished t).bodies ≡ Some id = body_finished p t ∙ e in
    let there : has_body (finished t) id ≡ true = has_body_if (finished t) id (row_of_found (body_found p (finished t).bodies id same)) in
    ap (option_map (bytes_of t)) e ∙ ap Some (sym (bytes_finished t up id there)) ∙ ap (option_map (bytes_of (finished t))) (sym same)

pub bytes_with_finished : (t : Tables) → Rises t.bodies → (p : Print) → bytes_with t p ≡ bytes_with (finished t) p
unfolding bytes_with
bytes_with_finished t up p = bytes_by_print t up p (body_with p t.bodies) refl

-- the upload that is due, by the bodies that are found
abbrev due_by : (Print → Option (List ℕ)) → ℕ → UploadRow → Option UploadValue
due_by bytes missing u =
    if nat_eq missing 0 then option_and_then (λ body. option_map (λ (c : ChangesValue). record {
      name = u.name;
      print = u.print;
      changes = c;
      texts = map (λ (e : Entry). if has_text e.name then unwrap_or (bytes e.print) [] else []) c.entries;
    }) (result_ok (changes_in body))) (bytes u.print)
    else None

due_finished : (t : Tables) → Rises t.bodies → (x : ℕ × UploadRow) → due_in t x ≡ due_in (finished t) x
unfolding finished missing_in text_in upload_in
due_finished t up x = λ i. due_by (λ p. bytes_with_finished t up p i) (missing_in t x.0) x.1

pub dues_finished : (t : Tables) (b : Book) → Rises t.bodies → Rises t.uploads → b.arrivals ≡ arrivals_in (finished t) → AreUploads (finished t) b.judged → AreBodies (finished t) → AreArrivals (finished t)
    → filter_map (due_in t) (wanting_rows t) ≡ map (upload_of b.arrivals) (due b)
unfolding finished wanting wanting_rows
dues_finished t b up rise same uploads bodies arrivals =
    (λ i. filter_map (λ x. due_finished t up x i) (wanting_rows t)) ∙ due_are (finished t) b same rise uploads (are_stored (finished t) bodies) arrivals

pub waiting_finished : (t : Tables) (b : Book) → b.arrivals ≡ arrivals_in (finished t) → Rises t.uploads → AreUploads (finished t) b.judged
    → map (waiting_in (arrivals_in (finished t)) t) (wanting_rows t) ≡ map (waiting_of (arrivals_in (finished t)) b.arrivals) (unjudged b)
unfolding finished lacks_in wants_in wanting wanting_rows
waiting_finished t b same rise uploads = waits_are (arrivals_in (finished t)) (finished t) b same rise uploads
