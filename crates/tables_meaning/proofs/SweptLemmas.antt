-- Bodies that nothing uses go: what is left is used, has the bytes that it had, and shows the same.
use Rattle.std.proofs.Common.{◌≡◌, ◌≢◌, ◌≤◌, ℕ, Bool, true, false, not, ◌&&◌, cond, nat_eq, List, [], ◌∷◌, map, filter, find, length, All, AllPairs, Option, Some, None, IsTrue, Ok, IsPermutation, refl, sym, ap, subst, ◌∙◌, true≢false}
use Rattle.std.proofs.Math.Path.{fun_ext}
use Rattle.std.specs.List.{flat_map, list_any, zip}
use Rattle.std.specs.Option.{option_and_then, option_map}
use Rattle.std.proofs.lemmas.Bool.{both_ways, eq-eqb, eqb-true, false_from_ne_true, not-true}
use Rattle.std.proofs.lemmas.List.Elements.{All-contains, All-from_recursion, recursion_from_All}
use Rattle.sqlite_keyed.proofs.ListLemmas.{all_of, all_weaker, any_from_none, ascending-filter}
use Rattle.sqlite_keyed.specs.Lists.{sort_by as sorted_by}
use Rattle.rules.specs.Configuration.{config_in}
use Rattle.rules.specs.Values.{ConfigValue}
use Rattle.sums.specs.Prints.{print as print_of}
use Rattle.sums.proofs.Members.{any_false}
use Rattle.suites.specs.Shelves.{ShelvesValue, AreSound}
use Rattle.suites.specs.Told.{AreTold}
use Rattle.indices.specs.Indices.{all_texts}
use Rattle.indices.proofs.Pairs.{same_map_over}
use Rattle.book.specs.Book.{latest}
use Rattle.book.specs.Keeping.{IsDeliverable}
use Rattle.book.specs.declared.change.Judgement.{Judgement}
use Rattle.tables.specs.Files.{is_file_at}
use Rattle.tables.specs.Pieces.{is_of}
use Rattle.tables.specs.Rows.{Numbered, Tables, rows_of, without}
use Rattle.tables.specs.declared.rows.BodyRow.{BodyRow}
use Rattle.tables.specs.declared.rows.File.{File}
use Rattle.tables.specs.declared.rows.Piece.{Piece}
use Rattle.tables.specs.declared.meta.TheConstants.{VERSION}
use Rattle.tables.proofs.Pairwise.{ascending_from_pairs, pairs_from_ascending}
use Rattle.tables_meaning.specs.Kept.{AreArrivals, AreBodies, AreFiles, AreItems, AreSigned, AreStored, AreUploads, IsBook, arrival_in, arrivals_in, book_in, bytes_of, date_row, files_in, has_body, is_used, piece_order, pieces_for, pieces_of, print_at}
use Rattle.tables_meaning.specs.Sweeping.{swept}
use Rattle.tables_meaning.proofs.BodyLemmas.{all_if, found, its_arrival, its_file, row_of_body}
use Rattle.tables_meaning.proofs.LikeLemmas.{items_like}
use Rattle.tables_meaning.proofs.RequestLemmas.{requests, rows_from_uploads, uploads_from_rows}
use Rattle.tables_meaning.proofs.RowLists.{all_filtered, any_kept, find_kept}
use Rattle.tables_meaning.proofs.Searches.{all_in_rows, all_of_rows}

set : (b : Bool) → not (not b) ≡ true → b ≡ true
set true e = refl
set false e = absurd (true≢false (sym e))

set_if_clear : (b : Bool) → (not b && true) ≡ false → b ≡ true
set_if_clear true e = refl
set_if_clear false e = absurd (true≢false e)

module _ (u : Tables) where
  abbrev gone : ℕ × BodyRow → Bool
  gone x = not (is_used u x.0)

  -- the piece is one of a body that goes
  abbrev goes : Piece → Bool
  goes p = list_any (λ x. gone x && is_of x.0 p) u.bodies

  pub used_swept : (id : ℕ) → is_used (swept u) id ≡ is_used u id
  unfolding swept is_used
  used_swept id = refl

  -- the number of a used body is not that of a body that goes
  kept_number : (id : ℕ) → is_used u id ≡ true → (x : ℕ × BodyRow) → gone x ≡ true → nat_eq x.0 id ≡ false
  kept_number id used x away =
      false_from_ne_true (nat_eq x.0 id) (λ same. both_ways (is_used u x.0) (not-true (is_used u x.0) away) (ap (is_used u) (eqb-true x.0 id same) ∙ used))

  pub print_swept : (id : ℕ) → is_used u id ≡ true → print_at (swept u) id ≡ print_at u id
  unfolding swept
  print_swept id used =
      ap (option_and_then (λ (x : ℕ × BodyRow). x.1.print))
      (find_kept (λ x. nat_eq x.0 id) gone u.bodies (all_of (λ x. gone x ≡ true → nat_eq x.0 id ≡ false) (kept_number id used) u.bodies))

  pub body_swept : (id : ℕ) → is_used u id ≡ true → has_body u id ≡ true → has_body (swept u) id ≡ true
  unfolding swept has_body
  body_swept id used there = any_kept (λ x. nat_eq x.0 id) gone u.bodies (kept_number id used) there

  -- ---- pieces

  piece_stays : (id : ℕ) → is_used u id ≡ true → (p : Piece) → is_of id p ≡ true → goes p ≡ false
  piece_stays id used p of =
      any_from_none (λ x. gone x && is_of x.0 p) u.bodies
      (all_of (λ x. (gone x && is_of x.0 p) ≡ false) (λ x. each x (gone x) (nat_eq p.body x.0) refl refl) u.bodies)
    where
      each : (x : ℕ × BodyRow) (b c : Bool) → gone x ≡ b → nat_eq p.body x.0 ≡ c → (b && c) ≡ false
      each x true true e f =
          absurd (both_ways (is_used u x.0) (not-true (is_used u x.0) e) (ap (is_used u) (sym (eqb-true p.body x.0 f) ∙ eqb-true p.body id of) ∙ used))
      each x true false e f = refl
      each x false c e f = refl

  pieces_left : (id : ℕ) → is_used u id ≡ true → (xs : Numbered Piece)
      → filter (is_of id) (rows_of (without (λ p. goes p.1) xs)) ≡ filter (is_of id) (rows_of xs)
  pieces_left id used [] = refl
  pieces_left id used (x ∷ xs) = go (goes x.1) (is_of id x.1) refl refl (pieces_left id used xs)
    where
      go : (b c : Bool) → goes x.1 ≡ b → is_of id x.1 ≡ c
          → filter (is_of id) (rows_of (without (λ p. goes p.1) xs)) ≡ filter (is_of id) (rows_of xs)
          → filter (is_of id) (rows_of (cond (not b) (x ∷ without (λ p. goes p.1) xs) (without (λ p. goes p.1) xs)))
          ≡ cond c (x.1 ∷ filter (is_of id) (rows_of xs)) (filter (is_of id) (rows_of xs))
      go true true e f more = absurd (both_ways (goes x.1) (piece_stays id used x.1 f) e)
      go true false e f more = more
      go false c e f more = λ i. cond (f i) (x.1 ∷ more i) (more i)

  pub pieces_swept : (id : ℕ) → is_used u id ≡ true → pieces_of (swept u) id ≡ pieces_of u id
  unfolding swept
  pieces_swept id used = ap (sorted_by piece_order) (pieces_left id used u.pieces)

  pub bytes_swept : (id : ℕ) → is_used u id ≡ true → bytes_of (swept u) id ≡ bytes_of u id
  unfolding swept bytes_of
  bytes_swept id used = ap (λ (ps : List Piece). flat_map (λ (p : Piece). p.bytes) (sorted_by piece_order ps)) (pieces_left id used u.pieces)

  -- ---- bodies

  -- what holds of each body that is used
  on_left : (P Q : ℕ × BodyRow → Type 0) → ((x : ℕ × BodyRow) → is_used u x.0 ≡ true → P x → Q x) → All P u.bodies → All Q (swept u).bodies
  unfolding swept
  on_left P Q f all =
      All-from_recursion Q (without gone u.bodies)
      (all_filtered Q (λ x. not (gone x)) u.bodies
      (all_weaker P (λ x. not (gone x) ≡ true → Q x) (λ x h stays. f x (set (is_used u x.0) stays) h) u.bodies (recursion_from_All P u.bodies all)))

  apart_swept : AllPairs (λ x y. x.1.print ≢ y.1.print) u.bodies → AllPairs (λ x y. x.1.print ≢ y.1.print) (swept u).bodies
  unfolding swept
  apart_swept h =
      let R : ℕ × BodyRow → ℕ × BodyRow → Type 0 = λ x y. x.1.print ≢ y.1.print in
      pairs_from_ascending R (without gone u.bodies) (ascending-filter R (λ x. not (gone x)) u.bodies (ascending_from_pairs R u.bodies h))

  -- a piece that stays is one of a body that is used
  owner_used : (p : Piece) → has_body u p.body ≡ true → goes p ≡ false → is_used u p.body ≡ true
  owner_used p there stays =
      let row = row_of_body u p.body there in
      let clear : (not (is_used u row.body.0) && nat_eq p.body row.body.0) ≡ false = any_false (λ x. gone x && is_of x.0 p) u.bodies row.body stays row.within in
      let mine : nat_eq p.body row.body.0 ≡ true = eq-eqb p.body row.body.0 (sym row.number) in
      subst (λ n. is_used u n ≡ true) row.number
      (set_if_clear (is_used u row.body.0) (ap (λ c. not (is_used u row.body.0) && c) (sym mine) ∙ clear))

  owned_swept : All (λ p. IsTrue (has_body u p.body)) (rows_of u.pieces) → All (λ p. IsTrue (has_body (swept u) p.body)) (rows_of (swept u).pieces)
  unfolding swept
  owned_swept h =
      all_in_rows (λ p. IsTrue (has_body (swept u) p.body)) (without (λ p. goes p.1) u.pieces)
      (all_filtered (λ p. IsTrue (has_body (swept u) p.1.body)) (λ p. not (goes p.1)) u.pieces
      (all_weaker (λ p. IsTrue (has_body u p.1.body)) (λ p. not (goes p.1) ≡ true → IsTrue (has_body (swept u) p.1.body))
      (λ p there stays. body_swept p.1.body (owner_used p.1 there (not-true (goes p.1) stays)) there) u.pieces
      (all_of_rows (λ p. IsTrue (has_body u p.body)) u.pieces h)))

  all_used : All (λ x. IsTrue (is_used (swept u) x.0)) (swept u).bodies
  all_used =
      on_left (λ x. Unit {0}) (λ x. IsTrue (is_used (swept u) x.0)) (λ x used any. used_swept x.0 ∙ used) (λ k d within. tt)

  pub bodies_swept : AreStored u → AreBodies (swept u)
  bodies_swept h = record {
    whole = on_left (λ x. x.1.print ≡ Some (print_of (bytes_of u x.0))) (λ x. x.1.print ≡ Some (print_of (bytes_of (swept u) x.0)))
        (λ x used is. is ∙ ap (λ l. Some (print_of l)) (sym (bytes_swept x.0 used))) h.whole;
    pieces = on_left (λ x. pieces_of u x.0 ≡ pieces_for x.0 (bytes_of u x.0)) (λ x. pieces_of (swept u) x.0 ≡ pieces_for x.0 (bytes_of (swept u) x.0))
        (λ x used are. pieces_swept x.0 used ∙ are ∙ ap (pieces_for x.0) (sym (bytes_swept x.0 used))) h.pieces;
    apart = apart_swept h.apart;
    used = all_used;
    owned = owned_swept h.owned;
  }

  -- ---- arrivals and uploads

  pub same_arrivals : arrivals_in (swept u) ≡ arrivals_in u
  unfolding swept arrivals_in
  same_arrivals =
      same_map_over (arrival_in (swept u)) (arrival_in u) (rows_of u.arrivals)
      (λ a c. ap (λ (l : List ℕ). record { name = a.name; body = l; moment = a.moment }) (bytes_swept a.body (its_arrival u a c)))

  pub arrivals_swept : AreArrivals u → AreArrivals (swept u)
  unfolding swept
  arrivals_swept h = record {
    bodies = all_if (λ a. IsTrue (has_body (swept u) a.body)) (rows_of u.arrivals)
        (λ a c. body_swept a.body (its_arrival u a c) (All-contains (λ a. IsTrue (has_body u a.body)) (rows_of u.arrivals) a h.bodies c));
    apart = h.apart;
    deliverable = subst (All (λ a. IsDeliverable a.name a.body × (a.moment ≤ latest))) (sym same_arrivals) h.deliverable;
  }

  pub uploads_swept : (judged : List Judgement) → AreUploads u judged → AreUploads (swept u) judged
  unfolding swept
  uploads_swept judged h = uploads_from_rows (swept u) judged (record {
    uploads = u.uploads;
    wants = rows_of u.wants;
    asked = requests (arrivals_in u) judged;
    are = rows_from_uploads u judged h;
    uploads_are = refl;
    wants_are = refl;
    asked_are = ap (λ l. requests l judged) same_arrivals;
  })

  -- ---- files

  print_found : (path : List ℕ) (o : Option File) → find (is_file_at path) (rows_of u.files) ≡ o
      → option_and_then (λ (f : File). print_at (swept u) f.body) o ≡ option_and_then (λ (f : File). print_at u f.body) o
  print_found path None e = refl
  print_found path (Some f) e = print_swept f.body (its_file u f (found (is_file_at path) (rows_of u.files) f e).within)

  bytes_found : (path : List ℕ) (o : Option File) → find (is_file_at path) (rows_of u.files) ≡ o
      → option_map (λ (f : File). bytes_of (swept u) f.body) o ≡ option_map (λ (f : File). bytes_of u f.body) o
  bytes_found path None e = refl
  bytes_found path (Some f) e = ap Some (bytes_swept f.body (its_file u f (found (is_file_at path) (rows_of u.files) f e).within))

  pub files_swept : (shown : ShelvesValue) → AreFiles u shown → AreFiles (swept u) shown
  unfolding swept
  files_swept shown h = record {
    are = λ path. print_found path (find (is_file_at path) (rows_of u.files)) refl ∙ h.are path;
    bodies = all_if (λ f. IsTrue (has_body (swept u) f.body)) (rows_of u.files)
        (λ f c. body_swept f.body (its_file u f c) (All-contains (λ f. IsTrue (has_body u f.body)) (rows_of u.files) f h.bodies c));
    apart = h.apart;
  }

  pub same_files : files_in (swept u) ≡ files_in u
  unfolding swept files_in
  same_files = fun_ext (λ path. bytes_found path (find (is_file_at path) (rows_of u.files)) refl)

-- ---- the archive

-- The rows are those of an archive, except that some bodies may be unused.
pub record IsUnswept (t : Tables) (config : ConfigValue) (judged : List Judgement) (shown : ShelvesValue) (dates : List ℕ) : Type 0 where
  pub meta : rows_of t.meta ≡ record { version = VERSION; configuration = config.text } ∷ []
  pub read : config_in config.text ≡ Ok config
  pub sound : AreSound shown
  pub told : AreTold config.suites shown
  pub signed : AreSigned judged
  pub stored : AreStored t
  pub arrivals : AreArrivals t
  pub uploads : AreUploads t judged
  pub items : AreItems t config.suites shown
  pub files : AreFiles t shown
  pub texts : IsPermutation (map (λ x. (x.path, x.body)) (rows_of t.texts)) (all_texts config shown dates)
  pub date_rows : IsPermutation (rows_of t.dates) (map date_row (zip config.suites dates))
  pub dated : length dates ≡ length config.suites
  pub in_range : All (λ d. d ≤ latest) dates

module _ (t : Tables) (config : ConfigValue) (judged : List Judgement) (shown : ShelvesValue) (dates : List ℕ) where
  -- if each body is used the rows are those of an archive
  pub kept_if_used : IsUnswept t config judged shown dates → All (λ x. IsTrue (is_used t x.0)) t.bodies → IsBook t config judged shown dates
  kept_if_used h used = record {
    meta = h.meta;
    read = h.read;
    sound = h.sound;
    told = h.told;
    signed = h.signed;
    bodies = record { whole = h.stored.whole; pieces = h.stored.pieces; apart = h.stored.apart; used = used; owned = h.stored.owned };
    arrivals = h.arrivals;
    uploads = h.uploads;
    items = h.items;
    files = h.files;
    texts = h.texts;
    date_rows = h.date_rows;
    dated = h.dated;
    in_range = h.in_range;
  }

  -- without the unused bodies the rows are those of an archive
  pub kept_if_swept : IsUnswept t config judged shown dates → IsBook (swept t) config judged shown dates
  unfolding swept
  kept_if_swept h = record {
    meta = h.meta;
    read = h.read;
    sound = h.sound;
    told = h.told;
    signed = h.signed;
    bodies = bodies_swept t h.stored;
    arrivals = arrivals_swept t h.arrivals;
    uploads = uploads_swept t judged h.uploads;
    items = items_like t (swept t) config.suites shown refl refl h.items;
    files = files_swept t shown h.files;
    texts = h.texts;
    date_rows = h.date_rows;
    dated = h.dated;
    in_range = h.in_range;
  }

  pub swept_book : book_in config judged shown dates (swept t) ≡ book_in config judged shown dates t
  unfolding book_in
  swept_book = λ i. record { config = config; arrivals = same_arrivals t i; judged = judged; shown = shown; files = same_files t i; dates = dates }
