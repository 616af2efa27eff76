-- A book whose files are those of its pool is the one of its own plain archive.
use Rattle.std.proofs.Common.{◌≡◌, ℕ, List, [], ◌∷◌, map, refl, sym, ap, ap₂, ◌∙◌, subst, inl, inr, Option, Some, None, option_map}
use mathlib.Core.Path.{fun_ext}
use Rattle.std.specs.Prelude.{Contains, unwrap_or}
use Rattle.std.specs.FinMap.{entries, get, get-from_entries, values}
use Rattle.std.proofs.lemmas.List.Elements.{Contains-append_left, Contains-append_right}
use Rattle.std.proofs.lemmas.Grind.{flat_map-append}
use Rattle.std.proofs.lemmas.Option.{same_Some}
use Rattle.sums.proofs.Members.{from_map, here, no_member, there, which, contains_map}
use Rattle.sums.specs.Prints.{print as print_of}
use Rattle.sums.specs.declared.print.Print.{Print}
use Rattle.suites.specs.Items.{FileWith, file_of, file_with}
use Rattle.suites.specs.KeyLemmas.{text_order_total, text_order-IsAntisymmetric}
use Rattle.suites.specs.Pool.{AreAgreed, files_of, pair_of}
use Rattle.suites.specs.Shelves.{ShelvesValue, pool, shown, version_of}
use Rattle.suites.specs.declared.item.Item.{Item}
use Rattle.suites.specs.declared.item.PoolFile.{PoolFile}
use Rattle.suites.specs.declared.key.ShelfKey.{ShelfKey}
use Rattle.suites.proofs.HeldLemmas.{append_nil}
use Rattle.suites.proofs.ShownLemmas.{shown_after-none}
use Rattle.suites.proofs.FileMembers.{member_found, found_member}
use Rattle.book.specs.Book.{Book, HasItsFiles}
use Rattle.history.specs.Archives.{BodyItem, Stands, all_acts, archive, archive_of, book_from, book_of, pool_in, printed, shown_by_print, with_bodies}
use Rattle.history.specs.Answers.{IsFaithful}
use Rattle.history.specs.Histories.{Call, History, arrived, bodies_of, bodies_of_call, calls_of}
use Rattle.history.proofs.Contents.{pool_item, shown_member}
use Rattle.history.proofs.Known.{apart_with_empty, known}
use Rattle.history.proofs.PoolPrints.{get-pool}

-- the body that a book has at a path; if it has none, no bytes
abbrev body_in : Book → List ℕ → List ℕ
body_in book path = unwrap_or (book.files path) []

-- a file of an item with that body
abbrev whole_file : Book → PoolFile → FileWith (List ℕ)
whole_file book f = record { path = f.path; contents = body_in book f.path }

-- an entry of the shelves with the bodies of its files
abbrev whole_entry : Book → ShelfKey × Item → ShelfKey × BodyItem
whole_entry book e = (e.0, with_bodies book e.1)

file_within : (items : List Item) (i : Item) (f : PoolFile) → Contains items i → Contains i.files f → Contains (files_of items) (pair_of f)
file_within [] i f at k = no_member i at
file_within (j ∷ items) i f at k = elim (which j i items at) [
  | inl is ↦ Contains-append_left (map pair_of j.files) (files_of items) (pair_of f)
      (contains_map pair_of f j.files (subst (λ (x : Item). Contains x.files f) (sym is) k))
  | inr rest ↦ Contains-append_right (map pair_of j.files) (files_of items) (pair_of f) (file_within items i f rest k)
]

-- two files are equal, if they have equal prints and are bodies of these
same_files : (o p : Option (List ℕ)) → option_map print_of o ≡ option_map print_of p → ((body : List ℕ) → o ≡ Some body → body ≡ unwrap_or p []) → p ≡ o
same_files None None e h = refl
same_files None (Some b) e h = cc
same_files (Some a) None e h = cc
same_files (Some a) (Some b) e h = sym (ap Some (h a refl))

body_print : (o : Option (List ℕ)) (p : Print) → Some p ≡ option_map print_of o → print_of (unwrap_or o []) ≡ p
body_print None p e = cc
body_print (Some body) p e = sym (same_Some p (print_of body) e)

module _ (book : Book) (its : HasItsFiles book) where
  -- a file of a shown item is in the pool with its print
  pooled : (f : List ℕ × Print) → Contains (files_of (values book.shown)) f → get (pool book.shown) f.0 ≡ Some f.1
  pooled f at =
      let files = files_of (values book.shown) in
      let found = found_member text_order_total f.0 f.1 files at in
      let theirs : Contains files (f.0, found.0) = member_found text_order-IsAntisymmetric f.0 found.0 files found.1 in
      get-from_entries text_order_total files f.0 ∙ found.1 ∙ ap Some (its.agreed f.0 found.0 f.1 theirs at)

  -- the body at the path of a file has its print
  has_print : (e : ShelfKey × Item) → Contains (entries book.shown) e → (f : PoolFile) → Contains e.1.files f → print_of (body_in book f.path) ≡ f.print
  has_print e at f k =
      let mine = file_within (values book.shown) e.1 f (contains_map (λ (x : ShelfKey × Item). x.1) e (entries book.shown) at) k in
      body_print (book.files f.path) f.print (sym (pooled (pair_of f) mine) ∙ its.files f.path)

  files_back : (fs : List PoolFile) → ((f : PoolFile) → Contains fs f → print_of (body_in book f.path) ≡ f.print)
      → map file_of (map (file_with print_of) (map (whole_file book) fs)) ≡ fs
  files_back [] h = refl
  files_back (f ∷ fs) h =
      let first : file_of (file_with print_of (whole_file book f)) ≡ f = ap (λ p. record f { print = p }) (h f (here f fs)) in
      ap₂ (λ (x : PoolFile) (xs : List PoolFile). x ∷ xs) first (files_back fs (λ g k. h g (there f g fs k)))

  -- by prints an entry is what it was before
  entry_back : (e : ShelfKey × Item) → Contains (entries book.shown) e → printed (whole_entry book e) ≡ e
  unfolding with_bodies
  entry_back e at = ap (λ (fs : List PoolFile). (e.0, record e.1 { files = fs })) (files_back e.1.files (has_print e at))

  all_back : (es : List (ShelfKey × Item)) → ((e : ShelfKey × Item) → Contains es e → Contains (entries book.shown) e) → map printed (map (whole_entry book) es) ≡ es
  all_back [] h = refl
  all_back (e ∷ es) h =
      ap₂ (λ (x : ShelfKey × Item) (xs : List (ShelfKey × Item)). x ∷ xs) (entry_back e (h e (here e es))) (all_back es (λ f k. h f (there e f es k)))

  shown_back : shown_by_print (archive_of book) ≡ book.shown
  unfolding shown_by_print archive_of
  shown_back =
      ap (shown version_of) (all_back (entries book.shown) (λ e k. k))
      ∙ sym (ap (shown version_of) (append_nil (entries book.shown)))
      ∙ shown_after-none version_of book.shown

  -- a body of the plain archive's pool is the one that the book has there
  own_body : (path body : List ℕ) → get (pool_in (archive_of book)) path ≡ Some body → body ≡ body_in book path
  unfolding archive_of with_bodies
  own_body path body h =
      let m = pool_item (archive_of book) path body h in
      let e = from_map (whole_entry book) m.0 (entries book.shown) (shown_member (archive_of book).admitted m.0 m.1) in
      let file = m.2 in
      let in_item : Contains (whole_entry book e.0).1.files file.0 = subst (λ (x : ShelfKey × BodyItem). Contains x.1.files file.0) (sym e.2) file.1 in
      let f = from_map (whole_file book) file.0 e.0.1.files in_item in
      let is : (f.0.path, body_in book f.0.path) ≡ (path, body) = ap (λ (x : FileWith (List ℕ)). (x.path, x.contents)) f.2 ∙ file.2 in
      sym (ap (λ (p : List ℕ × List ℕ). p.1) is) ∙ ap (λ (p : List ℕ × List ℕ). body_in book p.0) is

  files_back_all : book.files ≡ get (pool_in (archive_of book))
  files_back_all = fun_ext (λ path.
      same_files (get (pool_in (archive_of book)) path) (book.files path)
      (sym (get-pool (archive_of book) path) ∙ ap (λ (s : ShelvesValue). get (pool s) path) shown_back ∙ its.files path)
      (own_body path))

  pub opens_itself : Stands book (record { opening = book; steps = [] })
  unfolding book_of book_from archive all_acts arrived archive_of
  opens_itself = ap₂ (λ (s : ShelvesValue) (f : List ℕ → Option (List ℕ)). record book { shown = s; files = f }) (sym shown_back) files_back_all

-- the book that a history leaves has its files
pub book_of-files : (h : History) → AreAgreed (files_of (values (book_of h).shown)) → HasItsFiles (book_of h)
unfolding book_of book_from
book_of-files h agreed = record { agreed = agreed; files = get-pool (archive h) }

-- A history may go on from the book that another leaves.
pub goes_on : (h : History) (calls : List Call) → AreAgreed (files_of (values (book_of h).shown)) → IsFaithful h calls → IsFaithful (record { opening = book_of h; steps = [] }) calls
goes_on h calls agreed faithful = record {
  bodies = [] ∷ faithful.bodies;
  apart = apart_with_empty faithful.bodies faithful.apart;
  opened = record { known = known h calls faithful; whole = opens_itself (book_of h) (book_of-files h agreed) };
  delivered = λ body at. there [] body faithful.bodies (faithful.delivered body
      (subst (λ (bs : List (List ℕ)). Contains bs body) (sym (flat_map-append bodies_of_call (calls_of h.steps) calls))
      (Contains-append_right (bodies_of (calls_of h.steps)) (bodies_of calls) body at)));
}
