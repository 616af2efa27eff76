-- The files of the book after uploads are those of the pool of the plain archive, and it has a body for each.
use Rattle.std.proofs.Common.{◌≡◌, ◌⊎◌, ℕ, Bool, true, false, cond, List, [], ◌∷◌, ◌++◌, map, find, Option, Some, None, option_map, option_and_then, refl, sym, ap, ◌∙◌, subst, inl, inr}
use Rattle.std.specs.Prelude.{Contains, IsTrue, is_some, ⊤}
use Rattle.std.specs.FinMap.{entries, get, values, get-from_entries}
use Rattle.std.specs.Option.{option_or}
use mathlib.Core.Path.{fun_ext}
use Rattle.std.proofs.lemmas.List.Elements.{Contains-append_cases, Contains-append_left, Contains-append_right}
use Rattle.std.proofs.lemmas.Option.{same_Some}
use Rattle.book.specs.Book.{Book, amended, files_showing, stored_body}
use Rattle.book.specs.Keeping.{HasEachBody, NoCollision}
use Rattle.book.specs.declared.arrival.Arrival.{Arrival}
use Rattle.book.specs.declared.change.Change.{Change}
use Rattle.book.proofs.Prints.{same_print-Decides}
use Rattle.rules.specs.Judgement.{component}
use Rattle.rules.specs.Values.{ConfigValue}
use Rattle.rules.specs.declared.verdict.Verdict.TheVariants.{Accepted}
use Rattle.sums.proofs.Members.{there, which, no_member, any_true, contains_map}
use Rattle.sums.specs.Prints.{print as print_of, same_print}
use Rattle.sums.specs.declared.print.Print.{Print}
use Rattle.suites.proofs.Prints.{same_print-equal}
use Rattle.suites.specs.Items.{Admitted, FileWith}
use Rattle.suites.specs.KeyLemmas.{text_order_total, text_order-IsAntisymmetric}
use Rattle.suites.specs.Plan.{admitted_if}
use Rattle.suites.specs.Pool.{AreAgreed, files_of, files_with}
use Rattle.suites.specs.Shelves.{ShelvesValue, pool, shown}
use Rattle.suites.proofs.ShownLemmas.{shown_after-shown}
use Rattle.suites.specs.Upload.{file_at, items_of}
use Rattle.suites.proofs.FileMembers.{member_found, found_member}
use Rattle.history.specs.Archives.{BodyItem, PlainArchive, WholeUpload, book_from, by_body, contents_of, items_given, pool_in, shown_by_print, shown_in, version_with, whole, with_admitted}
use Rattle.history.proofs.Contents.{AreMadeOf, admitted_if_member, given_member, pool_item, pool_known, shown_member}
use Rattle.history.proofs.ContentsListed.{HasItsBodies}
use Rattle.history.proofs.ContentsWhole.{found_by}
use Rattle.history.proofs.ItemPrints.{verdict_in}
use Rattle.history.proofs.ItemPrintsFiles.{items_listed}
use Rattle.history.proofs.ItemPrintsRows.{listed_contents, no_row_applies}
use Rattle.history.proofs.PoolPrints.{files-shown_by_print, get-pool, printed_file}
use Rattle.history.proofs.Simulation.{AreSimulated, handed}

-- a body of one of the arrivals
abbrev pub HasCome : List Arrival → List ℕ → Type 0
HasCome arrivals body = (a : Arrival) × Contains arrivals a × (a.body ≡ body)

-- the file's body has arrived, or the pool has it at the file's path
abbrev pub IsStored : List Arrival → PlainArchive → FileWith (List ℕ) → Type 0
IsStored arrivals a file = HasCome arrivals file.contents ⊎ (get (pool_in a) file.path ≡ Some file.contents)

abbrev pub AreStored : List Arrival → PlainArchive → List (Admitted (List ℕ)) → Type 0
AreStored arrivals a items = (e : Admitted (List ℕ)) → Contains items e → (file : FileWith (List ℕ)) → Contains e.1.files file → IsStored arrivals a file

-- ---- what is shown has its files in the pool

file_in : (items : List BodyItem) (i : BodyItem) (file : FileWith (List ℕ)) → Contains items i → Contains i.files file → Contains (files_with items) (file.path, file.contents)
file_in [] i file at k = no_member i at
file_in (j ∷ items) i file at k = elim (which j i items at) [
  | inl is ↦ Contains-append_left (map (λ f. (f.path, f.contents)) j.files) (files_with items) (file.path, file.contents)
      (contains_map (λ (f : FileWith (List ℕ)). (f.path, f.contents)) file j.files (subst (λ (x : BodyItem). Contains x.files file) (sym is) k))
  | inr rest ↦ Contains-append_right (map (λ f. (f.path, f.contents)) j.files) (files_with items) (file.path, file.contents) (file_in items i file rest k)
]

-- if the shown items agree on the contents at each path
pub shown_stored : (bodies : List (List ℕ)) (arrivals : List Arrival) (a : PlainArchive) → NoCollision bodies → AreMadeOf bodies a.admitted → AreAgreed (files_of (values (shown_by_print a)))
    → AreStored arrivals a (entries (shown_in a))
shown_stored bodies arrivals a apart made agreed e at file k =
    let files = files_with (values (shown_in a)) in
    let mine : Contains files (file.path, file.contents) = file_in (values (shown_in a)) e.1 file (contains_map (λ (x : Admitted (List ℕ)). x.1) e (entries (shown_in a)) at) k in
    let found = found_member text_order_total file.path file.contents files mine in
    let held : get (pool_in a) file.path ≡ Some found.0 = get-from_entries text_order_total files file.path ∙ found.1 in
    let theirs : Contains files (file.path, found.0) = member_found text_order-IsAntisymmetric file.path found.0 files found.1 in
    let printed = λ (body : List ℕ) (h : Contains files (file.path, body)). subst (λ (fs : List (List ℕ × Print)). Contains fs (file.path, print_of body)) (sym (files-shown_by_print a)) (contains_map printed_file (file.path, body) files h) in
    let prints : print_of found.0 ≡ print_of file.contents = agreed file.path (print_of found.0) (print_of file.contents) (printed found.0 theirs) (printed file.contents mine) in
    let same : found.0 ≡ file.contents = apart found.0 file.contents (pool_known bodies a made file.path found.0 held) (made e (shown_member a.admitted e at) file k) prints in
    inr (held ∙ ap Some same)

-- ---- uploads

pool_stored : (arrivals : List Arrival) (a b : PlainArchive) → AreStored arrivals a (entries (shown_in b)) → (file : FileWith (List ℕ)) → get (pool_in b) file.path ≡ Some file.contents → IsStored arrivals a file
pool_stored arrivals a b stored file h =
    let m = pool_item b file.path file.contents h in
    let found = m.2 in
    let same : found.0 ≡ file = λ i. record { path = (found.2 i).0; contents = (found.2 i).1 } in
    subst (IsStored arrivals a) same (stored m.0 m.1 found.0 found.1)

given_stored : (arrivals : List Arrival) (config : ConfigValue) (a b : PlainArchive) (w : WholeUpload) → AreStored arrivals a (entries (shown_in b)) → HasItsBodies w
    → ((body : List ℕ) → Contains w.bodies body → HasCome arrivals body) → verdict_in config b w ≡ Accepted → AreStored arrivals a (items_given config b w)
unfolding items_given
given_stored arrivals config a b w stored its come accepted e at file k =
    let rows = no_row_applies (by_body w) (pool_in b) config w.upload accepted in
    let m = items_listed (contents_of w (pool_in b)) w.upload (component w.upload.changes) e.1 file
    (given_member config w.upload (items_of (contents_of w (pool_in b)) w.upload (component w.upload.changes)) e at) k in
    subst (IsStored arrivals a) m.2 (elim (listed_contents _ w (pool_in b) m.0 its rows m.1).from [
      | inl mine ↦ inl (come (contents_of w (pool_in b) m.0) mine)
      | inr held ↦ pool_stored arrivals a b stored (file_at (contents_of w (pool_in b)) w.upload.changes (component w.upload.changes) m.0) held
    ])

pub more_stored : (arrivals : List Arrival) (a : PlainArchive) (xs ys : List (Admitted (List ℕ))) → AreStored arrivals a (entries (shown version_with xs)) → AreStored arrivals a ys
    → AreStored arrivals a (entries (shown version_with (xs ++ ys)))
more_stored arrivals a xs ys p q e at =
    elim (Contains-append_cases (entries (shown version_with xs)) ys e
    (shown_member (entries (shown version_with xs) ++ ys) e (subst (λ m. Contains (entries m) e) (sym (shown_after-shown version_with xs ys)) at))) [
      | inl old ↦ p e old
      | inr new ↦ q e new
    ]

whole_stored : (arrivals : List Arrival) (config : ConfigValue) (moment : ℕ) (a b : PlainArchive) (w : WholeUpload) → AreStored arrivals a (entries (shown_in b)) → HasItsBodies w
    → ((body : List ℕ) → Contains w.bodies body → HasCome arrivals body) → AreStored arrivals a (entries (shown_in (whole config moment b w)))
unfolding whole with_admitted
whole_stored arrivals config moment a b w stored its come =
    more_stored arrivals a b.admitted (admitted_if (verdict_in config b w) (items_given config b w)) stored
    (λ e at. let m = admitted_if_member (verdict_in config b w) (items_given config b w) e at in given_stored arrivals config a b w stored its come m.0 e m.1)

-- an upload with its bodies, which have arrived
pub record IsArrived (arrivals : List Arrival) (w : WholeUpload) : Type 0 where
  pub its : HasItsBodies w
  pub come : (body : List ℕ) → Contains w.bodies body → HasCome arrivals body

abbrev pub AreArrived : List Arrival → List WholeUpload → Type 0
AreArrived arrivals [] = ⊤
AreArrived arrivals (w ∷ ws) = IsArrived arrivals w × AreArrived arrivals ws

pub handed_stored : (arrivals : List Arrival) (config : ConfigValue) (moment : ℕ) (a b : PlainArchive) (ws : List WholeUpload) → AreStored arrivals a (entries (shown_in b)) → AreArrived arrivals ws
    → AreStored arrivals a (entries (shown_in (handed config moment b ws)))
handed_stored arrivals config moment a b [] stored h = stored
handed_stored arrivals config moment a b (w ∷ ws) stored h =
    handed_stored arrivals config moment a (whole config moment b w) ws (whole_stored arrivals config moment a b w stored h.0.its h.0.come) h.1

-- ---- the files of the book

-- the bodies of the arrivals are among these
abbrev pub AreFrom : List (List ℕ) → List Arrival → Type 0
AreFrom bodies arrivals = (a : Arrival) → Contains arrivals a → Contains bodies a.body

fitting_one : (bodies : List (List ℕ)) (held body : List ℕ) (found : Option (List ℕ)) → NoCollision bodies → Contains bodies held → Contains bodies body → found ≡ Some body
    → (b : Bool) → same_print (print_of held) (print_of body) ≡ b → option_or (cond b (Some held) None) found ≡ Some body
fitting_one bodies held body found apart p q h true fit = ap Some (apart held body p q (same_print-equal (print_of held) (print_of body) fit))
fitting_one bodies held body found apart p q h false fit = h

-- a body that has arrived is found by its print
come_found : (bodies : List (List ℕ)) (arrivals : List Arrival) (body : List ℕ) → NoCollision bodies → AreFrom bodies arrivals → HasCome arrivals body
    → option_map (λ a. a.body) (find (λ a. same_print (print_of a.body) (print_of body)) arrivals) ≡ Some body
come_found bodies arrivals body apart from come =
    let test = λ (a : Arrival). same_print (print_of a.body) (print_of body) in
    let some = any_true test arrivals come.0 come.1 ((same_print-Decides (print_of (come.0).body) (print_of body)).1 (ap print_of come.2)) in
    let m = found_by test arrivals some (find test arrivals) refl in
    ap (option_map (λ (a : Arrival). a.body)) m.1
    ∙ ap Some (apart (m.0).body body (from m.0 m.2) (subst (λ b. Contains bodies b) come.2 (from come.0 come.1)) (same_print-equal (print_of (m.0).body) (print_of body) m.3))

stored_come : (bodies : List (List ℕ)) (arrivals : List Arrival) (body : List ℕ) → NoCollision bodies → AreFrom bodies arrivals → HasCome arrivals body
    → (held : Option (List ℕ)) → ((there : List ℕ) → held ≡ Some there → Contains bodies there)
    → option_or (option_and_then (λ there. cond (same_print (print_of there) (print_of body)) (Some there) None) held)
    (option_map (λ a. a.body) (find (λ a. same_print (print_of a.body) (print_of body)) arrivals)) ≡ Some body
stored_come bodies arrivals body apart from come None known = come_found bodies arrivals body apart from come
stored_come bodies arrivals body apart from come (Some there) known =
    fitting_one bodies there body _ apart (known there refl) (subst (λ b. Contains bodies b) come.2 (from come.0 come.1)) (come_found bodies arrivals body apart from come)
    (same_print (print_of there) (print_of body)) refl

stored_held : (body : List ℕ) (found held : Option (List ℕ)) → held ≡ Some body
    → option_or (option_and_then (λ there. cond (same_print (print_of there) (print_of body)) (Some there) None) held) found ≡ Some body
stored_held body found held h =
    ap (λ o. option_or (option_and_then (λ there. cond (same_print (print_of there) (print_of body)) (Some there) None) o) found) h
    ∙ ap (λ b. option_or (cond b (Some body) None) found) ((same_print-Decides (print_of body) (print_of body)).1 refl)

stored : (bodies : List (List ℕ)) (config : ConfigValue) (arrivals : List Arrival) (a : PlainArchive) → NoCollision bodies → AreFrom bodies arrivals → AreMadeOf bodies a.admitted
    → (file : FileWith (List ℕ)) → IsStored arrivals a file → stored_body (book_from config arrivals a) file.path (print_of file.contents) ≡ Some file.contents
unfolding stored_body book_from
stored bodies config arrivals a apart from made file (inl come) =
    stored_come bodies arrivals file.contents apart from come (get (pool_in a) file.path) (λ there h. pool_known bodies a made file.path there h)
stored bodies config arrivals a apart from made file (inr held) =
    stored_held file.contents (option_map (λ x. x.body) (find (λ x. same_print (print_of x.body) (print_of file.contents)) arrivals)) (get (pool_in a) file.path) held

showing : (book : Book) (b : PlainArchive) (path : List ℕ) (held : Option (List ℕ)) → get (pool_in b) path ≡ held
    → ((body : List ℕ) → held ≡ Some body → stored_body book path (print_of body) ≡ Some body)
    → option_and_then (stored_body book path) (option_map print_of held) ≡ held
showing book b path None h there = refl
showing book b path (Some body) h there = there body refl

-- If the suites show what the archive shows, the files of the book are those of its pool.
pub files-showing : (bodies : List (List ℕ)) (config : ConfigValue) (arrivals : List Arrival) (a b : PlainArchive) → NoCollision bodies → AreFrom bodies arrivals → AreMadeOf bodies a.admitted
    → AreStored arrivals a (entries (shown_in b)) → (path : List ℕ) → files_showing (book_from config arrivals a) (shown_by_print b) path ≡ get (pool_in b) path
files-showing bodies config arrivals a b apart from made kept path =
    ap (option_and_then (stored_body (book_from config arrivals a) path)) (get-pool b path)
    ∙ showing (book_from config arrivals a) b path (get (pool_in b) path) refl
    (λ body h. stored bodies config arrivals a apart from made (record { path = path; contents = body }) (pool_stored arrivals a b kept (record { path = path; contents = body }) h))

-- ---- the book after uploads

-- THE BOOK after the steps is that of the plain archive to which the uploads were handed.
pub amended-simulated : (bodies : List (List ℕ)) (config : ConfigValue) (arrivals : List Arrival) (a b : PlainArchive) (change : Change) → NoCollision bodies → AreFrom bodies arrivals
    → AreMadeOf bodies a.admitted → AreStored arrivals a (entries (shown_in b)) → AreSimulated change.moment a change.steps b
    → amended (book_from config arrivals a) change ≡ book_from config arrivals b
unfolding amended book_from
amended-simulated bodies config arrivals a b change apart from made kept is =
    let files = ap (files_showing (book_from config arrivals a)) is.shown ∙ fun_ext (files-showing bodies config arrivals a b apart from made kept) in
    λ i. record {
      config = config;
      arrivals = arrivals;
      judged = is.judged i;
      shown = is.shown i;
      files = files i;
      dates = is.dates i;
    }

-- ---- a body for each file

has_body : (book : Book) (path : List ℕ) (print : Print) (held : Option (List ℕ)) → option_map print_of held ≡ Some print
    → ((body : List ℕ) → held ≡ Some body → stored_body book path (print_of body) ≡ Some body) → IsTrue (is_some (stored_body book path print))
has_body book path print None is there = absurd (cc)
has_body book path print (Some body) is there =
    ap (λ (o : Option (List ℕ)). is_some o) (ap (stored_body book path) (sym (same_Some (print_of body) print is)) ∙ there body refl)

-- THE BOOK has a body for each file that the pool of the plain archive has after the steps.
pub bodies-simulated : (bodies : List (List ℕ)) (config : ConfigValue) (arrivals : List Arrival) (a b : PlainArchive) (change : Change) → NoCollision bodies → AreFrom bodies arrivals
    → AreMadeOf bodies a.admitted → AreStored arrivals a (entries (shown_in b)) → AreSimulated change.moment a change.steps b
    → HasEachBody (book_from config arrivals a) change
unfolding book_from
bodies-simulated bodies config arrivals a b change apart from made kept is path print at =
    has_body (book_from config arrivals a) path print (get (pool_in b) path)
    (sym (get-pool b path) ∙ ap (λ (s : ShelvesValue). get (pool s) path) (sym is.shown) ∙ at)
    (λ body held. let file : FileWith (List ℕ) = record { path = path; contents = body } in
    stored bodies config arrivals a apart from made file (pool_stored arrivals a b kept file held))
