-- Tables keep one archive.
use Rattle.std.proofs.Common.{◌≡◌, ◌≢◌, ◌<◌, ℕ, suc, ◌+◌, true, List, [], ◌∷◌, length, map, slice_get, find, Option, Some, None, Ok, refl, sym, ap, subst, ◌∙◌, arith, inl, inr}
use Rattle.std.proofs.lemmas.Bool.{cases_lt}
use Rattle.std.proofs.lemmas.Option.{same_Some}
use Rattle.std.specs.FinMap.{get, entries, same_map}
use Rattle.std.specs.List.{All, enumerate_from, zip}
use Rattle.std.specs.Prelude.{AllPairs, Contains, IsPermutation}
use Rattle.std.proofs.lemmas.List.Sorted.{Contains-permutation, IsPermutation-sym, IsPermutation-trans}
use Rattle.std.specs.Option.{option_and_then, option_map}
use Rattle.book.specs.declared.change.Judgement.{Judgement}
use Rattle.rules.specs.Configuration.{config_in}
use Rattle.rules.specs.Values.{ConfigValue}
use Rattle.rules.proofs.VerdictNumbers.{same_verdict}
use Rattle.rules.specs.declared.suite.Suite.{Suite}
use Rattle.suites.specs.Items.{IsAtHome, standing}
use Rattle.suites.specs.KeyLemmas.{key_order_total, key_order-IsAntisymmetric}
use Rattle.suites.specs.Shelves.{ShelvesValue}
use Rattle.suites.specs.declared.item.Item as shelf
use Rattle.suites.specs.declared.item.PoolFile.{PoolFile}
use Rattle.suites.specs.declared.key.ShelfKey.{ShelfKey}
use Rattle.suites.proofs.FileMembers.{entry_shown}
use Rattle.suites.proofs.ListMembers.{from_zip}
use Rattle.sums.proofs.Members.{all_at, from_map, here, pairs_head, pairs_tail, there, which}
use Rattle.indices.proofs.Paths.{config_codenames}
use Rattle.tables.specs.Rows.{Tables}
use Rattle.tables.specs.declared.rows.Date.{Date}
use Rattle.tables.specs.declared.rows.ItemRow.{ItemRow}
use Rattle.tables.specs.declared.rows.Meta.{Meta}
use Rattle.tables.specs.declared.rows.Ref.{Ref}
use Rattle.tables.specs.declared.rows.UploadRow.{UploadRow}
use Rattle.tables_meaning.specs.Kept.{AreItems, AreUploads, IsBook, book_in, date_row, is_on, item_row, judged_row, refs_for, shown_row, ref_for}

-- ---- lists and what may be absent

pub first_same : {X : Type 0} (x y : X) (xs ys : List X) → x ∷ xs ≡ y ∷ ys → x ≡ y
first_same x y xs ys e = cc

pub rest_same : {X : Type 0} (x y : X) (xs ys : List X) → x ∷ xs ≡ y ∷ ys → xs ≡ ys
rest_same x y xs ys e = cc

-- two lists with the same elements at all places are equal
pub same_places : {X : Type 0} (xs ys : List X) → ((n : ℕ) → slice_get xs n ≡ slice_get ys n) → xs ≡ ys
same_places [] [] h = refl
same_places [] (y ∷ ys) h = let e : None ≡ Some y = h 0 in cc
same_places (x ∷ xs) [] h = let e : Some x ≡ None = h 0 in cc
same_places (x ∷ xs) (y ∷ ys) h =
    let one : x ≡ y = same_Some x y (h 0) in
    let more : xs ≡ ys = same_places xs ys (λ n. h (suc n)) in
    λ i. one i ∷ more i

-- two options are equal if a function that keeps their values apart makes them equal
pub same_option : {X Y : Type 0} (f : X → Y) (o p : Option X) → ((x y : X) → o ≡ Some x → p ≡ Some y → f x ≡ f y → x ≡ y) → option_map f o ≡ option_map f p → o ≡ p
same_option f None None one e = refl
same_option f None (Some y) one e = cc
same_option f (Some x) None one e = cc
same_option f (Some x) (Some y) one e = ap Some (one x y refl refl (same_Some (f x) (f y) e))

-- ---- judged uploads

same_judgement : (n : ℕ) (a b : Judgement) → judged_row n a ≡ judged_row n b → a ≡ b
same_judgement n a b e =
    let name : a.name ≡ b.name = ap (λ (u : UploadRow). u.name) e in
    let print : a.print ≡ b.print = ap (λ (u : UploadRow). u.print) e in
    let verdict : a.verdict ≡ b.verdict = same_verdict a.verdict b.verdict (same_Some _ _ (ap (λ (u : UploadRow). u.verdict) e)) in
    λ i. record { name = name i; print = print i; verdict = verdict i }

pub same_judged : (t : Tables) (judged others : List Judgement) → AreUploads t judged → AreUploads t others → judged ≡ others
same_judged t judged others h k =
    same_places judged others
    (λ n. same_option (judged_row (n + 1)) (slice_get judged n) (slice_get others n) (λ a b p q e. same_judgement (n + 1) a b e) (sym (h.places n) ∙ k.places n))

-- ---- items

same_files : (id n : ℕ) (fs gs : List PoolFile) → map (ref_for id) (enumerate_from n fs) ≡ map (ref_for id) (enumerate_from n gs) → fs ≡ gs
same_files id n [] [] e = refl
same_files id n [] (g ∷ gs) e = cc
same_files id n (f ∷ fs) [] e = cc
same_files id n (f ∷ fs) (g ∷ gs) e =
    let row : ref_for id (n, f) ≡ ref_for id (n, g) = first_same _ _ _ _ e in
    let path : f.path ≡ g.path = ap (λ (r : Ref). r.path) row in
    let print : f.print ≡ g.print = ap (λ (r : Ref). r.print) row in
    let more : fs ≡ gs = same_files id (n + 1) fs gs (rest_same _ _ _ _ e) in
    λ i. record { path = path i; print = print i } ∷ more i

-- items of one shelf, each on its own, that have the same rows under one number
same_item : (suites : List Suite) (key : ShelfKey) (id : ℕ) (x y : shelf.Item) → IsAtHome (key, x) → IsAtHome (key, y) → shown_row suites key id x ≡ shown_row suites key id y → x ≡ y
unfolding refs_for
same_item suites key id x y own other e =
    let keys : (standing key.suite x).0 ≡ (standing key.suite y).0 = sym (ap (λ (p : ShelfKey × shelf.Item). p.0) own) ∙ ap (λ (p : ShelfKey × shelf.Item). p.0) other in
    let row : item_row suites (key, x) ≡ item_row suites (key, y) = ap (λ (p : ItemRow × List Ref). p.0) e in
    let kind : x.kind ≡ y.kind = ap (λ (k : ShelfKey). k.kind) keys in
    let name : x.«package» ≡ y.«package» = ap (λ (k : ShelfKey). k.«package») keys in
    let architecture : x.architecture ≡ y.architecture = ap (λ (k : ShelfKey). k.architecture) keys in
    let version : x.version ≡ y.version = ap (λ (r : ItemRow). r.version) row in
    let component : x.component ≡ y.component = ap (λ (r : ItemRow). r.component) row in
    let source : x.source ≡ y.source = ap (λ (r : ItemRow). r.source) row in
    let paragraph : x.paragraph ≡ y.paragraph = ap (λ (r : ItemRow). r.paragraph) row in
    let files : x.files ≡ y.files = same_files id 1 x.files y.files (ap (λ (p : ItemRow × List Ref). p.1) e) in
    λ i. record {
      kind = kind i;
      «package» = name i;
      architecture = architecture i;
      version = version i;
      component = component i;
      source = source i;
      paragraph = paragraph i;
      files = files i;
    }

-- if one search finds nothing, the other finds nothing
nothing : {X Y : Type 0} (o : Option X) (p : Option Y) → o ≡ None → option_map (λ _. true) o ≡ option_map (λ _. true) p → p ≡ None
nothing o None e h = refl
nothing o (Some y) e h = let both : None ≡ Some true = sym (ap (option_map (λ _. true)) e) ∙ h in cc

not_within : (suites : List Suite) (shown : ShelvesValue) (key : ShelfKey) → ((item : shelf.Item) → get shown key ≡ Some item → key.suite < length suites) → (key.suite < length suites → ⊥) → get shown key ≡ None
not_within suites shown key within beyond = by_case (get shown key) refl
  where
    by_case : (o : Option shelf.Item) → get shown key ≡ o → o ≡ None
    by_case None e = refl
    by_case (Some item) e = absurd (beyond (within item e))

module _ (t : Tables) (suites : List Suite) (shown others : ShelvesValue) (h : AreItems t suites shown) (k : AreItems t suites others)
    (home : All IsAtHome (entries shown)) (others_home : All IsAtHome (entries others)) (key : ShelfKey) where
  same_within : key.suite < length suites → (o : Option (ℕ × ItemRow)) → find (is_on suites key) t.items ≡ o → get shown key ≡ get others key
  same_within below None e = nothing _ (get shown key) e (h.all key below) ∙ sym (nothing _ (get others key) e (k.all key below))
  same_within below (Some x) e =
      let as_row : Option (ℕ × ItemRow) → ShelvesValue → Option (ItemRow × List Ref) = λ o m. option_and_then (λ (y : ℕ × ItemRow). option_map (shown_row suites key y.0) (get m key)) o in
      let same : option_map (shown_row suites key x.0) (get shown key) ≡ option_map (shown_row suites key x.0) (get others key) =
      sym (ap (λ o. as_row o shown) e) ∙ sym (h.are key below) ∙ k.are key below ∙ ap (λ o. as_row o others) e in
      same_option (shown_row suites key x.0) (get shown key) (get others key)
      (λ a b p q. same_item suites key x.0 a b (all_at IsAtHome (entries shown) (key, a) home (entry_shown shown key a p)) (all_at IsAtHome (entries others) (key, b) others_home (entry_shown others key b q)))
      same

  same_shelf : get shown key ≡ get others key
  same_shelf = elim (cases_lt key.suite (length suites)) [
    | inl below ↦ same_within below (find (is_on suites key) t.items) refl
    | inr beyond ↦ not_within suites shown key (h.within key) (λ below. absurd (omega arith)) ∙ sym (not_within suites others key (k.within key) (λ below. absurd (omega arith)))
  ]

pub same_shown : (t : Tables) (suites : List Suite) (shown others : ShelvesValue) → AreItems t suites shown → AreItems t suites others → All IsAtHome (entries shown) → All IsAtHome (entries others) → shown ≡ others
same_shown t suites shown others h k home others_home = same_map key_order_total key_order-IsAntisymmetric shown others (same_shelf t suites shown others h k home others_home)

-- ---- dates

-- a row of a suite whose codename none of these suites has is not a row of their dates
pub no_date : (codename : List ℕ) (suites : List Suite) (dates : List ℕ) (r : Date) → All (λ u. codename ≢ u.codename) suites → Contains (map date_row (zip suites dates)) r → r.suite ≡ codename → ⊥
no_date codename suites dates r others at same =
    let from = from_map date_row r (zip suites dates) at in
    all_at (λ (u : Suite). codename ≢ u.codename) suites from.0.0 others (from_zip from.0 suites dates from.1) (sym same ∙ sym (ap (λ (x : Date). x.suite) from.2))

-- dates are equal if they have the same rows, in whatever order
dates_by_rows : (suites : List Suite) (dates others : List ℕ) → AllPairs (λ s u. s.codename ≢ u.codename) suites → length dates ≡ length suites → length others ≡ length suites
    → ((r : Date) → Contains (map date_row (zip suites dates)) r → Contains (map date_row (zip suites others)) r) → dates ≡ others
dates_by_rows [] [] [] apart m n h = refl
dates_by_rows [] [] (d ∷ ds) apart m n h = absurd (omega arith)
dates_by_rows [] (d ∷ ds) others apart m n h = absurd (omega arith)
dates_by_rows (s ∷ ss) [] others apart m n h = absurd (omega arith)
dates_by_rows (s ∷ ss) (d ∷ ds) [] apart m n h = absurd (omega arith)
dates_by_rows (s ∷ ss) (d ∷ ds) (c ∷ cs) apart m n h =
    let differ : All (λ (u : Suite). s.codename ≢ u.codename) ss = pairs_head (λ (s u : Suite). s.codename ≢ u.codename) s ss apart in
    let one : d ≡ c = elim (which (date_row (s, c)) (date_row (s, d)) (map date_row (zip ss cs)) (h (date_row (s, d)) (here (date_row (s, d)) (map date_row (zip ss ds))))) [
      | inl is ↦ sym (ap (λ (r : Date). r.moment) is)
      | inr later ↦ absurd (no_date s.codename ss cs (date_row (s, d)) differ later refl)
    ] in
    let more : ds ≡ cs =
    dates_by_rows ss ds cs (pairs_tail (λ (s u : Suite). s.codename ≢ u.codename) s ss apart) (omega arith) (omega arith)
    (λ r at. elim (which (date_row (s, c)) r (map date_row (zip ss cs)) (h r (there (date_row (s, d)) r (map date_row (zip ss ds)) at))) [
      | inl is ↦ absurd (no_date s.codename ss ds r differ at (sym (ap (λ (x : Date). x.suite) is)))
      | inr later ↦ later
    ]) in
    λ i. one i ∷ more i

pub same_dates : (suites : List Suite) (dates others : List ℕ) → AllPairs (λ s u. s.codename ≢ u.codename) suites → length dates ≡ length suites → length others ≡ length suites
    → IsPermutation (map date_row (zip suites dates)) (map date_row (zip suites others)) → dates ≡ others
same_dates suites dates others apart m n same = dates_by_rows suites dates others apart m n (λ r at. Contains-permutation _ _ r same at)

-- ---- the archive

-- tables are those of one configuration text
pub one_text : (t : Tables) (config other : ConfigValue) (judged judged_too : List Judgement) (shown shown_too : ShelvesValue) (dates dates_too : List ℕ)
    → IsBook t config judged shown dates → IsBook t other judged_too shown_too dates_too → config.text ≡ other.text
one_text t config other judged judged_too shown shown_too dates dates_too h k = ap (λ (m : Meta). m.configuration) (first_same _ _ _ _ (sym h.meta ∙ k.meta))

-- Tables keep one archive of a configuration, if each item stands on its own shelf.
pub one_archive : (t : Tables) (config : ConfigValue) (judged judged_too : List Judgement) (shown shown_too : ShelvesValue) (dates dates_too : List ℕ)
    → IsBook t config judged shown dates → IsBook t config judged_too shown_too dates_too → All IsAtHome (entries shown) → All IsAtHome (entries shown_too)
    → (judged ≡ judged_too) × (shown ≡ shown_too) × (dates ≡ dates_too)
one_archive t config judged judged_too shown shown_too dates dates_too h k home home_too = (
  same_judged t judged judged_too h.uploads k.uploads,
  same_shown t config.suites shown shown_too h.items k.items home home_too,
  same_dates config.suites dates dates_too (config_codenames config h.read) h.dated k.dated (IsPermutation-trans _ _ _ (IsPermutation-sym _ _ h.date_rows) k.date_rows),
)

-- one text is one configuration
pub one_configuration : (config other : ConfigValue) → config_in config.text ≡ Ok config → config_in other.text ≡ Ok other → config.text ≡ other.text → config ≡ other
one_configuration config other h k e = let both : Ok config ≡ Ok other = sym h ∙ ap config_in e ∙ k in cc

-- Tables keep one book, if the configurations are those of their texts and each item stands on its own shelf.
pub one_book : (t : Tables) (config config_too : ConfigValue) (judged judged_too : List Judgement) (shown shown_too : ShelvesValue) (dates dates_too : List ℕ)
    → IsBook t config judged shown dates → IsBook t config_too judged_too shown_too dates_too → config_in config.text ≡ Ok config → config_in config_too.text ≡ Ok config_too
    → All IsAtHome (entries shown) → All IsAtHome (entries shown_too)
    → book_in config judged shown dates t ≡ book_in config_too judged_too shown_too dates_too t
one_book t config config_too judged judged_too shown shown_too dates dates_too h k read read_too home home_too =
    let one : config_too ≡ config = one_configuration config_too config read_too read (one_text t config_too config judged_too judged shown_too shown dates_too dates k h) in
    let parts = one_archive t config judged judged_too shown shown_too dates dates_too h (subst (λ (c : ConfigValue). IsBook t c judged_too shown_too dates_too) one k) home home_too in
    λ i. book_in (sym one i) (parts.0 i) (parts.1 i) (parts.2 i) t
