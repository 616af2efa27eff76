-- Uploads and what they want, as lists of rows and of requests.
use Rattle.std.proofs.Common.{◌≡◌, ◌≢◌, ◌⊎◌, inl, inr, ℕ, zero, suc, ◌+◌, ◌<◌, Bool, true, false, not, ◌&&◌, ◌||◌, cond, nat_eq, List, [], ◌∷◌, ◌++◌, map, filter, find, Option, Some, None, option_map, is_some, slice_get, IsTrue, Decides, bytes_eq, refl, sym, ap, ap₂, subst, ◌∙◌, arith, append-nil, true≢false}
use Rattle.std.specs.List.{AllByRecursion, list_any}
use Rattle.std.specs.Option.{option_map_or}
use Rattle.std.proofs.lemmas.Bool.{and_from, and_parts, both_ways, eq-eqb, eqb-true, ne_eqb, or_cases, or_left, or_parts, or_right}
use Rattle.std.proofs.lemmas.Bool.Decides.{Decides-and, Decides-like, same_from_decides}
use Rattle.std.proofs.lemmas.List.{map-append}
use Rattle.std.proofs.lemmas.List.Folds.{find-append, list_any-append}
use Rattle.std.proofs.lemmas.List.Elements.{filter-append}
use Rattle.std.proofs.lemmas.Slice.Eq.{bytes_eq-Decides}
use Rattle.std.specs.List.Sorted.{IsPermutation}
use Rattle.std.proofs.lemmas.List.Sorted.{IsPermutation-append_left, IsPermutation-map, IsPermutation-trans, list_any-IsPermutation}
use Rattle.std.proofs.Math.Bool.{or-false}
use Rattle.sqlite_trees.specs.Tree.{IsAscending}
use Rattle.sqlite_keyed.specs.Lists.{sort_by as sorted_by}
use Rattle.sqlite_keyed.proofs.SortLemmas.{sort_by-map}
use Rattle.sqlite_keyed.proofs.ListLemmas.{IsPermutation-same, all-append, all-filter, all-map, all_map, all_weaker, ascending-append, filter-map, filter_same, map-map, map_same}
use Rattle.sums.specs.Prints.{same_print}
use Rattle.sums.specs.declared.print.Print.{Print}
use Rattle.sums.proofs.Words.{list_any-map}
use Rattle.book.specs.Keeping.{sign_on}
use Rattle.book.specs.declared.change.Judgement.{Judgement}
use Rattle.book.proofs.Prints.{same_print-Decides}
use Rattle.tables.specs.Rows.{Numbered, Rises, added, next_in, rows_of, first_number}
use Rattle.tables.specs.Uploads.{is_judged as has_place}
use Rattle.tables.specs.Wants.{is_want, is_wanted_by}
use Rattle.tables.specs.declared.rows.UploadRow.{UploadRow}
use Rattle.tables.specs.declared.rows.Want.{Want}
use Rattle.tables.proofs.RowLemmas.{below_next}
use Rattle.suites.proofs.ListTests.{same_tests, list_any-filter, option_or_none}
use Rattle.tables_meaning.specs.Kept.{Request, is_placed, judged_row, sign_in, want_order}
use Rattle.tables_meaning.proofs.Searches.{all_from, map_same_on, any_parts, found_any, slice_any, any_slice}

-- ---- signs

-- a name and a print
abbrev pub Sign : Type 0
Sign = List ℕ × Print

-- the second is the first
abbrev pub is_sign : Sign → Sign → Bool
is_sign s r = bytes_eq r.0 s.0 && same_print r.1 s.1

pub is_sign-Decides : (s r : Sign) → Decides (is_sign s r) (r ≡ s)
is_sign-Decides s r =
    Decides-like (is_sign s r) (λ p i. (p.0 i, p.1 i)) (λ e. (ap (λ x. x.0) e, ap (λ x. x.1) e))
    (Decides-and (bytes_eq r.0 s.0) (same_print r.1 s.1) (bytes_eq-Decides r.0 s.0) (same_print-Decides r.1 s.1))

pub is_sign-turned : (s r : Sign) → is_sign s r ≡ is_sign r s
is_sign-turned s r = same_from_decides {P = r ≡ s} (is_sign s r) (is_sign r s) (is_sign-Decides s r) (Decides-like (is_sign r s) sym sym (is_sign-Decides r s))

-- ---- wants

abbrev pub entry_in : Want → List ℕ × Print × Bool
entry_in w = (w.name, w.print, w.here)

-- the entries of the upload of a number
abbrev pub wants_of : List Want → ℕ → List (List ℕ × Print × Bool)
wants_of wants id = map entry_in (filter (is_wanted_by id) wants)

abbrev pub request : List Want → ℕ × UploadRow → Request
request wants x = (sign_in x.1, sorted_by want_order (wants_of wants x.0))

-- the upload is not judged
abbrev pub is_waiting : ℕ × UploadRow → Bool
is_waiting x = not (has_place x.1)

-- the upload of a number is there and waits
abbrev pub waits_as : ℕ → ℕ × UploadRow → Bool
waits_as id x = nat_eq x.0 id && not (has_place x.1)

-- The rows of the uploads and of their wants are those of these requests and these judged uploads.
pub record AreRows (uploads : Numbered UploadRow) (wants : List Want) (verdicts : List Judgement) (requests : List Request) : Type 0 where
  pub waiting : IsPermutation (map (request wants) (filter is_waiting uploads)) requests
  pub owned : AllByRecursion (λ w. list_any (waits_as w.upload) uploads ≡ true) wants
  pub unjudged : AllByRecursion (λ x. x.1.place ≡ None → x.1.verdict ≡ None) uploads
  pub places : (n : ℕ) → find (is_placed (n + 1)) (rows_of uploads) ≡ option_map (judged_row (n + 1)) (slice_get verdicts n)
  pub from_one : AllByRecursion (λ x. x.1.place ≢ Some 0) uploads
  pub placed_apart : IsAscending (λ x y. IsTrue (has_place x.1) → x.1.place ≢ y.1.place) uploads
  pub apart : IsAscending (λ x y. sign_in x.1 ≢ sign_in y.1) uploads

-- ---- whether an upload is there

placed_at : (m : ℕ) (u : UploadRow) → is_placed m u ≡ true → u.place ≡ Some m
placed_at m u t = go u.place refl t
  where
    go : (o : Option ℕ) → u.place ≡ o → option_map_or (λ p. nat_eq p m) o false ≡ true → u.place ≡ Some m
    go None e h = absurd (true≢false (sym h))
    go (Some p) e h = e ∙ ap Some (eqb-true p m h)

-- the place of one that has one, from 1
placed_somewhere : (p : UploadRow → Bool) (uploads : Numbered UploadRow) → AllByRecursion (λ x. x.1.place ≢ Some 0) uploads
    → list_any (λ x. not (is_waiting x) && p x.1) uploads ≡ true → (n : ℕ) × (list_any (λ x. is_placed (n + 1) x.1 && p x.1) uploads ≡ true)
placed_somewhere p [] from_one h = absurd (true≢false (sym h))
placed_somewhere p (x ∷ uploads) from_one h = go (or_cases (not (is_waiting x) && p x.1) (list_any (λ y. not (is_waiting y) && p y.1) uploads) h) (placed_somewhere p uploads from_one.1)
  where
    first : (o : Option ℕ) → x.1.place ≡ o → not (not (is_some o)) ≡ true → p x.1 ≡ true → (n : ℕ) × (is_placed (n + 1) x.1 && p x.1 ≡ true)
    first None e t h = absurd (true≢false (sym t))
    first (Some zero) e t h = absurd (from_one.0 e)
    first (Some (suc n)) e t h = (n, and_from (is_placed (n + 1) x.1) (p x.1) (ap (λ o. option_map_or (λ m. nat_eq m (n + 1)) o false) e ∙ eq-eqb (suc n) (n + 1) (omega arith)) h)

    go : ((not (is_waiting x) && p x.1 ≡ true) ⊎ (list_any (λ y. not (is_waiting y) && p y.1) uploads ≡ true))
        → (list_any (λ y. not (is_waiting y) && p y.1) uploads ≡ true → (n : ℕ) × (list_any (λ y. is_placed (n + 1) y.1 && p y.1) uploads ≡ true))
        → (n : ℕ) × (list_any (λ y. is_placed (n + 1) y.1 && p y.1) (x ∷ uploads) ≡ true)
    go (inl e) more = let parts = and_parts (not (is_waiting x)) (p x.1) e in let at = first x.1.place refl parts.0 parts.1 in (at.0, or_left _ _ at.1)
    go (inr e) more = let rest = more e in (rest.0, or_right _ _ rest.1)

no_other : (m : ℕ) (p : UploadRow → Bool) (u : UploadRow) (uploads : Numbered UploadRow) → u.place ≡ Some m
    → AllByRecursion (λ y. IsTrue (has_place u) → u.place ≢ y.1.place) uploads → list_any (λ y. is_placed m y.1 && p y.1) uploads ≡ true → ⊥
no_other m p u [] at apart h = true≢false (sym h)
no_other m p u (y ∷ uploads) at apart h = elim (or_cases (is_placed m y.1 && p y.1) (list_any (λ z. is_placed m z.1 && p z.1) uploads) h) [
  | inl e ↦ apart.0 (ap is_some at) (at ∙ sym (placed_at m y.1 (and_parts (is_placed m y.1) (p y.1) e).0))
  | inr e ↦ no_other m p u uploads at apart.1 e
]

-- the one at a place
placed_found : (m : ℕ) (p : UploadRow → Bool) (uploads : Numbered UploadRow) → IsAscending (λ x y. IsTrue (has_place x.1) → x.1.place ≢ y.1.place) uploads
    → list_any (λ x. is_placed m x.1 && p x.1) uploads ≡ true → (u : UploadRow) × (find (is_placed m) (rows_of uploads) ≡ Some u) × (p u ≡ true)
placed_found m p [] apart h = absurd (true≢false (sym h))
placed_found m p (x ∷ uploads) apart h = go (is_placed m x.1) refl h (placed_found m p uploads apart.1)
  where
    go : (b : Bool) → is_placed m x.1 ≡ b → (b && p x.1) || list_any (λ y. is_placed m y.1 && p y.1) uploads ≡ true
        → (list_any (λ y. is_placed m y.1 && p y.1) uploads ≡ true → (u : UploadRow) × (find (is_placed m) (rows_of uploads) ≡ Some u) × (p u ≡ true))
        → (u : UploadRow) × (cond b (Some x.1) (find (is_placed m) (rows_of uploads)) ≡ Some u) × (p u ≡ true)
    go true t e more = (
      x.1,
      refl,
      elim (or_cases (p x.1) (list_any (λ y. is_placed m y.1 && p y.1) uploads) e) [
        | inl f ↦ f
        | inr f ↦ absurd (no_other m p x.1 uploads (placed_at m x.1 t) apart.0 f)
      ],
    )
    go false t e more = more e

module _ (uploads : Numbered UploadRow) (wants : List Want) (verdicts : List Judgement) (requests : List Request) (are : AreRows uploads wants verdicts requests) (s : Sign) where
  -- an upload that waits is there for each request
  pub any_waiting : list_any (λ x. is_waiting x && is_sign s (sign_in x.1)) uploads ≡ list_any (λ r. is_sign s r.0) requests
  any_waiting =
      sym (list_any-filter (λ x. is_sign s (sign_in x.1)) is_waiting uploads)
      ∙ sym (list_any-map (request wants) (λ r. is_sign s r.0) (filter is_waiting uploads))
      ∙ list_any-IsPermutation (λ r. is_sign s r.0) (map (request wants) (filter is_waiting uploads)) requests are.waiting

  to_judged : list_any (λ x. not (is_waiting x) && is_sign s (sign_in x.1)) uploads ≡ true → list_any (λ j. is_sign s (sign_on j)) verdicts ≡ true
  to_judged h =
      let at = placed_somewhere (λ u. is_sign s (sign_in u)) uploads are.from_one h in
      let row = placed_found (at.0 + 1) (λ u. is_sign s (sign_in u)) uploads are.placed_apart at.1 in
      go at.0 row.0 (slice_get verdicts at.0) refl (sym (are.places at.0) ∙ row.1) row.2
    where
      go : (n : ℕ) (u : UploadRow) (o : Option Judgement) → slice_get verdicts n ≡ o → option_map (judged_row (n + 1)) o ≡ Some u → is_sign s (sign_in u) ≡ true
          → list_any (λ j. is_sign s (sign_on j)) verdicts ≡ true
      go n u None e f t = cc
      go n u (Some j) e f t = slice_any (λ i. is_sign s (sign_on i)) verdicts n j e (subst (λ v. is_sign s (sign_in v) ≡ true) (let k : u ≡ judged_row (n + 1) j = cc in k) t)

  from_judged : list_any (λ j. is_sign s (sign_on j)) verdicts ≡ true → list_any (λ x. not (is_waiting x) && is_sign s (sign_in x.1)) uploads ≡ true
  from_judged h =
      let at = any_slice (λ j. is_sign s (sign_on j)) verdicts h in
      sym (list_any-map (λ x. x.1) (λ u. not (not (has_place u)) && is_sign s (sign_in u)) uploads)
      ∙ found_any (λ u. not (not (has_place u)) && is_sign s (sign_in u)) (is_placed (at.0 + 1)) (rows_of uploads) (judged_row (at.0 + 1) at.1)
      (are.places at.0 ∙ ap (option_map (judged_row (at.0 + 1))) at.2) at.3

  -- A row of this name and print is that of a request or of a judged upload.
  pub any_row : list_any (λ x. is_sign s (sign_in x.1)) uploads ≡ list_any (λ r. is_sign s r.0) requests || list_any (λ j. is_sign s (sign_on j)) verdicts
  any_row =
      any_parts is_waiting (λ x. is_sign s (sign_in x.1)) uploads
      ∙ ap₂ (λ a b. a || b) any_waiting (same_tests (list_any (λ x. not (is_waiting x) && is_sign s (sign_in x.1)) uploads) (list_any (λ j. is_sign s (sign_on j)) verdicts) to_judged from_judged)

-- ---- an entry that arrives

abbrev pub marked_want : List ℕ → Print → Want → Want
marked_want name print w = cond (is_want name print w) (record w { here = true }) w

-- the entry, there now if it is of this name and print
abbrev pub marked_entry : Sign → List ℕ × Print × Bool → List ℕ × Print × Bool
marked_entry s e = (e.0, e.1, e.2 || is_sign s (e.0, e.1))

abbrev pub marked_request : Sign → Request → Request
marked_request s r = (r.0, map (marked_entry s) r.1)

or_true : (b : Bool) → true ≡ b || true
or_true true = refl
or_true false = refl

upload_kept : (name : List ℕ) (print : Print) (w : Want) → (marked_want name print w).upload ≡ w.upload
upload_kept name print w = elim (is_want name print w) as (λ b. (cond b (record w { here = true }) w).upload ≡ w.upload) [ true ↦ refl | false ↦ refl ]

entry_marked : (name : List ℕ) (print : Print) (w : Want) → entry_in (marked_want name print w) ≡ marked_entry (name, print) (entry_in w)
entry_marked name print w =
    elim (is_want name print w) as (λ b. entry_in (cond b (record w { here = true }) w) ≡ (w.name, w.print, w.here || b)) [
      | true ↦ ap (λ h. (w.name, w.print, h)) (or_true w.here)
      | false ↦ ap (λ h. (w.name, w.print, h)) (sym (or-false w.here))
    ]

wants_marked : (name : List ℕ) (print : Print) (wants : List Want) (id : ℕ) → wants_of (map (marked_want name print) wants) id ≡ map (marked_entry (name, print)) (wants_of wants id)
wants_marked name print wants id =
    let mark = marked_want name print in
    ap (map entry_in) (filter-map (is_wanted_by id) mark wants ∙ ap (map mark) (filter_same (λ w. is_wanted_by id (mark w)) (is_wanted_by id) (λ w. ap (λ u. nat_eq u id) (upload_kept name print w)) wants))
    ∙ map-map entry_in mark (filter (is_wanted_by id) wants)
    ∙ map_same (λ w. entry_in (mark w)) (λ w. marked_entry (name, print) (entry_in w)) (entry_marked name print) (filter (is_wanted_by id) wants)
    ∙ sym (map-map (marked_entry (name, print)) entry_in (filter (is_wanted_by id) wants))

-- the order of the entries stays, which is by name
sorted_marked : (name : List ℕ) (print : Print) (wants : List Want) (id : ℕ)
    → sorted_by want_order (wants_of (map (marked_want name print) wants) id) ≡ map (marked_entry (name, print)) (sorted_by want_order (wants_of wants id))
sorted_marked name print wants id = ap (sorted_by want_order) (wants_marked name print wants id) ∙ sort_by-map want_order (marked_entry (name, print)) (wants_of wants id)

pub with_marked : (uploads : Numbered UploadRow) (wants : List Want) (verdicts : List Judgement) (requests : List Request) (name : List ℕ) (print : Print)
    → AreRows uploads wants verdicts requests → AreRows uploads (map (marked_want name print) wants) verdicts (map (marked_request (name, print)) requests)
with_marked uploads wants verdicts requests name print are =
    let mark = marked_want name print in
    record {
      waiting =
          IsPermutation-trans _ _ _
          (IsPermutation-same _ _
          (map_same (request (map mark wants)) (λ x. marked_request (name, print) (request wants x)) (λ x. ap (λ l. (sign_in x.1, l)) (sorted_marked name print wants x.0)) (filter is_waiting uploads)
          ∙ sym (map-map (marked_request (name, print)) (request wants) (filter is_waiting uploads))))
          (IsPermutation-map (marked_request (name, print)) _ _ are.waiting);
      owned =
          all_map (λ w. list_any (waits_as w.upload) uploads ≡ true) mark wants
          (all_weaker (λ w. list_any (waits_as w.upload) uploads ≡ true) (λ w. list_any (waits_as (mark w).upload) uploads ≡ true)
          (λ w h. ap (λ u. list_any (waits_as u) uploads) (upload_kept name print w) ∙ h) wants are.owned);
      unjudged = are.unjudged;
      places = are.places;
      from_one = are.from_one;
      placed_apart = are.placed_apart;
      apart = are.apart;
    }

-- ---- one more upload

abbrev pub new_want : ℕ → List ℕ × Print × Bool → Want
new_want id e = record { upload = id; name = e.0; print = e.1; here = e.2 }

abbrev pub new_upload : Sign → UploadRow
new_upload s = record { name = s.0; print = s.1; place = None; verdict = None }

wants-append : (ws vs : List Want) (id : ℕ) → wants_of (ws ++ vs) id ≡ wants_of ws id ++ wants_of vs id
wants-append ws vs id = ap (map entry_in) (filter-append (is_wanted_by id) ws vs) ∙ map-append entry_in (filter (is_wanted_by id) ws) (filter (is_wanted_by id) vs)

no_wants : (ws : List Want) (id : ℕ) → AllByRecursion (λ w. nat_eq w.upload id ≡ false) ws → wants_of ws id ≡ []
no_wants [] id all = refl
no_wants (w ∷ ws) id all = rw all.0 (no_wants ws id all.1)

all_wants : (es : List (List ℕ × Print × Bool)) (id : ℕ) → wants_of (map (new_want id) es) id ≡ es
all_wants [] id = refl
all_wants (e ∷ es) id = rw (eq-eqb id id refl) (ap (λ l. e ∷ l) (all_wants es id))

-- an upload that is there is not the next one
not_next : (uploads : Numbered UploadRow) (next k : ℕ) → AllByRecursion (λ x. x.0 < next) uploads → list_any (waits_as k) uploads ≡ true → nat_eq k next ≡ false
not_next [] next k below h = absurd (true≢false (sym h))
not_next (x ∷ uploads) next k below h = elim (or_cases (waits_as k x) (list_any (waits_as k) uploads) h) [
  | inl e ↦ let same = eqb-true x.0 k (and_parts (nat_eq x.0 k) (not (has_place x.1)) e).0 in ne_eqb k next (λ q. let l = below.0 in omega (arith, l, same, q))
  | inr e ↦ not_next uploads next k below.1 e
]

no_row_named : (s : Sign) (uploads : Numbered UploadRow) → list_any (λ x. is_sign s (sign_in x.1)) uploads ≡ false → AllByRecursion (λ x. sign_in x.1 ≢ s) uploads
no_row_named s [] h = tt
no_row_named s (x ∷ uploads) h =
    let parts = or_parts (is_sign s (sign_in x.1)) (list_any (λ y. is_sign s (sign_in y.1)) uploads) h in
    (λ e. both_ways (is_sign s (sign_in x.1)) parts.0 ((is_sign-Decides s (sign_in x.1)).1 e), no_row_named s uploads parts.1)

-- An upload of which no row is there gets one, with its wants after the others.
pub with_one_more : (uploads : Numbered UploadRow) (wants : List Want) (verdicts : List Judgement) (requests : List Request) (s : Sign) (es : List (List ℕ × Print × Bool))
    → Rises uploads → AreRows uploads wants verdicts requests → list_any (λ x. is_sign s (sign_in x.1)) uploads ≡ false
    → AreRows (added uploads (new_upload s)) (wants ++ map (new_want (next_in uploads)) es) verdicts (requests ++ (s, sorted_by want_order es) ∷ [])
with_one_more uploads wants verdicts requests s es rise are absent =
    let next = next_in uploads in
    let row : ℕ × UploadRow = (next, new_upload s) in
    let ws = wants ++ map (new_want next) es in
    let below = below_next first_number uploads rise in
    let others : AllByRecursion (λ w. nat_eq w.upload next ≡ false) wants =
    all_weaker (λ w. list_any (waits_as w.upload) uploads ≡ true) (λ w. nat_eq w.upload next ≡ false) (λ w h. not_next uploads next w.upload below h) wants are.owned in
    let old : (x : ℕ × UploadRow) → x.0 < next → request ws x ≡ request wants x = λ x l.
    ap (λ l. (sign_in x.1, sorted_by want_order l)) (wants-append wants (map (new_want next) es) x.0
    ∙ ap (λ l. wants_of wants x.0 ++ l) (no_wants (map (new_want next) es) x.0 (all-map (λ w. nat_eq w.upload x.0 ≡ false) (new_want next) (λ e. ne_eqb next x.0 (λ q. omega (arith, l, q))) es))
    ∙ append-nil (wants_of wants x.0)) in
    let new : request ws row ≡ (s, sorted_by want_order es) = ap (λ l. (s, sorted_by want_order l)) (wants-append wants (map (new_want next) es) next ∙ ap₂ (λ a b. a ++ b) (no_wants wants next others) (all_wants es next)) in
    record {
      waiting =
          IsPermutation-trans _ _ _
          (IsPermutation-same _ _
          (ap (map (request ws)) (filter-append is_waiting uploads (row ∷ []))
          ∙ map-append (request ws) (filter is_waiting uploads) (row ∷ [])
          ∙ ap₂ (λ a b. a ++ b ∷ []) (map_same_on (request ws) (request wants) (filter is_waiting uploads) (all-filter (λ x. request ws x ≡ request wants x) is_waiting uploads (all_weaker (λ x. x.0 < next) (λ x. request ws x ≡ request wants x) old uploads below))) new))
          (IsPermutation-append_left ((s, sorted_by want_order es) ∷ []) _ _ are.waiting);
      owned =
          all-append (λ w. list_any (waits_as w.upload) (added uploads (new_upload s)) ≡ true) wants (map (new_want next) es)
          (all_weaker (λ w. list_any (waits_as w.upload) uploads ≡ true) (λ w. list_any (waits_as w.upload) (added uploads (new_upload s)) ≡ true)
          (λ w h. list_any-append (waits_as w.upload) uploads (row ∷ []) ∙ or_left (list_any (waits_as w.upload) uploads) (list_any (waits_as w.upload) (row ∷ [])) h) wants are.owned)
          (all-map (λ w. list_any (waits_as w.upload) (added uploads (new_upload s)) ≡ true) (new_want next)
          (λ e. list_any-append (waits_as next) uploads (row ∷ []) ∙ or_right (list_any (waits_as next) uploads) (list_any (waits_as next) (row ∷ [])) (rw (eq-eqb next next refl))) es);
      unjudged = all-append (λ x. x.1.place ≡ None → x.1.verdict ≡ None) uploads (row ∷ []) are.unjudged (λ e. refl, tt);
      places = λ n. ap (find (is_placed (n + 1))) (map-append (λ x. x.1) uploads (row ∷ [])) ∙ find-append (is_placed (n + 1)) (rows_of uploads) (new_upload s ∷ []) ∙ option_or_none (find (is_placed (n + 1)) (rows_of uploads)) ∙ are.places n;
      from_one = all-append (λ x. x.1.place ≢ Some 0) uploads (row ∷ []) are.from_one (λ e. cc, tt);
      placed_apart =
          ascending-append (λ x y. IsTrue (has_place x.1) → x.1.place ≢ y.1.place) uploads (row ∷ []) are.placed_apart (tt, tt)
          (all_from (λ x. AllByRecursion (λ y. IsTrue (has_place x.1) → x.1.place ≢ y.1.place) (row ∷ [])) (λ x. (λ t e. true≢false (sym t ∙ ap is_some e), tt)) uploads);
      apart =
          ascending-append (λ x y. sign_in x.1 ≢ sign_in y.1) uploads (row ∷ []) are.apart (tt, tt)
          (all_weaker (λ x. sign_in x.1 ≢ s) (λ x. AllByRecursion (λ y. sign_in x.1 ≢ sign_in y.1) (row ∷ [])) (λ x h. (h, tt)) uploads (no_row_named s uploads absent));
    }
