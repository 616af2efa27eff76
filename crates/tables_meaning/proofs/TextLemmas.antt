-- The rows of texts after the texts of a change are written.
use Rattle.std.proofs.Common.{◌≡◌, ◌≢◌, ◌⊎◌, inl, inr, ℕ, ◌+◌, Bool, true, false, if◌then◌else◌, List, [], ◌∷◌, ◌++◌, length, map, fold, codes, bytes_eq, Option, Some, IsPermutation, refl, sym, ap, subst, ◌∙◌, arith}
use Rattle.std.proofs.lemmas.List.{map-append}
use Rattle.std.proofs.lemmas.Option.{same_Some}
use Rattle.std.proofs.lemmas.Slice.Eq.{bytes_eq-Decides}
use Rattle.std.specs.List.{enumerate_from, flat_map, zip}
use Rattle.std.specs.Prelude.{AllPairs, Contains}
use Rattle.book.specs.Book.{amended, dates_past, shown_past, text_at as book_text}
use Rattle.book.specs.Keeping.{AreRenewed}
use Rattle.book.specs.Scan.{some_touches}
use Rattle.book.specs.declared.change.Change.{Change}
use Rattle.book.specs.declared.change.IndexText.{IndexText}
use Rattle.book.specs.declared.change.Judgement.{Judgement}
use Rattle.book.specs.declared.change.Step.{Step}
use Rattle.rules.specs.Values.{ConfigValue}
use Rattle.rules.specs.declared.suite.Suite.{Suite}
use Rattle.std.proofs.lemmas.List.Sorted.{IsPermutation-map}
use Rattle.sqlite_keyed.proofs.ListLemmas.{map-map}
use Rattle.suites.specs.Shelves.{ShelvesValue}
use Rattle.sums.proofs.Members.{all_at, contains_map, from_map, here, no_member, pairs_head, pairs_tail, there, which}
use Rattle.tables.specs.Dates.{with_new_date}
use Rattle.tables.specs.Rows.{Numbered, Tables, changed, rows_of}
use Rattle.tables.specs.Texts.{has_path, with_new_text}
use Rattle.tables.specs.declared.rows.TextRow.{TextRow}
use Rattle.indices.specs.Indices.{PathText, all_texts, folder_texts, index_text, suite_path, suite_texts, text_at, texts_from}
use Rattle.indices.specs.Release.{index_path, listed_entry, listed_texts}
use Rattle.indices.proofs.Apart.{PathsDiffer, found_of_apart, not_equal}
use Rattle.indices.proofs.Found.{text_at-found, text_at-other}
use Rattle.tables_meaning.specs.Kept.{book_in}
use Rattle.tables_meaning.specs.Making.{with_new_dates, with_new_texts}
use Rattle.tables_meaning.specs.OneBook.{first_same, rest_same}
use Rattle.tables_meaning.proofs.Orders.{permuted_by}

-- ---- texts by their paths

-- No two texts of the configuration stand at one path, whatever its suites show and whenever that last changed.
abbrev pub HasPathsApart : ConfigValue → Type 0
HasPathsApart config = (shown : ShelvesValue) (dates : List ℕ) → AllPairs PathsDiffer (all_texts config shown dates)

abbrev pub paths_of : List PathText → List (List ℕ)
paths_of = map (λ e. e.0)

-- texts that become what another list has at their paths, if that list has the same paths in the same order
same_by_paths : (f : PathText → PathText) (old new : List PathText) → paths_of old ≡ paths_of new → AllPairs PathsDiffer new
    → ((e : PathText) → Contains old e → ((f e).0 ≡ e.0) × (text_at e.0 new ≡ Some (f e).1)) → map f old ≡ new
same_by_paths f [] [] p apart h = refl
same_by_paths f [] (e ∷ es) p apart h = cc
same_by_paths f (d ∷ ds) [] p apart h = cc
same_by_paths f (d ∷ ds) (e ∷ es) p apart h =
    let path : d.0 ≡ e.0 = first_same _ _ _ _ p in
    let paths : paths_of ds ≡ paths_of es = rest_same _ _ _ _ p in
    let facts = h d (here d ds) in
    let body : (f d).1 ≡ e.1 = same_Some _ _ (sym facts.1 ∙ text_at-found d.0 e es ((bytes_eq-Decides e.0 d.0).1 (sym path))) in
    let own : (f d).0 ≡ e.0 = facts.0 ∙ path in
    let more : map f ds ≡ es =
    same_by_paths f ds es paths (pairs_tail PathsDiffer e es apart)
    (λ x at. let later = h x (there d x ds at) in (later.0, sym (text_at-other x.0 e es (not_equal e.0 x.0 (other paths x at))) ∙ later.1)) in
    λ i. (own i, body i) ∷ more i
  where
    other : paths_of ds ≡ paths_of es → (x : PathText) → Contains ds x → e.0 ≢ x.0
    other paths x at =
        let listed = from_map (λ (y : PathText). y.0) x.0 es (subst (λ (ps : List (List ℕ)). Contains ps x.0) paths (contains_map (λ (y : PathText). y.0) x ds at)) in
        λ same. all_at (PathsDiffer e) es listed.0 (pairs_head PathsDiffer e es apart) listed.1 (same ∙ sym listed.2)

-- ---- the paths of texts do not depend on what is shown and when that changed

listed_paths : (s : Suite) (shown : ShelvesValue) (suite : ℕ) (components : List (List ℕ))
    → paths_of (flat_map (λ c. map (listed_entry shown suite c) s.architectures) components) ≡ flat_map (λ c. map (index_path c) s.architectures) components
listed_paths s shown suite [] = refl
listed_paths s shown suite (c ∷ cs) =
    map-append (λ (e : PathText). e.0) (map (listed_entry shown suite c) s.architectures) (flat_map (λ d. map (listed_entry shown suite d) s.architectures) cs)
    ∙ ap (λ ps. ps ++ paths_of (flat_map (λ d. map (listed_entry shown suite d) s.architectures) cs)) (map-map (λ (e : PathText). e.0) (listed_entry shown suite c) s.architectures)
    ∙ ap (λ ps. map (index_path c) s.architectures ++ ps) (listed_paths s shown suite cs)

abbrev pub folder_paths : Suite → List (List ℕ)
folder_paths s = codes "Release" ∷ flat_map (λ c. map (index_path c) s.architectures) s.components

pub suite_paths : (shown : ShelvesValue) (suite : ℕ) (s : Suite) (date : ℕ) → paths_of (suite_texts shown suite s date) ≡ map (suite_path s) (folder_paths s)
unfolding suite_texts folder_texts listed_texts
suite_paths shown suite s date =
    map-map (λ (e : PathText). e.0) (λ (e : PathText). (suite_path s e.0, e.1)) (folder_texts shown suite s date)
    ∙ sym (map-map (suite_path s) (λ (e : PathText). e.0) (folder_texts shown suite s date))
    ∙ ap (λ ps. map (suite_path s) (codes "Release" ∷ ps)) (listed_paths s shown suite s.components)

same_paths : (shown others : ShelvesValue) (suite : ℕ) (suites : List Suite) (dates moments : List ℕ) → length dates ≡ length moments
    → paths_of (texts_from shown suite (zip suites dates)) ≡ paths_of (texts_from others suite (zip suites moments))
unfolding texts_from
same_paths shown others suite [] dates moments e = refl
same_paths shown others suite (s ∷ ss) [] [] e = refl
same_paths shown others suite (s ∷ ss) [] (m ∷ ms) e = absurd (omega arith)
same_paths shown others suite (s ∷ ss) (d ∷ ds) [] e = absurd (omega arith)
same_paths shown others suite (s ∷ ss) (d ∷ ds) (m ∷ ms) e =
    map-append (λ (x : PathText). x.0) (suite_texts shown suite s d) (texts_from shown (suite + 1) (zip ss ds))
    ∙ ap (λ ps. ps ++ paths_of (texts_from shown (suite + 1) (zip ss ds))) (suite_paths shown suite s d ∙ sym (suite_paths others suite s m))
    ∙ ap (λ ps. paths_of (suite_texts others suite s m) ++ ps) (same_paths shown others (suite + 1) ss ds ms (omega arith))
    ∙ sym (map-append (λ (x : PathText). x.0) (suite_texts others suite s m) (texts_from others (suite + 1) (zip ss ms)))

-- ---- rows of texts

abbrev pub entry_of : TextRow → PathText
entry_of x = (x.path, x.body)

-- what a text that is written makes of the text at a path, and what several make of it in turn
abbrev written : IndexText → PathText → PathText
written x e = (e.0, if bytes_eq e.0 x.path then x.text else e.1)

abbrev rewritten : List IndexText → List ℕ → List ℕ → List ℕ
rewritten [] path body = body
rewritten (x ∷ xs) path body = rewritten xs path (if bytes_eq path x.path then x.text else body)

abbrev all_written : List IndexText → PathText → PathText
all_written texts e = (e.0, rewritten texts e.0 e.1)

abbrev set_body : List ℕ → TextRow → TextRow
set_body body r = record r { body = body }

row_written : (x : IndexText) (n : ℕ) (r : TextRow) (b : Bool) (rest : Numbered TextRow)
    → map entry_of (rows_of ((if b then (n, set_body x.text r) else (n, r)) ∷ rest)) ≡ (r.path, if b then x.text else r.body) ∷ map entry_of (rows_of rest)
row_written x n r true rest = refl
row_written x n r false rest = refl

rows_written : (x : IndexText) (rows : Numbered TextRow)
    → map entry_of (rows_of (changed (λ r. has_path x.path r.1) (set_body x.text) rows)) ≡ map (written x) (map entry_of (rows_of rows))
rows_written x [] = refl
rows_written x (r ∷ rs) =
    row_written x r.0 r.1 (bytes_eq (r.1).path x.path) (changed (λ y. has_path x.path y.1) (set_body x.text) rs)
    ∙ ap (λ es. written x (entry_of r.1) ∷ es) (rows_written x rs)

texts_written : (texts : List IndexText) (t : Tables) → map entry_of (rows_of (with_new_texts texts t).texts) ≡ map (all_written texts) (map entry_of (rows_of t.texts))
texts_written [] t = sym (same_map_id (map entry_of (rows_of t.texts)))
  where
    same_map_id : (es : List PathText) → map (all_written []) es ≡ es
    same_map_id [] = refl
    same_map_id (e ∷ es) = ap (λ fs. e ∷ fs) (same_map_id es)
texts_written (x ∷ xs) t =
    texts_written xs (with_new_text x.path x.text t)
    ∙ ap (map (all_written xs)) (rows_written x t.texts)
    ∙ map-map (all_written xs) (written x) (map entry_of (rows_of t.texts))

-- the dates of suites are other rows
dates_apart : (moment : ℕ) (steps : List Step) (suites : List (ℕ × Suite)) (t : Tables)
    → (fold (λ (now : Tables) (s : ℕ × Suite). if some_touches s.0 steps then with_new_date s.1.codename moment now else now) t suites).texts ≡ t.texts
dates_apart moment steps [] t = refl
dates_apart moment steps (s ∷ ss) t = dates_apart moment steps ss (if some_touches s.0 steps then with_new_date s.1.codename moment t else t) ∙ by_case (some_touches s.0 steps)
  where
    by_case : (b : Bool) → (if b then with_new_date s.1.codename moment t else t).texts ≡ t.texts
    by_case true = refl
    by_case false = refl

-- ---- the texts after a change

-- what is written at a path is what is there afterwards, if each text that is written is that, or the old one is
is_rewritten : (texts : List IndexText) (path body : List ℕ) (o : Option (List ℕ)) → ((x : IndexText) → Contains texts x → x.path ≡ path → o ≡ Some x.text)
    → Contains (map (λ (x : IndexText). x.path) texts) path ⊎ (o ≡ Some body) → o ≡ Some (rewritten texts path body)
is_rewritten [] path body o named known = elim known [
  | inl at ↦ no_member path at
  | inr is ↦ is
]
is_rewritten (x ∷ xs) path body o named known =
    by_case (bytes_eq path x.path) refl (λ now later. is_rewritten xs path now o (λ y at. named y (there x y xs at)) later)
  where
    by_case : (b : Bool) → bytes_eq path x.path ≡ b → ((now : List ℕ) → Contains (map (λ (y : IndexText). y.path) xs) path ⊎ (o ≡ Some now) → o ≡ Some (rewritten xs path now))
        → o ≡ Some (rewritten xs path (if b then x.text else body))
    by_case true e more = more x.text (inr (named x (here x xs) (sym ((bytes_eq-Decides path x.path).0 e))))
    by_case false e more = more body (elim known [
      | inl at ↦ elim (which x.path path (map (λ (y : IndexText). y.path) xs) at) [
        | inl is ↦ let both : true ≡ false = sym ((bytes_eq-Decides path x.path).1 (sym is)) ∙ e in cc
        | inr later ↦ inl later
      ]
      | inr is ↦ inr is
    ])

module _ (t : Tables) (config : ConfigValue) (judged : List Judgement) (shown : ShelvesValue) (dates : List ℕ) (change : Change) where
  abbrev old_texts : List PathText
  old_texts = all_texts config shown dates

  abbrev new_texts : List PathText
  new_texts = all_texts config (shown_past shown change.steps) (dates_past change.moment dates change.steps)

  old_is : (path : List ℕ) → book_text (book_in config judged shown dates t) path ≡ text_at path old_texts
  unfolding book_in index_text
  old_is path = refl

  new_is : (path : List ℕ) → book_text (amended (book_in config judged shown dates t) change) path ≡ text_at path new_texts
  unfolding book_in amended index_text
  new_is path = refl

  module _ (apart : HasPathsApart config) (renewed : AreRenewed (book_in config judged shown dates t) (amended (book_in config judged shown dates t) change) change.texts) where
    each_written : (e : PathText) → Contains old_texts e → ((all_written change.texts e).0 ≡ e.0) × (text_at e.0 new_texts ≡ Some (all_written change.texts e).1)
    each_written e at = (
      refl,
      is_rewritten change.texts e.0 e.1 (text_at e.0 new_texts)
          (λ x listed same.
          ap (λ p. text_at p new_texts) (sym same) ∙ sym (new_is x.path)
          ∙ (all_at (λ (y : IndexText). (book_text (amended (book_in config judged shown dates t) change) y.path ≡ Some y.text) × (book_text (book_in config judged shown dates t) y.path ≢ Some y.text)) change.texts x renewed.named listed).0)
          (elim (renewed.rest e.0) [
            | inl listed ↦ inl listed
            | inr same ↦ inr (sym (new_is e.0) ∙ sym same ∙ old_is e.0 ∙ found_of_apart old_texts e (apart shown dates) at)
          ]),
    )

    -- The rows of texts after a change are the texts after it.
    pub renewed_texts : (now : Tables) → IsPermutation (map entry_of (rows_of now.texts)) old_texts → length (dates_past change.moment dates change.steps) ≡ length dates
        → IsPermutation (map entry_of (rows_of (with_new_dates config.suites change.moment change.steps (with_new_texts change.texts now)).texts)) new_texts
    renewed_texts now are same =
        permuted_by
        (ap (λ rows. map entry_of (rows_of rows)) (dates_apart change.moment change.steps (enumerate_from 0 config.suites) (with_new_texts change.texts now))
        ∙ texts_written change.texts now)
        (IsPermutation-map (all_written change.texts) _ _ are)
        (same_by_paths (all_written change.texts) old_texts new_texts
        (same_paths shown (shown_past shown change.steps) 0 config.suites dates (dates_past change.moment dates change.steps) (sym same))
        (apart (shown_past shown change.steps) (dates_past change.moment dates change.steps))
        each_written)
