-- The texts that the program finds are those that steps change.
use Rattle.std.proofs.Common.{◌≡◌, ◌≢◌, ◌⊎◌, inl, inr, ℕ, zero, suc, ◌+◌, Bool, true, false, if◌then◌else◌, List, [], ◌∷◌, ◌++◌, length, drop, take, map, codes, Option, Some, None, Ok, is_some, unwrap_or, bytes_eq, refl, sym, ap, subst, ◌∙◌}
use Rattle.std.specs.List.{flat_map, zip}
use Rattle.std.specs.Prelude.{AllPairs, Contains, ⊤}
use Rattle.std.proofs.lemmas.List.Elements.{Contains-append_cases, Contains-append_left, Contains-append_right}
use Rattle.std.proofs.lemmas.List.Kept.{AllPairs-cons}
use Rattle.std.proofs.lemmas.Slice.Eq.{bytes_eq-Decides}
use Rattle.book.specs.Book.{Book, amended, dates_past, is_kept, shown_past, text_at as book_text}
use Rattle.book.specs.Keeping.{AreRenewed, AreSteps}
use Rattle.book.specs.Scan.{some_touches}
use Rattle.book.specs.declared.change.Change.{Change}
use Rattle.book.specs.declared.change.IndexText.{IndexText}
use Rattle.book.specs.declared.change.Step.{Step}
use Rattle.book.proofs.Dates.{dated, dates_past-dated}
use Rattle.rules.specs.Configuration.{config_in}
use Rattle.rules.specs.declared.suite.Suite.{Suite}
use Rattle.suites.specs.Shelves.{ShelvesValue}
use Rattle.sums.proofs.Members.{all_at, all_from, contains_map, from_map, here, there, which, no_member, pairs_head}
use Rattle.indices.proofs.Walk.{indices_by_place}
use Rattle.indices.specs.Indices.{PathText, index_text, suite_texts, text_at, texts_from}
use Rattle.indices.specs.Release.{index_of, indices_of, release_text}
use Rattle.indices.proofs.Found.{found_front, none_front, text_at-found, text_at-other}
use Rattle.renewing.specs.Renewal.{folder_of, index_after, path_in, renewed_at, renewed_folder, renewed_from, renewed_index, renewed_suite, some_changes_index, text_after}
use Rattle.indices.specs.Places.{place_path, place_text, places_in, place_entry}
use Rattle.renewing.specs.declared.renewal.Folder.{Folder}
use Rattle.indices.specs.declared.index.IndexPlace.{IndexPlace}
use Rattle.indices.proofs.Apart.{PathsDiffer, found_of_apart, none_of_others}
use Rattle.indices.proofs.Pairs.{into_flat, pairs_across, pairs_append, pairs_map, pairs_none, same_map_over}
use Rattle.indices.proofs.Paths.{AreNamed, IsNamed, config_named, folders, index_or_release, places_apart, named_rest}
use Rattle.renewing.proofs.RenewedShelves.{same_past, untouched_index}
use Rattle.renewing.proofs.RenewedTexts.{Listed, all_apart, entries_are, entries_of, of_folder, one_covers, placed, released}

-- ---- look-ups in two lists of texts that have the same paths

same_append : (path : List ℕ) (xs ys us vs : List PathText) → text_at path xs ≡ text_at path us → text_at path ys ≡ text_at path vs → text_at path (xs ++ ys) ≡ text_at path (us ++ vs)
same_append path xs ys us vs p q = by_case (text_at path xs) refl
  where
    by_case : (o : Option (List ℕ)) → o ≡ text_at path xs → text_at path (xs ++ ys) ≡ text_at path (us ++ vs)
    by_case None h = sym (none_front path xs ys h) ∙ q ∙ none_front path us vs (h ∙ p)
    by_case (Some text) h = sym (found_front path xs ys text h) ∙ found_front path us vs text (h ∙ p)

-- one more text on both sides: the same one, or one whose path is among those that are renewed
cover_one : (texts : List IndexText) (path : List ℕ) (d e : PathText) (ds es : List PathText) → d.0 ≡ e.0 → Listed texts d.0 ⊎ (d.1 ≡ e.1)
    → Listed texts path ⊎ (text_at path ds ≡ text_at path es) → Listed texts path ⊎ (text_at path (d ∷ ds) ≡ text_at path (e ∷ es))
cover_one texts path d e ds es same first rest = by_case (bytes_eq d.0 path) refl
  where
    by_case : (b : Bool) → bytes_eq d.0 path ≡ b → Listed texts path ⊎ (text_at path (d ∷ ds) ≡ text_at path (e ∷ es))
    by_case true h = elim first [
      | inl listed ↦ inl (listed.0, listed.1, listed.2 ∙ (bytes_eq-Decides d.0 path).0 h)
      | inr equal ↦ inr (text_at-found path d ds h ∙ ap Some equal ∙ sym (text_at-found path e es (ap (λ (p : List ℕ). bytes_eq p path) (sym same) ∙ h)))
    ]
    by_case false h = elim rest [
      | inl listed ↦ inl listed
      | inr equal ↦ inr (text_at-other path d ds h ∙ equal ∙ sym (text_at-other path e es (ap (λ (p : List ℕ). bytes_eq p path) (sym same) ∙ h)))
    ]

cover_all : {X : Type 0} (texts : List IndexText) (path : List ℕ) (d e : X → PathText) (xs : List X)
    → ((x : X) → Contains xs x → ((d x).0 ≡ (e x).0) × (Listed texts (d x).0 ⊎ ((d x).1 ≡ (e x).1))) → Listed texts path ⊎ (text_at path (map d xs) ≡ text_at path (map e xs))
cover_all texts path d e [] h = inr refl
cover_all texts path d e (x ∷ xs) h =
    let facts = h x (here x xs) in
    cover_one texts path (d x) (e x) (map d xs) (map e xs) facts.0 facts.1 (cover_all texts path d e xs (λ y at. h y (there x y xs at)))

listed_left : (xs ys : List IndexText) (path : List ℕ) → Listed xs path → Listed (xs ++ ys) path
listed_left xs ys path h = (h.0, Contains-append_left xs ys h.0 h.1, h.2)

listed_right : (xs ys : List IndexText) (path : List ℕ) → Listed ys path → Listed (xs ++ ys) path
listed_right xs ys path h = (h.0, Contains-append_right xs ys h.0 h.1, h.2)

-- ---- the texts of one suite

module _ (old : List ℕ → Option (List ℕ)) (shown shelves : ShelvesValue) (steps : List Step)
    (past : (suite : ℕ) (place : IndexPlace) → some_changes_index suite place steps ≡ false → place_text shelves suite place ≡ place_text shown suite place) where
  -- the old texts are these
  abbrev Knows : ℕ → Suite → ℕ → Type 0
  Knows suite s date = (e : PathText) → Contains (entries_of shown suite s date) e → old e.0 ≡ Some e.1

  module _ (suite : ℕ) (s : Suite) (date : ℕ) (knows : Knows suite s date) where
    abbrev f : Folder
    f = folder_of suite s

    abbrev places : List IndexPlace
    places = places_in s.components s.architectures

    knows_place : (p : IndexPlace) → Contains places p → old (path_in f (place_path p)) ≡ Some (place_text shown suite p)
    knows_place p at = knows (placed shown f p) (there (released shown suite s date) (placed shown f p) (map (placed shown f) places) (contains_map (placed shown f) p places at))

    knows_release : old (path_in f (codes "Release")) ≡ Some (release_text s date (indices_of s shown suite))
    knows_release = knows (released shown suite s date) (here (released shown suite s date) (map (placed shown f) places))

    after_is : (p : IndexPlace) → Contains places p → text_after old shelves steps f p ≡ place_text shelves suite p
    unfolding text_after
    after_is p at = by_case (some_changes_index suite p steps) refl
      where
        by_case : (b : Bool) → some_changes_index suite p steps ≡ b
            → (if b then place_text shelves suite p else unwrap_or (old (path_in f (place_path p))) []) ≡ place_text shelves suite p
        by_case true h = refl
        by_case false h = ap (λ (o : Option (List ℕ)). unwrap_or o []) (knows_place p at) ∙ sym (past suite p h)

    indices_are : map (index_after old shelves steps f) places ≡ indices_of s shelves suite
    indices_are =
        same_map_over (index_after old shelves steps f) (λ p. index_of (place_entry shelves suite p)) places (λ p at. ap (λ (t : List ℕ). index_of (place_path p, t)) (after_is p at))
        ∙ sym (indices_by_place shelves suite s)

    member : (moment : ℕ) (t : IndexText) → Contains (renewed_suite old shelves steps moment suite s) t
        → Contains (entries_of shelves suite s moment) (t.path, t.text) × (is_kept (old t.path) t.text ≡ false)
    member moment t h = elim (of_folder old shelves steps f (release_text s moment) t h) [
      | inl of ↦
          let of_place = of.1 in
          let is : placed shelves f of.0 ≡ (t.path, t.text) = λ i. (sym of_place.1 i, sym of_place.2 i) in (
            there (released shelves suite s moment) (t.path, t.text) (map (placed shelves f) places)
                (subst (λ (e : PathText). Contains (map (placed shelves f) places) e) is (contains_map (placed shelves f) of.0 places of_place.0)),
            of_place.3,
          )
      | inr own ↦
          let text : release_text s moment (indices_of s shelves suite) ≡ t.text = sym (own.1 ∙ ap (release_text s moment) indices_are) in
          let is : released shelves suite s moment ≡ (t.path, t.text) = λ i. (sym own.0 i, text i) in
          (subst (λ (e : PathText). Contains (entries_of shelves suite s moment) e) is (here (released shelves suite s moment) (map (placed shelves f) places)), own.2)
    ]

    -- each of the renewed texts of an index is among those of the suite
    index_covers : (moment : ℕ) (p : IndexPlace) → Contains places p → Listed (flat_map (renewed_index old shelves steps f) places) (path_in f (place_path p)) ⊎ (place_text shown suite p ≡ place_text shelves suite p)
    unfolding renewed_index
    index_covers moment p at = by_case (some_changes_index suite p steps) refl
        (λ t h. into_flat (renewed_index old shelves steps f) places p t at h)
      where
        by_case : (b : Bool) → some_changes_index suite p steps ≡ b
            → ((t : IndexText) → Contains (if b then renewed_at (old (path_in f (place_path p))) (path_in f (place_path p)) (place_text shelves suite p) else []) t → Contains (flat_map (renewed_index old shelves steps f) places) t)
            → Listed (flat_map (renewed_index old shelves steps f) places) (path_in f (place_path p)) ⊎ (place_text shown suite p ≡ place_text shelves suite p)
        by_case false h into = inr (sym (past suite p h))
        by_case true h into = elim (one_covers (old (path_in f (place_path p))) (path_in f (place_path p)) (place_text shelves suite p) (place_text shown suite p) (knows_place p at)) [
          | inl listed ↦ inl (listed.0, into listed.0 listed.1, listed.2)
          | inr same ↦ inr same
        ]

    covers_parts : (moment : ℕ) (path : List ℕ) (release : List IndexText)
        → release ≡ renewed_at (old (path_in f (codes "Release"))) (path_in f (codes "Release")) (release_text s moment (map (index_after old shelves steps f) places))
        → Listed (flat_map (renewed_index old shelves steps f) places ++ release) path ⊎ (text_at path (entries_of shown suite s date) ≡ text_at path (entries_of shelves suite s moment))
    covers_parts moment path release e =
        cover_one (flat_map (renewed_index old shelves steps f) places ++ release) path (released shown suite s date) (released shelves suite s moment) (map (placed shown f) places) (map (placed shelves f) places)
        refl
        (elim (one_covers (old (path_in f (codes "Release"))) (path_in f (codes "Release")) (release_text s moment (map (index_after old shelves steps f) places)) (release_text s date (indices_of s shown suite)) knows_release) [
          | inl listed ↦ inl (listed_right (flat_map (renewed_index old shelves steps f) places) release _ (subst (λ (ts : List IndexText). Listed ts (path_in f (codes "Release"))) (sym e) listed))
          | inr same ↦ inr (same ∙ ap (release_text s moment) indices_are)
        ])
        (cover_all (flat_map (renewed_index old shelves steps f) places ++ release) path (placed shown f) (placed shelves f) places
        (λ p at. (
          refl,
          elim (index_covers moment p at) [
            | inl listed ↦ inl (listed_left (flat_map (renewed_index old shelves steps f) places) release _ listed)
            | inr same ↦ inr same
          ],
        )))

    covers : (moment : ℕ) (path : List ℕ) → Listed (renewed_suite old shelves steps moment suite s) path ⊎ (text_at path (entries_of shown suite s date) ≡ text_at path (entries_of shelves suite s moment))
    unfolding renewed_folder
    covers moment path =
        let there_is : is_some (old (path_in f (codes "Release"))) ≡ true = ap is_some knows_release in
        rw there_is (covers_parts moment path _ refl)

    -- a suite that no step touches has the same texts
    untouched : some_touches suite steps ≡ false → entries_of shown suite s date ≡ entries_of shelves suite s date
    untouched h =
        let same : (p : IndexPlace) → place_text shown suite p ≡ place_text shelves suite p = λ p. sym (past suite p (untouched_index suite p steps h)) in
        let indices : indices_of s shown suite ≡ indices_of s shelves suite =
        indices_by_place shown suite s ∙ same_map_over (λ p. index_of (place_entry shown suite p)) (λ p. index_of (place_entry shelves suite p)) places (λ p at. ap (λ (t : List ℕ). index_of (place_path p, t)) (same p)) ∙ sym (indices_by_place shelves suite s) in
        ap (λ is. (path_in f (codes "Release"), release_text s date is) ∷ map (placed shown f) places) indices
        ∙ ap (λ (es : List PathText). released shelves suite s date ∷ es) (same_map_over (placed shown f) (placed shelves f) places (λ p at. ap (λ (t : List ℕ). (path_in f (place_path p), t)) (same p)))

  -- ---- the texts of all suites

  -- the old texts are those of these suites, with these dates
  abbrev KnowsAll : ℕ → List Suite → List ℕ → Type 0
  KnowsAll suite [] dates = ⊤
  KnowsAll suite (s ∷ ss) [] = (old (path_in (folder_of suite s) (codes "Release")) ≡ None) × KnowsAll (suite + 1) ss []
  KnowsAll suite (s ∷ ss) (d ∷ ds) = Knows suite s d × KnowsAll (suite + 1) ss ds

  no_release : (moment suite : ℕ) (s : Suite) (t : IndexText) → old (path_in (folder_of suite s) (codes "Release")) ≡ None → Contains (renewed_suite old shelves steps moment suite s) t → ⊥
  unfolding renewed_folder
  no_release moment suite s t h =
      let none : is_some (old (path_in (folder_of suite s) (codes "Release"))) ≡ false = ap is_some h in
      rw none (λ at. no_member t at)

  no_dates : (moment suite : ℕ) (suites : List Suite) (t : IndexText) → KnowsAll suite suites [] → Contains (renewed_from old shelves steps moment suite suites) t → ⊥
  unfolding renewed_from
  no_dates moment suite [] t knows h = no_member t h
  no_dates moment suite (s ∷ ss) t knows h = elim (Contains-append_cases (if some_touches suite steps then renewed_suite old shelves steps moment suite s else []) (renewed_from old shelves steps moment (suite + 1) ss) t h) [
    | inl own ↦ by_case (some_touches suite steps) own
    | inr later ↦ no_dates moment (suite + 1) ss t knows.1 later
  ]
    where
      by_case : (b : Bool) → Contains (if b then renewed_suite old shelves steps moment suite s else []) t → ⊥
      by_case true at = no_release moment suite s t knows.0 at
      by_case false at = no_member t at

  pub members : (moment suite : ℕ) (suites : List Suite) (dates : List ℕ) → KnowsAll suite suites dates → (t : IndexText) → Contains (renewed_from old shelves steps moment suite suites) t
      → Contains (texts_from shelves suite (zip suites (dated moment steps suite dates))) (t.path, t.text) × (is_kept (old t.path) t.text ≡ false)
  unfolding renewed_from texts_from
  members moment suite [] dates knows t h = no_member t h
  members moment suite (s ∷ ss) [] knows t h = absurd (no_dates moment suite (s ∷ ss) t knows h)
  members moment suite (s ∷ ss) (d ∷ ds) knows t h = elim (Contains-append_cases (if some_touches suite steps then renewed_suite old shelves steps moment suite s else []) (renewed_from old shelves steps moment (suite + 1) ss) t h) [
    | inl own ↦
        let found = by_case (some_touches suite steps) own in
        (Contains-append_left (suite_texts shelves suite s (if some_touches suite steps then moment else d)) (texts_from shelves (suite + 1) (zip ss (dated moment steps (suite + 1) ds))) (t.path, t.text) found.0, found.1)
    | inr later ↦
        let found = members moment (suite + 1) ss ds knows.1 t later in
        (Contains-append_right (suite_texts shelves suite s (if some_touches suite steps then moment else d)) (texts_from shelves (suite + 1) (zip ss (dated moment steps (suite + 1) ds))) (t.path, t.text) found.0, found.1)
  ]
    where
      by_case : (b : Bool) → Contains (if b then renewed_suite old shelves steps moment suite s else []) t
          → Contains (suite_texts shelves suite s (if b then moment else d)) (t.path, t.text) × (is_kept (old t.path) t.text ≡ false)
      by_case true at =
          let found = member suite s d knows.0 moment t at in
          (subst (λ (es : List PathText). Contains es (t.path, t.text)) (sym (entries_are shelves suite s moment)) found.0, found.1)
      by_case false at = no_member t at

  pub covers_all : (moment suite : ℕ) (suites : List Suite) (dates : List ℕ) → KnowsAll suite suites dates → (path : List ℕ)
      → Listed (renewed_from old shelves steps moment suite suites) path
      ⊎ (text_at path (texts_from shown suite (zip suites dates)) ≡ text_at path (texts_from shelves suite (zip suites (dated moment steps suite dates))))
  unfolding renewed_from texts_from
  covers_all moment suite [] dates knows path = inr refl
  covers_all moment suite (s ∷ ss) [] knows path = inr refl
  covers_all moment suite (s ∷ ss) (d ∷ ds) knows path = by_case (covers_all moment (suite + 1) ss ds knows.1 path) (some_touches suite steps) refl
    where
      own : (b : Bool) → some_touches suite steps ≡ b → Listed (if b then renewed_suite old shelves steps moment suite s else []) path
          ⊎ (text_at path (suite_texts shown suite s d) ≡ text_at path (suite_texts shelves suite s (if b then moment else d)))
      own true h = elim (covers suite s d knows.0 moment path) [
        | inl listed ↦ inl listed
        | inr same ↦ inr (ap (text_at path) (entries_are shown suite s d) ∙ same ∙ ap (text_at path) (sym (entries_are shelves suite s moment)))
      ]
      own false h = inr (ap (text_at path) (entries_are shown suite s d ∙ untouched suite s d knows.0 h ∙ sym (entries_are shelves suite s d)))

      by_case : (Listed (renewed_from old shelves steps moment (suite + 1) ss) path
          ⊎ (text_at path (texts_from shown (suite + 1) (zip ss ds)) ≡ text_at path (texts_from shelves (suite + 1) (zip ss (dated moment steps (suite + 1) ds)))))
          → (b : Bool) → some_touches suite steps ≡ b
          → Listed ((if b then renewed_suite old shelves steps moment suite s else []) ++ renewed_from old shelves steps moment (suite + 1) ss) path
          ⊎ (text_at path (suite_texts shown suite s d ++ texts_from shown (suite + 1) (zip ss ds)) ≡ text_at path (suite_texts shelves suite s (if b then moment else d) ++ texts_from shelves (suite + 1) (zip ss (dated moment steps (suite + 1) ds))))
      by_case rest b h = elim rest [
        | inl later ↦ inl (listed_right (if b then renewed_suite old shelves steps moment suite s else []) (renewed_from old shelves steps moment (suite + 1) ss) path later)
        | inr same ↦ elim (own b h) [
          | inl mine ↦ inl (listed_left (if b then renewed_suite old shelves steps moment suite s else []) (renewed_from old shelves steps moment (suite + 1) ss) path mine)
          | inr alike ↦ inr (same_append path (suite_texts shown suite s d) (texts_from shown (suite + 1) (zip ss ds)) (suite_texts shelves suite s (if b then moment else d)) (texts_from shelves (suite + 1) (zip ss (dated moment steps (suite + 1) ds))) alike same)
        ]
      ]

-- ---- the paths of all texts differ

suite_apart : (shelves : ShelvesValue) (suite : ℕ) (s : Suite) (date : ℕ) → IsNamed s → AllPairs PathsDiffer (entries_of shelves suite s date)
suite_apart shelves suite s date named =
    let f = folder_of suite s in
    let places = places_in s.components s.architectures in
    AllPairs-cons PathsDiffer (released shelves suite s date) (map (placed shelves f) places)
    (all_from (PathsDiffer (released shelves suite s date)) (map (placed shelves f) places) (λ e at same.
    let from = from_map (placed shelves f) e places at in
    index_or_release (from.0).component (from.0).architecture
    (sym (folders s.codename s.codename (codes "Release") (place_path from.0) named.codename named.codename (same ∙ sym (ap (λ (x : PathText). x.0) from.2))).1)))
    (pairs_map PathsDiffer (λ p q. place_path p ≢ place_path q) (placed shelves f) places
    (λ p q at_p at_q other e. other (folders s.codename s.codename (place_path p) (place_path q) named.codename named.codename e).1)
    (places_apart s named))

of_suite : (shelves : ShelvesValue) (suite : ℕ) (s : Suite) (date : ℕ) (e : PathText) → Contains (entries_of shelves suite s date) e → (path : List ℕ) × (e.0 ≡ codes "dists/" ++ s.codename ++ codes "/" ++ path)
of_suite shelves suite s date e at = elim (which (released shelves suite s date) e (map (placed shelves (folder_of suite s)) (places_in s.components s.architectures)) at) [
  | inl is ↦ (codes "Release", ap (λ (x : PathText). x.0) (sym is))
  | inr listed ↦ let from = from_map (placed shelves (folder_of suite s)) e (places_in s.components s.architectures) listed in (place_path from.0, sym (ap (λ (x : PathText). x.0) from.2))
]

-- each text is of a suite that has a date
of_texts : (shelves : ShelvesValue) (suite : ℕ) (suites : List Suite) (dates : List ℕ) (e : PathText) → Contains (texts_from shelves suite (zip suites dates)) e
    → (s : Suite) × Contains (take (length dates) suites) s × ((path : List ℕ) × (e.0 ≡ codes "dists/" ++ s.codename ++ codes "/" ++ path))
unfolding texts_from
of_texts shelves suite [] dates e at = no_member e at
of_texts shelves suite (s ∷ ss) [] e at = no_member e at
of_texts shelves suite (s ∷ ss) (d ∷ ds) e at = elim (Contains-append_cases (suite_texts shelves suite s d) (texts_from shelves (suite + 1) (zip ss ds)) e at) [
  | inl own ↦ (s, here s (take (length ds) ss), of_suite shelves suite s d e (subst (λ (es : List PathText). Contains es e) (entries_are shelves suite s d) own))
  | inr later ↦ let found = of_texts shelves (suite + 1) ss ds e later in (found.0, there s found.0 (take (length ds) ss) found.1, found.2)
]

in_take : {X : Type 0} (xs : List X) (n : ℕ) (x : X) → Contains (take n xs) x → Contains xs x
in_take [] zero x at = no_member x at
in_take [] (suc n) x at = no_member x at
in_take (y ∷ ys) zero x at = no_member x at
in_take (y ∷ ys) (suc n) x at = elim (which y x (take n ys) at) [
  | inl is ↦ subst (λ z. Contains (y ∷ ys) z) is (here y ys)
  | inr later ↦ there y x ys (in_take ys n x later)
]

in_drop : {X : Type 0} (xs : List X) (n : ℕ) (x : X) → Contains (drop n xs) x → Contains xs x
in_drop [] zero x at = at
in_drop [] (suc n) x at = no_member x at
in_drop (y ∷ ys) zero x at = at
in_drop (y ∷ ys) (suc n) x at = there y x ys (in_drop ys n x at)

texts_apart : (shelves : ShelvesValue) (suite : ℕ) (suites : List Suite) (dates : List ℕ) → AreNamed suites → AllPairs PathsDiffer (texts_from shelves suite (zip suites dates))
unfolding texts_from
texts_apart shelves suite [] dates named = pairs_none PathsDiffer
texts_apart shelves suite (s ∷ ss) [] named = pairs_none PathsDiffer
texts_apart shelves suite (s ∷ ss) (d ∷ ds) named =
    pairs_append PathsDiffer (suite_texts shelves suite s d) (texts_from shelves (suite + 1) (zip ss ds))
    (subst (AllPairs PathsDiffer) (sym (entries_are shelves suite s d)) (suite_apart shelves suite s d (named.each s (here s ss))))
    (texts_apart shelves (suite + 1) ss ds (named_rest s ss named))
    (λ e x at later same.
    let first = of_suite shelves suite s d e (subst (λ (es : List PathText). Contains es e) (entries_are shelves suite s d) at) in
    let second = of_texts shelves (suite + 1) ss ds x later in
    let among = in_take ss (length ds) second.0 second.1 in
    all_at (λ (y : Suite). s.codename ≢ y.codename) ss second.0 (pairs_head (λ (y z : Suite). y.codename ≢ z.codename) s ss named.apart) among
    (folders s.codename (second.0).codename first.0 (second.2).0 (named.each s (here s ss)).codename (named.each second.0 (there s second.0 ss among)).codename (sym first.1 ∙ same ∙ (second.2).1)).0)

no_texts : (shelves : ShelvesValue) (suite : ℕ) (suites : List Suite) (e : PathText) {P : Type 0} → Contains (texts_from shelves suite (zip suites [])) e → P
unfolding texts_from
no_texts shelves suite [] e at = no_member e at
no_texts shelves suite (s ∷ ss) e at = no_member e at

module _ (old : List ℕ → Option (List ℕ)) (shown shelves : ShelvesValue) (steps : List Step)
    (past : (suite : ℕ) (place : IndexPlace) → some_changes_index suite place steps ≡ false → place_text shelves suite place ≡ place_text shown suite place) where
  knows_all : (suite : ℕ) (suites : List Suite) (dates : List ℕ) → ((e : PathText) → Contains (texts_from shown suite (zip suites dates)) e → old e.0 ≡ Some e.1)
      → ((s : Suite) → Contains (drop (length dates) suites) s → old (codes "dists/" ++ s.codename ++ codes "/" ++ codes "Release") ≡ None) → KnowsAll old shown shelves steps past suite suites dates
  unfolding texts_from
  knows_all suite [] dates there_is none = tt
  knows_all suite (s ∷ ss) [] there_is none =
      (none s (here s ss), knows_all (suite + 1) ss [] (λ e at. no_texts shown (suite + 1) ss e at) (λ t at. none t (there s t ss at)))
  knows_all suite (s ∷ ss) (d ∷ ds) there_is none = (
    (λ e at. there_is e (Contains-append_left (suite_texts shown suite s d) (texts_from shown (suite + 1) (zip ss ds)) e (subst (λ (es : List PathText). Contains es e) (sym (entries_are shown suite s d)) at))),
    knows_all (suite + 1) ss ds (λ e at. there_is e (Contains-append_right (suite_texts shown suite s d) (texts_from shown (suite + 1) (zip ss ds)) e at)) none,
  )

-- ---- books

module _ (book : Book) (steps : List Step) (moment : ℕ) (shelves : ShelvesValue) (change : Change) (read : config_in book.config.text ≡ Ok book.config)
    (sound : AreSteps book.shown steps) (after : shelves ≡ shown_past book.shown steps) (at_moment : change.moment ≡ moment) (with_steps : change.steps ≡ steps) where
  abbrev suites : List Suite
  suites = book.config.suites

  abbrev old_texts : List PathText
  old_texts = texts_from book.shown 0 (zip suites book.dates)

  abbrev new_texts : List PathText
  new_texts = texts_from shelves 0 (zip suites (dated moment steps 0 book.dates))

  old_is : (path : List ℕ) → book_text book path ≡ text_at path old_texts
  unfolding index_text
  old_is path = refl

  new_is : (path : List ℕ) → book_text (amended book change) path ≡ text_at path new_texts
  unfolding index_text amended
  new_is path =
      ap (λ (ss : List Step). text_at path (texts_from (shown_past book.shown ss) 0 (zip suites (dates_past change.moment book.dates ss)))) with_steps
      ∙ ap (λ (m : ℕ). text_at path (texts_from (shown_past book.shown steps) 0 (zip suites (dates_past m book.dates steps)))) at_moment
      ∙ ap (λ (m : ShelvesValue). text_at path (texts_from m 0 (zip suites (dates_past moment book.dates steps)))) (sym after)
      ∙ ap (λ (ds : List ℕ). text_at path (texts_from shelves 0 (zip suites ds))) (dates_past-dated moment steps book.dates)

  past : (suite : ℕ) (place : IndexPlace) → some_changes_index suite place steps ≡ false → place_text shelves suite place ≡ place_text book.shown suite place
  past suite place h = ap (λ (m : ShelvesValue). place_text m suite place) after ∙ same_past suite place book.shown steps sound h

  named : AreNamed suites
  named = config_named book.config read

  knows : KnowsAll (book_text book) book.shown shelves steps past 0 suites book.dates
  knows =
      knows_all (book_text book) book.shown shelves steps past 0 suites book.dates
      (λ e at. old_is e.0 ∙ found_of_apart old_texts e (texts_apart book.shown 0 suites book.dates named) at)
      (λ s at. old_is _ ∙ none_of_others old_texts _ (λ e listed same.
      let found = of_texts book.shown 0 suites book.dates e listed in
      pairs_across (λ (x y : Suite). x.codename ≢ y.codename) suites (length book.dates) found.0 s named.apart found.1 at
      (folders (found.0).codename s.codename (found.2).0 (codes "Release") (named.each found.0 (in_take suites (length book.dates) found.0 found.1)).codename (named.each s (in_drop suites (length book.dates) s at)).codename
      (sym (found.2).1 ∙ same)).0))

  other : (kept : Option (List ℕ)) (text : List ℕ) → is_kept kept text ≡ false → kept ≢ Some text
  unfolding is_kept
  other kept text h e = cc (sym h ∙ ap (λ (o : Option (List ℕ)). is_kept o text) e ∙ (bytes_eq-Decides text text).1 refl)

  abbrev texts : List IndexText
  texts = renewed_from (book_text book) shelves steps moment 0 suites

  -- THE TEXTS that differ after the steps are these.
  pub all_renewed : AreRenewed book (amended book change) (renewed_from (book_text book) shelves steps moment 0 book.config.suites)
  all_renewed = record {
    apart = all_apart (book_text book) shelves steps moment 0 suites named;
    named = all_from (λ (t : IndexText). (book_text (amended book change) t.path ≡ Some t.text) × (book_text book t.path ≢ Some t.text)) texts (λ t at.
        let found = members (book_text book) book.shown shelves steps past moment 0 suites book.dates knows t at in
        (new_is t.path ∙ found_of_apart new_texts (t.path, t.text) (texts_apart shelves 0 suites (dated moment steps 0 book.dates) named) found.0, other (book_text book t.path) t.text found.1));
    rest = λ path. elim (covers_all (book_text book) book.shown shelves steps past moment 0 suites book.dates knows path) [
      | inl listed ↦ inl (subst (λ p. Contains (map (λ (t : IndexText). t.path) texts) p) listed.2 (contains_map (λ (t : IndexText). t.path) listed.0 texts listed.1))
      | inr same ↦ inr (old_is path ∙ same ∙ sym (new_is path))
    ];
  }
