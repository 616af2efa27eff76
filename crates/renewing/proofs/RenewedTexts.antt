-- The texts of a book after steps: those that are read or rendered are those of the definition, and they cover each path at
-- which the texts differ.
use Rattle.std.proofs.Common.{◌≡◌, ◌≢◌, ◌⊎◌, inl, inr, ℕ, ◌+◌, Bool, true, false, if◌then◌else◌, List, [], ◌∷◌, ◌++◌, map, codes, Option, Some, is_some, refl, sym, ap, subst, ◌∙◌}
use Rattle.std.proofs.Props.{props}
use Rattle.std.specs.List.{flat_map}
use Rattle.std.specs.Prelude.{AllPairs, Contains}
use Rattle.std.proofs.lemmas.List.Elements.{Contains-append_cases}
use Rattle.std.proofs.lemmas.Slice.Eq.{bytes_eq-Decides}
use Rattle.std.proofs.lemmas.Simd.{map-map}
use Rattle.book.specs.Book.{is_kept}
use Rattle.book.specs.Scan.{some_touches}
use Rattle.book.specs.declared.change.IndexText.{IndexText}
use Rattle.book.specs.declared.change.Step.{Step}
use Rattle.rules.specs.declared.suite.Suite.{Suite}
use Rattle.suites.specs.Shelves.{ShelvesValue}
use Rattle.suites.proofs.ListMembers.{from_flat_map}
use Rattle.sums.specs.Prints.{print}
use Rattle.sums.specs.declared.print.Print.{Print}
use Rattle.sums.proofs.Members.{all_at, here, there, which, no_member, pairs_head}
use Rattle.indices.proofs.Walk.{listed_by_place}
use Rattle.indices.specs.Indices.{PathText, folder_texts, suite_path, suite_texts}
use Rattle.indices.specs.Release.{indices_of, release_text}
use Rattle.indices.specs.declared.index.Index.{Index}
use Rattle.renewing.specs.Renewal.{folder_of, index_after, path_in, renewed_at, renewed_folder, renewed_from, renewed_index, renewed_suite, some_changes_index, text_to_keep}
use Rattle.indices.specs.Places.{place_path, place_text, places_in, place_entry}
use Rattle.renewing.specs.declared.renewal.Folder.{Folder}
use Rattle.indices.specs.declared.index.IndexPlace.{IndexPlace}
use Rattle.indices.proofs.Pairs.{pairs_append, pairs_flat, pairs_none, pairs_one}
use Rattle.indices.proofs.Paths.{AreNamed, NoSlash, folders, index_or_release, places_apart, named_rest}

-- ---- the texts of a suite, place by place

abbrev pub placed : ShelvesValue → Folder → IndexPlace → PathText
placed shelves f p = (path_in f (place_path p), place_text shelves f.suite p)

abbrev pub released : ShelvesValue → ℕ → Suite → ℕ → PathText
released shelves suite s date = (path_in (folder_of suite s) (codes "Release"), release_text s date (indices_of s shelves suite))

abbrev pub entries_of : ShelvesValue → ℕ → Suite → ℕ → List PathText
entries_of shelves suite s date = released shelves suite s date ∷ map (placed shelves (folder_of suite s)) (places_in s.components s.architectures)

pub entries_are : (shelves : ShelvesValue) (suite : ℕ) (s : Suite) (date : ℕ) → suite_texts shelves suite s date ≡ entries_of shelves suite s date
unfolding suite_texts folder_texts
entries_are shelves suite s date =
    ap (λ (es : List PathText). released shelves suite s date ∷ map (λ (e : PathText). (suite_path s e.0, e.1)) es) (listed_by_place shelves suite s)
    ∙ ap (λ (es : List PathText). released shelves suite s date ∷ es) (map-map (λ (e : PathText). (suite_path s e.0, e.1)) (place_entry shelves suite) (places_in s.components s.architectures))

-- ---- what is renewed

-- a text of this path is among the texts
abbrev pub Listed : List IndexText → List ℕ → Type 0
Listed texts path = (t : IndexText) × Contains texts t × (t.path ≡ path)

abbrev pub TextsDiffer : IndexText → IndexText → Type 0
TextsDiffer t u = t.path ≢ u.path

-- A text is given by its path and its bytes: its print is that of the bytes.
pub is_to_keep : (t : IndexText) → t ≡ text_to_keep t.path t.text
is_to_keep t =
    let with_print : (own : Print) → own ≡ print t.text → IndexText = λ own is. record { path = t.path; text = t.text; print = own; printed = is } in
    subst (λ (own : Print). (is : own ≡ print t.text) → with_print own is ≡ text_to_keep t.path t.text) (sym t.printed)
    (λ is.
    let one : IsProp (print t.text ≡ print t.text) = hlevel props in
    ap (with_print (print t.text)) (one is refl)) t.printed

-- a text that is pushed if another is kept
pub pushed_other : (old new : List IndexText) (kept : Option (List ℕ)) (t : IndexText) → new ≡ old ++ t ∷ [] → is_kept kept t.text ≡ false → new ≡ old ++ renewed_at kept t.path t.text
unfolding renewed_at
pushed_other old new kept t is other =
    is ∙ ap (λ (u : IndexText). old ++ u ∷ []) (is_to_keep t)
    ∙ ap (λ b. old ++ (if b then [] else text_to_keep t.path t.text ∷ [])) (sym other)

renewed_one : (kept : Option (List ℕ)) (path text : List ℕ) (t : IndexText) → Contains (renewed_at kept path text) t → (t.path ≡ path) × (t.text ≡ text) × (is_kept kept text ≡ false)
unfolding renewed_at
renewed_one kept path text t h = by_case (is_kept kept text) refl h
  where
    by_case : (b : Bool) → is_kept kept text ≡ b → Contains (if b then [] else text_to_keep path text ∷ []) t → (t.path ≡ path) × (t.text ≡ text) × (is_kept kept text ≡ false)
    by_case true e at = no_member t at
    by_case false e at = elim (which (text_to_keep path text) t [] at) [
      | inl is ↦ (ap (λ (u : IndexText). u.path) (sym is), ap (λ (u : IndexText). u.text) (sym is), e)
      | inr none ↦ no_member t none
    ]

same_kept : (kept : Option (List ℕ)) (was text : List ℕ) → kept ≡ Some was → is_kept kept text ≡ true → was ≡ text
unfolding is_kept
same_kept kept was text h e = (bytes_eq-Decides was text).0 (ap (λ o. is_kept o text) (sym h) ∙ e)

pub one_covers : (kept : Option (List ℕ)) (path text was : List ℕ) → kept ≡ Some was → Listed (renewed_at kept path text) path ⊎ (was ≡ text)
unfolding renewed_at
one_covers kept path text was h = by_case (is_kept kept text) refl
  where
    by_case : (b : Bool) → is_kept kept text ≡ b → Listed (if b then [] else text_to_keep path text ∷ []) path ⊎ (was ≡ text)
    by_case true e = inr (same_kept kept was text h e)
    by_case false e = inl (text_to_keep path text, here (text_to_keep path text) [], refl)

one_apart : (kept : Option (List ℕ)) (path text : List ℕ) → AllPairs TextsDiffer (renewed_at kept path text)
unfolding renewed_at
one_apart kept path text = by_case (is_kept kept text)
  where
    by_case : (b : Bool) → AllPairs TextsDiffer (if b then [] else text_to_keep path text ∷ [])
    by_case true = pairs_none TextsDiffer
    by_case false = pairs_one TextsDiffer (text_to_keep path text)

module _ (old : List ℕ → Option (List ℕ)) (shelves : ShelvesValue) (steps : List Step) where
  -- a text of a place, or Release
  abbrev pub OfPlace : Folder → IndexText → IndexPlace → Type 0
  OfPlace f t p = Contains f.places p × (t.path ≡ path_in f (place_path p)) × (t.text ≡ place_text shelves f.suite p) × (is_kept (old t.path) t.text ≡ false)

  abbrev pub OfRelease : Folder → List ℕ → IndexText → Type 0
  OfRelease f text t = (t.path ≡ path_in f (codes "Release")) × (t.text ≡ text) × (is_kept (old t.path) t.text ≡ false)

  still : (t : IndexText) (path text : List ℕ) → t.path ≡ path → t.text ≡ text → is_kept (old path) text ≡ false → is_kept (old t.path) t.text ≡ false
  still t path text p q h = ap (λ (x : List ℕ). is_kept (old x) t.text) p ∙ ap (is_kept (old path)) q ∙ h

  of_index : (f : Folder) (p : IndexPlace) (t : IndexText) → Contains f.places p → Contains (renewed_index old shelves steps f p) t → OfPlace f t p
  unfolding renewed_index
  of_index f p t at h = by_case (some_changes_index f.suite p steps) h
    where
      by_case : (b : Bool) → Contains (if b then renewed_at (old (path_in f (place_path p))) (path_in f (place_path p)) (place_text shelves f.suite p) else []) t → OfPlace f t p
      by_case true h =
          let one = renewed_one (old (path_in f (place_path p))) (path_in f (place_path p)) (place_text shelves f.suite p) t h in
          (at, one.0, one.1, still t _ _ one.0 one.1 one.2)
      by_case false h = no_member t h

  pub of_folder : (f : Folder) (release : List Index → List ℕ) (t : IndexText) → Contains (renewed_folder old shelves steps f release) t
      → ((p : IndexPlace) × OfPlace f t p) ⊎ OfRelease f (release (map (index_after old shelves steps f) f.places)) t
  unfolding renewed_folder
  of_folder f release t h = by_case (is_some (old (path_in f (codes "Release")))) h
    where
      by_case : (b : Bool) → Contains (if b then flat_map (renewed_index old shelves steps f) f.places ++ renewed_at (old (path_in f (codes "Release"))) (path_in f (codes "Release")) (release (map (index_after old shelves steps f) f.places)) else []) t
          → ((p : IndexPlace) × OfPlace f t p) ⊎ OfRelease f (release (map (index_after old shelves steps f) f.places)) t
      by_case false h = no_member t h
      by_case true h = elim (Contains-append_cases (flat_map (renewed_index old shelves steps f) f.places) _ t h) [
        | inl listed ↦ let found = from_flat_map (renewed_index old shelves steps f) t f.places listed in inl (found.0, of_index f found.0 t found.1 found.2)
        | inr own ↦
            let one = renewed_one (old (path_in f (codes "Release"))) (path_in f (codes "Release")) (release (map (index_after old shelves steps f) f.places)) t own in
            inr (one.0, one.1, still t _ _ one.0 one.1 one.2)
      ]

  -- each path is one of the folder
  path_of_folder : (f : Folder) (release : List Index → List ℕ) (t : IndexText) → Contains (renewed_folder old shelves steps f release) t → (path : List ℕ) × (t.path ≡ path_in f path)
  path_of_folder f release t h = elim (of_folder f release t h) [
    | inl place ↦ (place_path place.0, place.1.1)
    | inr own ↦ (codes "Release", own.0)
  ]

  -- ---- the paths of what is renewed differ

  index_apart : (f : Folder) (p : IndexPlace) → AllPairs TextsDiffer (renewed_index old shelves steps f p)
  unfolding renewed_index
  index_apart f p = by_case (some_changes_index f.suite p steps)
    where
      by_case : (b : Bool) → AllPairs TextsDiffer (if b then renewed_at (old (path_in f (place_path p))) (path_in f (place_path p)) (place_text shelves f.suite p) else [])
      by_case true = one_apart (old (path_in f (place_path p))) (path_in f (place_path p)) (place_text shelves f.suite p)
      by_case false = pairs_none TextsDiffer

  folder_apart : (f : Folder) (release : List Index → List ℕ) → NoSlash f.codename → AllPairs (λ p q. place_path p ≢ place_path q) f.places → AllPairs TextsDiffer (renewed_folder old shelves steps f release)
  unfolding renewed_folder
  folder_apart f release name places = by_case (is_some (old (path_in f (codes "Release"))))
    where
      by_case : (b : Bool) → AllPairs TextsDiffer (if b then flat_map (renewed_index old shelves steps f) f.places ++ renewed_at (old (path_in f (codes "Release"))) (path_in f (codes "Release")) (release (map (index_after old shelves steps f) f.places)) else [])
      by_case false = pairs_none TextsDiffer
      by_case true =
          pairs_append TextsDiffer (flat_map (renewed_index old shelves steps f) f.places) _
          (pairs_flat TextsDiffer (λ p q. place_path p ≢ place_path q) (renewed_index old shelves steps f) f.places
          (λ p at. index_apart f p)
          (λ p q at_p at_q other t u in_p in_q e.
          let first = of_index f p t at_p in_p in
          let second = of_index f q u at_q in_q in
          other (folders f.codename f.codename (place_path p) (place_path q) name name (sym first.1 ∙ e ∙ second.1)).1)
          places)
          (one_apart (old (path_in f (codes "Release"))) (path_in f (codes "Release")) _)
          (λ t u listed own e.
          let found = from_flat_map (renewed_index old shelves steps f) t f.places listed in
          let first = of_index f found.0 t found.1 found.2 in
          let second = renewed_one (old (path_in f (codes "Release"))) (path_in f (codes "Release")) _ u own in
          index_or_release (found.0).component (found.0).architecture
          (folders f.codename f.codename (place_path found.0) (codes "Release") name name (sym first.1 ∙ e ∙ second.0)).1)

  -- each text is of one of the suites
  of_suites : (moment suite : ℕ) (suites : List Suite) (t : IndexText) → Contains (renewed_from old shelves steps moment suite suites) t
      → (s : Suite) × Contains suites s × ((path : List ℕ) × (t.path ≡ codes "dists/" ++ s.codename ++ codes "/" ++ path))
  unfolding renewed_from
  of_suites moment suite [] t h = no_member t h
  of_suites moment suite (s ∷ rest) t h = elim (Contains-append_cases (if some_touches suite steps then renewed_suite old shelves steps moment suite s else []) (renewed_from old shelves steps moment (suite + 1) rest) t h) [
    | inl own ↦ (s, here s rest, by_case (some_touches suite steps) own)
    | inr later ↦ let found = of_suites moment (suite + 1) rest t later in (found.0, there s found.0 rest found.1, found.2)
  ]
    where
      by_case : (b : Bool) → Contains (if b then renewed_suite old shelves steps moment suite s else []) t → (path : List ℕ) × (t.path ≡ codes "dists/" ++ s.codename ++ codes "/" ++ path)
      by_case true h = path_of_folder (folder_of suite s) (release_text s moment) t h
      by_case false h = no_member t h

  pub all_apart : (moment suite : ℕ) (suites : List Suite) → AreNamed suites → AllPairs TextsDiffer (renewed_from old shelves steps moment suite suites)
  unfolding renewed_from
  all_apart moment suite [] named = pairs_none TextsDiffer
  all_apart moment suite (s ∷ rest) named =
      pairs_append TextsDiffer (if some_touches suite steps then renewed_suite old shelves steps moment suite s else []) (renewed_from old shelves steps moment (suite + 1) rest)
      (own (some_touches suite steps))
      (all_apart moment (suite + 1) rest (named_rest s rest named))
      (λ t u at later e.
      let first = path_here (some_touches suite steps) t at in
      let second = of_suites moment (suite + 1) rest u later in
      all_at (λ x. s.codename ≢ x.codename) rest second.0 (pairs_head (λ x y. x.codename ≢ y.codename) s rest named.apart) second.1
      (folders s.codename (second.0).codename first.0 (second.2).0 (named.each s (here s rest)).codename (named.each second.0 (there s second.0 rest second.1)).codename (sym first.1 ∙ e ∙ (second.2).1)).0)
    where
      own : (b : Bool) → AllPairs TextsDiffer (if b then renewed_suite old shelves steps moment suite s else [])
      own true = folder_apart (folder_of suite s) (release_text s moment) (named.each s (here s rest)).codename (places_apart s (named.each s (here s rest)))
      own false = pairs_none TextsDiffer

      path_here : (b : Bool) (t : IndexText) → Contains (if b then renewed_suite old shelves steps moment suite s else []) t → (path : List ℕ) × (t.path ≡ codes "dists/" ++ s.codename ++ codes "/" ++ path)
      path_here true t h = path_of_folder (folder_of suite s) (release_text s moment) t h
      path_here false t h = no_member t h
