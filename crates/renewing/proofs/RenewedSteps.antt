-- The steps of the functions that find the texts that are other than the kept ones.
use Rattle.std.proofs.Common.{◌≡◌, ℕ, ◌+◌, ◌<◌, Bool, true, false, if◌then◌else◌, List, [], ◌∷◌, ◌++◌, length, drop, take, get_or, slice_get, map, Option, Some, None, unwrap_or, refl, sym, ap, ◌∙◌, append_assoc, append-nil}
use Rattle.std.specs.List.{flat_map}
use Rattle.std.specs.Option.{option_map, option_map_or}
use Rattle.std.proofs.lemmas.List.{drop_more, map-append, take_more}
use Rattle.std.proofs.lemmas.Option.{get_or_from_slice_get, same_Some}
use Rattle.book.specs.Scan.{some_touches}
use Rattle.rules.specs.Values.{ConfigValue}
use Rattle.rules.specs.declared.suite.Suite.{Suite}
use Rattle.indices.specs.Positions.{release_at}
use Rattle.indices.specs.Release.{release_text}
use Rattle.std.proofs.lemmas.Grind.{flat_map-append}
use Rattle.book.specs.declared.change.IndexText.{IndexText}
use Rattle.book.specs.declared.change.Step.{Step}
use Rattle.sums.specs.Prints.{print}
use Rattle.sums.specs.declared.print.Print.{Print}
use Rattle.suites.specs.Shelves.{ShelvesValue}
use Rattle.indices.specs.declared.index.Index.{Index}
use Rattle.renewing.specs.Renewal.{folder_of, index_after, path_in, print_kept, renewed_folder, renewed_from, renewed_index, renewed_suite, some_changes_index, text_after}
use Rattle.indices.specs.Places.{place_path, place_text}
use Rattle.renewing.specs.declared.renewal.Folder.{Folder}
use Rattle.indices.specs.declared.index.IndexPlace.{IndexPlace}

abbrev index : List ℕ → Print → Index
index path print = record { path = path; print = print }

-- the index of a place that no step changes
pub kept_index : (old : List ℕ → Option (List ℕ)) (shelves : ShelvesValue) (steps : List Step) (folder : Folder) (place : IndexPlace) (path whole : List ℕ) (kept : Option (List ℕ)) (own : Print)
    → path ≡ place_path place → whole ≡ path_in folder path → kept ≡ old whole → own ≡ print_kept kept → some_changes_index folder.suite place steps ≡ false
    → record { path = path; print = own } ≡ index_after old shelves steps folder place
unfolding text_after print_kept
kept_index old shelves steps folder place path whole kept own path_is whole_is kept_is own_is unchanged =
    let there_is : kept ≡ old (path_in folder (place_path place)) = kept_is ∙ ap old (whole_is ∙ ap (path_in folder) path_is) in
    ap (λ (p : List ℕ). index p own) path_is
    ∙ ap (index (place_path place)) (own_is ∙ ap (λ (o : Option (List ℕ)). print (unwrap_or o [])) there_is)
    ∙ ap (λ (b : Bool). index (place_path place) (print (if b then place_text shelves folder.suite place else unwrap_or (old (path_in folder (place_path place))) []))) (sym unchanged)

-- its text is not among those that differ
pub kept_texts : (old : List ℕ → Option (List ℕ)) (shelves : ShelvesValue) (steps : List Step) (folder : Folder) (place : IndexPlace) → some_changes_index folder.suite place steps ≡ false
    → renewed_index old shelves steps folder place ≡ []
unfolding renewed_index
kept_texts old shelves steps folder place unchanged = rw unchanged refl

-- the print of the text that is kept, from the print of the text if there is one
pub print_or : (kept : Option (List ℕ)) → unwrap_or (option_map print kept) (print []) ≡ print_kept kept
unfolding print_kept
print_or None = refl
print_or (Some text) = refl

-- one more element of a list that is gone over
pub mapped_more : {X Y : Type 0} (f : X → Y) (xs : List X) (i : ℕ) (x : X) (ys zs : List Y) (y : Y) → i < length xs → x ≡ get_or xs i x
    → zs ≡ ys ++ y ∷ [] → ys ≡ map f (take i xs) → y ≡ f x → zs ≡ map f (take (i + 1) xs)
mapped_more f xs i x ys zs y inside is more so_far one =
    more ∙ ap (λ us. us ++ y ∷ []) so_far ∙ ap (λ u. map f (take i xs) ++ u ∷ []) one
    ∙ sym (map-append f (take i xs) (x ∷ []))
    ∙ ap (map f) (ap (λ u. take i xs ++ u ∷ []) is ∙ sym (take_more xs i x inside))

pub gathered_more : {X Y : Type 0} (f : X → List Y) (xs : List X) (i : ℕ) (x : X) (front ys zs : List Y) → i < length xs → x ≡ get_or xs i x
    → zs ≡ ys ++ f x → ys ≡ front ++ flat_map f (take i xs) → zs ≡ front ++ flat_map f (take (i + 1) xs)
gathered_more f xs i x front ys zs inside is more so_far =
    more ∙ ap (λ us. us ++ f x) so_far ∙ append_assoc front (flat_map f (take i xs)) (f x)
    ∙ ap (λ us. front ++ us)
    (ap (λ us. flat_map f (take i xs) ++ us) (sym (append-nil (f x)))
    ∙ sym (flat_map-append f (take i xs) (x ∷ []))
    ∙ ap (flat_map f) (ap (λ u. take i xs ++ u ∷ []) is ∙ sym (take_more xs i x inside)))

-- the folder that was made is that of the suite
pub of_suite : (old : List ℕ → Option (List ℕ)) (shelves : ShelvesValue) (steps : List Step) (moment : ℕ) (config : ConfigValue) (suite : ℕ) (folder : Folder) (s t : Suite)
    → folder ≡ folder_of suite t → slice_get config.suites suite ≡ Some t → slice_get config.suites suite ≡ Some s
    → renewed_folder old shelves steps folder (release_at config folder.suite moment) ≡ renewed_suite old shelves steps moment suite s
unfolding release_at
of_suite old shelves steps moment config suite folder s t made at here =
    let same : t ≡ s = same_Some t s (sym at ∙ here) in
    ap (λ (f : Folder). renewed_folder old shelves steps f (release_at config f.suite moment)) (made ∙ ap (folder_of suite) same)
    ∙ ap (λ (o : Option Suite). renewed_folder old shelves steps (folder_of suite s) (λ indices. option_map_or (λ t. release_text t moment indices) o [])) here

-- Suites in order: those before a position are gone over, and those from there are to come.
module _ (old : List ℕ → Option (List ℕ)) (shelves : ShelvesValue) (steps : List Step) (moment : ℕ) (suites : List Suite) (i : ℕ) (inside : i < length suites) where
  abbrev to_come : ℕ → List IndexText
  to_come j = renewed_from old shelves steps moment j (drop j suites)

  one_more : (s : Suite) → s ≡ get_or suites i s → to_come i ≡ (if some_touches i steps then renewed_suite old shelves steps moment i s else []) ++ to_come (i + 1)
  unfolding renewed_from
  one_more s is = ap (λ (ss : List Suite). renewed_from old shelves steps moment i ss) (drop_more suites i s inside ∙ ap (λ (t : Suite). t ∷ drop (i + 1) suites) (sym is))

  pub touched_suite : {whole : List IndexText} (s : Suite) (xs ys : List IndexText) → slice_get suites i ≡ Some s → some_touches i steps ≡ true → ys ≡ xs ++ renewed_suite old shelves steps moment i s
      → xs ++ to_come i ≡ whole → ys ++ to_come (i + 1) ≡ whole
  touched_suite s xs ys at touched more so_far =
      ap (λ zs. zs ++ to_come (i + 1)) more ∙ append_assoc xs (renewed_suite old shelves steps moment i s) (to_come (i + 1))
      ∙ ap (λ b. xs ++ ((if b then renewed_suite old shelves steps moment i s else []) ++ to_come (i + 1))) (sym touched)
      ∙ ap (λ zs. xs ++ zs) (sym (one_more s (sym (get_or_from_slice_get suites i s s at))))
      ∙ so_far

  pub untouched_suite : {whole : List IndexText} (s : Suite) (xs : List IndexText) → slice_get suites i ≡ Some s → some_touches i steps ≡ false → xs ++ to_come i ≡ whole → xs ++ to_come (i + 1) ≡ whole
  untouched_suite s xs at untouched so_far =
      ap (λ b. xs ++ ((if b then renewed_suite old shelves steps moment i s else []) ++ to_come (i + 1))) (sym untouched)
      ∙ ap (λ zs. xs ++ zs) (sym (one_more s (sym (get_or_from_slice_get suites i s s at))))
      ∙ so_far
