-- The index texts that steps change.
use Rattle.std.specs.Prelude.{ℕ, ◌+◌, Bool, ◌||◌, if◌then◌else◌, List, [], ◌∷◌, ◌++◌, map, codes, Option, is_some, unwrap_or}
use Rattle.std.proofs.Common.{refl}
use Rattle.std.specs.List.{flat_map, list_any}
use Rattle.rules.specs.declared.suite.Suite.{Suite}
use Rattle.book.specs.Book.{is_kept}
use Rattle.book.specs.Scan.{some_touches}
use Rattle.book.specs.declared.change.IndexText.{IndexText}
use Rattle.book.specs.declared.change.Step.{Step}
use Rattle.sums.specs.Prints.{print}
use Rattle.sums.specs.declared.print.Print.{Print}
use Rattle.suites.specs.Shelves.{ShelvesValue}
use Rattle.suites.specs.declared.item.Item.{Item}
use Rattle.suites.specs.declared.key.ShelfKey.{ShelfKey}
use Rattle.suites.specs.declared.plan.Plan.{Plan}
use Rattle.indices.specs.Release.{index_of, is_source, release_text}
use Rattle.indices.specs.Listed.{is_in_packages, is_in_sources}
use Rattle.indices.specs.Indices as indices
use Rattle.indices.specs.Places.{place_path, place_text, places_in}
use Rattle.indices.specs.declared.index.Index.{Index}
use Rattle.indices.specs.declared.index.IndexPlace.{IndexPlace}
use Rattle.renewing.specs.declared.renewal.Folder.{Folder}

-- ---- which indices a step changes

-- the index of a component and an architecture of the suite at a position lists the item
unfoldable pub is_listed : ℕ → IndexPlace → ShelfKey × Item → Bool
is_listed suite place e =
    if is_source place.architecture then is_in_sources suite place.component e
    else is_in_packages suite place.component place.architecture e

-- the plan puts or drops an item that the index lists
unfoldable pub changes_index : ℕ → IndexPlace → Plan → Bool
changes_index suite place plan = list_any (is_listed suite place) plan.put || list_any (is_listed suite place) plan.dropped

abbrev pub some_changes_index : ℕ → IndexPlace → List Step → Bool
some_changes_index suite place steps = list_any (λ step. changes_index suite place step.plan) steps

-- ---- the texts that then differ, which are these by their paths

-- the print of the text that is there; if there is none, the print of no bytes
unfoldable pub print_kept : Option (List ℕ) → Print
print_kept kept = print (unwrap_or kept [])

-- the text at a path, with its print
abbrev pub text_to_keep : List ℕ → List ℕ → IndexText
text_to_keep path text = record { path = path; text = text; print = print text; printed = refl }

-- the text, if another is at its path
unfoldable pub renewed_at : Option (List ℕ) → List ℕ → List ℕ → List IndexText
renewed_at kept path text = if is_kept kept text then [] else text_to_keep path text ∷ []

-- the suite at a position, as its paths name it
abbrev pub folder_of : ℕ → Suite → Folder
folder_of suite s = record { suite = suite; codename = s.codename; places = places_in s.components s.architectures }

-- the path of a text of the suite
abbrev pub path_in : Folder → List ℕ → List ℕ
path_in folder path = indices.path_in folder.codename path

-- the index of this path and this print
abbrev pub index_with : List ℕ → Print → Index
index_with path own = record { path = path; print = own }

module _ (old : List ℕ → Option (List ℕ)) (shelves : ShelvesValue) (steps : List Step) (folder : Folder) where
  -- the text of an index: rendered if a step changes it, else as it was
  unfoldable pub text_after : IndexPlace → List ℕ
  text_after place =
      if some_changes_index folder.suite place steps then place_text shelves folder.suite place
      else unwrap_or (old (path_in folder (place_path place))) []

  abbrev pub index_after : IndexPlace → Index
  index_after place = index_of (place_path place, text_after place)

  -- the text of an index that a step changes, if it differs
  unfoldable pub renewed_index : IndexPlace → List IndexText
  renewed_index place =
      if some_changes_index folder.suite place steps
      then renewed_at (old (path_in folder (place_path place))) (path_in folder (place_path place)) (place_text shelves folder.suite place)
      else []

  -- the texts of a suite that has a Release: those of its indices that a step changes, and Release itself if
  -- it differs
  unfoldable pub renewed_folder : (List Index → List ℕ) → List IndexText
  renewed_folder release =
      if is_some (old (path_in folder (codes "Release")))
      then flat_map renewed_index folder.places
      ++ renewed_at (old (path_in folder (codes "Release"))) (path_in folder (codes "Release")) (release (map index_after folder.places))
      else []

-- the texts of the suite at a position that the steps make different
abbrev pub renewed_suite : (List ℕ → Option (List ℕ)) → ShelvesValue → List Step → ℕ → ℕ → Suite → List IndexText
renewed_suite old shelves steps moment suite s = renewed_folder old shelves steps (folder_of suite s) (release_text s moment)

-- the texts of suites that a step touches; the first suite of the list is at this position
unfoldable pub renewed_from : (List ℕ → Option (List ℕ)) → ShelvesValue → List Step → ℕ → ℕ → List Suite → List IndexText
renewed_from old shelves steps moment suite [] = []
renewed_from old shelves steps moment suite (s ∷ rest) =
    (if some_touches suite steps then renewed_suite old shelves steps moment suite s else [])
    ++ renewed_from old shelves steps moment (suite + 1) rest
