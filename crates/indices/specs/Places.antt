-- The places of a suite's indices.
use Rattle.std.specs.Prelude.{ℕ, List, map}
use Rattle.std.specs.List.{flat_map}
use Rattle.suites.specs.Shelves.{ShelvesValue}
use Rattle.indices.specs.Release.{index_path, listed_text}
use Rattle.indices.specs.declared.index.IndexPlace.{IndexPlace}

-- the place of a component and an architecture
abbrev pub place_at : List ℕ → List ℕ → IndexPlace
place_at component architecture = record { component = component; architecture = architecture }

-- the places of a suite's indices: for each component in its order, each architecture in its order
abbrev pub places_in : List (List ℕ) → List (List ℕ) → List IndexPlace
places_in components architectures = flat_map (λ c. map (place_at c) architectures) components

-- the path of the index at a place, from the folder of its suite
abbrev pub place_path : IndexPlace → List ℕ
place_path place = index_path place.component place.architecture

-- the text of the index at a place of the suite at a position
abbrev pub place_text : ShelvesValue → ℕ → IndexPlace → List ℕ
place_text shelves suite place = listed_text shelves suite place.component place.architecture

-- the path of the index at a place and its text
abbrev pub place_entry : ShelvesValue → ℕ → IndexPlace → List ℕ × List ℕ
place_entry shelves suite place = (place_path place, place_text shelves suite place)
