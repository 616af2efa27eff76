-- The texts at the paths of a configuration's indices.
use Rattle.std.specs.Prelude.{ℕ, ◌+◌, List, [], ◌∷◌, ◌++◌, map, find, zip, codes, bytes_eq, Option, option_map}
use Rattle.rules.specs.Values.{ConfigValue}
use Rattle.rules.specs.declared.suite.Suite.{Suite}
use Rattle.suites.specs.Shelves.{ShelvesValue}
use Rattle.indices.specs.Release.{release_text, indices_of, listed_texts}

-- a path and the text there
abbrev pub PathText : Type 0
PathText = List ℕ × List ℕ

-- the path of a file in the folder of the suite with a codename
abbrev pub path_in : List ℕ → List ℕ → List ℕ
path_in codename path = codes "dists/" ++ codename ++ codes "/" ++ path

-- the path of a file in the folder of a suite
abbrev pub suite_path : Suite → List ℕ → List ℕ
suite_path s path = path_in s.codename path

-- the texts of the suite at a position, whose shown items last changed at the date, by their paths from its folder:
-- Release, and then the others
unfoldable pub folder_texts : ShelvesValue → ℕ → Suite → ℕ → List PathText
folder_texts shelves suite s date =
    (codes "Release", release_text s date (indices_of s shelves suite)) ∷ listed_texts s shelves suite

-- the texts of the suite at a position by their whole paths
unfoldable pub suite_texts : ShelvesValue → ℕ → Suite → ℕ → List PathText
suite_texts shelves suite s date = map (λ e. (suite_path s e.0, e.1)) (folder_texts shelves suite s date)

-- the texts of suites with their dates, of which the first is at this position
unfoldable pub texts_from : ShelvesValue → ℕ → List (Suite × ℕ) → List PathText
texts_from shelves suite [] = []
texts_from shelves suite (s ∷ rest) = suite_texts shelves suite s.0 s.1 ++ texts_from shelves (suite + 1) rest

-- all texts of a configuration, suite by suite
abbrev pub all_texts : ConfigValue → ShelvesValue → List ℕ → List PathText
all_texts config shelves dates = texts_from shelves 0 (zip config.suites dates)

-- the first text that a list has at a path
unfoldable pub text_at : List ℕ → List PathText → Option (List ℕ)
text_at path entries = option_map (λ e. e.1) (find (λ e. bytes_eq e.0 path) entries)

-- The text at a path without a leading slash, of what the suites show and the dates at which that last changed.
unfoldable pub index_text : ConfigValue → ShelvesValue → List ℕ → List ℕ → Option (List ℕ)
index_text config shelves dates path = text_at path (all_texts config shelves dates)
