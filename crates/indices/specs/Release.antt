-- The text that names a suite and lists the prints of its other indices (the Debian repository format).
use Rattle.std.specs.Prelude.{ℕ, ◌+◌, ◌*◌, Bool, not, if◌then◌else◌, List, [], ◌∷◌, ◌++◌, map, filter, codes, bytes_eq, Option, option_to_list}
use Rattle.std.specs.List.{flat_map, join_with_byte}
use Rattle.para.specs.Field.{FieldValue}
use Rattle.para.specs.Fields.{Fields}
use Rattle.para.specs.Printing.{paragraph_text}
use Rattle.sums.specs.Prints.{print}
use Rattle.rules.specs.declared.suite.Suite.{Suite}
use Rattle.suites.specs.Shelves.{ShelvesValue}
use Rattle.indices.specs.declared.index.Index.{Index}
use Rattle.indices.specs.declared.index.Digest.{Digest}
use Rattle.indices.specs.declared.index.Digest.TheVariants.{Md5, Sha1, Sha256}
use Rattle.indices.specs.Calendar.{date_text}
use Rattle.indices.specs.Stanzas.{line_field, list_line, packages_text, sources_text}

-- the field, if there is a value for it
unfoldable pub optional_field : List ℕ → Option (List ℕ) → Fields
optional_field name value = map (line_field name) (option_to_list value)

-- an empty first line, and a line ` DIGEST SIZE PATH` for each index
unfoldable pub index_list : List ℕ → Digest → List Index → FieldValue
index_list name digest indices = record {
  name = name;
  first = [];
  more = map (λ i. list_line digest i.print i.path) indices;
}

abbrev pub is_source : List ℕ → Bool
is_source architecture = bytes_eq architecture (codes "source")

-- the architectures of packages, with single spaces between
unfoldable pub architectures_text : List (List ℕ) → List ℕ
architectures_text architectures = join_with_byte 32 (filter (λ a. not (is_source a)) architectures)

-- until when a Release of the suite that last changed at the moment is valid, if the suite says for how long
unfoldable pub valid_until : Suite → ℕ → Fields
valid_until s moment =
    map (λ days. line_field (codes "Valid-Until") (date_text (moment + days * 86400))) (option_to_list s.valid_days)

-- the fields that say what the suite is, when it changed, and until when it is valid
unfoldable pub suite_fields : Suite → ℕ → Fields
suite_fields s moment =
    optional_field (codes "Origin") s.origin
    ++ optional_field (codes "Label") s.label
    ++ optional_field (codes "Suite") s.suite
    ++ line_field (codes "Codename") s.codename
    ∷ line_field (codes "Date") (date_text moment)
    ∷ (valid_until s moment
    ++ line_field (codes "Architectures") (architectures_text s.architectures)
    ∷ line_field (codes "Components") (join_with_byte 32 s.components)
    ∷ optional_field (codes "Description") s.description)

-- the lists of the other indices
unfoldable pub index_lists : List Index → Fields
index_lists indices =
    index_list (codes "MD5Sum") Md5 indices
    ∷ index_list (codes "SHA1") Sha1 indices
    ∷ index_list (codes "SHA256") Sha256 indices
    ∷ []

-- Release: the suite, whose shown items last changed at the moment, and its other indices.
unfoldable pub release_text : Suite → ℕ → List Index → List ℕ
release_text s moment indices = paragraph_text (suite_fields s moment ++ index_lists indices)

-- the path of an index, from the folder of its suite
unfoldable pub index_path : List ℕ → List ℕ → List ℕ
index_path component architecture =
    if is_source architecture then component ++ codes "/source/Sources"
    else component ++ codes "/binary-" ++ architecture ++ codes "/Packages"

-- the text of an index other than Release, of the suite at a position
unfoldable pub listed_text : ShelvesValue → ℕ → List ℕ → List ℕ → List ℕ
listed_text shelves suite component architecture =
    if is_source architecture then sources_text shelves suite component
    else packages_text shelves suite component architecture

-- the path of an index and its text
abbrev pub listed_entry : ShelvesValue → ℕ → List ℕ → List ℕ → List ℕ × List ℕ
listed_entry shelves suite component architecture =
    (index_path component architecture, listed_text shelves suite component architecture)

-- the paths and texts of the indices of the suite at a position, Release aside: for each component in its order, each
-- architecture in its order
unfoldable pub listed_texts : Suite → ShelvesValue → ℕ → List (List ℕ × List ℕ)
listed_texts s shelves suite = flat_map (λ c. map (listed_entry shelves suite c) s.architectures) s.components

-- an index by its path and its text
abbrev pub index_of : List ℕ × List ℕ → Index
index_of entry = record { path = entry.0; print = print entry.1 }

-- the indices that the Release of the suite at a position lists
unfoldable pub indices_of : Suite → ShelvesValue → ℕ → List Index
indices_of s shelves suite = map index_of (listed_texts s shelves suite)
