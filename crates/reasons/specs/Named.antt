-- What a verdict is about: the first architecture or file that passes the test by which its rule asks whether there is any.
use Rattle.std.specs.Prelude.{ℕ, Bool, not, ◌&&◌, if◌then◌else◌, List, [], ◌∷◌, filter, find, bytes_eq, codes, Option, None, Some, slice_get}
use Rattle.std.specs.List.{list_any}
use Rattle.std.specs.Option.{option_or}
use Rattle.records.specs.Records.{is_among}
use Rattle.records.specs.Values.{ChangesValue, DscValue, SidecarValue}
use Rattle.rules.specs.Judgement.{component}
use Rattle.rules.specs.Suites.{component_of, keeps_architecture}
use Rattle.rules.specs.declared.suite.Suite.{Suite}
use Rattle.sums.specs.declared.entries.Entry.{Entry}
use Rattle.suites.specs.Shelves.{ShelvesValue, pool}
use Rattle.suites.specs.Upload.{has_suffix, stem}
use Rattle.suites.specs.Verdict.{by_print, has_entry, has_source, is_missing_file, is_package_part, is_same_package, is_taken, stems}

-- the first of several that is there
abbrev pub first_some : {X : Type 0} → List (Option X) → Option X
first_some [] = None
first_some (o ∷ os) = option_or o (first_some os)

-- 2. the first architecture of the .changes that the suite does not keep
abbrev pub foreign_architecture : ChangesValue → Suite → Option (List ℕ)
foreign_architecture c s = find (λ a. not (keeps_architecture s a)) c.architectures

-- 4. the first listed file of another component than that of the upload
abbrev pub other_component : ChangesValue → Option Entry
other_component c = find (λ e. not (bytes_eq (component_of e.section) (component c))) c.entries

-- 5. the first .changes that is listed
abbrev pub listed_changes : ChangesValue → Option Entry
listed_changes c = find (λ e. has_suffix (codes ".changes") e.name) c.entries

-- a surplus .dsc: the second with `source` among the architectures, the first without
abbrev pub surplus_dsc : ChangesValue → Option Entry
surplus_dsc c = slice_get (filter (λ e. has_suffix (codes ".dsc") e.name) c.entries) (if has_source c then 1 else 0)

-- 5. no .dsc, with `source` among the architectures
unfoldable pub lacks_dsc : ChangesValue → Bool
lacks_dsc c = has_source c && not (list_any (λ e. has_suffix (codes ".dsc") e.name) c.entries)

-- the name has the first ending, and no entry has the same name with the second in its place
unfoldable pub is_lone : List ℕ → List ℕ → List Entry → Entry → Bool
is_lone ending other entries e = has_suffix ending e.name && not (is_among (stems other entries) (stem ending e.name))

-- the first package file without its sidecar, or the reverse
abbrev pub lone_file : List ℕ → List ℕ → List Entry → Option Entry
lone_file ending other entries = find (is_lone ending other entries) entries

-- the first source file, without `source` among the architectures
unfoldable pub source_file : ChangesValue → Option Entry
source_file c = if has_source c then None else find (λ e. not (is_package_part e.name)) c.entries

-- 6. the first file that the .dsc lists and may not list
abbrev pub listed_part : DscValue → Option Entry
listed_part d = find (λ e. is_package_part e.name) d.entries

-- a source file that the .dsc does not list with that print
unfoldable pub is_unlisted : DscValue → Entry → Bool
is_unlisted d e = not (is_package_part e.name) && not (has_entry d.entries e)

abbrev pub unlisted_file : ChangesValue → DscValue → Option Entry
unlisted_file c d = find (is_unlisted d) c.entries

-- 7. a sidecar and its twin, the first after it of the same package and architecture, if there is one, else what is found elsewhere
abbrev pub beside : SidecarValue → Option SidecarValue → Option (SidecarValue × SidecarValue) → Option (SidecarValue × SidecarValue)
beside s None elsewhere = elsewhere
beside s (Some twin) elsewhere = Some (s, twin)

-- the first sidecar that has a twin, and the twin
abbrev pub twins : List SidecarValue → Option (SidecarValue × SidecarValue)
twins [] = None
twins (s ∷ rest) = beside s (find (is_same_package s) rest) (twins rest)

-- 8. the first file of the .dsc that is neither in the .changes nor in the pool
abbrev pub missing_file : ShelvesValue → ChangesValue → DscValue → Option Entry
missing_file shelves c d = find (is_missing_file by_print (pool shelves) c) d.entries

-- 9. the first listed file whose path in the pool has other contents
abbrev pub taken_entry : ShelvesValue → ChangesValue → Option Entry
taken_entry shelves c = find (is_taken by_print (pool shelves) c) c.entries
