-- The verdict on an upload, given the configuration and the pool. Contents of files are bodies in the plain archive, and
-- prints in the program; each definition is for both.
use Rattle.std.specs.Prelude.{ℕ, ◌==◌, nat_lt, Bool, true, false, not, ◌&&◌, ◌||◌, if◌then◌else◌, List, [], ◌∷◌, ◌++◌, length, map, filter, codes, bytes_eq, Result, Ok, Err, is_some, filter_map}
use Rattle.std.specs.Result.{result_ok}
use Rattle.std.specs.Option.{option_map_or}
use Rattle.std.specs.List.{list_any, list_all}
use Rattle.std.specs.FinMap.{get}
use Rattle.vers.specs.Syntax.{without_epoch}
use Rattle.records.specs.Values.{ChangesValue, DscValue, SidecarValue}
use Rattle.records.specs.Records.{dsc_in, dsc_within, sidecar_in, is_among}
use Rattle.sums.specs.Prints.{same_print}
use Rattle.sums.specs.declared.entries.Entry.{Entry}
use Rattle.sums.specs.declared.print.Print.{Print}
use Rattle.rules.specs.Values.{ConfigValue}
use Rattle.rules.specs.Verdicts.{Row, first_row}
use Rattle.rules.specs.Judgement.{rule_rows, component}
use Rattle.rules.specs.Sizes.{largest}
use Rattle.rules.specs.declared.verdict.Verdict.{Verdict}
use Rattle.rules.specs.declared.verdict.Verdict.TheVariants as verdict
use Rattle.suites.specs.Pool.{PoolWith, pool_path}
use Rattle.suites.specs.Shelves.{ShelvesValue, pool}
use Rattle.suites.specs.Upload.{UploadValue, has_suffix, stem, dsc_parts, sidecar_parts, entry_named}

abbrev pub names_of : List Entry → List (List ℕ)
names_of entries = map (λ e. e.name) entries

unfoldable pub names_with : List ℕ → List Entry → List (List ℕ)
names_with suffix entries = filter (has_suffix suffix) (names_of entries)

unfoldable pub stems : List ℕ → List Entry → List (List ℕ)
stems suffix entries = map (stem suffix) (names_with suffix entries)

-- each of the names is among the others
unfoldable pub are_among : List (List ℕ) → List (List ℕ) → Bool
are_among names others = list_all (is_among others) names

unfoldable pub has_source : ChangesValue → Bool
has_source c = is_among c.architectures (codes "source")

-- the name is not that of a source file
unfoldable pub is_package_part : List ℕ → Bool
is_package_part name =
    has_suffix (codes ".dsc") name || has_suffix (codes ".deb") name || has_suffix (codes ".control") name
    || has_suffix (codes ".changes") name

-- 5. A .changes is listed; there is not exactly one .dsc although `source` is among the architectures, or one although it
-- is not; a package file has no sidecar or the reverse; or a source file comes without `source`.
unfoldable pub has_bad_listing : ChangesValue → Bool
has_bad_listing c =
    nat_lt 0 (length (names_with (codes ".changes") c.entries))
    || not (length (names_with (codes ".dsc") c.entries) == (if has_source c then 1 else 0))
    || not (are_among (stems (codes ".deb") c.entries) (stems (codes ".control") c.entries))
    || not (are_among (stems (codes ".control") c.entries) (stems (codes ".deb") c.entries))
    || (not (has_source c) && not (list_all is_package_part (names_of c.entries)))

-- the list has a file of that name and that print
unfoldable pub has_entry : List Entry → Entry → Bool
has_entry entries e = option_map_or (λ f. same_print f.print e.print) (entry_named e.name entries) false

-- the name of a .dsc by its own fields, with the version without its epoch (Policy 5.6.12)
abbrev pub dsc_file : DscValue → List ℕ
dsc_file d = d.source ++ codes "_" ++ without_epoch d.version ++ codes ".dsc"

-- 6. What the .dsc says is not what the .changes says.
unfoldable pub differs_from_dsc : ChangesValue → List ℕ → DscValue → Bool
differs_from_dsc c name d =
    not (bytes_eq d.source c.source) || not (bytes_eq d.version c.version)
    || not (bytes_eq name (dsc_file d))
    || list_any (λ e. is_package_part e.name) d.entries
    || not (list_all (has_entry d.entries) (filter (λ e. not (is_package_part e.name)) c.entries))

-- the test at the record, or true if the text is not a record
abbrev pub match_ok : {V E : Type 0} → Result V E → (V → Bool) → Bool
match_ok (Ok v) test = test v
match_ok (Err e) test = true

-- a .dsc of the upload differs, or its text is not a .dsc of files of at most `most` bytes
unfoldable pub has_bad_dsc : ℕ → UploadValue → Bool
has_bad_dsc most u =
    list_any (λ part. match_ok (dsc_within most part.1) (differs_from_dsc u.changes part.0.name)) (dsc_parts u)

-- 7. A sidecar is not valid, is misnamed, is of an architecture or a source that the .changes does not have, or
-- is the second of its package and architecture.
unfoldable pub sidecar_file : SidecarValue → List ℕ
sidecar_file s = s.name ++ codes "_" ++ without_epoch s.version ++ codes "_" ++ s.architecture ++ codes ".control"

unfoldable pub differs_from_sidecar : ChangesValue → List ℕ → SidecarValue → Bool
differs_from_sidecar c name s =
    not (bytes_eq name (sidecar_file s)) || not (is_among c.architectures s.architecture)
    || not (bytes_eq s.source c.source)

unfoldable pub is_same_package : SidecarValue → SidecarValue → Bool
is_same_package s t = bytes_eq s.name t.name && bytes_eq s.architecture t.architecture

-- two of the sidecars have the same package and architecture
abbrev pub have_twins : List SidecarValue → Bool
have_twins [] = false
have_twins (s ∷ rest) = list_any (is_same_package s) rest || have_twins rest

unfoldable pub has_bad_sidecar : UploadValue → Bool
has_bad_sidecar u =
    list_any (λ part. match_ok (sidecar_in part.1) (differs_from_sidecar u.changes part.0.name)) (sidecar_parts u)
    || have_twins (filter_map (λ part. result_ok (sidecar_in part.1)) (sidecar_parts u))

-- the path of an entry's file in the pool
abbrev pub path_of : ChangesValue → Entry → List ℕ
path_of c e = pool_path (component c) c.source e.name

-- What the verdict asks of contents: their print, whether two are the same, and the contents of an entry's file.
pub record Telling (C : Type 0) : Type 0 where
  pub print : C → Print
  pub same : C → C → Bool
  pub of_entry : Entry → C

module _ {C : Type 0} (tell : Telling C) (files : PoolWith C) where
  -- 8. The .dsc lists a file that is neither in the .changes nor in the pool at its path with that print.
  unfoldable pub is_missing_file : ChangesValue → Entry → Bool
  is_missing_file c e =
      not (is_some (entry_named e.name c.entries))
      && not (option_map_or (λ there. same_print (tell.print there) e.print) (get files (path_of c e)) false)

  unfoldable pub lacks_source_file : UploadValue → Bool
  lacks_source_file u = list_any
      (λ part. match_ok (dsc_in part.1) (λ d. list_any (is_missing_file u.changes) d.entries)) (dsc_parts u)

  -- 9. The pool holds other contents at the path of the .dsc, a source file or a package file.
  unfoldable pub is_taken : ChangesValue → Entry → Bool
  is_taken c e =
      not (has_suffix (codes ".control") e.name)
      && option_map_or (λ there. not (tell.same there (tell.of_entry e))) (get files (path_of c e)) false

  unfoldable pub has_other_contents : UploadValue → Bool
  has_other_contents u = list_any (is_taken u.changes) u.changes.entries

  -- the rows of the verdicts 5 to 9, if a file has at most `most` bytes
  abbrev pub upload_rows : ℕ → UploadValue → List Row
  upload_rows most u =
      (has_bad_listing u.changes, verdict.BadListing)
      ∷ (has_bad_dsc most u, verdict.BadDsc)
      ∷ (has_bad_sidecar u, verdict.BadSidecar)
      ∷ (lacks_source_file u, verdict.NotInPool)
      ∷ (has_other_contents u, verdict.OtherContents)
      ∷ []

  -- the verdict: the first of the rows of the verdicts 1 to 9 that applies; accepted if no row does
  abbrev pub verdict_with : ConfigValue → UploadValue → Verdict
  verdict_with config u = first_row (rule_rows config u.changes ++ upload_rows (largest config) u)

-- contents that are prints: each is its own print, and an entry has its print
abbrev pub by_print : Telling Print
by_print = record { print = λ p. p; same = same_print; of_entry = λ e. e.print }

abbrev pub verdict_on : ConfigValue → ShelvesValue → UploadValue → Verdict
verdict_on config shelves u = verdict_with by_print (pool shelves) config u
