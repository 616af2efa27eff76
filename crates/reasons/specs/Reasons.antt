-- What each verdict is about: the first part of its rule that applies.
use Rattle.std.specs.Prelude.{ℕ, not, List, [], ◌∷◌, map, filter_map, codes, Option, Some, None, Result, Ok, Err, option_map, option_and_then}
use Rattle.std.specs.Bool.{then_some}
use Rattle.std.specs.FinMap.{get}
use Rattle.std.specs.Option.{option_or}
use Rattle.std.specs.Result.{result_ok}
use Rattle.records.specs.Records.{dsc_in, dsc_within, sidecar_in}
use Rattle.records.specs.Values.{ChangesValue, DscValue, SidecarValue}
use Rattle.records.specs.declared.fault.RecordFault.{RecordFault}
use Rattle.rules.specs.Judgement.{component, suite_of}
use Rattle.rules.specs.Sizes.{largest}
use Rattle.rules.specs.Suites.{component_of, keeps_component}
use Rattle.rules.specs.Values.{ConfigValue}
use Rattle.rules.specs.declared.suite.Suite.{Suite}
use Rattle.rules.specs.declared.verdict.Verdict.{Verdict}
use Rattle.rules.specs.declared.verdict.Verdict.TheVariants as verdict
use Rattle.sums.specs.declared.entries.Entry.{Entry}
use Rattle.suites.specs.Shelves.{ShelvesValue, pool}
use Rattle.suites.specs.Upload.{Part, UploadValue, dsc_parts, sidecar_parts}
use Rattle.suites.specs.Verdict.{has_source, path_of, sidecar_file}
use Rattle.reasons.specs.Differences.{dsc_difference, sidecar_difference}
use Rattle.reasons.specs.Named.{first_some, foreign_architecture, lacks_dsc, listed_changes, lone_file, missing_file, other_component, source_file, surplus_dsc, taken_entry, twins}
use Rattle.reasons.specs.declared.about.Named.{Named}
use Rattle.reasons.specs.declared.about.Named.TheVariants as named

-- 1. the distribution
abbrev pub named_distribution : ChangesValue → Named
named_distribution c = named.Distribution c.distribution

-- 2. an architecture
abbrev pub named_architecture : ChangesValue → Suite → Option Named
named_architecture c s = option_map named.Architecture (foreign_architecture c s)

-- 3. the source package and the person
abbrev pub named_uploader : ChangesValue → Named
named_uploader c = named.Uploader c.source c.person

-- 4. a file of a component other than the upload's, or the upload's component, which the suite does not have
abbrev pub of_other_component : List ℕ → Entry → Named
of_other_component upload e = named.OtherComponent e.name (component_of e.section) upload

abbrev pub named_component : ChangesValue → Suite → Option Named
named_component c s = first_some (
    option_map (of_other_component (component c)) (other_component c)
    ∷ then_some (not (keeps_component s (component c))) (named.Component (component c))
    ∷ [])

-- 5. a listed file, or that there is no .dsc: the last three parts of its rule
abbrev pub lone_parts : ChangesValue → List (Option Named)
lone_parts c =
    option_map (λ e. named.LonePackage e.name) (lone_file (codes ".deb") (codes ".control") c.entries)
    ∷ option_map (λ e. named.LoneSidecar e.name) (lone_file (codes ".control") (codes ".deb") c.entries)
    ∷ option_map (λ e. named.SourceFile e.name) (source_file c)
    ∷ []

-- 5. a listed file, or that there is no .dsc: all parts of its rule
abbrev pub named_listing : ChangesValue → Option Named
named_listing c = first_some (
    option_map (λ e. named.ListedChanges e.name) (listed_changes c)
    ∷ option_map (λ e. named.SurplusDsc e.name (has_source c)) (surplus_dsc c)
    ∷ then_some (lacks_dsc c) named.NoDsc
    ∷ lone_parts c)

-- 6. a .dsc of this name, as it is read
abbrev pub named_dsc : ChangesValue → List ℕ → Result DscValue RecordFault → Option Named
named_dsc c file (Ok d) = option_map (named.Dsc file) (dsc_difference c file d)
named_dsc c file (Err fault) = Some (named.UnreadDsc file fault)

-- the first of some parts of an upload for which something is named, if a .dsc may list files of at most `most` bytes
abbrev pub dsc_among : ℕ → ChangesValue → List Part → Option Named
dsc_among most c parts = first_some (map (λ part. named_dsc c part.0.name (dsc_within most part.1)) parts)

-- 7. a sidecar of this name, as it is read
abbrev pub named_sidecar : ChangesValue → List ℕ → Result SidecarValue RecordFault → Option Named
named_sidecar c file (Ok s) = option_map (named.Sidecar file) (sidecar_difference c file s)
named_sidecar c file (Err fault) = Some (named.UnreadSidecar file fault)

abbrev pub sidecar_among : ChangesValue → List Part → Option Named
sidecar_among c parts = first_some (map (λ part. named_sidecar c part.0.name (sidecar_in part.1)) parts)

-- the sidecars among them that are read
abbrev pub sidecars_of : List Part → List SidecarValue
sidecars_of parts = filter_map (λ part. result_ok (sidecar_in part.1)) parts

-- two of the same package and architecture, each by the name that it has by its own fields
abbrev pub of_twins : SidecarValue × SidecarValue → Named
of_twins p = named.Twins p.0.name p.0.architecture (sidecar_file p.0) (sidecar_file p.1)

-- a sidecar that is wrong by itself, else two of the same package and architecture
abbrev pub bad_among : ChangesValue → List Part → Option Named
bad_among c parts = option_or (sidecar_among c parts) (option_map of_twins (twins (sidecars_of parts)))

-- 8, 9. a file, its path in the pool, and the print of what is there
abbrev pub in_pool : ShelvesValue → ChangesValue → Entry → Named
in_pool shelves c e = named.File e.name e.print (path_of c e) (get (pool shelves) (path_of c e))

-- 8. a file of a .dsc of this name, as it is read; if the text is not a .dsc, the .dsc itself is named
abbrev pub named_missing : ShelvesValue → ChangesValue → List ℕ → Result DscValue RecordFault → Option Named
named_missing shelves c file (Ok d) = option_map (in_pool shelves c) (missing_file shelves c d)
named_missing shelves c file (Err fault) = Some (named.UnreadDsc file fault)

abbrev pub missing_among : ShelvesValue → ChangesValue → List Part → Option Named
missing_among shelves c parts = first_some (map (λ part. named_missing shelves c part.0.name (dsc_in part.1)) parts)

-- what a verdict on an upload is about; acceptance is about nothing
abbrev pub named_by : ConfigValue → ShelvesValue → UploadValue → Verdict → Option Named
named_by config shelves u verdict.Accepted = None
named_by config shelves u verdict.Unclaimed = Some (named_distribution u.changes)
named_by config shelves u verdict.ForeignArchitecture = option_and_then (named_architecture u.changes) (suite_of config u.changes)
named_by config shelves u verdict.NotAllowed = Some (named_uploader u.changes)
named_by config shelves u verdict.ForeignComponent = option_and_then (named_component u.changes) (suite_of config u.changes)
named_by config shelves u verdict.BadListing = named_listing u.changes
named_by config shelves u verdict.BadDsc = dsc_among (largest config) u.changes (dsc_parts u)
named_by config shelves u verdict.BadSidecar = bad_among u.changes (sidecar_parts u)
named_by config shelves u verdict.NotInPool = missing_among shelves u.changes (dsc_parts u)
named_by config shelves u verdict.OtherContents = option_map (in_pool shelves u.changes) (taken_entry shelves u.changes)
