-- How a .dsc or a sidecar differs from what its .changes says: the first part of its verdict's rule that applies.
use Rattle.std.specs.Prelude.{ℕ, not, List, [], ◌∷◌, bytes_eq, Option, option_map}
use Rattle.std.specs.Bool.{then_some}
use Rattle.records.specs.Records.{is_among}
use Rattle.records.specs.Values.{ChangesValue, DscValue, SidecarValue}
use Rattle.sums.specs.declared.entries.Entry.{Entry}
use Rattle.suites.specs.Upload.{entry_named}
use Rattle.suites.specs.Verdict.{dsc_file, sidecar_file}
use Rattle.reasons.specs.Named.{first_some, listed_part, unlisted_file}
use Rattle.reasons.specs.declared.differences.DscDifference.{DscDifference}
use Rattle.reasons.specs.declared.differences.DscDifference.TheVariants as dsc
use Rattle.reasons.specs.declared.differences.SidecarDifference.{SidecarDifference}
use Rattle.reasons.specs.declared.differences.SidecarDifference.TheVariants as sidecar

-- a file that the .dsc lists and may not list
abbrev pub lists_part : Entry → DscDifference
lists_part e = dsc.ListsPart e.name

-- a file that the .dsc does not list with that print, and the print with which it does, if it lists the name
abbrev pub lacked : DscValue → Entry → DscDifference
lacked d e = dsc.LacksFile e.name e.print (option_map (λ listed. listed.print) (entry_named e.name d.entries))

-- 6. the first difference of a .dsc of this name
abbrev pub dsc_difference : ChangesValue → List ℕ → DscValue → Option DscDifference
dsc_difference c name d = first_some (
    then_some (not (bytes_eq d.source c.source)) (dsc.Source d.source)
    ∷ then_some (not (bytes_eq d.version c.version)) (dsc.Version d.version)
    ∷ option_map dsc.Name (then_some (not (bytes_eq name (dsc_file d))) (dsc_file d))
    ∷ option_map lists_part (listed_part d)
    ∷ option_map (lacked d) (unlisted_file c d)
    ∷ [])

-- 7. the first difference of a sidecar of this name
abbrev pub sidecar_difference : ChangesValue → List ℕ → SidecarValue → Option SidecarDifference
sidecar_difference c name s = first_some (
    option_map sidecar.Name (then_some (not (bytes_eq name (sidecar_file s))) (sidecar_file s))
    ∷ then_some (not (is_among c.architectures s.architecture)) (sidecar.Architecture s.architecture)
    ∷ then_some (not (bytes_eq s.source c.source)) (sidecar.Source s.source)
    ∷ [])
