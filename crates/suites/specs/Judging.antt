-- What judging an upload gives: its records, or the verdict by which it is refused.
use Rattle.std.specs.Prelude.{◌≡◌, ◌≢◌, ℕ, Bool, false, List, map, All, Option, option_map, option_to_list, Ok}
use Rattle.records.specs.Values.{ChangesValue}
use Rattle.std.specs.List.{list_any}
use Rattle.records.specs.Records.{dsc_in, dsc_within, sidecar_in}
use Rattle.rules.specs.Verdicts.{first_row}
use Rattle.rules.specs.declared.verdict.Verdict.TheVariants as verdict
use Rattle.suites.specs.Shelves.{ShelvesValue, pool}
use Rattle.suites.specs.Upload.{UploadValue, Part, dsc_parts, sidecar_parts}
use Rattle.suites.specs.Verdict.{upload_rows, by_print, match_ok, differs_from_dsc, differs_from_sidecar, has_bad_dsc, has_bad_sidecar}
use Rattle.suites.specs.declared.items.SourcePart.{SourcePart}
use Rattle.suites.specs.declared.items.BinaryPart.{BinaryPart}
use Rattle.suites.specs.declared.upload.Part as parts
use Rattle.suites.specs.declared.verdict.Parts.{Parts}
use Rattle.suites.specs.declared.verdict.Judged.{Judged}
use Rattle.suites.specs.declared.verdict.Judged.TheVariants.{Accepted, Refused}

-- a listed file and its text as values, without their places in memory
abbrev pub part_of : parts.Part → Part
part_of p = (p.entry.now, p.text.now)

-- the text is not a .dsc of files of at most `most` bytes, or is one that says other than the .changes
abbrev pub is_bad_dsc : ℕ → ChangesValue → Part → Bool
is_bad_dsc most c part = match_ok (dsc_within most part.1) (differs_from_dsc c part.0.name)

-- the text is not a sidecar, or is not one that the .changes may have
abbrev pub is_bad_sidecar : ChangesValue → Part → Bool
is_bad_sidecar c part = match_ok (sidecar_in part.1) (differs_from_sidecar c part.0.name)

-- a part with the .dsc that it is, which lists files of at most `most` bytes and says what the .changes says
pub record IsSourcePart (most : ℕ) (c : ChangesValue) (p : Part) (found : SourcePart) : Type 0 where
  pub part : part_of found.part ≡ p
  pub dsc : dsc_in p.1 ≡ Ok found.dsc
  pub good : is_bad_dsc most c p ≡ false

-- a part with the sidecar that it is, which the .changes may have
pub record IsBinaryPart (c : ChangesValue) (p : Part) (found : BinaryPart) : Type 0 where
  pub part : part_of found.part ≡ p
  pub sidecar : sidecar_in p.1 ≡ Ok found.sidecar
  pub good : is_bad_sidecar c p ≡ false

-- the parts with their sidecars, each of which the .changes may have
pub record AreBinaryParts (c : ChangesValue) (ps : List Part) (found : List BinaryPart) : Type 0 where
  pub parts : map (λ b. part_of b.part) found ≡ ps
  pub sidecars : All (λ b. sidecar_in b.part.text.now ≡ Ok b.sidecar) found
  pub good : list_any (is_bad_sidecar c) ps ≡ false

-- the .dsc of an upload, if it has one, and nothing is wrong with it
pub record IsSource (most : ℕ) (u : UploadValue) (found : Option SourcePart) : Type 0 where
  pub parts : dsc_parts u ≡ option_to_list (option_map (λ s. part_of s.part) found)
  pub dsc : All (λ s. dsc_in s.part.text.now ≡ Ok s.dsc) (option_to_list found)
  pub good : has_bad_dsc most u ≡ false

-- the sidecars of an upload, and nothing is wrong with them
pub record AreBinaries (u : UploadValue) (found : List BinaryPart) : Type 0 where
  pub parts : sidecar_parts u ≡ map (λ b. part_of b.part) found
  pub sidecars : All (λ b. sidecar_in b.part.text.now ≡ Ok b.sidecar) found
  pub good : has_bad_sidecar u ≡ false

-- The records are those of the .dsc, if the upload has one, and of all its sidecars.
pub record AreParts (u : UploadValue) (found : Parts) : Type 0 where
  pub source : dsc_parts u ≡ option_to_list (option_map (λ s. part_of s.part) found.source)
  pub dsc : All (λ s. dsc_in s.part.text.now ≡ Ok s.dsc) (option_to_list found.source)
  pub binaries : sidecar_parts u ≡ map (λ b. part_of b.part) found.binaries.items
  pub sidecars : All (λ b. sidecar_in b.part.text.now ≡ Ok b.sidecar) found.binaries.items

-- Accepted with its records, or refused by the first row of the verdicts 5 to 9 that applies.
abbrev pub IsJudged : ℕ → ShelvesValue → UploadValue → Judged → Type 0
IsJudged most shelves u (Accepted found) = (first_row (upload_rows by_print (pool shelves) most u) ≡ verdict.Accepted) × AreParts u found
IsJudged most shelves u (Refused v) = (first_row (upload_rows by_print (pool shelves) most u) ≡ v) × (v ≢ verdict.Accepted)
