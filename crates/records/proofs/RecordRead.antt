-- A text is read as a record if and only if it is that record.
use Rattle.std.proofs.Common.{◌≡◌, ◌≤◌, ℕ, min, List, Ok, Err, sym, ◌∙◌}
use Rattle.para.specs.Fields.{Fields}
use Rattle.sums.specs.Lines.{greatest_size}
use Rattle.sums.specs.declared.entries.ListKind.TheVariants as kinds
use Rattle.sums.proofs.ListedRead.{listed_more}
use Rattle.records.specs.Records.{MakesChanges, MakesDsc, IsChanges, IsDsc, IsSidecar, changes_within, changes_fault, changes_of, changes_limit, dsc_within, dsc_fault, dsc_limit, dsc_of, sidecar_in, sidecar_fault, sidecar_of, sidecar_limit, unless}
use Rattle.records.specs.Values.{ChangesValue, DscValue, SidecarValue}
use Rattle.records.specs.declared.fault.RecordFault.{RecordFault}
use Rattle.records.proofs.Made.{in_text, text_in, changes_made, made_changes, dsc_made, made_dsc, sidecar_made, made_sidecar}

-- ---- a .changes

pub changes_of_read : (most : ℕ) (text : List ℕ) (c : ChangesValue) → changes_within most text ≡ Ok c → IsChanges most text c
unfolding changes_within
changes_of_read most text c h =
    let m = in_text (λ p. unless (changes_fault most p) (changes_of most p)) text changes_limit c h in
    record { within = m.within; paragraph = m.paragraph; spelled = m.spelled; made = changes_made most m.paragraph c m.made }

pub read_of_changes : (most : ℕ) (text : List ℕ) (c : ChangesValue) → IsChanges most text c → changes_within most text ≡ Ok c
unfolding changes_within
read_of_changes most text c h =
    text_in (λ p. unless (changes_fault most p) (changes_of most p)) text changes_limit c h.paragraph h.within h.spelled (made_changes most h.paragraph c h.made)

pub refused_changes : (most : ℕ) (text : List ℕ) (e : RecordFault) (c : ChangesValue) → changes_within most text ≡ Err e → ¬ IsChanges most text c
refused_changes most text e c h k = let both = sym (read_of_changes most text c k) ∙ h in cc

-- ---- a .dsc

pub dsc_of_read : (most : ℕ) (text : List ℕ) (d : DscValue) → dsc_within most text ≡ Ok d → IsDsc most text d
unfolding dsc_within
dsc_of_read most text d h =
    let m = in_text (λ p. unless (dsc_fault most p) (dsc_of most p)) text dsc_limit d h in
    record { within = m.within; paragraph = m.paragraph; spelled = m.spelled; made = dsc_made most m.paragraph d m.made }

pub read_of_dsc : (most : ℕ) (text : List ℕ) (d : DscValue) → IsDsc most text d → dsc_within most text ≡ Ok d
unfolding dsc_within
read_of_dsc most text d h =
    text_in (λ p. unless (dsc_fault most p) (dsc_of most p)) text dsc_limit d h.paragraph h.within h.spelled (made_dsc most h.paragraph d h.made)

pub refused_dsc : (most : ℕ) (text : List ℕ) (e : RecordFault) (d : DscValue) → dsc_within most text ≡ Err e → ¬ IsDsc most text d
refused_dsc most text e d h k = let both = sym (read_of_dsc most text d k) ∙ h in cc

-- ---- a sidecar

pub sidecar_of_read : (text : List ℕ) (s : SidecarValue) → sidecar_in text ≡ Ok s → IsSidecar text s
unfolding sidecar_in
sidecar_of_read text s h =
    let m = in_text (λ p. unless (sidecar_fault p) (sidecar_of p)) text sidecar_limit s h in
    record { within = m.within; paragraph = m.paragraph; spelled = m.spelled; made = sidecar_made m.paragraph s m.made }

pub read_of_sidecar : (text : List ℕ) (s : SidecarValue) → IsSidecar text s → sidecar_in text ≡ Ok s
unfolding sidecar_in
read_of_sidecar text s h =
    text_in (λ p. unless (sidecar_fault p) (sidecar_of p)) text sidecar_limit s h.paragraph h.within h.spelled (made_sidecar h.paragraph s h.made)

pub refused_sidecar : (text : List ℕ) (e : RecordFault) (s : SidecarValue) → sidecar_in text ≡ Err e → ¬ IsSidecar text s
refused_sidecar text e s h k = let both = sym (read_of_sidecar text s k) ∙ h in cc

-- ---- a greater limit

changes_more : (most more : ℕ) (p : Fields) (c : ChangesValue) → min most greatest_size ≤ more → MakesChanges most p c → MakesChanges more p c
changes_more most more p c h m = record {
  required = m.required;
  simple = m.simple;
  format = m.format;
  source = m.source;
  version = m.version;
  is_version = m.is_version;
  architectures = m.architectures;
  are_architectures = m.are_architectures;
  distribution = m.distribution;
  is_distribution = m.is_distribution;
  person = m.person;
  entries = listed_more most more kinds.Changes p c.entries h m.entries;
}

dsc_more : (most more : ℕ) (p : Fields) (d : DscValue) → min most greatest_size ≤ more → MakesDsc most p d → MakesDsc more p d
dsc_more most more p d h m = record {
  required = m.required;
  simple = m.simple;
  format = m.format;
  source = m.source;
  is_source = m.is_source;
  version = m.version;
  is_version = m.is_version;
  entries = listed_more most more kinds.Dsc p d.entries h m.entries;
  own = m.own;
}

-- what is read with a limit is read with a greater one
pub read_more_changes : (most more : ℕ) (text : List ℕ) (c : ChangesValue) → min most greatest_size ≤ more → changes_within most text ≡ Ok c → changes_within more text ≡ Ok c
read_more_changes most more text c h is =
    let one = changes_of_read most text c is in
    read_of_changes more text c (record { within = one.within; paragraph = one.paragraph; spelled = one.spelled; made = changes_more most more one.paragraph c h one.made })

pub read_more_dsc : (most more : ℕ) (text : List ℕ) (d : DscValue) → min most greatest_size ≤ more → dsc_within most text ≡ Ok d → dsc_within more text ≡ Ok d
read_more_dsc most more text d h is =
    let one = dsc_of_read most text d is in
    read_of_dsc more text d (record { within = one.within; paragraph = one.paragraph; spelled = one.spelled; made = dsc_more most more one.paragraph d h one.made })
