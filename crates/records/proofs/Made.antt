-- A paragraph is read as a record if and only if it makes that record, and so is a text.
use Rattle.std.proofs.Common.{◌≡◌, ◌≤◌, ℕ, List, [], ◌∷◌, length, Option, Some, None, Result, Ok, Err, refl, sym, ap, ◌∙◌, subst}
use Rattle.para.specs.Fields.{Fields, fields_in}
use Rattle.para.specs.Grammar.{Spells}
use Rattle.para.specs.declared.fault.ParaFault.{ParaFault}
use Rattle.para.proofs.InText.{spelled_fields, fields_spelled}
use Rattle.vers.specs.Syntax.{IsVersion}
use Rattle.sums.specs.declared.entries.Entry.{Entry}
use Rattle.sums.specs.declared.entries.ListKind.TheVariants as kinds
use Rattle.records.specs.Names.{is_package_name, is_architecture_name, is_plain_name}
use Rattle.records.specs.Values.{ChangesValue, DscValue, SidecarValue}
use Rattle.records.specs.Records as records
use Rattle.records.specs.Records.{unless, of_fields, value, words, AreArchitectures, MakesChanges, MakesDsc, MakesSidecar, IsChanges, IsDsc, IsSidecar}
use Rattle.records.specs.declared.field_name.FieldName.TheVariants as field
use Rattle.records.specs.declared.fault.RecordFault.{RecordFault}
use Rattle.records.proofs.Checked.{none_apply, none_applies, required_there, none_missing, simple_ones, all_simple, own_absent, none_own, known_format, format_known, source_named, named_source, is_named, named, is_version, versioned, architectures, are_architectures, architecture, is_architecture, distribution, is_distribution, listed, is_listed}

unless_ok : {V : Type 0} (f : Option RecordFault) (v c : V) → unless f v ≡ Ok c → (f ≡ None) × (v ≡ c)
unless_ok None v c h = (refl, cc)
unless_ok (Some e) v c h = cc

-- ---- a .changes

abbrev make_changes : List ℕ → List ℕ → List (List ℕ) → List ℕ → List ℕ → List Entry → ChangesValue
make_changes s v a d p e = record { source = s; version = v; architectures = a; distribution = d; person = p; entries = e }

same_changes : (c : ChangesValue) (s v : List ℕ) (a : List (List ℕ)) (d p : List ℕ) (e : List Entry) →
    s ≡ c.source → v ≡ c.version → a ≡ c.architectures → d ≡ c.distribution → p ≡ c.person → e ≡ c.entries → make_changes s v a d p e ≡ c
same_changes c s v a d p e hs hv ha hd hp he =
    ap (λ x. make_changes x v a d p e) hs ∙ ap (λ x. make_changes c.source x a d p e) hv
    ∙ ap (λ x. make_changes c.source c.version x d p e) ha ∙ ap (λ x. make_changes c.source c.version c.architectures x p e) hd
    ∙ ap (λ x. make_changes c.source c.version c.architectures c.distribution x e) hp
    ∙ ap (λ x. make_changes c.source c.version c.architectures c.distribution c.person x) he

pub changes_made : (most : ℕ) (p : Fields) (c : ChangesValue) → unless (records.changes_fault most p) (records.changes_of most p) ≡ Ok c → MakesChanges most p c
changes_made most p c h =
    let u = unless_ok (records.changes_fault most p) (records.changes_of most p) c h in
    let n = none_apply (records.changes_checks most p) u.0 in
    subst (MakesChanges most p) u.1 (record {
      required = required_there records.changes_required p n.0;
      simple = simple_ones records.changes_simple p n.1.0;
      format = known_format records.changes_formats p n.1.1.0;
      source = source_named (words field.Source p) n.1.1.1.0;
      version = refl;
      is_version = is_version p n.1.1.1.1.0;
      architectures = refl;
      are_architectures = architectures p n.1.1.1.1.1.0;
      distribution = refl;
      is_distribution = distribution p n.1.1.1.1.1.1.0;
      person = refl;
      entries = listed most kinds.Changes p n.1.1.1.1.1.1.1.0;
    })

pub made_changes : (most : ℕ) (p : Fields) (c : ChangesValue) → MakesChanges most p c → unless (records.changes_fault most p) (records.changes_of most p) ≡ Ok c
made_changes most p c m =
    let source = named_source (words field.Source p) c.source m.source in
    let entries = is_listed most kinds.Changes p c.entries m.entries in
    let none : records.changes_fault most p ≡ None = none_applies (records.changes_checks most p) (
      none_missing records.changes_required p m.required,
      (
        all_simple records.changes_simple p m.simple,
        (
          format_known records.changes_formats p m.format,
          (
            source.0,
            (
              versioned p (subst IsVersion m.version m.is_version),
              (
                are_architectures p (subst AreArchitectures m.architectures m.are_architectures),
                (is_distribution p (ap is_plain_name (sym m.distribution) ∙ m.is_distribution), (entries.0, tt)),
              ),
            ),
          ),
        ),
      ),
    ) in
    ap (λ f. unless f (records.changes_of most p)) none
    ∙ ap Ok (same_changes c _ _ _ _ _ _ source.1 (sym m.version) (sym m.architectures) (sym m.distribution) (sym m.person) entries.1)

-- ---- a .dsc

abbrev make_dsc : List ℕ → List ℕ → List Entry → DscValue
make_dsc s v e = record { source = s; version = v; entries = e }

same_dsc : (d : DscValue) (s v : List ℕ) (e : List Entry) → s ≡ d.source → v ≡ d.version → e ≡ d.entries → make_dsc s v e ≡ d
same_dsc d s v e hs hv he =
    ap (λ x. make_dsc x v e) hs ∙ ap (λ x. make_dsc d.source x e) hv ∙ ap (λ x. make_dsc d.source d.version x) he

pub dsc_made : (most : ℕ) (p : Fields) (d : DscValue) → unless (records.dsc_fault most p) (records.dsc_of most p) ≡ Ok d → MakesDsc most p d
dsc_made most p d h =
    let u = unless_ok (records.dsc_fault most p) (records.dsc_of most p) d h in
    let n = none_apply (records.dsc_checks most p) u.0 in
    subst (MakesDsc most p) u.1 (record {
      required = required_there records.dsc_required p n.0;
      simple = simple_ones records.dsc_simple p n.1.0;
      format = known_format records.dsc_formats p n.1.1.0;
      source = refl;
      is_source = is_named (value field.Source p) n.1.1.1.0;
      version = refl;
      is_version = is_version p n.1.1.1.1.0;
      entries = listed most kinds.Dsc p n.1.1.1.1.1.0;
      own = own_absent records.dsc_own p n.1.1.1.1.1.1.0;
    })

pub made_dsc : (most : ℕ) (p : Fields) (d : DscValue) → MakesDsc most p d → unless (records.dsc_fault most p) (records.dsc_of most p) ≡ Ok d
made_dsc most p d m =
    let entries = is_listed most kinds.Dsc p d.entries m.entries in
    let none : records.dsc_fault most p ≡ None = none_applies (records.dsc_checks most p) (
      none_missing records.dsc_required p m.required,
      (
        all_simple records.dsc_simple p m.simple,
        (
          format_known records.dsc_formats p m.format,
          (
            named _ (ap is_package_name (sym m.source) ∙ m.is_source),
            (versioned p (subst IsVersion m.version m.is_version), (entries.0, (none_own records.dsc_own p m.own, tt))),
          ),
        ),
      ),
    ) in
    ap (λ f. unless f (records.dsc_of most p)) none ∙ ap Ok (same_dsc d _ _ _ (sym m.source) (sym m.version) entries.1)

-- ---- a sidecar

abbrev make_sidecar : List ℕ → List ℕ → List ℕ → List ℕ → SidecarValue
make_sidecar n v a s = record { name = n; version = v; architecture = a; source = s }

same_sidecar : (c : SidecarValue) (n v a s : List ℕ) → n ≡ c.name → v ≡ c.version → a ≡ c.architecture → s ≡ c.source → make_sidecar n v a s ≡ c
same_sidecar c n v a s hn hv ha hs =
    ap (λ x. make_sidecar x v a s) hn ∙ ap (λ x. make_sidecar c.name x a s) hv
    ∙ ap (λ x. make_sidecar c.name c.version x s) ha ∙ ap (λ x. make_sidecar c.name c.version c.architecture x) hs

pub sidecar_made : (p : Fields) (c : SidecarValue) → unless (records.sidecar_fault p) (records.sidecar_of p) ≡ Ok c → MakesSidecar p c
sidecar_made p c h =
    let u = unless_ok (records.sidecar_fault p) (records.sidecar_of p) c h in
    let n = none_apply (records.sidecar_checks p) u.0 in
    subst (MakesSidecar p) u.1 (record {
      required = required_there records.sidecar_required p n.0;
      simple = simple_ones records.sidecar_simple p n.1.0;
      name = refl;
      is_name = is_named (value field.Package p) n.1.1.0;
      source = source_named (records.sidecar_source p) n.1.1.1.0;
      version = refl;
      is_version = is_version p n.1.1.1.1.0;
      architecture = refl;
      is_architecture = architecture p n.1.1.1.1.1.0;
      own = own_absent records.sidecar_own p n.1.1.1.1.1.1.0;
    })

pub made_sidecar : (p : Fields) (c : SidecarValue) → MakesSidecar p c → unless (records.sidecar_fault p) (records.sidecar_of p) ≡ Ok c
made_sidecar p c m =
    let source = named_source (records.sidecar_source p) c.source m.source in
    let none : records.sidecar_fault p ≡ None = none_applies (records.sidecar_checks p) (
      none_missing records.sidecar_required p m.required,
      (
        all_simple records.sidecar_simple p m.simple,
        (
          named _ (ap is_package_name (sym m.name) ∙ m.is_name),
          (
            source.0,
            (
              versioned p (subst IsVersion m.version m.is_version),
              (
                is_architecture p (ap is_architecture_name (sym m.architecture) ∙ m.is_architecture.0) (λ e. m.is_architecture.1 (m.architecture ∙ e)),
                (none_own records.sidecar_own p m.own, tt),
              ),
            ),
          ),
        ),
      ),
    ) in
    ap (λ f. unless f (records.sidecar_of p)) none ∙ ap Ok (same_sidecar c _ _ _ _ (sym m.name) (sym m.version) (sym m.architecture) source.1)

-- ---- texts

pub record FromFields {V : Type 0} (read : Fields → Result V RecordFault) (text : List ℕ) (limit : ℕ) (v : V) : Type 0 where
  pub within : length text ≤ limit
  pub paragraph : Fields
  pub spelled : Spells text (paragraph ∷ [])
  pub made : read paragraph ≡ Ok v

from_ok : {V : Type 0} (read : Fields → Result V RecordFault) (text : List ℕ) (limit : ℕ) (v : V) (r : Result Fields ParaFault) →
    fields_in text limit ≡ r → of_fields read r ≡ Ok v → FromFields read text limit v
from_ok read text limit v (Ok p) e h =
    let s = spelled_fields text limit p e in record { within = s.0; paragraph = p; spelled = s.1; made = h }
from_ok read text limit v (Err f) e h = cc

pub in_text : {V : Type 0} (read : Fields → Result V RecordFault) (text : List ℕ) (limit : ℕ) (v : V) →
    of_fields read (fields_in text limit) ≡ Ok v → FromFields read text limit v
in_text read text limit v h = from_ok read text limit v (fields_in text limit) refl h

pub text_in : {V : Type 0} (read : Fields → Result V RecordFault) (text : List ℕ) (limit : ℕ) (v : V) (p : Fields) →
    length text ≤ limit → Spells text (p ∷ []) → read p ≡ Ok v → of_fields read (fields_in text limit) ≡ Ok v
text_in read text limit v p within spelled h = ap (of_fields read) (fields_spelled text limit p (within, spelled)) ∙ h
