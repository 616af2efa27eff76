-- Which texts are a .changes, a .dsc or a sidecar, which record each is, and the first fault of a text that is not one.
use Rattle.std.specs.Prelude.{◌≡◌, ◌≢◌, ◌≤◌, ℕ, nat_le, nat_eq, Bool, true, false, ◌&&◌, not, if◌then◌else◌, List, [], ◌∷◌, length, codes, bytes_eq, AllPairs, Contains, ◌⊎◌, Option, Some, None, Result, Ok, Err, is_some}
use Rattle.std.specs.Option.{option_map, option_map_or}
use Rattle.std.specs.List.{find, list_any, list_all, starts_with, ends_with, AllByRecursion, AllPass}
use Rattle.para.specs.Fields.{Fields, field_named, fields_in}
use Rattle.para.specs.Grammar.{Spells}
use Rattle.para.specs.Bytes.{is_nil}
use Rattle.para.specs.Value.{folded_value}
use Rattle.para.specs.declared.fault.ParaFault.{ParaFault}
use Rattle.vers.specs.Syntax.{IsVersion, fault as version_fault}
use Rattle.sums.specs.Lines.{greatest_size}
use Rattle.sums.specs.Lists.{lists_within, ListedIn}
use Rattle.sums.specs.declared.entries.Entry.{Entry}
use Rattle.sums.specs.declared.fault.ListFault.{ListFault}
use Rattle.sums.specs.declared.entries.ListKind.{ListKind}
use Rattle.sums.specs.declared.entries.ListKind.TheVariants as kinds
use Rattle.records.specs.Names.{is_package_name, is_architecture_name, is_plain_name}
use Rattle.records.specs.FieldNames.{name_of}
use Rattle.records.specs.Values.{ChangesValue, DscValue, SidecarValue}
use Rattle.records.specs.declared.field_name.FieldName.{FieldName}
use Rattle.records.specs.declared.field_name.FieldName.TheVariants as field
use Rattle.records.specs.declared.fault.RecordFault.{RecordFault}
use Rattle.records.specs.declared.fault.RecordFault.TheVariants as faults

-- ---- the values of fields

-- the field's first line, or the empty text if the field is absent
unfoldable pub value : FieldName → Fields → List ℕ
value name p = option_map_or (λ f. f.first) (field_named (name_of name) p) []

-- the words of the field, or no words if the field is absent
unfoldable pub words : FieldName → Fields → List (List ℕ)
words name p = option_map_or folded_value (field_named (name_of name) p) []

unfoldable pub is_present : Fields → FieldName → Bool
is_present p name = is_some (field_named (name_of name) p)

-- absent, or there with an empty first line and no other
unfoldable pub is_missing : Fields → FieldName → Bool
is_missing p name = option_map_or (λ f. is_nil f.first && is_nil f.more) (field_named (name_of name) p) true

-- there, and going on after its first line
unfoldable pub has_more_lines : Fields → FieldName → Bool
has_more_lines p name = option_map_or (λ f. not (is_nil f.more)) (field_named (name_of name) p) false

-- ---- what the values say

-- a text in parentheses, of at least one byte
unfoldable pub is_parenthesized : List ℕ → Bool
is_parenthesized word = nat_le 3 (length word) && starts_with nat_eq word (codes "(") && ends_with nat_eq word (codes ")")

-- Policy 5.6.1: a source name, which a version in parentheses may follow.
abbrev pub is_source : List (List ℕ) → Bool
is_source (name ∷ []) = is_package_name name
is_source (name ∷ version ∷ []) = is_package_name name && is_parenthesized version
is_source _ = false

abbrev pub first_of_words : List (List ℕ) → List ℕ
first_of_words [] = []
first_of_words (word ∷ words) = word

-- the text is one of the list
abbrev pub is_among : List (List ℕ) → List ℕ → Bool
is_among names name = list_any (bytes_eq name) names

-- each differs from those after it
abbrev pub are_different : List (List ℕ) → Bool
are_different [] = true
are_different (name ∷ names) = not (is_among names name) && are_different names

-- Policy 5.6.8: one or more architecture names, none twice.
unfoldable pub are_architectures : List (List ℕ) → Bool
are_architectures names = not (is_nil names) && list_all is_architecture_name names && are_different names

-- the architecture of one binary package
unfoldable pub is_binary_architecture : List ℕ → Bool
is_binary_architecture name = is_architecture_name name && not (bytes_eq name (codes "source"))

-- who is responsible: Changed-By, else Maintainer (Policy 5.6.4)
unfoldable pub person_of : Fields → List ℕ
person_of p = if is_present p field.ChangedBy then value field.ChangedBy p else value field.Maintainer p

-- the source of a sidecar, which is the package if there is no field Source (Policy 5.6.1)
unfoldable pub sidecar_source : Fields → List (List ℕ)
sidecar_source p = if is_present p field.Source then words field.Source p else value field.Package p ∷ []

-- ---- when each fault applies, whatever the others do

abbrev pub fault_unless : Bool → RecordFault → Option RecordFault
fault_unless true fault = None
fault_unless false fault = Some fault

-- the first required field that is missing
unfoldable pub missing : List FieldName → Fields → Option RecordFault
missing required p = option_map faults.Missing (find (is_missing p) required)

unfoldable pub not_simple : List FieldName → Fields → Option RecordFault
not_simple simple p = fault_unless (not (list_any (has_more_lines p) simple)) faults.NotOneLine

unfoldable pub unknown_format : List (List ℕ) → Fields → Option RecordFault
unknown_format formats p = fault_unless (is_among formats (value field.Format p)) faults.Format

unfoldable pub bad_source : List (List ℕ) → Option RecordFault
bad_source words = fault_unless (is_source words) faults.Name

unfoldable pub bad_name : List ℕ → Option RecordFault
bad_name name = fault_unless (is_package_name name) faults.Name

unfoldable pub bad_version : Fields → Option RecordFault
bad_version p = option_map faults.Version (version_fault (value field.Version p))

unfoldable pub bad_architectures : Fields → Option RecordFault
bad_architectures p = fault_unless (are_architectures (words field.Architecture p)) faults.Architecture

unfoldable pub bad_architecture : Fields → Option RecordFault
bad_architecture p = fault_unless (is_binary_architecture (value field.Architecture p)) faults.Architecture

unfoldable pub bad_distribution : Fields → Option RecordFault
bad_distribution p = fault_unless (is_plain_name (value field.Distribution p)) faults.Distribution

abbrev pub fault_of_lists : Result (List Entry) ListFault → Option RecordFault
fault_of_lists (Ok entries) = None
fault_of_lists (Err fault) = Some (faults.Lists fault)

-- of files of at most `most` bytes
unfoldable pub bad_lists : ℕ → ListKind → Fields → Option RecordFault
bad_lists most kind p = fault_of_lists (lists_within most kind p)

abbrev pub entries_or_none : Result (List Entry) ListFault → List Entry
entries_or_none (Ok entries) = entries
entries_or_none (Err fault) = []

unfoldable pub entries_of : ℕ → ListKind → Fields → List Entry
entries_of most kind p = entries_or_none (lists_within most kind p)

-- a field is there that the archive writes itself
unfoldable pub has_own_field : List FieldName → Fields → Option RecordFault
has_own_field own p = fault_unless (not (list_any (is_present p) own)) faults.OwnField

-- the first that applies, of faults in the order of their numbers
abbrev pub first_of : List (Option RecordFault) → Option RecordFault
first_of [] = None
first_of (None ∷ rest) = first_of rest
first_of (Some fault ∷ rest) = Some fault

-- ---- a .changes: format 1.8, one distribution, architectures that differ (Policy 5.5)

abbrev pub changes_required : List FieldName
changes_required =
    field.Format ∷ field.Date ∷ field.Source ∷ field.Version ∷ field.Architecture ∷ field.Distribution
    ∷ field.Maintainer ∷ field.Changes ∷ field.ChecksumsSha1 ∷ field.ChecksumsSha256 ∷ field.Files ∷ []

abbrev pub changes_simple : List FieldName
changes_simple =
    field.Format ∷ field.Date ∷ field.Source ∷ field.Version ∷ field.Architecture ∷ field.Distribution
    ∷ field.Maintainer ∷ field.ChangedBy ∷ []

abbrev pub changes_formats : List (List ℕ)
changes_formats = codes "1.8" ∷ []

-- its checks, in the order of the numbers of their faults
abbrev pub changes_checks : ℕ → Fields → List (Option RecordFault)
changes_checks most p =
    missing changes_required p
    ∷ not_simple changes_simple p
    ∷ unknown_format changes_formats p
    ∷ bad_source (words field.Source p)
    ∷ bad_version p
    ∷ bad_architectures p
    ∷ bad_distribution p
    ∷ bad_lists most kinds.Changes p
    ∷ []

abbrev pub changes_fault : ℕ → Fields → Option RecordFault
changes_fault most p = first_of (changes_checks most p)

abbrev pub changes_of : ℕ → Fields → ChangesValue
changes_of most p = record {
  source = first_of_words (words field.Source p);
  version = value field.Version p;
  architectures = words field.Architecture p;
  distribution = value field.Distribution p;
  person = person_of p;
  entries = entries_of most kinds.Changes p;
}

-- ---- a .dsc: format 1.0 or 3.0 (Policy 5.4)

abbrev pub dsc_required : List FieldName
dsc_required =
    field.Format ∷ field.Source ∷ field.Version ∷ field.Maintainer ∷ field.ChecksumsSha1
    ∷ field.ChecksumsSha256 ∷ field.Files ∷ []

abbrev pub dsc_simple : List FieldName
dsc_simple = field.Format ∷ field.Source ∷ field.Version ∷ field.Maintainer ∷ []

abbrev pub dsc_formats : List (List ℕ)
dsc_formats = codes "1.0" ∷ codes "3.0 (native)" ∷ codes "3.0 (quilt)" ∷ []

abbrev pub dsc_own : List FieldName
dsc_own = field.Package ∷ field.Directory ∷ []

-- its checks, in the order of the numbers of their faults
abbrev pub dsc_checks : ℕ → Fields → List (Option RecordFault)
dsc_checks most p =
    missing dsc_required p
    ∷ not_simple dsc_simple p
    ∷ unknown_format dsc_formats p
    ∷ bad_name (value field.Source p)
    ∷ bad_version p
    ∷ bad_lists most kinds.Dsc p
    ∷ has_own_field dsc_own p
    ∷ []

abbrev pub dsc_fault : ℕ → Fields → Option RecordFault
dsc_fault most p = first_of (dsc_checks most p)

abbrev pub dsc_of : ℕ → Fields → DscValue
dsc_of most p = record {
  source = value field.Source p;
  version = value field.Version p;
  entries = entries_of most kinds.Dsc p;
}

-- ---- a sidecar, the control paragraph of a binary package: one architecture, not `source` (Policy 5.3)

abbrev pub sidecar_required : List FieldName
sidecar_required = field.Package ∷ field.Version ∷ field.Architecture ∷ field.Maintainer ∷ field.Description ∷ []

abbrev pub sidecar_simple : List FieldName
sidecar_simple = field.Package ∷ field.Source ∷ field.Version ∷ field.Architecture ∷ field.Maintainer ∷ []

abbrev pub sidecar_own : List FieldName
sidecar_own = field.Filename ∷ field.Size ∷ field.Md5Sum ∷ field.Sha1 ∷ field.Sha256 ∷ []

-- its checks, in the order of the numbers of their faults
abbrev pub sidecar_checks : Fields → List (Option RecordFault)
sidecar_checks p =
    missing sidecar_required p
    ∷ not_simple sidecar_simple p
    ∷ bad_name (value field.Package p)
    ∷ bad_source (sidecar_source p)
    ∷ bad_version p
    ∷ bad_architecture p
    ∷ has_own_field sidecar_own p
    ∷ []

abbrev pub sidecar_fault : Fields → Option RecordFault
sidecar_fault p = first_of (sidecar_checks p)

abbrev pub sidecar_of : Fields → SidecarValue
sidecar_of p = record {
  name = value field.Package p;
  version = value field.Version p;
  architecture = value field.Architecture p;
  source = first_of_words (sidecar_source p);
}

-- ---- the record that a text is, or its first fault

abbrev pub unless : {V : Type 0} → Option RecordFault → V → Result V RecordFault
unless None record_value = Ok record_value
unless (Some fault) record_value = Err fault

-- the fault of a text that spells no paragraph, else what is made of the paragraph
abbrev pub of_fields : {V : Type 0} → (Fields → Result V RecordFault) → Result Fields ParaFault → Result V RecordFault
of_fields read (Ok p) = read p
of_fields read (Err fault) = Err (faults.Paragraph fault)

-- the most bytes of a .changes, and of a .dsc
abbrev pub changes_limit : ℕ
changes_limit = 1_048_576

abbrev pub dsc_limit : ℕ
dsc_limit = changes_limit

abbrev pub sidecar_limit : ℕ
sidecar_limit = 65_536

-- a .changes that lists files of at most `most` bytes
unfoldable pub changes_within : ℕ → List ℕ → Result ChangesValue RecordFault
changes_within most text = of_fields (λ p. unless (changes_fault most p) (changes_of most p)) (fields_in text changes_limit)

-- a .changes that lists files of at most `greatest_size` bytes
abbrev pub changes_in : List ℕ → Result ChangesValue RecordFault
changes_in text = changes_within greatest_size text

unfoldable pub dsc_within : ℕ → List ℕ → Result DscValue RecordFault
dsc_within most text = of_fields (λ p. unless (dsc_fault most p) (dsc_of most p)) (fields_in text dsc_limit)

abbrev pub dsc_in : List ℕ → Result DscValue RecordFault
dsc_in text = dsc_within greatest_size text

unfoldable pub sidecar_in : List ℕ → Result SidecarValue RecordFault
sidecar_in text = of_fields (λ p. unless (sidecar_fault p) (sidecar_of p)) (fields_in text sidecar_limit)

-- ---- the same as relations: what a text has to be

-- each of the fields is there and holds a byte
abbrev pub HasEach : List FieldName → Fields → Type 0
HasEach names p = AllByRecursion (λ name. is_missing p name ≡ false) names

-- none of the fields goes on after its first line
abbrev pub AreSimple : List FieldName → Fields → Type 0
AreSimple names p = AllByRecursion (λ name. has_more_lines p name ≡ false) names

-- none of the fields is there
abbrev pub HasNone : List FieldName → Fields → Type 0
HasNone names p = AllByRecursion (λ name. is_present p name ≡ false) names

-- the words are this source name, or it and a version in parentheses (Policy 5.6.1)
abbrev pub NamesSource : List (List ℕ) → List ℕ → Type 0
NamesSource ws name = (is_package_name name ≡ true)
    × ((ws ≡ name ∷ []) ⊎ ((version : List ℕ) × (is_parenthesized version ≡ true) × (ws ≡ name ∷ version ∷ [])))

-- one or more architecture names, none twice (Policy 5.6.8)
pub record AreArchitectures (names : List (List ℕ)) : Type 0 where
  pub some : names ≢ []
  pub each : AllPass is_architecture_name names
  pub differ : AllPairs (λ a b. a ≢ b) names

-- what a .changes has in its fields
pub record MakesChanges (most : ℕ) (p : Fields) (c : ChangesValue) : Type 0 where
  pub required : HasEach changes_required p
  pub simple : AreSimple changes_simple p
  pub format : Contains changes_formats (value field.Format p)
  pub source : NamesSource (words field.Source p) c.source
  pub version : c.version ≡ value field.Version p
  pub is_version : IsVersion c.version
  pub architectures : c.architectures ≡ words field.Architecture p
  pub are_architectures : AreArchitectures c.architectures
  pub distribution : c.distribution ≡ value field.Distribution p
  pub is_distribution : is_plain_name c.distribution ≡ true
  pub person : c.person ≡ person_of p
  pub entries : ListedIn most p kinds.Changes c.entries

-- what a .dsc has in its fields
pub record MakesDsc (most : ℕ) (p : Fields) (d : DscValue) : Type 0 where
  pub required : HasEach dsc_required p
  pub simple : AreSimple dsc_simple p
  pub format : Contains dsc_formats (value field.Format p)
  pub source : d.source ≡ value field.Source p
  pub is_source : is_package_name d.source ≡ true
  pub version : d.version ≡ value field.Version p
  pub is_version : IsVersion d.version
  pub entries : ListedIn most p kinds.Dsc d.entries
  pub own : HasNone dsc_own p

-- what a sidecar has in its fields
pub record MakesSidecar (p : Fields) (s : SidecarValue) : Type 0 where
  pub required : HasEach sidecar_required p
  pub simple : AreSimple sidecar_simple p
  pub name : s.name ≡ value field.Package p
  pub is_name : is_package_name s.name ≡ true
  pub source : NamesSource (sidecar_source p) s.source
  pub version : s.version ≡ value field.Version p
  pub is_version : IsVersion s.version
  pub architecture : s.architecture ≡ value field.Architecture p
  pub is_architecture : (is_architecture_name s.architecture ≡ true) × (s.architecture ≢ codes "source")
  pub own : HasNone sidecar_own p

-- THE TEXT of a .changes (Policy 5.5): within its limit it spells one paragraph, which has these fields, and lists files of at
-- most `most` bytes.
pub record IsChanges (most : ℕ) (text : List ℕ) (c : ChangesValue) : Type 0 where
  pub within : length text ≤ changes_limit
  pub paragraph : Fields
  pub spelled : Spells text (paragraph ∷ [])
  pub made : MakesChanges most paragraph c

-- the text of a .dsc (Policy 5.4)
pub record IsDsc (most : ℕ) (text : List ℕ) (d : DscValue) : Type 0 where
  pub within : length text ≤ dsc_limit
  pub paragraph : Fields
  pub spelled : Spells text (paragraph ∷ [])
  pub made : MakesDsc most paragraph d

-- the text of a sidecar (Policy 5.3)
pub record IsSidecar (text : List ℕ) (s : SidecarValue) : Type 0 where
  pub within : length text ≤ sidecar_limit
  pub paragraph : Fields
  pub spelled : Spells text (paragraph ∷ [])
  pub made : MakesSidecar paragraph s
