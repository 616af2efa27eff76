-- What the private types of this crate stand for, and the faults that single functions look for.
use Rattle.std.specs.Prelude.{◌≡◌, ◌||◌, ℕ, Bool, false, if◌then◌else◌, List, [], ◌∷◌, map, drop, Option, Some, None}
use Rattle.std.specs.BTreeMap.{BTreeMap, get_by}
use Rattle.std.specs.Cmp.Lexicographic.{slice_cmp}
use Rattle.std.specs.List.{find, list_any}
use Rattle.std.specs.Option.{option_map}
use Rattle.std.specs.Ordering.{nat_cmp}
use Rattle.std.specs.Str.{bytes_eq}
use Rattle.sums.specs.Lines.{LineForm, has_bad_words, has_bad_digest, has_bad_size, has_bad_name}
use Rattle.para.specs.Field.{FieldValue}
use Rattle.sums.specs.Lists.{Lines, NameAndSize, name_and_size, sha1_form, sha256_form, files_form, has_twice, any_twice, lines_of, applies_to_lines, faults, fault, entries_of}
use Rattle.sums.specs.declared.fault.ListFault.{ListFault}
use Rattle.sums.specs.declared.lines.Form.{Form}
use Rattle.sums.specs.declared.lines.Failed.{Failed}
use Rattle.sums.specs.declared.fault.ListFault.TheVariants.{BadWords, BadDigest, BadSize, BadName}
use Rattle.sums.specs.declared.entries.ListKind.{ListKind}
use Rattle.sums.specs.declared.entries.Entry.{Entry}
use Rattle.sums.specs.declared.lists.FileLists.{FileLists}
use Rattle.sums.specs.declared.lists.FoundLists.{FoundLists}
use Rattle.sums.specs.declared.lists.SplitLists.{SplitLists}
use Rattle.sums.specs.declared.sizes.FileList.{FileList}
use Rattle.sums.specs.declared.sizes.SizedName.{SizedName}
use denote.Ref.{Bor}
use Rattle.sums.specs.declared.join.Lists.{Lists}

abbrev pub line_form : Form → LineForm
line_form f = record { words = f.words; digest = f.digest }

abbrev pub lines_in : Lists → Lines
lines_in l = record { sha1 = l.sha1.now; sha256 = l.sha256.now; files = l.files.now }

abbrev pub lines_found : FoundLists → Lines
lines_found l = record { sha1 = map (λ line. line.now) l.sha1.now; sha256 = map (λ line. line.now) l.sha256.now; files = map (λ line. line.now) l.files.now }

abbrev pub lines_split : SplitLists → Lines
lines_split l = record { sha1 = l.sha1.items; sha256 = l.sha256.items; files = l.files.items }

abbrev pub in_names : SizedName → NameAndSize
in_names s = record { name = s.name.now; size = s.size.now }

-- the checks that failed before, or that a line fails
abbrev pub with_line : ℕ → Failed → LineForm → List ℕ → Failed
with_line most f form line = record {
  words = f.words || has_bad_words form line;
  digest = f.digest || has_bad_digest form line;
  size = f.size || has_bad_size most form line;
  name = f.name || has_bad_name form line;
}

-- the checks that failed before, or that some of the lines fail
abbrev pub with_lines : ℕ → Failed → LineForm → List (List ℕ) → Failed
with_lines most f form lines = record {
  words = f.words || list_any (has_bad_words form) lines;
  digest = f.digest || list_any (has_bad_digest form) lines;
  size = f.size || list_any (has_bad_size most form) lines;
  name = f.name || list_any (has_bad_name form) lines;
}

abbrev pub any_failed : Failed → Bool
any_failed f = f.words || f.digest || f.size || f.name

-- the fault of the first check that failed
abbrev pub fault_of_failed : Failed → Option ListFault
fault_of_failed f = if f.words then Some BadWords else if f.digest then Some BadDigest else if f.size then Some BadSize else if f.name then Some BadName else None

-- texts are split: the checks that failed are known, and if no check failed, all lines are kept
pub record IsSplit (most : ℕ) (before : Failed) (form : LineForm) (texts : List (List ℕ)) (after : Failed) (lines : List (List ℕ)) : Type 0 where
  pub failed : after ≡ with_lines most before form texts
  pub kept : any_failed after ≡ false → lines ≡ texts

-- the lowest fault that applies, from `BadWords` on
abbrev pub fault_of_lines : ℕ → ListKind → Lines → Option ListFault
fault_of_lines most kind lines = find (applies_to_lines most kind lines) (drop 2 faults)

-- the lowest fault that applies, from `NameTwice` on
abbrev pub fault_of_names : ℕ → ListKind → Lines → Option ListFault
fault_of_names most kind lines = find (applies_to_lines most kind lines) (drop 6 faults)

-- the size at a name
abbrev pub size_in : BTreeMap (Bor (List ℕ)) (Bor (List ℕ)) → List ℕ → Option (List ℕ)
size_in sizes name = option_map (λ size. size.now) (get_by (λ k. slice_cmp nat_cmp name k.now) sizes)

-- the size of the first file of a name
abbrev pub size_named : List NameAndSize → List ℕ → Option (List ℕ)
size_named [] name = None
size_named (f ∷ fs) name = if bytes_eq name f.name then Some f.size else size_named fs name

abbrev pub is_size_of : NameAndSize → Option (List ℕ) → Bool
is_size_of file None = false
is_size_of file (Some size) = bytes_eq file.size size

-- the sizes of files, of which no two have the same name
pub record AreSizes (sizes : BTreeMap (Bor (List ℕ)) (Bor (List ℕ))) (files : List NameAndSize) : Type 0 where
  pub once : has_twice files ≡ false
  pub each : (name : List ℕ) → size_in sizes name ≡ size_named files name

pub record IsFileList (list : FileList) (files : List NameAndSize) : Type 0 where
  pub files_are : map in_names list.files.items ≡ files
  pub sizes_are : AreSizes list.sizes files

-- the files of three lists; no list has a name twice
pub record AreFileLists (kind : ListKind) (lines : Lines) (lists : FileLists) : Type 0 where
  pub sha1 : IsFileList lists.sha1 (map (name_and_size sha1_form) lines.sha1)
  pub sha256 : IsFileList lists.sha256 (map (name_and_size sha256_form) lines.sha256)
  pub files : IsFileList lists.files (map (name_and_size (files_form kind)) lines.files)
  pub once : any_twice kind lines ≡ false

-- the three lists of a paragraph, each there with nothing after its colon
pub record AreLists (most : ℕ) (kind : ListKind) (paragraph : List FieldValue) (lists : FoundLists) : Type 0 where
  pub lines : lines_found lists ≡ lines_of paragraph
  pub rest : fault most kind paragraph ≡ fault_of_lines most kind (lines_of paragraph)

-- the lines of lists, each split; no line is wrong by itself
pub record AreSplit (most : ℕ) (kind : ListKind) (found : Lines) (lines : Lines) : Type 0 where
  pub same : lines ≡ found
  pub rest : fault_of_lines most kind found ≡ fault_of_names most kind found

-- the entries of lists to which no fault from `BadWords` on applies
pub record AreEntries (most : ℕ) (kind : ListKind) (lines : Lines) (entries : List Entry) : Type 0 where
  pub faultless : fault_of_lines most kind lines ≡ None
  pub entries_are : entries ≡ entries_of kind lines
