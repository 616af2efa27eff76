-- The three lists of files of a record, `Checksums-Sha1`, `Checksums-Sha256` and `Files` (Debian Policy 5.6.21, 5.6.24).
use Rattle.std.specs.Prelude.{◌≡◌, ◌≢◌, ◌↔◌, ℕ, ◌<◌, ◌≤◌, ◌+◌, ◌-◌, ◌*◌, ◌==◌, ◌&&◌, ◌||◌, min, nat_lt, nat_le, Bool, true, false, not, if◌then◌else◌, List, [], ◌∷◌, length, map, codes, Option, Some, None, Result, Ok, Err, is_none, unwrap_or, Contains, AllPairs, All, MatchOption}
use Rattle.std.specs.Fmt.{decimal}
use Rattle.std.specs.List.{list_any, find, join_with_byte}
use Rattle.std.specs.Option.{option_map}
use Rattle.std.specs.Str.{bytes_eq, str_eq_ignore_ascii_case}
use Rattle.std.specs.Str.Parse.{digits_value}
use Rattle.hex.specs.Hex.{encode_lower}
use Rattle.para.specs.Field.{FieldValue}
use Rattle.sums.specs.declared.fault.ListFault.{ListFault}
use Rattle.sums.specs.declared.fault.ListFault.TheVariants.{ListAbsent, TextOnFirstLine, BadWords, BadDigest, BadSize, BadName, NameTwice, ListsDisagree, BadCount}
use Rattle.sums.specs.declared.entries.Entry.{Entry}
use Rattle.sums.specs.declared.entries.ListKind.{ListKind}
use Rattle.sums.specs.declared.entries.ListKind.TheVariants.{Dsc, Changes}
use Rattle.sums.specs.FileNames.{is_file_name}
use Rattle.sums.specs.Lines.{LineForm, is_word, word, digest_word, size_word, name_word, most_size, greatest_size, has_bad_words, has_bad_digest, has_bad_size, has_bad_name}

-- ---- what the lists say

-- the field of a name, ASCII case ignored
abbrev pub field_named : List ℕ → List FieldValue → Option FieldValue
field_named name paragraph = find (λ f. str_eq_ignore_ascii_case f.name name) paragraph

abbrev pub sha1_name : List ℕ
sha1_name = codes "Checksums-Sha1"

abbrev pub sha256_name : List ℕ
sha256_name = codes "Checksums-Sha256"

abbrev pub files_name : List ℕ
files_name = codes "Files"

-- the lines of a field, or no lines if it is absent
abbrev pub lines_of_field : List FieldValue → List ℕ → List (List ℕ)
lines_of_field paragraph name = unwrap_or (option_map (λ f. f.more) (field_named name paragraph)) []

-- the lines of the three lists
pub record Lines : Type 0 where
  pub sha1 : List (List ℕ)
  pub sha256 : List (List ℕ)
  pub files : List (List ℕ)

abbrev pub lines_of : List FieldValue → Lines
lines_of paragraph = record { sha1 = lines_of_field paragraph sha1_name; sha256 = lines_of_field paragraph sha256_name; files = lines_of_field paragraph files_name }

-- words with a space between them
abbrev pub spelled : List (List ℕ) → List ℕ
spelled ws = join_with_byte 32 ws

-- An entry's line in each list: digest, size and name; in the `Files` of a .changes section and priority before the name.
abbrev pub sha1_line : Entry → List ℕ
sha1_line e = spelled (encode_lower e.print.sha1 ∷ decimal e.print.size ∷ e.name ∷ [])

abbrev pub sha256_line : Entry → List ℕ
sha256_line e = spelled (encode_lower e.print.sha256 ∷ decimal e.print.size ∷ e.name ∷ [])

abbrev pub files_line : ListKind → Entry → List ℕ
files_line Dsc e = spelled (encode_lower e.print.md5 ∷ decimal e.print.size ∷ e.name ∷ [])
files_line Changes e = spelled (encode_lower e.print.md5 ∷ decimal e.print.size ∷ e.section ∷ e.priority ∷ e.name ∷ [])

-- Section and priority stand only in the `Files` of a .changes, and each is a word there.
abbrev pub HasSection : ListKind → Entry → Type 0
HasSection Dsc e = (e.section ≡ []) × (e.priority ≡ [])
HasSection Changes e = (is_word e.section ≡ true) × (is_word e.priority ≡ true)

-- a digest of `count` bytes
pub record IsDigest (count : ℕ) (digest : List ℕ) : Type 0 where
  pub length : length digest ≡ count
  pub bytes : All (λ b. b < 256) digest

-- a file of a record: its name and size are allowed, and each digest has its length
pub record IsFile (most : ℕ) (kind : ListKind) (e : Entry) : Type 0 where
  pub name : is_file_name e.name ≡ true
  pub size : e.print.size ≤ min most greatest_size
  pub md5 : IsDigest 16 e.print.md5
  pub sha1 : IsDigest 20 e.print.sha1
  pub sha256 : IsDigest 32 e.print.sha256
  pub section : HasSection kind e

-- what the lines of each list are like: three words, five in the `Files` of a .changes; the digest's bytes
abbrev pub sha1_form : LineForm
sha1_form = record { words = 3; digest = 20 }

abbrev pub sha256_form : LineForm
sha256_form = record { words = 3; digest = 32 }

abbrev pub files_form : ListKind → LineForm
files_form Dsc = record { words = 3; digest = 16 }
files_form Changes = record { words = 5; digest = 16 }

-- two lists have the same members
abbrev pub SameMembers : List (List ℕ) → List (List ℕ) → Type 0
SameMembers xs ys = (line : List ℕ) → Contains xs line ↔ Contains ys line

-- The entries of three lists: each is the join of the three lines with its name. Every list has exactly these names, each
-- once; the entries stand in the order of `Files`.
pub record Listed (most : ℕ) (lines : Lines) (kind : ListKind) (entries : List Entry) : Type 0 where
  pub files : map (files_line kind) entries ≡ lines.files
  pub sha1 : SameMembers (map sha1_line entries) lines.sha1
  pub sha1_once : AllPairs (λ a b. name_word sha1_form a ≢ name_word sha1_form b) lines.sha1
  pub sha256 : SameMembers (map sha256_line entries) lines.sha256
  pub sha256_once : AllPairs (λ a b. name_word sha256_form a ≢ name_word sha256_form b) lines.sha256
  pub names : AllPairs (λ a b. a.name ≢ b.name) entries
  pub each : All (IsFile most kind) entries
  pub count : (0 < length entries) × (length entries ≤ 256)

-- a list is there, and nothing stands after the colon of its name
abbrev pub IsList : Option FieldValue → Type 0
IsList field = MatchOption field ⊥ (λ f. f.first ≡ [])

-- a paragraph with the three lists of these entries, each of at most `most` bytes
pub record ListedIn (most : ℕ) (paragraph : List FieldValue) (kind : ListKind) (entries : List Entry) : Type 0 where
  pub sha1 : IsList (field_named sha1_name paragraph)
  pub sha256 : IsList (field_named sha256_name paragraph)
  pub files : IsList (field_named files_name paragraph)
  pub listed : Listed most (lines_of paragraph) kind entries

-- ---- when each fault applies, whatever the others do

-- something is wrong with some line of some list
abbrev pub some_line : (LineForm → List ℕ → Bool) → ListKind → Lines → Bool
some_line is_bad kind lines = list_any (is_bad sha1_form) lines.sha1
    || list_any (is_bad sha256_form) lines.sha256
    || list_any (is_bad (files_form kind)) lines.files

abbrev pub is_absent : List FieldValue → List ℕ → Bool
is_absent paragraph name = is_none (field_named name paragraph)

-- a field is there with text after its colon
abbrev pub has_first : List FieldValue → List ℕ → Bool
has_first paragraph name = unwrap_or (option_map (λ f. nat_lt 0 (length f.first)) (field_named name paragraph)) false

-- what the lists have in common of a file: its name, and its size as it is written
pub record NameAndSize : Type 0 where
  pub name : List ℕ
  pub size : List ℕ

abbrev pub name_and_size : LineForm → List ℕ → NameAndSize
name_and_size form line = record { name = name_word form line; size = size_word line }

-- some name stands twice in a list
abbrev pub has_twice : List NameAndSize → Bool
has_twice [] = false
has_twice (x ∷ xs) = list_any (λ y. bytes_eq x.name y.name) xs || has_twice xs

abbrev pub same_file : NameAndSize → NameAndSize → Bool
same_file x y = bytes_eq x.name y.name && bytes_eq x.size y.size

-- some file of the first list does not stand in the second with that size
abbrev pub lacks : List NameAndSize → List NameAndSize → Bool
lacks xs ys = list_any (λ x. not (list_any (same_file x) ys)) xs

abbrev pub disagree : List NameAndSize → List NameAndSize → Bool
disagree xs ys = lacks xs ys || lacks ys xs

abbrev pub any_twice : ListKind → Lines → Bool
any_twice kind lines = has_twice (map (name_and_size sha1_form) lines.sha1)
    || has_twice (map (name_and_size sha256_form) lines.sha256)
    || has_twice (map (name_and_size (files_form kind)) lines.files)

abbrev pub any_disagree : ListKind → Lines → Bool
any_disagree kind lines = disagree (map (name_and_size sha1_form) lines.sha1) (map (name_and_size (files_form kind)) lines.files)
    || disagree (map (name_and_size sha256_form) lines.sha256) (map (name_and_size (files_form kind)) lines.files)

-- the faults of the lines, of files of at most `most` bytes
abbrev pub applies_to_lines : ℕ → ListKind → Lines → ListFault → Bool
applies_to_lines most kind lines BadWords = some_line has_bad_words kind lines
applies_to_lines most kind lines BadDigest = some_line has_bad_digest kind lines
applies_to_lines most kind lines BadSize = some_line (has_bad_size most) kind lines
applies_to_lines most kind lines BadName = some_line has_bad_name kind lines
applies_to_lines most kind lines NameTwice = any_twice kind lines
applies_to_lines most kind lines ListsDisagree = any_disagree kind lines
applies_to_lines most kind lines BadCount = length lines.files == 0 || nat_lt 256 (length lines.files)
applies_to_lines most kind lines _ = false

abbrev pub applies : ℕ → ListKind → List FieldValue → ListFault → Bool
applies most kind paragraph ListAbsent = is_absent paragraph sha1_name || is_absent paragraph sha256_name || is_absent paragraph files_name
applies most kind paragraph TextOnFirstLine = has_first paragraph sha1_name || has_first paragraph sha256_name || has_first paragraph files_name
applies most kind paragraph fault = applies_to_lines most kind (lines_of paragraph) fault

-- the faults of a paragraph, in the order of their numbers
abbrev pub faults : List ListFault
faults = ListAbsent ∷ TextOnFirstLine ∷ BadWords ∷ BadDigest ∷ BadSize ∷ BadName ∷ NameTwice ∷ ListsDisagree ∷ BadCount ∷ []

-- the fault of lowest number that applies to a paragraph
abbrev pub fault : ℕ → ListKind → List FieldValue → Option ListFault
fault most kind paragraph = find (applies most kind paragraph) faults

-- ---- reading lists without a fault

-- the value of a hexadecimal digit in lower case
abbrev pub hex_value : ℕ → ℕ
hex_value c = if nat_le 97 c then c - 87 else c - 48

-- the bytes that pairs of such digits write
abbrev pub unhexed : List ℕ → List ℕ
unhexed [] = []
unhexed (a ∷ []) = []
unhexed (a ∷ b ∷ rest) = (16 * hex_value a + hex_value b) ∷ unhexed rest

-- the digest in the first line with that name
abbrev pub digest_named : LineForm → List (List ℕ) → List ℕ → List ℕ
digest_named form lines name = unhexed (digest_word (unwrap_or (find (λ line. bytes_eq (name_word form line) name) lines) []))

-- the words before the name in the `Files` of a .changes
abbrev pub section_word : ListKind → List ℕ → List ℕ
section_word Dsc line = []
section_word Changes line = word line 2

abbrev pub priority_word : ListKind → List ℕ → List ℕ
priority_word Dsc line = []
priority_word Changes line = word line 3

-- the join of a line of `Files` with the lines of its name
abbrev pub entry_of_line : ListKind → Lines → List ℕ → Entry
entry_of_line kind lines line = record {
  name = name_word (files_form kind) line;
  print = record {
    size = digits_value 10 (size_word line);
    md5 = unhexed (digest_word line);
    sha1 = digest_named sha1_form lines.sha1 (name_word (files_form kind) line);
    sha256 = digest_named sha256_form lines.sha256 (name_word (files_form kind) line);
  };
  section = section_word kind line;
  priority = priority_word kind line;
}

-- the entries of three lists, in the order of `Files`
abbrev pub entries_of : ListKind → Lines → List Entry
entries_of kind lines = map (entry_of_line kind lines) lines.files

abbrev pub refused_or : Option ListFault → List Entry → Result (List Entry) ListFault
refused_or None entries = Ok entries
refused_or (Some fault) entries = Err fault

-- the entries of a paragraph, of files of at most `most` bytes, or the fault of lowest number
unfoldable pub lists_within : ℕ → ListKind → List FieldValue → Result (List Entry) ListFault
lists_within most kind paragraph = refused_or (fault most kind paragraph) (entries_of kind (lines_of paragraph))

-- the entries of a paragraph, of files of at most `most_size` bytes, or the fault of lowest number
abbrev pub lists_in : ListKind → List FieldValue → Result (List Entry) ListFault
lists_in kind paragraph = lists_within most_size kind paragraph
