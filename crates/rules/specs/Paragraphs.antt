-- The paragraph of a suite: its fields, and what each of them may be.
use Rattle.std.specs.Prelude.{ℕ, nat_lt, Bool, true, ◌&&◌, ◌||◌, not, List, [], length, codes, bytes_eq, if◌then◌else◌, Option, None, is_some, unwrap_or}
use Rattle.std.specs.Option.{option_and_then, option_map, option_map_or}
use Rattle.std.specs.List.{list_all}
use Rattle.para.specs.Bytes.{is_nil}
use Rattle.para.specs.Field.{FieldValue}
use Rattle.para.specs.Fields.{Fields, field_named}
use Rattle.para.specs.Value.{folded_value}
use Rattle.records.specs.Names.{is_architecture_name, is_plain_name}
use Rattle.records.specs.Records.{are_different}
use Rattle.rules.specs.Days.{days_in, is_days}
use Rattle.rules.specs.Sizes.{mebibytes_in}
use Rattle.rules.specs.Uploaders.{is_rule_line, rules_in}
use Rattle.rules.specs.Suites.{distributions}
use Rattle.rules.specs.declared.suite.Suite.{Suite}

-- ---- the values of fields

-- the first line of the field, if it is there
unfoldable pub first_line : List ℕ → Fields → Option (List ℕ)
first_line name p = option_map (λ f. f.first) (field_named name p)

-- the words of the field, or no words if the field is absent
unfoldable pub words : List ℕ → Fields → List (List ℕ)
words name p = option_map_or folded_value (field_named name p) []

-- the lines of the field after its first, if it is there
unfoldable pub lines_behind : List ℕ → Fields → Option (List (List ℕ))
lines_behind name p = option_map (λ f. f.more) (field_named name p)

-- the number of days of the field, if it is there and has one
unfoldable pub days : List ℕ → Fields → Option ℕ
days name p = option_and_then days_in (first_line name p)

-- the number of MiB that a field says: one line, 4 to 1024
unfoldable pub size_said : FieldValue → Option ℕ
size_said f = if is_nil f.more then mebibytes_in f.first else None

-- the number of MiB of the field, if it is there and says one
unfoldable pub mebibytes : List ℕ → Fields → Option ℕ
mebibytes name p = option_and_then size_said (field_named name p)

-- the suite of a paragraph
abbrev pub suite_of : Fields → Suite
suite_of p = record {
  codename = unwrap_or (first_line (codes "Codename") p) [];
  suite = first_line (codes "Suite") p;
  origin = first_line (codes "Origin") p;
  label = first_line (codes "Label") p;
  description = first_line (codes "Description") p;
  architectures = words (codes "Architectures") p;
  components = words (codes "Components") p;
  also_accept_for = words (codes "AlsoAcceptFor") p;
  uploaders = option_map rules_in (lines_behind (codes "Uploaders") p);
  valid_days = days (codes "ValidDays") p;
}

-- the distribution names that the suite of a paragraph claims
unfoldable pub names_claimed : Fields → List (List ℕ)
names_claimed p = distributions (suite_of p)

-- ---- a required field that is absent or without a word

unfoldable pub is_without_word : List ℕ → Fields → Bool
is_without_word name p = is_nil (words name p)

unfoldable pub lacks_field : Fields → Bool
lacks_field p =
    is_without_word (codes "Codename") p || is_without_word (codes "Architectures") p
    || is_without_word (codes "Components") p

-- ---- good values

-- one line, not empty
unfoldable pub is_filled_line : FieldValue → Bool
is_filled_line f = is_nil f.more && not (is_nil f.first)

-- one line, a plain name
unfoldable pub is_plain_line : FieldValue → Bool
is_plain_line f = is_nil f.more && is_plain_name f.first

-- one plain name or more
unfoldable pub are_plain_words : FieldValue → Bool
are_plain_words f = not (is_nil (folded_value f)) && list_all is_plain_name (folded_value f)

-- one line, a number of days
unfoldable pub is_days_line : FieldValue → Bool
is_days_line f = is_nil f.more && is_days f.first

-- absent, or passing
unfoldable pub passes : (FieldValue → Bool) → List ℕ → Fields → Bool
passes test name p = option_map_or test (field_named name p) true

-- an architecture that a suite may list
unfoldable pub is_listed_architecture : List ℕ → Bool
is_listed_architecture name = is_architecture_name name && not (bytes_eq name (codes "all"))

-- names that pass, none twice
unfoldable pub are_names : (List ℕ → Bool) → List (List ℕ) → Bool
are_names test names = list_all test names && are_different names

unfoldable pub has_good_lines : Fields → Bool
has_good_lines p =
    passes is_plain_line (codes "Codename") p && passes is_plain_line (codes "Suite") p
    && passes is_filled_line (codes "Origin") p && passes is_filled_line (codes "Label") p
    && passes is_filled_line (codes "Description") p
    && passes is_days_line (codes "KeepDays") p && passes is_days_line (codes "ValidDays") p

unfoldable pub has_good_names : Fields → Bool
has_good_names p =
    are_names is_listed_architecture (words (codes "Architectures") p)
    && are_names is_plain_name (words (codes "Components") p)
    && passes are_plain_words (codes "AlsoAcceptFor") p

-- Some value is bad: a field of one line has more lines or is empty, a name is not spelled as one, or an architecture or component stands twice.
unfoldable pub has_bad_value : Fields → Bool
has_bad_value p = not (has_good_lines p && has_good_names p)

-- the paragraph says how long arrivals count, which only the first paragraph may do
unfoldable pub has_keep_days : Fields → Bool
has_keep_days p = is_some (field_named (codes "KeepDays") p)

-- The field of the largest file is there and says no number of MiB.
unfoldable pub has_bad_size : Fields → Bool
has_bad_size p = not (passes (λ f. is_some (size_said f)) (codes "MaxFileSize") p)

-- the paragraph says how large a file may be, which only the first paragraph may do
unfoldable pub has_size : Fields → Bool
has_size p = is_some (field_named (codes "MaxFileSize") p)

-- ---- uploader lines

-- an empty first line, then uploader lines
unfoldable pub are_rules : FieldValue → Bool
are_rules f = is_nil f.first && list_all is_rule_line f.more

unfoldable pub has_bad_rule : Fields → Bool
has_bad_rule p = not (passes are_rules (codes "Uploaders") p)

-- ---- limits

unfoldable pub has_few_lines : FieldValue → Bool
has_few_lines f = not (nat_lt 256 (length f.more))

-- at most 16 architectures, 8 components and 256 uploader lines
unfoldable pub is_over_limits : Fields → Bool
is_over_limits p =
    nat_lt 16 (length (words (codes "Architectures") p)) || nat_lt 8 (length (words (codes "Components") p))
    || not (passes has_few_lines (codes "Uploaders") p)
