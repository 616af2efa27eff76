-- A line of a checksum list (Debian Policy 5.6.21, 5.6.24): its words, and what each has to be.
use Rattle.std.specs.Prelude.{ℕ, ◌*◌, ◌-◌, ◌==◌, ◌&&◌, ◌||◌, min, nat_lt, nat_le, Bool, not, List, [], length, slice_index, slice_index_or}
use Rattle.std.specs.Char.{is_ascii_digit}
use Rattle.std.specs.List.{list_any, list_all, slice_split}
use Rattle.std.specs.Str.Parse.{digits_value}
use Rattle.sums.specs.FileNames.{is_file_name}

-- what the lines of a list are like: how many words each has, and how many bytes the digest
pub record LineForm : Type 0 where
  pub words : ℕ
  pub digest : ℕ

abbrev pub is_tab : ℕ → Bool
is_tab c = c == 9

abbrev pub is_space : ℕ → Bool
is_space c = c == 32

-- a line split at each space
abbrev pub words : List ℕ → List (List ℕ)
words line = slice_split is_space line

-- a word of a line, or an empty text if the line has fewer words
abbrev pub word : List ℕ → ℕ → List ℕ
word line i = slice_index_or (words line) i []

-- a word: not empty, without space or tab
abbrev pub is_word : List ℕ → Bool
is_word w = nat_lt 0 (length w) && not (list_any (λ c. is_space c || is_tab c) w)

-- as many words as the form has, none of them empty, and no tab
abbrev pub has_words : LineForm → List ℕ → Bool
has_words form line = length (words line) == form.words && not (list_any (λ w. length w == 0) (words line)) && not (list_any is_tab line)

abbrev pub is_lower_hex : ℕ → Bool
is_lower_hex c = is_ascii_digit c || (nat_le 97 c && nat_le c 102)

-- a digest of `bytes` bytes in lower-case hexadecimal
abbrev pub is_digest : ℕ → List ℕ → Bool
is_digest bytes text = length text == 2 * bytes && list_all is_lower_hex text

-- the largest file of an archive whose configuration says nothing else: 4 MiB
abbrev pub most_size : ℕ
most_size = 4194304

-- the largest file of any archive: 1 GiB
abbrev pub greatest_size : ℕ
greatest_size = 1073741824

-- a size: decimal digits without a leading zero, at most `most` and at most `greatest_size`
abbrev pub is_size : ℕ → List ℕ → Bool
is_size most text = nat_lt 0 (length text) && list_all is_ascii_digit text && (length text == 1 || not (slice_index text 0 == 48)) && nat_le (digits_value 10 text) (min most greatest_size)

abbrev pub digest_word : List ℕ → List ℕ
digest_word line = word line 0

abbrev pub size_word : List ℕ → List ℕ
size_word line = word line 1

-- the name is the last word
abbrev pub name_word : LineForm → List ℕ → List ℕ
name_word form line = word line (form.words - 1)

-- what may be wrong with a line, each by itself, whatever else is wrong
abbrev pub has_bad_words : LineForm → List ℕ → Bool
has_bad_words form line = not (has_words form line)

abbrev pub has_bad_digest : LineForm → List ℕ → Bool
has_bad_digest form line = not (is_digest form.digest (digest_word line))

abbrev pub has_bad_size : ℕ → LineForm → List ℕ → Bool
has_bad_size most form line = not (is_size most (size_word line))

abbrev pub has_bad_name : LineForm → List ℕ → Bool
has_bad_name form line = not (is_file_name (name_word form line))
