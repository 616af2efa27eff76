-- The spellings of names.
use Rattle.std.specs.Prelude.{ℕ, ◌==◌, nat_le, Bool, false, ◌&&◌, ◌||◌, not, List, [], ◌∷◌, length, codes, bytes_eq}
use Rattle.std.specs.Char.{is_ascii_digit, is_ascii_lowercase, is_ascii_alphanumeric}
use Rattle.std.specs.List.{list_all}

-- there is a first byte, and it passes
abbrev pub begins_with : (ℕ → Bool) → List ℕ → Bool
begins_with test [] = false
begins_with test (c ∷ cs) = test c

abbrev pub is_lower_or_digit : ℕ → Bool
is_lower_or_digit c = is_ascii_lowercase c || is_ascii_digit c

-- lower case letters, digits, plus, minus and period
abbrev pub is_package_byte : ℕ → Bool
is_package_byte c = is_lower_or_digit c || c == 43 || c == 45 || c == 46

-- Policy 5.6.1, 5.6.7: a source or package name has at least two of these bytes, and begins with a letter or digit.
unfoldable pub is_package_name : List ℕ → Bool
is_package_name name = nat_le 2 (length name) && begins_with is_lower_or_digit name && list_all is_package_byte name

-- lower case letters, digits and minus
abbrev pub is_architecture_byte : ℕ → Bool
is_architecture_byte c = is_lower_or_digit c || c == 45

-- Policy 5.6.8: the name of an architecture. `any` is a wildcard, not a name; `all` and `source` are spelled
-- like names. That a name has at most 40 bytes is a rule of this archive.
unfoldable pub is_architecture_name : List ℕ → Bool
is_architecture_name name =
    nat_le (length name) 40 && begins_with is_ascii_lowercase name && list_all is_architecture_byte name
    && not (bytes_eq name (codes "any"))

-- letters, digits, period, underscore and minus
abbrev pub is_plain_byte : ℕ → Bool
is_plain_byte c = is_ascii_alphanumeric c || c == 46 || c == 95 || c == 45

-- A plain name, of a distribution, a suite, its codename or a component: at most 60 of these bytes, the first a
-- letter or digit (a rule of this archive).
unfoldable pub is_plain_name : List ℕ → Bool
is_plain_name name = nat_le (length name) 60 && begins_with is_ascii_alphanumeric name && list_all is_plain_byte name
