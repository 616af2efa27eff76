-- The names of files (own rules of this archive).
use Rattle.std.specs.Prelude.{ℕ, ◌==◌, ◌&&◌, ◌||◌, nat_eq, nat_lt, Bool, false, List, [], ◌∷◌, length, codes}
use Rattle.std.specs.Char.{is_ascii_alphanumeric}
use Rattle.std.specs.List.{list_all, ends_with}

-- letters, digits and `. + ~ _ -`
abbrev pub is_name_character : ℕ → Bool
is_name_character c = is_ascii_alphanumeric c || c == 46 || c == 43 || c == 126 || c == 95 || c == 45

-- a file name: 1 to 200 of these, the first a letter or digit
abbrev pub is_file_name : List ℕ → Bool
is_file_name [] = false
is_file_name (c ∷ cs) = nat_lt (length cs) 200 && is_ascii_alphanumeric c && list_all is_name_character cs

-- the name of a .changes
unfoldable pub is_changes_name : List ℕ → Bool
is_changes_name name = ends_with nat_eq name (codes ".changes")
