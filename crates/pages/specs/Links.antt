-- Links to paths.
use Rattle.std.specs.Prelude.{ℕ, ◌==◌, Bool, ◌||◌, if◌then◌else◌, List, [], ◌∷◌, ◌++◌, codes}
use Rattle.std.specs.Char.{is_ascii_alphanumeric}
use Rattle.std.specs.List.{flat_map}
use Rattle.percent_encoding.specs.Percent.{percent_encode_byte}
use Rattle.pages.specs.Escapes.{escaped}

-- a byte of a path that an address has as it is: a letter, a digit, `-`, `.`, `_` or `~` (RFC 3986, 2.3), or the slash, which parts
-- a path (3.3)
abbrev pub is_literal : ℕ → Bool
is_literal b = is_ascii_alphanumeric b || ((b == 45) || ((b == 46) || ((b == 95) || ((b == 126) || (b == 47)))))

-- what an address has for a byte of a path: that byte, or `%` and its two upper-case hexadecimal digits (2.1)
abbrev pub address_byte : ℕ → List ℕ
address_byte b = if is_literal b then b ∷ [] else percent_encode_byte b

-- The address of a path, after a front such as `../../`.
unfoldable pub address : List ℕ → List ℕ → List ℕ
address front path = front ++ flat_map address_byte path

-- a text that is a link to a path
unfoldable pub link : List ℕ → List ℕ → List ℕ → List ℕ
link front path text =
    codes "<a href=\"" ++ escaped (address front path) ++ codes "\">" ++ escaped text ++ codes "</a>"
