-- Text within a page of HTML (the named and numbered character references of the HTML standard).
use Rattle.std.specs.Prelude.{ℕ, ◌==◌, Bool, ◌||◌, ◌&&◌, not, if◌then◌else◌, List, [], ◌∷◌, codes}
use Rattle.std.specs.List.{flat_map}

-- a byte that could begin or end markup, or end an attribute: `<`, `>` and both quotes
abbrev pub is_markup : ℕ → Bool
is_markup c = (c == 60) || (c == 62) || (c == 34) || (c == 39)

-- a byte that stands for itself: any but those and `&`
abbrev pub stands_for_itself : ℕ → Bool
stands_for_itself c = not (c == 38) && (not (c == 60) && (not (c == 62) && (not (c == 34) && not (c == 39))))

-- what stands for a byte
unfoldable pub escaped_byte : ℕ → List ℕ
escaped_byte c =
    if c == 38 then codes "&amp;"
    else if c == 60 then codes "&lt;"
    else if c == 62 then codes "&gt;"
    else if c == 34 then codes "&quot;"
    else if c == 39 then codes "&#39;"
    else c ∷ []

-- what stands for a text
abbrev pub escaped : List ℕ → List ℕ
escaped text = flat_map escaped_byte text
