-- Whether numbers rise, row by row.
use Rattle.std.specs.Prelude.{ℕ, Bool, true, ◌&&◌, [], ◌∷◌, Option, None, Some}
use Rattle.tables.specs.Rows.{Numbered, Tables}
-- `is_above`: the number is above the last, if there is one.
pub use Rattle.tables.specs.Wants.{is_behind as is_above}

-- the numbers rise, above the last before them
abbrev pub rise_behind : {X : Type 0} → Option ℕ → Numbered X → Bool
rise_behind last [] = true
rise_behind last (x ∷ xs) = is_above last x.0 && rise_behind (Some x.0) xs

-- the numbers of bodies, of uploads and of items rise
abbrev pub is_rising : Tables → Bool
is_rising t = (rise_behind None t.bodies && rise_behind None t.uploads) && rise_behind None t.items
