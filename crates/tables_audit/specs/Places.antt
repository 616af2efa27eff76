-- The uploads by the places in which they were judged.
use Rattle.std.specs.Prelude.{◌≡◌, ℕ, nat_eq, List, [], ◌∷◌, find, Option, None, Some, option_map}
use Rattle.tables.specs.Rows.{Numbered, rows_of}
use Rattle.tables.specs.declared.rows.UploadRow.{UploadRow}
use Rattle.tables_meaning.specs.Kept.{is_placed}
use Rattle.tables_audit.specs.declared.uploads.places.Placed.{Placed}

-- a place, and the upload at it
abbrev pub placed_view : Placed → ℕ × UploadRow
placed_view p = (p.place, p.upload.now)

-- the upload with its place, if it has one
abbrev pub placed_with : UploadRow → Option ℕ → List (ℕ × UploadRow)
placed_with u None = []
placed_with u (Some place) = (place, u) ∷ []

-- the first of these at a place
abbrev pub first_at : List (ℕ × UploadRow) → ℕ → Option UploadRow
first_at placed place = option_map (λ x. x.1) (find (λ x. nat_eq x.0 place) placed)

-- at each place, the first of these is the first of all uploads
abbrev pub ArePlaced : Numbered UploadRow → List (ℕ × UploadRow) → Type 0
ArePlaced uploads placed = (place : ℕ) → first_at placed place ≡ find (is_placed place) (rows_of uploads)
