-- A body that loses some of its pieces.
use Rattle.std.specs.Prelude.{◌≡◌, ℕ}
use Rattle.sqlite.specs.State.{State}
use Rattle.tables.specs.Pieces.{without_pieces}
use Rattle.tables.specs.Rows.{Tables}
use Rattle.tables_meaning.specs.Amending.{Makes}

-- Some pieces of the body of this number are gone, or none, and no other row. What was committed stays.
pub record Thins (id : ℕ) (old new : State) : Type 0 where
  pub thinned : Tables → Tables
  pub makes : Makes old new thinned
  pub rest : (t : Tables) → without_pieces id (thinned t) ≡ without_pieces id t
