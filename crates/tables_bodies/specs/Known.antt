-- A body that came, if a body of its print is there.
use Rattle.std.specs.Prelude.{ℕ, Option, Some, None}
use Rattle.tables.specs.Rows.{Tables}
use Rattle.tables_meaning.specs.Finished.{without_whole}

-- the body of this number is gone; without a number nothing changes
unfoldable pub without_known : Option ℕ → Tables → Tables
without_known (Some id) t = without_whole id t
without_known None t = t
