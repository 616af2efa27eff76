-- Whether an arrival that is looked for counts.
use Rattle.std.specs.Prelude.{ℕ, Bool, false, not, List, find, Option}
use Rattle.std.specs.Option.{option_map_or}
use Rattle.sums.specs.declared.print.Print.{Print}
use Rattle.tables.specs.Arrivals.{is_arrival}
use Rattle.tables.specs.Rows.{Tables}
use Rattle.tables_meaning.specs.Cleaning.{counts_row}
use Rattle.tables_meaning.specs.Coming.{ended_number, with_ended}

-- the arrival of this body under this name is there, and counts
abbrev pub arrival_counts : Option ℕ → ℕ → List ℕ → ℕ → Tables → Bool
arrival_counts span moment name body t = option_map_or (λ x. counts_row span moment x.1) (find (λ x. is_arrival name body x.1) t.arrivals) false

-- whether the arrival of a body that came is new at the moment, with the seconds for which arrivals count, or none if they
-- count for good
abbrev pub is_new_at_end : List ℕ → Option ℕ → Print → Option ℕ → ℕ → Tables → Bool
is_new_at_end name body print span moment t = not (arrival_counts span moment name (ended_number body print t) (with_ended body print t))
