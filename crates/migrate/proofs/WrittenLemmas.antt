-- The transaction of a migration: the first rows of an archive, then the copied ones, then the configuration.
use Rattle.std.proofs.Common.{ℕ, List, refl, ◌∙◌}
use Rattle.sqlite.specs.State.{State}
use Rattle.rules.specs.Values.{ConfigValue}
use Rattle.suites.specs.Shelves.{ShelvesValue}
use Rattle.tables.specs.Rows.{Tables, Changes}
use Rattle.tables_meaning.specs.Configuring.{with_configured}
use Rattle.tables_meaning.specs.Founding.{Founds, founded}
use Rattle.old_book.specs.Copying.{Copies, copied}
use Rattle.migrate.specs.Migrating.{moved_rows}
use Rattle.migrate.proofs.FoundedRows.{founded_bare}

-- These three, one after another, found the archive that is moved.
pub founds_moved : (a b c d : State) (config : ConfigValue) (shown : ShelvesValue) (dates : List ℕ) (moment : ℕ) (t : Tables) → Founds a b (founded config moment) → Copies b c t moment
    → Changes c d (with_configured config shown dates) → Founds a d (moved_rows config shown dates moment t)
unfolding moved_rows
founds_moved a b c d config shown dates moment t one two three = record {
  held = λ none. three.held (copied t moment (founded config moment)) (two.held (founded config moment) (founded_bare config moment) (one.held none));
  shown = record {
    was_open = one.shown.was_open;
    is_open = three.shown.is_open;
    now_is = refl;
    committed_is = three.shown.committed_is ∙ two.kept.committed three.shown.was_open ∙ one.shown.committed_is;
    mode = three.shown.mode;
  };
}
