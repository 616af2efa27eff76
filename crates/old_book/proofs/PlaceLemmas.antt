-- What a row that is put into a table under its own number makes of its typed rows.
use Rattle.std.proofs.Common.{◌≡◌, ℕ, map, sym, ap, ◌∙◌}
use Rattle.sqlite.specs.Table.{Table}
use Rattle.sqlite.specs.Order.{Row}
use Rattle.sqlite.specs.Cast.{cast_row}
use Rattle.sqlite.specs.Tree.{put_row}
use Rattle.sqlite.specs.Edit.{with_rowid}
use Rattle.sqlite.specs.Rowids.TheVariants.{Chosen}
use Rattle.sqlite.specs.State.{State}
use Rattle.tables.specs.Rows.{Numbered, HasRows, stored}
use Rattle.tables.proofs.InsertLemmas.{PutsRow}
use Rattle.tables.proofs.FullLemmas.{Storing, Raw, raw, value_in}
use Rattle.old_book.specs.Placed.{put_at}
use Rattle.old_book.proofs.PutLemmas.{puts_stored, put_mapped, rises_put}

module _ {X : Type 0} (cells : X → Row) (into : Table) (given : Row) (x : ℕ × X) (cast : cast_row into given ≡ stored cells x) (old new : State) (put : PutsRow into given old new)
    (xs : Numbered X) (was : HasRows cells xs (old.now.trees into.tree)) where
  pub places_row : HasRows cells (put_at x xs) (new.now.trees into.tree)
  places_row = record {
    are =
        put.rows ∙ ap (λ row. put_row (with_rowid Chosen (old.now.trees into.tree) row) (old.now.trees into.tree)) cast
        ∙ ap (λ rows. put_row (stored cells x) rows) was.are ∙ puts_stored cells x xs;
    rise = rises_put x xs was.rise;
  }

-- what a row that is put under its own number makes of rows that may be stored without their last columns
pub placed_of : {X : Type 0} (s : Storing X) (rows : Numbered X) (of : Numbered (Raw s)) (x : ℕ × X) → rows ≡ map (value_in s) of → map (value_in s) (put_at (x.0, raw s x.1) of) ≡ put_at x rows
placed_of s rows of x same = put_mapped (λ k. k.value) (x.0, raw s x.1) of ∙ sym (ap (put_at x) same)
