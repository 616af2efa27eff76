-- What a row that is put into a table makes of its typed rows.
use Rattle.std.proofs.Common.{◌≡◌, pos, ◌∷◌, ap, ◌∙◌}
use Rattle.sqlite.specs.Table.{Table}
use Rattle.sqlite.specs.Order.{Row}
use Rattle.sqlite.specs.declared.types.Value.TheVariants.{Null}
use Rattle.sqlite.specs.Cast.{cast_row}
use Rattle.sqlite.specs.Tree.{put_row, rowid}
use Rattle.sqlite.specs.Edit.{with_rowid, id_in}
use Rattle.sqlite.specs.Rowids.TheVariants.{Chosen}
use Rattle.sqlite.specs.State.{State}
use Rattle.tables.specs.Rows.{first_number, id_int, Numbered, HasRows, added, next_in}
use Rattle.tables.proofs.RowLemmas.{put_added, rises_added, next_is}
use Rattle.tables.proofs.InsertLemmas.{PutsRow}

module _ {X : Type 0} (cells : X → Row) (into : Table) (given : Row) (x : X) (cast : cast_row into given ≡ Null ∷ cells x) (old new : State) (put : PutsRow into given old new)
    (xs : Numbered X) (was : HasRows cells xs (old.now.trees into.tree)) where
  pub adds_row : HasRows cells (added xs x) (new.now.trees into.tree)
  adds_row = record {
    are =
        put.rows ∙ ap (λ row. put_row (with_rowid Chosen (old.now.trees into.tree) row) (old.now.trees into.tree)) cast
        ∙ ap (λ rows. put_row (with_rowid Chosen rows (Null ∷ cells x)) rows) was.are ∙ put_added cells xs x was.rise;
    rise = rises_added xs x was.rise;
  }

  -- the connection has the number that the row got
  pub adds_id : new.last_rowid ≡ id_int (next_in xs)
  adds_id =
      put.last ∙ ap (λ row. id_in (rowid (with_rowid Chosen (old.now.trees into.tree) row))) cast
      ∙ ap (λ rows. id_in (rowid (with_rowid Chosen rows (Null ∷ cells x)))) was.are ∙ next_is cells first_number xs
