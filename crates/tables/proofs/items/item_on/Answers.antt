use Rattle.std.proofs.lemmas.Result.{IfOk-weaker}
use Rattle.sqlite.specs.Held.{state}
use Rattle.tables.specs.declared.items.TheConstants.{SELECT_ITEM}
use Rattle.tables.proofs.ReadLemmas.{plain_in}
use Rattle.tables.proofs.ItemsMeaning.{select_item_plain}
use Rattle.tables.proofs.ItemsLemmas.{item_answer}
use Rattle.tables.proofs.items.item_on.Goals as goal

pub returns-clause-ok : goal.returns-clause-ok
returns-clause-ok g c clean t was =
    let old = state g.S.Store c.args.tx.now.conn.now in
    IfOk-weaker c.select_first_inside.result _ _ (λ found h. item_answer old (state g.S.Store c.select_first_inside.new.tx.conn.now) t c.args.suite.now c.args.kind c.args.«package».now c.args.architecture.now found was (rw (c.params-to_sql.ensures, c.params-to_sql-2.ensures, c.params-to_sql-3.ensures, c.params-to_sql-4.ensures, c.in_ok-kind.ensures) at h))
    (c.select_first_inside.ensures.ok clean (plain_in SELECT_ITEM.now select_item_plain old was.schema))

pub returns-clause-err : goal.returns-clause-err
returns-clause-err g c clean t was = c.select_first_inside.ensures.err clean (plain_in SELECT_ITEM.now select_item_plain (state g.S.Store c.args.tx.now.conn.now) was.schema)
