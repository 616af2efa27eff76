use Rattle.std.proofs.Common.{refl}
use Rattle.sqlite.specs.Held.{state}
use Rattle.tables_read.proofs.DecideLemmas.{table_told}
use Rattle.tables_read.proofs.table.table.Goals as goal

pub returns : goal.returns
returns g c =
    table_told g.T.Stored.layout g.met.T.Stored.laid g.T.Stored.is_real (λ all. all.items) (state g.S.Store c.args.conn.now) (state g.S.Store c.rows.new.conn)
    (g.S.Store.view c.args.conn.now.store) (g.met.S.InOrder.in_order c.args.conn.now.store) refl (c.settled.ensures.settled c.requires.idle) c.settled.ensures.live c.rows.result c.rows.ensures
