use Rattle.std.proofs.lemmas.Result.{IfOk-weaker}
use Rattle.sqlite.specs.Held.{state}
use Rattle.tables.specs.declared.arrivals.TheConstants.{SELECT_ARRIVAL}
use Rattle.tables.proofs.ReadLemmas.{plain_in}
use Rattle.tables.proofs.ArrivalsMeaning.{select_arrival_plain}
use Rattle.tables.proofs.ArrivalsLemmas.{arrival_answer}
use Rattle.tables.proofs.arrivals.arrival_of.Goals as goal

pub returns-clause-ok : goal.returns-clause-ok
returns-clause-ok g c clean t was =
    let old = state g.S.Store c.args.tx.now.conn.now in
    IfOk-weaker c.select_first_inside.result _ _ (λ found h. arrival_answer old (state g.S.Store c.select_first_inside.new.tx.conn.now) t c.args.name.now c.args.body found was (rw (c.params-to_sql.ensures, c.params-to_sql-2.ensures, c.as_id-body.ensures) at h))
    (c.select_first_inside.ensures.ok clean (plain_in SELECT_ARRIVAL.now select_arrival_plain old was.schema))

pub returns-clause-err : goal.returns-clause-err
returns-clause-err g c clean t was = c.select_first_inside.ensures.err clean (plain_in SELECT_ARRIVAL.now select_arrival_plain (state g.S.Store c.args.tx.now.conn.now) was.schema)
