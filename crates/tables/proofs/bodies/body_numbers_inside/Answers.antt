use Rattle.std.proofs.lemmas.Result.{IfOk-weaker}
use Rattle.sqlite.specs.Held.{state}
use Rattle.tables.specs.declared.bodies.TheConstants.{SELECT_NUMBERS}
use Rattle.tables.proofs.ReadLemmas.{plain_in}
use Rattle.tables.proofs.BodiesMeaning.{select_numbers_plain}
use Rattle.tables.proofs.BodiesLemmas.{numbers_answer}
use Rattle.tables.proofs.bodies.body_numbers_inside.Goals as goal

pub returns-clause-ok : goal.returns-clause-ok
returns-clause-ok g c clean t was =
    let old = state g.S.Store c.args.tx.now.conn.now in
    IfOk-weaker c.select_inside.result _ _ (λ all h. numbers_answer old (state g.S.Store c.select_inside.new.tx.conn.now) t all.items was h)
    (c.select_inside.ensures.ok clean (plain_in SELECT_NUMBERS.now select_numbers_plain old was.schema))

pub returns-clause-err : goal.returns-clause-err
returns-clause-err g c clean t was = c.select_inside.ensures.err clean (plain_in SELECT_NUMBERS.now select_numbers_plain (state g.S.Store c.args.tx.now.conn.now) was.schema)
