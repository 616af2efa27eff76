use Rattle.std.proofs.lemmas.Result.{IfOk-weaker}
use Rattle.sqlite.specs.Held.{state}
use Rattle.sqlite.proofs.StateLemmas.{survives_weaker}
use Rattle.tables.specs.declared.wants.TheConstants.{SELECT_FIRST, SELECT_NEXT}
use Rattle.tables.proofs.ReadLemmas.{foreign, plain_in}
use Rattle.tables.proofs.NextLemmas.{first_answer, next_answer, select_first_plain, select_next_plain}
use Rattle.tables.proofs.wants.next_wanting.Goals as goal

pub returns-in-Some-clause-ok : goal.returns-in-Some-clause-ok
returns-in-Some-clause-ok g c clean t was =
    let old = state g.S.Store c.args.conn.now in
    IfOk-weaker c.select_first.result _ _ (λ found h. rw c.in-Some.is (next_answer old (state g.S.Store c.select_first.new.conn) t found was c.in-Some.after (rw (c.params-to_sql.ensures, c.as_id-after.ensures) at h)))
    (c.select_first.ensures.ok clean (plain_in SELECT_NEXT.now select_next_plain old was.schema))

pub returns-in-Some-clause-err : goal.returns-in-Some-clause-err
returns-in-Some-clause-err g c clean t was = c.select_first.ensures.err clean (plain_in SELECT_NEXT.now select_next_plain (state g.S.Store c.args.conn.now) was.schema)

pub returns-in-Some-clause-survives : goal.returns-in-Some-clause-survives
returns-in-Some-clause-survives g c =
    survives_weaker _ _ _ _ (λ _ db other. foreign SELECT_NEXT.now select_next_plain (state g.S.Store c.args.conn.now) other) c.select_first.ensures.survives

pub returns-in-None-clause-ok : goal.returns-in-None-clause-ok
returns-in-None-clause-ok g c clean t was =
    let old = state g.S.Store c.args.conn.now in
    IfOk-weaker c.select_first-in-None.result _ _ (λ found h. rw c.in-None.is (first_answer old (state g.S.Store c.select_first-in-None.new.conn) t found was h))
    (c.select_first-in-None.ensures.ok clean (plain_in SELECT_FIRST.now select_first_plain old was.schema))

pub returns-in-None-clause-err : goal.returns-in-None-clause-err
returns-in-None-clause-err g c clean t was = c.select_first-in-None.ensures.err clean (plain_in SELECT_FIRST.now select_first_plain (state g.S.Store c.args.conn.now) was.schema)

pub returns-in-None-clause-survives : goal.returns-in-None-clause-survives
returns-in-None-clause-survives g c =
    survives_weaker _ _ _ _ (λ _ db other. foreign SELECT_FIRST.now select_first_plain (state g.S.Store c.args.conn.now) other) c.select_first-in-None.ensures.survives
