use Rattle.std.proofs.Common.{map, ap, ◌∙◌}
use Rattle.std.proofs.lemmas.Result.{IfOk-weaker}
use Rattle.sqlite.specs.Held.{state}
use Rattle.sqlite.specs.Values.{bound}
use Rattle.tables.proofs.ReadLemmas.{fails_unchanged, fails_inside, unchanged_if_plain, on_err}
use Rattle.tables.proofs.InsideLemmas.{goes_on, on_ok, keeps_if_goes_on, keeps_if_query_fails}
use Rattle.tables.proofs.read.select_inside.Goals as goal

pub returns-in_err-rows-clause-err : goal.returns-in_err-rows-clause-err
returns-in_err-rows-clause-err g c clean plain =
    on_err _ (fails_inside (state g.S.Store c.args.tx.now.conn.now) (state g.S.Store c.query_all.new.self.conn.now) c.args.sql.now (bound c.args.params.now) _ (c.in_err-rows.ensures.err clean))

pub returns-clause-ok : goal.returns-clause-ok
returns-clause-ok g c clean plain =
    let shown = c.in_ok-rows.ensures.ok clean in
    IfOk-weaker c.typed.result _ _ (λ all are. record {
      rows = c.in_ok-rows.rows.items;
      shown = shown;
      are = are ∙ ap (map g.T.FromRow.of_row) c.deref.ensures.value;
      same = unchanged_if_plain (state g.S.Store c.args.tx.now.conn.now) (state g.S.Store c.query_all.new.self.conn.now) c.args.sql.now (bound c.args.params.now) _ plain shown;
    }) c.typed.ensures

pub returns-clause-err : goal.returns-clause-err
returns-clause-err g c clean plain =
    let old = state g.S.Store c.args.tx.now.conn.now in
    let new = state g.S.Store c.query_all.new.self.conn.now in
    on_err _ (fails_unchanged old new (unchanged_if_plain old new c.args.sql.now (bound c.args.params.now) _ plain (c.in_ok-rows.ensures.ok clean)))

pub returns-in_err-rows-clause-kept : goal.returns-in_err-rows-clause-kept
returns-in_err-rows-clause-kept g c clean inside =
    on_err _ (keeps_if_query_fails (state g.S.Store c.args.tx.now.conn.now) (state g.S.Store c.query_all.new.self.conn.now) c.args.sql.now (bound c.args.params.now) _ (c.in_err-rows.ensures.err clean))

pub returns-clause-goes_on : goal.returns-clause-goes_on
returns-clause-goes_on g c clean inside =
    on_ok c.typed.result
    (goes_on (state g.S.Store c.args.tx.now.conn.now) (state g.S.Store c.query_all.new.self.conn.now) c.args.sql.now (bound c.args.params.now) _ inside (c.in_ok-rows.ensures.ok clean))

pub returns-clause-kept : goal.returns-clause-kept
returns-clause-kept g c clean inside =
    let old = state g.S.Store c.args.tx.now.conn.now in
    let new = state g.S.Store c.query_all.new.self.conn.now in
    on_err _ (keeps_if_goes_on old new (goes_on old new c.args.sql.now (bound c.args.params.now) _ inside (c.in_ok-rows.ensures.ok clean)))
