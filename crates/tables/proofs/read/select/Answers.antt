use Rattle.std.proofs.Common.{map, ap, ◌∙◌}
use Rattle.std.proofs.lemmas.Result.{IfOk-weaker}
use Rattle.sqlite.specs.Held.{state}
use Rattle.sqlite.specs.Values.{bound}
use Rattle.sqlite.proofs.Callers.{never_commits}
use Rattle.sqlite.proofs.StateLemmas.{survives_weaker}
use Rattle.tables.proofs.ReadLemmas.{fails_unchanged, fails_to_query, unchanged_if_plain, on_err}
use Rattle.tables.proofs.read.select.Goals as goal

pub returns-in_err-rows-clause-err : goal.returns-in_err-rows-clause-err
returns-in_err-rows-clause-err g c clean plain =
    on_err _ (fails_to_query (state g.S.Store c.args.conn.now) (state g.S.Store c.query_all.new.self) c.args.sql.now (bound c.args.params.now) _ (c.in_err-rows.ensures.err clean))

pub returns-in_err-rows-clause-survives : goal.returns-in_err-rows-clause-survives
returns-in_err-rows-clause-survives g c =
    survives_weaker _ _ _ _ (λ _ db commits plain. never_commits c.args.sql.now (bound c.args.params.now) (state g.S.Store c.args.conn.now) db plain commits) c.query_all.ensures.survives

pub returns-clause-ok : goal.returns-clause-ok
returns-clause-ok g c clean plain =
    let shown = c.in_ok-rows.ensures.ok clean in
    IfOk-weaker c.typed.result _ _ (λ all are. record {
      rows = c.in_ok-rows.rows.items;
      shown = shown;
      are = are ∙ ap (map g.T.FromRow.of_row) c.deref.ensures.value;
      same = unchanged_if_plain (state g.S.Store c.args.conn.now) (state g.S.Store c.query_all.new.self) c.args.sql.now (bound c.args.params.now) _ plain shown;
    }) c.typed.ensures

pub returns-clause-err : goal.returns-clause-err
returns-clause-err g c clean plain =
    let old = state g.S.Store c.args.conn.now in
    let new = state g.S.Store c.query_all.new.self in
    on_err _ (fails_unchanged old new (unchanged_if_plain old new c.args.sql.now (bound c.args.params.now) _ plain (c.in_ok-rows.ensures.ok clean)))

pub returns-clause-survives : goal.returns-clause-survives
returns-clause-survives g c =
    survives_weaker _ _ _ _ (λ _ db commits plain. never_commits c.args.sql.now (bound c.args.params.now) (state g.S.Store c.args.conn.now) db plain commits) c.query_all.ensures.survives
