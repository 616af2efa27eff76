use Rattle.std.proofs.Common.{◌≡◌, [], false, Ok, Err, Some, None, refl, sym, ap, ◌∙◌, rules}
use Rattle.sqlite.specs.declared.error.Error.TheVariants.{SqliteFailure}
use Rattle.sqlite.specs.declared.error.ErrorCode.TheVariants.{OutOfMemory}
use Rattle.sqlite.specs.Held.{state}
use Rattle.sqlite.specs.State.{HasCleanDisk, CommitsShowing, FailsToQuery, Survives}
use Rattle.tables_read.proofs.CauseLemmas.{rows_sure}
use Rattle.tables_read.proofs.QueryLemmas.{query_err}
use Rattle.tables_read.proofs.StreamLemmas.{begun, left, then_ended, then_failed, then_other, then_read, unread}
use Rattle.tables_read.proofs.answer.answer.Goals as goal

-- the query does not begin
pub returns-in_err-rows : goal.returns-in_err-rows
returns-in_err-rows g c =
    let sql = c.args.sql.now in
    let was = c.args.conn.now in
    let now = c.query.follows.lender-at-none in
    let held = c.query.follows.holds-at-none in
    let idle : was.in_transaction ≡ false → now.in_transaction ≡ false = search rules in
    let kept : Survives (state g.S.Store was) (state g.S.Store now) (CommitsShowing sql [] (state g.S.Store was)) = search rules in
    let fails : HasCleanDisk (state g.S.Store now) → FailsToQuery sql [] (state g.S.Store was) (state g.S.Store now) c.in_err-rows.field-0.0 = search rules in
    query_err (state g.S.Store was) (state g.S.Store now) sql c.requires (rows_sure g.T.Stored.layout.tree g.T.Stored.layout.columns) idle kept c.from_residual.result c.in_err-rows.field-0.0 c.from_residual.ensures.1 fails

pub rows-init : goal.rows-init
rows-init g c =
    let made = c.in_ok-rows.ensures in
    (refl, begun g.S.Store g.T.Stored.layout c.args.sql.now c.requires c.args.conn.now _ _ c.new-all.ensures.items made.mode made.begun made.survives)

pub rows-preserved : goal.rows-preserved
rows-preserved g c = (
  c.take_next.ensures.same_reference ∙ c.rows.invariant.0,
  then_read g.S.Store g.T.Stored.layout c.args.sql.now c.requires c.args.conn.now g.T.Stored.is_real c.rows.rows.conn.now c.take_next.new.rows.conn.now c.rows.all.items c.take_next.new.all.items
      c.rows.invariant.1 c.take_next.result c.take_next.ensures.steps (c.in_ok-taken.was ∙ ap (λ o. Ok o) (c.in-Some.is ∙ ap (λ b. Some b) c.if-not-taken.false)),
)

-- At a return the connection is left as the rows held it.
pub returns-in_err-taken : goal.returns-in_err-taken
returns-in_err-taken g c =
    left g.S.Store g.T.Stored.layout c.args.sql.now c.requires c.args.conn.now c.rows.all (λ all. all.items) g.T.Stored.is_real c.from_residual-in_err-taken.result c.take_next.new.rows.conn.now
    (then_failed g.S.Store g.T.Stored.layout c.args.sql.now c.requires c.args.conn.now c.rows.all (λ all. all.items) g.T.Stored.is_real c.rows.rows.conn.now c.take_next.new.rows.conn.now c.rows.all.items
    c.take_next.new.all.items c.rows.invariant.1 c.take_next.result c.take_next.ensures.steps c.from_residual-in_err-taken.result c.in_err-taken.field-0.0 c.in_err-taken.was c.from_residual-in_err-taken.ensures.1)
    (search rules)

pub returns-in_default : goal.returns-in_default
returns-in_default g c =
    let name = c.take_next.ensures.same_reference ∙ c.rows.invariant.0 ∙ c.in_ok-rows.ensures.same_reference in
    left g.S.Store g.T.Stored.layout c.args.sql.now c.requires c.args.conn.now c.take_next.new.all (λ all. all.items) g.T.Stored.is_real (Ok (Some c.take_next.new.all)) c.take_next.new.rows.conn.now
    (then_ended g.S.Store g.T.Stored.layout c.args.sql.now c.requires c.args.conn.now c.take_next.new.all (λ all. all.items) g.T.Stored.is_real c.rows.rows.conn.now c.take_next.new.rows.conn.now c.rows.all.items
    c.take_next.new.all.items c.rows.invariant.1 c.take_next.result c.take_next.ensures.steps (c.in_ok-taken.was ∙ ap (λ o. Ok o) c.in_default.is) refl)
    (ap (state g.S.Store) (c.conn-in_default-1.given.1 (sym name) ∙ c.drop-rows-in_default.ensures))

pub returns-then-not-taken : goal.returns-then-not-taken
returns-then-not-taken g c =
    left g.S.Store g.T.Stored.layout c.args.sql.now c.requires c.args.conn.now c.rows.all (λ all. all.items) g.T.Stored.is_real (Ok None) c.take_next.new.rows.conn.now
    (then_other g.S.Store g.T.Stored.layout c.args.sql.now c.requires c.args.conn.now c.rows.all (λ all. all.items) g.T.Stored.is_real c.rows.rows.conn.now c.take_next.new.rows.conn.now c.rows.all.items
    c.take_next.new.all.items c.rows.invariant.1 c.take_next.result c.take_next.ensures.steps (c.in_ok-taken.was ∙ ap (λ o. Ok o) (c.in-Some.is ∙ ap (λ b. Some b) c.if-not-taken.true)))
    (search rules)

pub returns : goal.returns
returns g c =
    left g.S.Store g.T.Stored.layout c.args.sql.now c.requires c.args.conn.now c.rows.all (λ all. all.items) g.T.Stored.is_real (Err (SqliteFailure OutOfMemory)) c.rows.rows.conn.now
    (unread g.S.Store g.T.Stored.layout c.args.sql.now c.requires c.args.conn.now c.rows.all (λ all. all.items) g.T.Stored.is_real c.rows.rows.conn.now c.rows.all.items c.rows.invariant.1)
    (search rules)
