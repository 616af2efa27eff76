use Rattle.std.proofs.Common.{◌≡◌, ◌∙◌, IfOk, IfSome, None, subst, sym}
use Rattle.std.specs.List.{AllZip}
use Rattle.old_rows.proofs.ShownLemmas.{faulted, said, said_none}
use Rattle.sqlite.specs.Held.{state}
use Rattle.tables_read.specs.Layout.{IsNotRead}
use Rattle.tables_read.specs.Reading.{Spells}
use Rattle.old_rows.proofs.shown.shown_rows.Goals as goal

pub returns-in-Ok : goal.returns-in-Ok
returns-in-Ok g c =
    said c.args.sql.now c.requires (state g.S.Store c.args.conn.now) (state g.S.Store c.query_all.new.self) c.query_all.ensures.mode c.query_all.ensures.survives g.T.Stored.layout g.T.Stored.is_real (λ all. all.items)
    c.in-Ok.rows.items c.all_numbered.result c.in-Ok.ensures.ok
    (subst (λ rows. IfOk c.all_numbered.result (λ o. IfSome o (λ all. AllZip (Spells g.T.Stored.layout.seen) rows all.items))) c.deref.ensures.value c.all_numbered.ensures.some)
    (subst (λ rows. IfOk c.all_numbered.result (λ o. o ≡ None → IsNotRead g.T.Stored.layout g.T.Stored.is_real rows)) c.deref.ensures.value c.all_numbered.ensures.none)

pub returns-in-Err : goal.returns-in-Err
returns-in-Err g c = faulted c.args.sql.now c.requires (state g.S.Store c.args.conn.now) (state g.S.Store c.query_all.new.self) c.query_all.ensures.mode c.query_all.ensures.survives c.in-Err.error c.in-Err.ensures.err

pub returns-in-Err-2 : goal.returns-in-Err-2
returns-in-Err-2 g c =
    said_none c.args.sql.now c.requires (state g.S.Store c.args.conn.now) (state g.S.Store c.query_all.new.self) c.query_all.ensures.mode c.query_all.ensures.survives g.T.Stored.layout g.T.Stored.is_real (λ all. all.items)
    c.in-Err.error (sym c.is_fault_of_store.ensures ∙ c.if-is_fault_of_store.false) c.in-Err.ensures.err
