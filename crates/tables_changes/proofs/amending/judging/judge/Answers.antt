use Rattle.std.proofs.Common.{find, Some, None, sym, ap, ◌∙◌, arith}
use Rattle.sqlite.specs.State.{HasCleanDisk}
use Rattle.sqlite.specs.Held.{state}
use Rattle.tables.specs.Uploads.{is_upload}
use Rattle.tables.proofs.TransactionLemmas.{on_ok}
use Rattle.tables_meaning.proofs.AmendLemmas.{makes_as, makes_by_read, makes_then, judged_as}
use Rattle.tables_changes.proofs.amending.judging.judge.Goals as goal

pub returns-in-Some-clause-ok : goal.returns-in-Some-clause-ok
returns-in-Some-clause-ok g c clean inside =
    let a = state g.S.Store c.args.tx.now.conn.now in
    let b = state g.S.Store c.upload_of.new.tx.conn.now in
    let d = state g.S.Store c.set_judged.new.tx.conn.now in
    let early : HasCleanDisk b = omega (arith, c.set_judged.ensures.survives.clean, clean) in
    let shown = c.in_ok-found.ensures.goes_on early inside in
    let read = makes_by_read a b shown (λ t was. (c.in_ok-found.ensures.ok early t was).1) in
    on_ok _ (c.set_judged.ensures.ok clean shown.mode) (λ second. makes_as a d _ _ (λ t was. judged_as c.args.place c.args.judgement.now t (Some c.in-Some.found)
    (ap (λ name. find (λ x. is_upload name c.args.judgement.now.print x.1) t.uploads) (sym c.as_str.ensures) ∙ sym (c.in_ok-found.ensures.ok early t was).0 ∙ c.in-Some.is)) (makes_then a b d _ _ read second))

pub returns-in-None-clause-ok : goal.returns-in-None-clause-ok
returns-in-None-clause-ok g c clean inside =
    let a = state g.S.Store c.args.tx.now.conn.now in
    let b = state g.S.Store c.upload_of.new.tx.conn.now in
    let read = makes_by_read a b (c.in_ok-found.ensures.goes_on clean inside) (λ t was. (c.in_ok-found.ensures.ok clean t was).1) in
    makes_as a b _ _ (λ t was. judged_as c.args.place c.args.judgement.now t None
    (ap (λ name. find (λ x. is_upload name c.args.judgement.now.print x.1) t.uploads) (sym c.as_str.ensures) ∙ sym (c.in_ok-found.ensures.ok clean t was).0 ∙ c.in-None.is)) read
