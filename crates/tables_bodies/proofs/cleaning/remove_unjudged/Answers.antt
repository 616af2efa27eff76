use Rattle.std.proofs.Common.{◌∙◌, sym}
use Rattle.std.proofs.lemmas.Bool.{cond-true, cond-false}
use Rattle.sqlite.specs.Held.{state}
use Rattle.tables.specs.Uploads.{is_judged}
use Rattle.tables.specs.Wants.{without_wants}
use Rattle.tables.specs.Uploads.{without_upload}
use Rattle.tables.proofs.TransactionLemmas.{on_ok}
use Rattle.tables_meaning.proofs.AmendLemmas.{makes_as, makes_none}
use Rattle.tables_bodies.proofs.cleaning.remove_unjudged.Goals as goal

pub returns-then-is_some-clause-ok : goal.returns-then-is_some-clause-ok
returns-then-is_some-clause-ok g c clean inside =
    let a = state g.S.Store c.args.tx.now.conn.now in
    let upload = c.args.upload.now in
    makes_as a a _ _ (λ t was. (sym (cond-true (is_judged upload.1) t (without_upload upload.0 (without_wants upload.0 t)) (sym c.is_some.ensures ∙ c.if-is_some.true)))) (makes_none a inside)

pub returns-clause-ok : goal.returns-clause-ok
returns-clause-ok g c clean inside =
    let a = state g.S.Store c.args.tx.now.conn.now in
    let d = state g.S.Store c.remove_upload.new.tx.conn.now in
    let upload = c.args.upload.now in
    on_ok _ (c.remove_upload.ensures.ok clean inside)
    (λ made. makes_as a d _ _ (λ t was. (sym (cond-false (is_judged upload.1) t (without_upload upload.0 (without_wants upload.0 t)) (sym c.is_some.ensures ∙ c.if-is_some.false)))) made)
