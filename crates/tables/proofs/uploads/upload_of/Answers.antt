use Rattle.std.proofs.lemmas.Result.{IfOk-weaker}
use Rattle.sqlite.specs.Held.{state}
use Rattle.tables.specs.declared.uploads.TheConstants.{SELECT_UPLOAD}
use Rattle.tables.proofs.ReadLemmas.{plain_in}
use Rattle.tables.proofs.UploadsMeaning.{select_upload_plain}
use Rattle.tables.proofs.UploadsLemmas.{upload_answer}
use Rattle.tables.proofs.uploads.upload_of.Goals as goal

pub returns-clause-ok : goal.returns-clause-ok
returns-clause-ok g c clean t was =
    let old = state g.S.Store c.args.tx.now.conn.now in
    IfOk-weaker c.select_first_inside.result _ _ (λ found h. upload_answer old (state g.S.Store c.select_first_inside.new.tx.conn.now) t c.args.name.now c.args.print.now found was (rw (c.params-to_sql.ensures, c.params-to_sql-2.ensures, c.params-to_sql-3.ensures, c.params-to_sql-4.ensures, c.params-to_sql-5.ensures, c.in_ok-size.ensures) at h))
    (c.select_first_inside.ensures.ok clean (plain_in SELECT_UPLOAD.now select_upload_plain old was.schema))

pub returns-clause-err : goal.returns-clause-err
returns-clause-err g c clean t was = c.select_first_inside.ensures.err clean (plain_in SELECT_UPLOAD.now select_upload_plain (state g.S.Store c.args.tx.now.conn.now) was.schema)
