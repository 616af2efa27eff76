use Rattle.std.proofs.Common.{Ok}
use Rattle.sqlite.specs.Held.{state}
use Rattle.old_book.proofs.UploadsLemmas.{bound_some, copies_upload}
use Rattle.old_book.proofs.uploads.insert_upload.Goals as goal

pub returns-clause-ok : goal.returns-clause-ok
returns-clause-ok g c clean inside =
    let ran = rw (c.params-to_sql.ensures, c.params-to_sql-2.ensures, c.params-to_sql-3.ensures, c.params-to_sql-4.ensures, c.params-to_sql-5.ensures, c.params-to_sql-6.ensures, c.params-to_sql-7.ensures, c.params-to_sql-8.ensures, c.as_id-id.ensures, c.in_ok-size.ensures, c.in_ok-place.ensures, c.in_ok-verdict.ensures, c.as_str-name.ensures, bound_some c.args.upload.now.place, bound_some c.args.upload.now.verdict) at (c.in_ok-execute.ensures.runs clean inside) in
    copies_upload (state g.S.Store c.args.tx.now.conn.now) (state g.S.Store c.execute.new.self.conn.now) c.args.id c.args.upload.now (Ok _) ran
