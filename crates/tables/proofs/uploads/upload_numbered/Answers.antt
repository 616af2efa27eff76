use Rattle.std.proofs.lemmas.Result.{IfOk-weaker}
use Rattle.sqlite.specs.Held.{state}
use Rattle.sqlite.proofs.StateLemmas.{survives_weaker}
use Rattle.tables.specs.declared.uploads.TheConstants.{SELECT_NUMBERED}
use Rattle.tables.proofs.ReadLemmas.{foreign, plain_in}
use Rattle.tables.proofs.UploadsMeaning.{select_numbered_plain}
use Rattle.tables.proofs.UploadsLemmas.{numbered_answer}
use Rattle.tables.proofs.uploads.upload_numbered.Goals as goal

pub returns-clause-ok : goal.returns-clause-ok
returns-clause-ok g c clean t was =
    let old = state g.S.Store c.args.conn.now in
    IfOk-weaker c.select_first.result _ _ (λ found h. numbered_answer old (state g.S.Store c.select_first.new.conn) t c.args.id found was (rw (c.params-to_sql.ensures, c.as_id-id.ensures) at h))
    (c.select_first.ensures.ok clean (plain_in SELECT_NUMBERED.now select_numbered_plain old was.schema))

pub returns-clause-err : goal.returns-clause-err
returns-clause-err g c clean t was = c.select_first.ensures.err clean (plain_in SELECT_NUMBERED.now select_numbered_plain (state g.S.Store c.args.conn.now) was.schema)

pub returns-clause-survives : goal.returns-clause-survives
returns-clause-survives g c =
    survives_weaker _ _ _ _ (λ _ db other. foreign SELECT_NUMBERED.now select_numbered_plain (state g.S.Store c.args.conn.now) other) c.select_first.ensures.survives
