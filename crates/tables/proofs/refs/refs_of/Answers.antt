use Rattle.std.proofs.lemmas.Result.{IfOk-weaker}
use Rattle.sqlite.specs.Held.{state}
use Rattle.sqlite.proofs.StateLemmas.{survives_weaker}
use Rattle.tables.specs.declared.refs.TheConstants.{SELECT_REFS_OF}
use Rattle.tables.proofs.ReadLemmas.{foreign, plain_in}
use Rattle.tables.proofs.RefsMeaning.{select_refs_of_plain}
use Rattle.tables.proofs.RefsLemmas.{refs_of_answer}
use Rattle.tables.proofs.refs.refs_of.Goals as goal

pub returns-clause-ok : goal.returns-clause-ok
returns-clause-ok g c clean t was =
    let old = state g.S.Store c.args.conn.now in
    IfOk-weaker c.select.result _ _ (λ all h. refs_of_answer old (state g.S.Store c.select.new.conn) t c.args.item all.items was (rw (c.params-to_sql.ensures, c.as_id-item.ensures) at h))
    (c.select.ensures.ok clean (plain_in SELECT_REFS_OF.now select_refs_of_plain old was.schema))

pub returns-clause-err : goal.returns-clause-err
returns-clause-err g c clean t was = c.select.ensures.err clean (plain_in SELECT_REFS_OF.now select_refs_of_plain (state g.S.Store c.args.conn.now) was.schema)

pub returns-clause-survives : goal.returns-clause-survives
returns-clause-survives g c =
    survives_weaker _ _ _ _ (λ _ db other. foreign SELECT_REFS_OF.now select_refs_of_plain (state g.S.Store c.args.conn.now) other) c.select.ensures.survives
