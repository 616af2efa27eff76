use Rattle.std.proofs.Common.{ap, ◌∙◌, SFits, w64, to_z-of_z, rules}
use Rattle.sqlite.specs.Held.{state}
use Rattle.tables.specs.Rows.{id_nat}
use Rattle.tables.proofs.EqualLemmas.{id_back}
use Rattle.tables.proofs.BodiesLemmas.{inserts_begun}
use Rattle.tables.proofs.bodies.insert_begun.Goals as goal

pub returns-clause-ok : goal.returns-clause-ok
returns-clause-ok g c clean inside =
    let done = inserts_begun (state g.S.Store c.args.tx.now.conn.now) (state g.S.Store c.execute.new.self.conn.now) _ (c.in_ok-execute.ensures.runs clean inside) in
    let fits : SFits w64 c.last_insert_rowid.result = search rules in
    (done.0, λ t was. c.row_number.ensures ∙ ap id_nat (to_z-of_z fits ∙ c.last_insert_rowid.ensures ∙ done.1 t was) ∙ id_back _)
