use Rattle.std.proofs.Common.{◌∙◌, arith, option_map}
use Rattle.std.proofs.lemmas.Result.{IfOk-weaker}
use Rattle.sqlite.specs.State.{HasCleanDisk}
use Rattle.sqlite.specs.Held.{state}
use Rattle.tables_meaning.specs.Making.{number_with, with_bytes}
use Rattle.tables_bodies.proofs.ArrivedLemmas.{new_once_stored}
use Rattle.tables_bodies.proofs.AtOnceLemmas.{delivered_at_once}
use Rattle.tables_bodies.proofs.at_once.take_inside.Goals as goal

pub returns-clause-ok : goal.returns-clause-ok
returns-clause-ok g c clean inside =
    let old = state g.S.Store c.args.tx.now.conn.now in
    let mid = state g.S.Store c.store_body.new.tx.conn.now in
    let new = state g.S.Store c.receive.new.tx.conn.now in
    let early : HasCleanDisk mid = omega (arith, c.receive.ensures.survives.clean, clean) in
    let file = c.args.file.now in
    let store = with_bytes file.print file.bytes.now in
    let stored = c.in_ok-body.ensures.ok early inside in
    IfOk-weaker c.receive.result _ _ (λ isnew h. (
      delivered_at_once file.name.now file.bytes.now file.print file.moment (option_map (λ entries. entries.now) c.entries_of.result) c.in_ok-body.body old mid new (c.entries_of.ensures ∙ c.in_ok-found.ensures) stored.0 (λ t was. (stored.1 t was).1) h.0,
      λ t was. (
        (stored.1 t was).0,
        new_once_stored file.span file.moment file.name.now c.in_ok-body.body store (λ u. number_with file.print (store u)) old mid stored.0 (λ t was. (stored.1 t was).1) isnew h.1 t was,
      ),
    )) (c.receive.ensures.ok clean stored.0.shown.mode)
