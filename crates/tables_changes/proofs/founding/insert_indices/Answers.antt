use Rattle.std.proofs.Common.{List, ap₂, subst, ◌∙◌}
use Rattle.sqlite.specs.Held.{state}
use Rattle.indices.specs.Places.{places_in}
use Rattle.indices.specs.declared.index.IndexPlace.{IndexPlace}
use Rattle.tables.proofs.TransactionLemmas.{on_ok}
use Rattle.tables_meaning.specs.Founding.{Continues, placed_texts, with_texts}
use Rattle.tables_changes.proofs.founding.insert_indices.Goals as goal

pub returns-clause-ok : goal.returns-clause-ok
returns-clause-ok g c clean inside =
    let old = state g.S.Store c.args.tx.now.conn.now in
    let new = state g.S.Store c.insert_placed.new.tx.conn.now in
    let are = c.as_slice.ensures ∙ c.in_ok-places.ensures ∙ ap₂ places_in c.as_slice-components.ensures c.as_slice-architectures.ensures in
    on_ok c.insert_placed.result (c.insert_placed.ensures.ok clean inside) (λ added.
    subst (λ (ps : List IndexPlace). Continues old new (with_texts (placed_texts c.args.shelves.now c.args.position c.args.suite.now ps))) are added)
