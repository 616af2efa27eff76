use Rattle.std.proofs.Common.{◌≡◌, List, Some, length, get_or, slice_get, codes, refl, ap, ◌∙◌, arith}
use Rattle.std.proofs.lemmas.Option.{slice_get_read}
use Rattle.sqlite.specs.State.{HasCleanDisk}
use Rattle.sqlite.specs.Held.{state}
use Rattle.sqlite.proofs.StateLemmas.{survives_then}
use Rattle.rules.specs.declared.suite.Suite.{Suite}
use Rattle.tables.proofs.TransactionLemmas.{keeps_if_changed, keeps_then, on_ok}
use Rattle.std.proofs.lemmas.Result.{on_err_weaker}
use Rattle.tables_meaning.specs.Founding.{from_root, listed_at, suite_texts_at, with_path_text, with_texts}
use Rattle.tables_meaning.proofs.FoundLemmas.{continues_if_changed, continues_then, suite_then}
use Rattle.tables_changes.proofs.founding.insert_suite.Goals as goal

pub returns-clause-ok : goal.returns-clause-ok
returns-clause-ok g c clean inside =
    let old = state g.S.Store c.args.tx.now.conn.now in
    let mid = state g.S.Store c.insert_in_folder.new.tx.conn.now in
    let new = state g.S.Store c.insert_indices.new.tx.conn.now in
    let suites : List Suite = c.args.config.now.suites in
    let i = c.args.position in
    let s : Suite = c.index-suites-position.result in
    let at : slice_get suites i ≡ Some s =
    slice_get_read suites (length suites) i s refl c.requires.suite (c.index-suites-position.is ∙ ap (λ (ss : List Suite). get_or ss i s) c.suites.ensures) in
    let early : HasCleanDisk mid = omega (arith, c.insert_indices.ensures.survives.clean, clean) in
    let one = c.in_ok-insert_in_folder.ensures.ok early inside in
    on_ok c.insert_indices.result (c.insert_indices.ensures.ok clean one.shown.mode) (λ two.
    continues_then old mid new (with_path_text (from_root s (codes "Release", c.deref.result.now)))
    (with_texts (listed_at c.args.shelves.now i s)) (with_texts (suite_texts_at c.args.config.now c.args.shelves.now i c.args.moment))
    (suite_then c.args.config.now c.args.shelves.now c.args.moment i s c.deref.result.now at (c.deref.ensures.value ∙ c.in_ok-text.ensures))
    (continues_if_changed old mid _ one) two)

pub returns-clause-err : goal.returns-clause-err
returns-clause-err g c clean inside =
    let old = state g.S.Store c.args.tx.now.conn.now in
    let mid = state g.S.Store c.insert_in_folder.new.tx.conn.now in
    let new = state g.S.Store c.insert_indices.new.tx.conn.now in
    let early : HasCleanDisk mid = omega (arith, c.insert_indices.ensures.survives.clean, clean) in
    let one = c.in_ok-insert_in_folder.ensures.ok early inside in
    on_err_weaker c.insert_indices.result (λ kept. keeps_then old mid new (keeps_if_changed old mid _ one) kept) (c.insert_indices.ensures.err clean one.shown.mode)

pub returns-clause-survives : goal.returns-clause-survives
returns-clause-survives g c =
    let old = state g.S.Store c.args.tx.now.conn.now in
    let mid = state g.S.Store c.insert_in_folder.new.tx.conn.now in
    let new = state g.S.Store c.insert_indices.new.tx.conn.now in
    survives_then old mid new (λ _. ⊥) (λ _. ⊥) (λ _. ⊥) (λ _ db none. none) (λ _ db none. none) c.insert_in_folder.ensures.survives c.insert_indices.ensures.survives
