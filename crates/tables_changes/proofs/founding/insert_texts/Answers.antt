use Rattle.std.proofs.Common.{◌≤◌, ◌<◌, ◌+◌, ℕ, List, length, take, get_or, refl, subst, ◌∙◌, arith}
use Rattle.std.specs.List.{zip}
use Rattle.std.proofs.Math.Seq.{take_all}
use Rattle.std.proofs.lemmas.Slice.Zip.{length-zip}
use Rattle.sqlite.specs.Held.{state}
use Rattle.sqlite.proofs.StateLemmas.{survives_then}
use Rattle.rules.specs.declared.suite.Suite.{Suite}
use Rattle.indices.specs.Indices.{texts_from}
use Rattle.tables.proofs.TransactionLemmas.{keeps_then, on_err}
use Rattle.tables.proofs.ReadLemmas.{survives_none}
use Rattle.tables_meaning.specs.Founding.{Continues, suite_texts_at, with_texts}
use Rattle.tables_meaning.proofs.FoundLemmas.{continues_as, continues_none, continues_then, no_suites, suite_more}
use Rattle.tables_changes.proofs.founding.insert_texts.Goals as goal

pub loop-position-init : goal.loop-position-init
loop-position-init g c = record {
  reference = refl;
  survives = survives_none (state g.S.Store c.args.tx.now.conn.now);
  added = λ clean inside.
      let s = state g.S.Store c.args.tx.now.conn.now in
      continues_as s s (λ t. t) _ (no_suites c.args.config.now c.args.shelves.now c.args.dates.now) (continues_none s inside);
}

pub loop-position-preserved : goal.loop-position-preserved
loop-position-preserved g c =
    let old = state g.S.Store c.args.tx.now.conn.now in
    let mid = state g.S.Store c.loop-position.tx.conn.now in
    let new = state g.S.Store c.insert_suite.new.tx.conn.now in
    let suites : List Suite = c.args.config.now.suites in
    let dates : List ℕ = c.args.dates.now in
    let i = c.loop-position.position in
    let dated : i < length dates = omega (arith, c.loop-position-test.true) in
    let within : i < length suites = omega (arith, dated, c.requires.dated) in
    record {
      reference = c.insert_suite.ensures.same_reference ∙ c.loop-position.invariant.reference;
      survives = survives_then old mid new (λ _. ⊥) (λ _. ⊥) (λ _. ⊥) (λ _ db none. none) (λ _ db none. none) c.loop-position.invariant.survives c.insert_suite.ensures.survives;
      added = λ clean inside.
          let was = c.loop-position.invariant.added (omega (arith, c.insert_suite.ensures.survives.clean, clean)) inside in
          continues_then old mid new (with_texts (texts_from c.args.shelves.now 0 (take i (zip suites dates))))
          (with_texts (suite_texts_at c.args.config.now c.args.shelves.now i (get_or dates i 0)))
          (with_texts (texts_from c.args.shelves.now 0 (take (i + 1) (zip suites dates))))
          (suite_more c.args.config.now c.args.shelves.now dates i within dated) was (c.in_ok-insert_suite.ensures.ok clean was.mode);
    }

pub returns-in_err-insert_suite-clause-err : goal.returns-in_err-insert_suite-clause-err
returns-in_err-insert_suite-clause-err g c clean inside =
    let old = state g.S.Store c.args.tx.now.conn.now in
    let mid = state g.S.Store c.loop-position.tx.conn.now in
    let new = state g.S.Store c.insert_suite.new.tx.conn.now in
    let was = c.loop-position.invariant.added (omega (arith, c.insert_suite.ensures.survives.clean, clean)) inside in
    on_err _ (keeps_then old mid new was.kept (c.in_err-insert_suite.ensures.err clean was.mode))

pub returns-in_err-insert_suite-clause-survives : goal.returns-in_err-insert_suite-clause-survives
returns-in_err-insert_suite-clause-survives g c =
    let old = state g.S.Store c.args.tx.now.conn.now in
    let mid = state g.S.Store c.loop-position.tx.conn.now in
    let new = state g.S.Store c.insert_suite.new.tx.conn.now in
    survives_then old mid new (λ _. ⊥) (λ _. ⊥) (λ _. ⊥) (λ _ db none. none) (λ _ db none. none) c.loop-position.invariant.survives c.insert_suite.ensures.survives

pub returns-clause-ok : goal.returns-clause-ok
returns-clause-ok g c clean inside =
    let old = state g.S.Store c.args.tx.now.conn.now in
    let new = state g.S.Store c.loop-position.tx.conn.now in
    let suites : List Suite = c.args.config.now.suites in
    let dates : List ℕ = c.args.dates.now in
    let i = c.loop-position.position in
    let past : length (zip suites dates) ≤ i = omega (arith, length-zip suites dates, c.loop-position-test.false, c.requires.dated) in
    subst (λ pairs. Continues old new (with_texts (texts_from c.args.shelves.now 0 pairs))) (take_all i (zip suites dates) past) (c.loop-position.invariant.added clean inside)
