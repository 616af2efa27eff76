use Rattle.std.proofs.Common.{◌≡◌, ◌≤◌, ◌<◌, ◌+◌, ℕ, List, length, map, take, get_or, refl, subst, ap, ◌∙◌, arith}
use Rattle.std.specs.List.{zip}
use Rattle.std.proofs.Math.Seq.{take_all}
use Rattle.std.proofs.lemmas.Slice.Zip.{length-zip}
use Rattle.sqlite.specs.Held.{state}
use Rattle.sqlite.proofs.StateLemmas.{survives_then}
use Rattle.rules.specs.declared.suite.Suite.{Suite}
use Rattle.tables.proofs.TransactionLemmas.{keeps_if_failed, keeps_then, on_err}
use Rattle.tables.specs.Rows.{with_date}
use Rattle.tables.proofs.ReadLemmas.{survives_none}
use Rattle.tables_meaning.specs.Founding.{Continues, with_dates}
use Rattle.tables_meaning.specs.Kept.{date_row}
use Rattle.tables_meaning.proofs.FoundLemmas.{continues_as, continues_if_changed, continues_none, continues_then, no_dates, suite_date_more}
use Rattle.tables_changes.proofs.founding.insert_dates.Goals as goal

pub loop-position-init : goal.loop-position-init
loop-position-init g c = record {
  reference = refl;
  survives = survives_none (state g.S.Store c.args.tx.now.conn.now);
  added = λ clean inside.
      let s = state g.S.Store c.args.tx.now.conn.now in
      continues_as s s (λ t. t) _ no_dates (continues_none s inside);
}

pub loop-position-preserved : goal.loop-position-preserved
loop-position-preserved g c =
    let old = state g.S.Store c.args.tx.now.conn.now in
    let mid = state g.S.Store c.loop-position.tx.conn.now in
    let new = state g.S.Store c.insert_date.new.tx.conn.now in
    let suites : List Suite = c.args.config.now.suites in
    let dates : List ℕ = c.args.dates.now in
    let i = c.loop-position.position in
    let s : Suite = c.index-suites-position.result in
    let dated : i < length dates = omega (arith, c.loop-position-test.true) in
    let within : i < length suites = omega (arith, dated, c.requires.dated) in
    let here : s ≡ get_or suites i s = c.index-suites-position.is ∙ ap (λ (ss : List Suite). get_or ss i s) c.suites.ensures in
    record {
      reference = c.insert_date.ensures.same_reference ∙ c.loop-position.invariant.reference;
      survives = survives_then old mid new (λ _. ⊥) (λ _. ⊥) (λ _. ⊥) (λ _ db none. none) (λ _ db none. none) c.loop-position.invariant.survives c.insert_date.ensures.survives;
      added = λ clean inside.
          let was = c.loop-position.invariant.added (omega (arith, c.insert_date.ensures.survives.clean, clean)) inside in
          let one = rw c.as_str.ensures at (c.in_ok-insert_date.ensures.ok clean was.mode) in
          let row = date_row (s, get_or dates i 0) in
          continues_then old mid new (with_dates (map date_row (take i (zip suites dates)))) (with_date row)
          (with_dates (map date_row (take (i + 1) (zip suites dates))))
          (suite_date_more suites dates i s within dated here) was (continues_if_changed mid new (with_date row) one);
    }

pub returns-in_err-insert_date-clause-err : goal.returns-in_err-insert_date-clause-err
returns-in_err-insert_date-clause-err g c clean inside =
    let old = state g.S.Store c.args.tx.now.conn.now in
    let mid = state g.S.Store c.loop-position.tx.conn.now in
    let new = state g.S.Store c.insert_date.new.tx.conn.now in
    let was = c.loop-position.invariant.added (omega (arith, c.insert_date.ensures.survives.clean, clean)) inside in
    on_err _ (keeps_then old mid new was.kept (keeps_if_failed mid new (c.in_err-insert_date.ensures.err clean was.mode)))

pub returns-in_err-insert_date-clause-survives : goal.returns-in_err-insert_date-clause-survives
returns-in_err-insert_date-clause-survives g c =
    let old = state g.S.Store c.args.tx.now.conn.now in
    let mid = state g.S.Store c.loop-position.tx.conn.now in
    let new = state g.S.Store c.insert_date.new.tx.conn.now in
    survives_then old mid new (λ _. ⊥) (λ _. ⊥) (λ _. ⊥) (λ _ db none. none) (λ _ db none. none) c.loop-position.invariant.survives c.insert_date.ensures.survives

pub returns-clause-ok : goal.returns-clause-ok
returns-clause-ok g c clean inside =
    let old = state g.S.Store c.args.tx.now.conn.now in
    let new = state g.S.Store c.loop-position.tx.conn.now in
    let suites : List Suite = c.args.config.now.suites in
    let dates : List ℕ = c.args.dates.now in
    let i = c.loop-position.position in
    let past : length (zip suites dates) ≤ i = omega (arith, length-zip suites dates, c.loop-position-test.false, c.requires.dated) in
    subst (λ pairs. Continues old new (with_dates (map date_row pairs))) (take_all i (zip suites dates) past) (c.loop-position.invariant.added clean inside)
