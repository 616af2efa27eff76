use Rattle.std.proofs.Common.{◌≡◌, ◌∙◌, arith, subst}
use Rattle.std.proofs.lemmas.Result.{err_from_is_err_and}
use Rattle.sqlite.specs.State.{HasCleanDisk}
use Rattle.sqlite.specs.Held.{state}
use Rattle.sqlite.proofs.StateLemmas.{survives_then}
use Rattle.tables.proofs.CreatingLemmas.{IsBuilding, one_more, one_fails, all_built}
use Rattle.tables.proofs.schema.create_tables.Goals as goal

pub loop-at-preserved : goal.loop-at-preserved
loop-at-preserved g c = record {
  reference = c.execute.ensures.same_reference ∙ c.loop-at.invariant.reference;
  survives =
      survives_then (state g.S.Store c.args.tx.now.conn.now) (state g.S.Store c.loop-at.tx.conn.now) (state g.S.Store c.execute.new.self.conn.now) (λ _. ⊥) (λ _. ⊥) (λ _. ⊥) (λ _ db none. none) (λ _ db none. none)
      c.loop-at.invariant.survives c.execute.ensures.survives;
  built = λ clean inside.
      let early : HasCleanDisk (state g.S.Store c.loop-at.tx.conn.now) = omega (arith, c.execute.ensures.survives.clean, clean) in
      let was = c.loop-at.invariant.built early inside in
      let ran = rw c.create_text.ensures at (c.in_ok-execute.ensures.runs clean was.mode) in
      one_more c.loop-at.at (state g.S.Store c.args.tx.now.conn.now) (state g.S.Store c.loop-at.tx.conn.now) (state g.S.Store c.execute.new.self.conn.now) _ c.loop-at-test.true was ran;
}

pub returns-clause-ok : goal.returns-clause-ok
returns-clause-ok g c clean inside =
    let old = state g.S.Store c.args.tx.now.conn.now in
    let new = state g.S.Store c.loop-at.tx.conn.now in
    let last : c.loop-at.at ≡ 11 = omega (arith, c.loop-at-test.false, c.loop-at.auto.at-end) in
    all_built old new (subst (λ count. IsBuilding count old new) last (c.loop-at.invariant.built clean inside))

pub returns-in_err-execute-clause-cause : goal.returns-in_err-execute-clause-cause
returns-in_err-execute-clause-cause g c clean inside none =
    let old = state g.S.Store c.args.tx.now.conn.now in
    let mid = state g.S.Store c.loop-at.tx.conn.now in
    let new = state g.S.Store c.execute.new.self.conn.now in
    let early : HasCleanDisk mid = omega (arith, c.execute.ensures.survives.clean, clean) in
    let was = c.loop-at.invariant.built early inside in
    let failed = rw c.create_text.ensures at (c.in_err-execute.ensures.runs clean was.mode) in
    let p = err_from_is_err_and c.from_residual.result c.from_residual.ensures.1 in
    rw (p.1, p.2) (one_fails c.loop-at.at old mid new c.in_err-execute.field-0.0 c.loop-at-test.true was none c.loop-at.invariant.survives early c.execute.ensures.survives.counts failed)
