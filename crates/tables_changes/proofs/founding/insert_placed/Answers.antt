use Rattle.std.proofs.Common.{◌≤◌, ◌<◌, ◌+◌, List, length, map, take, refl, subst, ◌∙◌, arith}
use Rattle.std.proofs.Math.Seq.{take_all}
use Rattle.sqlite.specs.Held.{state}
use Rattle.sqlite.proofs.StateLemmas.{survives_then}
use Rattle.indices.specs.Places.{place_entry}
use Rattle.indices.specs.declared.index.IndexPlace.{IndexPlace}
use Rattle.tables.proofs.TransactionLemmas.{keeps_then, on_err}
use Rattle.tables.proofs.ReadLemmas.{survives_none}
use Rattle.tables_meaning.specs.Founding.{Continues, from_root, placed_texts, with_path_text, with_texts}
use Rattle.tables_meaning.proofs.FoundLemmas.{continues_as, continues_if_changed, continues_none, continues_then, no_texts, text_more}
use Rattle.tables_changes.proofs.founding.insert_placed.Goals as goal

pub loop-place-init : goal.loop-place-init
loop-place-init g c = record {
  reference = refl;
  survives = survives_none (state g.S.Store c.args.tx.now.conn.now);
  added = λ clean inside.
      let s = state g.S.Store c.args.tx.now.conn.now in
      continues_as s s (λ t. t) _ no_texts (continues_none s inside);
}

pub loop-place-preserved : goal.loop-place-preserved
loop-place-preserved g c =
    let old = state g.S.Store c.args.tx.now.conn.now in
    let mid = state g.S.Store c.loop-place.tx.conn.now in
    let new = state g.S.Store c.insert_index.new.tx.conn.now in
    let all : List IndexPlace = c.args.places.now in
    let i = c.loop-place.place-index in
    let x : IndexPlace = c.place-item.result in
    let within : i < length all = omega (arith, c.loop-place-test.true) in
    record {
      reference = c.insert_index.ensures.same_reference ∙ c.loop-place.invariant.reference;
      survives = survives_then old mid new (λ _. ⊥) (λ _. ⊥) (λ _. ⊥) (λ _ db none. none) (λ _ db none. none) c.loop-place.invariant.survives c.insert_index.ensures.survives;
      added = λ clean inside.
          let was = c.loop-place.invariant.added (omega (arith, c.insert_index.ensures.survives.clean, clean)) inside in
          let one = c.in_ok-insert_index.ensures.ok clean was.mode in
          let entry = λ (p : IndexPlace). from_root c.args.suite.now (place_entry c.args.shelves.now c.args.position p) in
          continues_then old mid new (with_texts (map entry (take i all))) (with_path_text (entry x)) (with_texts (map entry (take (i + 1) all)))
          (text_more all i x within c.place-item.is entry) was (continues_if_changed mid new (with_path_text (entry x)) one);
    }

pub returns-in_err-insert_index-clause-err : goal.returns-in_err-insert_index-clause-err
returns-in_err-insert_index-clause-err g c clean inside =
    let old = state g.S.Store c.args.tx.now.conn.now in
    let mid = state g.S.Store c.loop-place.tx.conn.now in
    let new = state g.S.Store c.insert_index.new.tx.conn.now in
    let was = c.loop-place.invariant.added (omega (arith, c.insert_index.ensures.survives.clean, clean)) inside in
    on_err _ (keeps_then old mid new was.kept (c.in_err-insert_index.ensures.err clean was.mode))

pub returns-in_err-insert_index-clause-survives : goal.returns-in_err-insert_index-clause-survives
returns-in_err-insert_index-clause-survives g c =
    let old = state g.S.Store c.args.tx.now.conn.now in
    let mid = state g.S.Store c.loop-place.tx.conn.now in
    let new = state g.S.Store c.insert_index.new.tx.conn.now in
    survives_then old mid new (λ _. ⊥) (λ _. ⊥) (λ _. ⊥) (λ _ db none. none) (λ _ db none. none) c.loop-place.invariant.survives c.insert_index.ensures.survives

pub returns-clause-ok : goal.returns-clause-ok
returns-clause-ok g c clean inside =
    let old = state g.S.Store c.args.tx.now.conn.now in
    let new = state g.S.Store c.loop-place.tx.conn.now in
    let all : List IndexPlace = c.args.places.now in
    let i = c.loop-place.place-index in
    let past : length all ≤ i = omega (arith, c.loop-place-test.false) in
    subst (λ ps. Continues old new (with_texts (placed_texts c.args.shelves.now c.args.position c.args.suite.now ps))) (take_all i all past) (c.loop-place.invariant.added clean inside)
