use Rattle.std.proofs.Common.{◌≡◌, ◌+◌, ◌<◌, Result, Ok, Err, OnOk, not, ap, subst, ◌∙◌, arith, rules}
use Rattle.sqlite.specs.Held.{state}
use Rattle.sqlite.specs.State.{Survives}
use Rattle.sqlite.proofs.StateLemmas.{survives_weaker}
use Rattle.tables_meaning.specs.Coming.{with_next_piece}
use Rattle.tables_meaning.specs.Transactions.{IsDone, MayCommit}
use Rattle.tables_meaning.proofs.TakingLemmas.{both_if, piece_comes, piece_turns}
use Rattle.keep_tables.proofs.coming.take_piece.Goals as goal

if_ok : {X E P : Type 0} (r : Result X E) → P → OnOk r P
if_ok (Ok x) h = h
if_ok (Err e) h = tt

pub returns-clause-counted : goal.returns-clause-counted
returns-clause-counted g c =
    let small : c.args.count < 18446744073709551615 = omega (arith, c.in-Some.ensures.0) in
    if_ok c.store_piece.result small

pub returns-clause-done : goal.returns-clause-done
returns-clause-done g c clean config judged shown dates so_far keeps comes full some small =
    let old = state g.S.Store c.args.conn.now in
    let settled = c.is_autocommit-idle.ensures.settled (c.is_autocommit-idle.ensures.value ∙ ap not c.requires.idle) in
    let new = (state g.S.Store c.store_piece.new.conn).committed in
    let next : c.in-Some.number ≡ c.args.count + 1 = search rules in
    let done = subst (λ n. OnOk c.store_piece.result (IsDone old (state g.S.Store c.store_piece.new.conn) (with_next_piece c.args.body n c.args.bytes.now))) next (c.store_piece.ensures.done clean) in
    both_if c.store_piece.result done (c.store_piece.ensures.answer clean) (λ did id answer. (
      piece_turns old settled did.was_open config judged shown dates keeps c.args.body c.args.count so_far comes c.args.bytes.now full some small new did.held,
      piece_comes old settled did.was_open config judged shown dates keeps c.args.body c.args.count so_far comes c.args.bytes.now full some small new did.held id answer,
    ))

pub returns-clause-crash : goal.returns-clause-crash
returns-clause-crash g c =
    let old = state g.S.Store c.args.conn.now in
    let settled = c.is_autocommit-idle.ensures.settled (c.is_autocommit-idle.ensures.value ∙ ap not c.requires.idle) in
    let next : c.in-Some.number ≡ c.args.count + 1 = search rules in
    survives_weaker old (state g.S.Store c.store_piece.new.conn) _ _ (λ clean trees may. (
      may.0,
      may.1,
      may.2,
      λ config judged shown dates so_far keeps comes full some small.
          piece_turns old settled may.2 config judged shown dates keeps c.args.body c.args.count so_far comes c.args.bytes.now full some small may.0 may.3,
    )) (subst (λ n. Survives old (state g.S.Store c.store_piece.new.conn) (MayCommit old (with_next_piece c.args.body n c.args.bytes.now))) next c.store_piece.ensures.crash)
