use Rattle.std.proofs.Common.{◌≡◌, ◌++◌, ◌∙◌, ◌<◌, ℕ, List, [], Some, length, take, not, ap, sym, refl, subst, arith, inl, inr}
use Rattle.std.proofs.Math.Logic.{∥∥₁_elim, ∥∥₁_map}
use Rattle.std.proofs.Props.{props}
use Rattle.sqlite.specs.Held.{state}
use Rattle.sqlite.specs.State.{HasCleanDisk}
use Rattle.tables.specs.Rows.{tables_in}
use Rattle.tables_meaning.specs.Archives.{KeepsArchive}
use Rattle.tables_meaning.specs.KeeperLemmas.{book_set, left_set}
use Rattle.tables_meaning.specs.Shown.{shown_in}
use Rattle.tables_meaning.proofs.CallLemmas.{done_book, kept_here, turn_left}
use Rattle.keep_tables.specs.AtHand.{AreAtHand, AreKnown}
use Rattle.keep_tables.proofs.AtHandLemmas.{still_at_hand, still_known}
use Rattle.keep_tables.proofs.AtOnceLemmas.{at_once_tells, none_under}
use Rattle.keep_tables.proofs.UnderWayLemmas.{stopped, undone_kept, undone_under}
use Rattle.std.specs.Option.{option_map}
use Rattle.std.proofs.lemmas.Result.{IfOk-weaker, on_err_weaker, on_ok_weaker}
use Rattle.book.specs.Book.{Book, at_moment, has_arrival, with_delivery}
use Rattle.book.specs.Keeping.{HasBodies}
use Rattle.book.proofs.Pieces.{all_come, piece_length, piece_more, some_left, whole_more}
use Rattle.book.proofs.Staying.{lasts_on, left_arriving, left_staying, on_err, stays_on}
use Rattle.keep_tables.proofs.KeeperWords.{clean_in, faults_in, kept_in, may_leave_in, open_in}
use Rattle.keep_tables.proofs.keeper.TableKeeperKeeper.arrive.Goals as goal

pub loop-rest-init : goal.loop-rest-init
loop-rest-init g c = record {
  stays = c.begin.ensures.stays;
  served = c.in_ok-begin.ensures.served;
  parts = ([], refl, λ some. refl, c.in_ok-begin.ensures.begun);
}

pub piece-requires : goal.piece-requires
piece-requires g c = record {
  begun = λ clean up.
      let parts = c.loop-rest.invariant.parts in
      let size = ap length c.split_at.ensures.front ∙ piece_length c.loop-rest.rest.now c.min.result (omega (arith, c.min.ensures)) in
      let some : 0 < length c.loop-rest.rest.now = some_left c.loop-rest.rest.now c.loop-rest-test.ensures in
      record {
        body = parts.0;
        begun = parts.3 clean;
        whole = parts.2 some;
        some = omega (arith, size, c.min.ensures, some);
        small = omega (arith, size, c.min.ensures);
      };
}

pub returns-in_err-piece-clause-lasts : goal.returns-in_err-piece-clause-lasts
returns-in_err-piece-clause-lasts g c = lasts_on (clean_in g.S.Store) (open_in g.S.Store) (faults_in g.S.Store) (kept_in g.S.Store) _ _ _ c.loop-rest.invariant.stays.lasts c.piece.ensures.stays.lasts

pub returns-in_err-piece-clause-err : goal.returns-in_err-piece-clause-err
returns-in_err-piece-clause-err g c clean up =
    on_err c.from_residual-in_err-piece.result
    ((stays_on (clean_in g.S.Store) (open_in g.S.Store) (faults_in g.S.Store) (kept_in g.S.Store) (may_leave_in g.S.Store) _ _ _ c.loop-rest.invariant.stays c.piece.ensures.stays).same clean up)

pub returns-in_err-piece-clause-crash : goal.returns-in_err-piece-clause-crash
returns-in_err-piece-clause-crash g c clean left might =
    left_staying (clean_in g.S.Store) (open_in g.S.Store) (faults_in g.S.Store) (kept_in g.S.Store) (may_leave_in g.S.Store) _ _
    (stays_on (clean_in g.S.Store) (open_in g.S.Store) (faults_in g.S.Store) (kept_in g.S.Store) (may_leave_in g.S.Store) _ _ _ c.loop-rest.invariant.stays c.piece.ensures.stays)
    clean left might

pub loop-rest-preserved : goal.loop-rest-preserved
loop-rest-preserved g c =
    let parts = c.loop-rest.invariant.parts in
    let rest = c.loop-rest.rest.now in
    record {
      stays = stays_on (clean_in g.S.Store) (open_in g.S.Store) (faults_in g.S.Store) (kept_in g.S.Store) (may_leave_in g.S.Store) _ _ _ c.loop-rest.invariant.stays c.piece.ensures.stays;
      served = c.in_ok-piece.ensures.served;
      parts = (
        parts.0 ++ take c.min.result rest,
        piece_more c.args.body.now parts.0 rest c.min.result parts.1 ∙ ap (λ l. (parts.0 ++ take c.min.result rest) ++ l) (sym c.split_at.ensures.back),
        λ some. whole_more parts.0 rest c.min.result c.min.ensures parts.2 (subst (λ l. 0 < length l) c.split_at.ensures.back some),
        λ clean. c.in_ok-piece.ensures.taken clean
            ∙ ap (option_map (λ body. body ++ c.split_at.result.0.now)) (parts.3 (c.piece.ensures.stays.lasts.clean clean))
            ∙ ap (λ piece. Some (parts.0 ++ piece)) c.split_at.ensures.front,
      );
    }

pub finish-requires-clause-whole : goal.finish-requires-clause-whole
finish-requires-clause-whole g c clean up =
    let parts = c.loop-rest.invariant.parts in
    record {
      body = c.args.body.now;
      begun = parts.3 clean ∙ ap (λ (body : List ℕ). Some body) (all_come c.args.body.now parts.0 c.loop-rest.rest.now parts.1 c.loop-rest-test.ensures);
      deliverable = c.requires.deliverable;
    }

pub returns-clause-lasts : goal.returns-clause-lasts
returns-clause-lasts g c = lasts_on (clean_in g.S.Store) (open_in g.S.Store) (faults_in g.S.Store) (kept_in g.S.Store) _ _ _ c.loop-rest.invariant.stays.lasts c.finish.ensures.lasts

pub returns-clause-new : goal.returns-clause-new
returns-clause-new g c clean =
    let was = c.finish.ensures.lasts.clean clean in
    let parts = c.loop-rest.invariant.parts in
    let come = parts.3 was ∙ ap (λ (body : List ℕ). Some body) (all_come c.args.body.now parts.0 c.loop-rest.rest.now parts.1 c.loop-rest-test.ensures) in
    let same = c.loop-rest.invariant.stays.same was (c.loop-rest.invariant.served was) in
    IfOk-weaker c.finish.result _ _ (λ new told bodies apart has there.
    subst (λ (b : Book). new ≡ not (has_arrival (at_moment c.args.moment b).arrivals (record { name = c.args.name.now; body = c.args.body.now; moment = c.args.moment }))) same
    (told c.args.body.now come bodies apart (subst (HasBodies bodies) (sym same) has) there)) (c.finish.ensures.new clean)

pub returns-clause-ok : goal.returns-clause-ok
returns-clause-ok g c clean =
    let was = c.finish.ensures.lasts.clean clean in
    let parts = c.loop-rest.invariant.parts in
    let come = parts.3 was ∙ ap (λ (body : List ℕ). Some body) (all_come c.args.body.now parts.0 c.loop-rest.rest.now parts.1 c.loop-rest-test.ensures) in
    let same = c.loop-rest.invariant.stays.same was (c.loop-rest.invariant.served was) in
    on_ok_weaker c.finish.result (λ told bodies apart has there.
    told c.args.body.now come bodies apart (subst (HasBodies bodies) (sym same) has) there
    ∙ ap (λ (b : Book). with_delivery b (record { name = c.args.name.now; body = c.args.body.now; moment = c.args.moment })) same) (c.finish.ensures.ok clean)

pub returns-clause-err : goal.returns-clause-err
returns-clause-err g c clean up =
    let was = c.finish.ensures.lasts.clean clean in
    let same = c.loop-rest.invariant.stays.same was (c.loop-rest.invariant.served was) in
    on_err_weaker c.finish.result (λ kept. kept ∙ same) (c.finish.ensures.err clean up)

pub returns-clause-crash : goal.returns-clause-crash
returns-clause-crash g c clean left might =
    let was = c.finish.ensures.lasts.clean clean in
    let parts = c.loop-rest.invariant.parts in
    let come = parts.3 was ∙ ap (λ (body : List ℕ). Some body) (all_come c.args.body.now parts.0 c.loop-rest.rest.now parts.1 c.loop-rest-test.ensures) in
    let same = c.loop-rest.invariant.stays.same was (c.loop-rest.invariant.served was) in
    left_arriving (clean_in g.S.Store) (open_in g.S.Store) (faults_in g.S.Store) (kept_in g.S.Store) (may_leave_in g.S.Store) _ _ c.loop-rest.invariant.stays was
    (λ up told bodies apart has there.
    told c.args.body.now come bodies apart (subst (HasBodies bodies) (sym same) has) there
    ∙ ap (λ (b : Book). Some (with_delivery b (record { name = c.args.name.now; body = c.args.body.now; moment = c.args.moment }))) same)
    left (c.finish.ensures.crash clean left might)

-- ---- one piece

pub deliver_at_once-requires-clause-one_piece : goal.deliver_at_once-requires-clause-one_piece
deliver_at_once-requires-clause-one_piece g c =
    let tells = at_once_tells c.args.self.now.begun c.args.body.now (sym c.is_one_piece.ensures ∙ c.if-is_one_piece.true) in
    (tells.1, tells.2)

pub invariant_of-self : goal.invariant_of-self
invariant_of-self g c =
    let old = state g.S.Store c.args.self.now.conn in
    let new = state g.S.Store c.deliver_at_once.new.conn in
    let free = (at_once_tells c.args.self.now.begun c.args.body.now (sym c.is_one_piece.ensures ∙ c.if-is_one_piece.true)).0 in (
    record {
      idle = c.deliver_at_once.ensures.idle;
      in_range = c.args.self.now.in_range;
      kept = λ clean up.
          let early : HasCleanDisk old = omega (arith, c.deliver_at_once.ensures.crash.clean, clean) in
          let was_open = (c.in-Ok.ensures.open clean).0 in
          ∥∥₁_elim (c.args.self.now.kept early was_open) (hlevel props) (λ was. ∥∥₁_map (c.args.self.now.under_way early was_open) (λ under.
          kept_here new.committed (c.in-Ok.ensures.done clean _ _ _ _ was (none_under (tables_in old.committed) c.args.self.now.begun free under) c.requires.deliverable).0.kept));
      under_way = λ clean up.
          let early : HasCleanDisk old = omega (arith, c.deliver_at_once.ensures.crash.clean, clean) in
          let was_open = (c.in-Ok.ensures.open clean).0 in
          ∥∥₁_elim (c.args.self.now.kept early was_open) (hlevel props) (λ was. ∥∥₁_map (c.args.self.now.under_way early was_open) (λ under.
          (c.in-Ok.ensures.done clean _ _ _ _ was (none_under (tables_in old.committed) c.args.self.now.begun free under) c.requires.deliverable).1));
      at_hand = λ clean up.
          let early : HasCleanDisk old = omega (arith, c.deliver_at_once.ensures.crash.clean, clean) in
          let was_open = (c.in-Ok.ensures.open clean).0 in
          ∥∥₁_elim (c.args.self.now.kept early was_open) (hlevel props) (λ was. ∥∥₁_elim (c.args.self.now.under_way early was_open) (hlevel props) (λ under.
          ∥∥₁_map (c.args.self.now.at_hand early was_open) (still_at_hand old.committed new.committed c.args.self.now.spare
          (c.in-Ok.ensures.done clean _ _ _ _ was (none_under (tables_in old.committed) c.args.self.now.begun free under) c.requires.deliverable).0.kept)));
      known = λ clean up.
          let early : HasCleanDisk old = omega (arith, c.deliver_at_once.ensures.crash.clean, clean) in
          let was_open = (c.in-Ok.ensures.open clean).0 in
          ∥∥₁_elim (c.args.self.now.kept early was_open) (hlevel props) (λ was. ∥∥₁_elim (c.args.self.now.under_way early was_open) (hlevel props) (λ under.
          ∥∥₁_map (c.args.self.now.known early was_open) (still_known old.committed new.committed c.args.self.now.dates.items c.args.self.now.prints.items
          (c.in-Ok.ensures.done clean _ _ _ _ was (none_under (tables_in old.committed) c.args.self.now.begun free under) c.requires.deliverable).0.kept)));
    }
    )

pub invariant_of-self-in-Err : goal.invariant_of-self-in-Err
invariant_of-self-in-Err g c =
    let old = state g.S.Store c.args.self.now.conn in
    let new = state g.S.Store c.deliver_at_once.new.conn in (
    record {
      idle = c.deliver_at_once.ensures.idle;
      in_range = c.args.self.now.in_range;
      kept = λ clean up.
          let early : HasCleanDisk old = omega (arith, c.deliver_at_once.ensures.crash.clean, clean) in
          undone_kept (λ db. ∥ KeepsArchive db c.args.self.now.config c.args.self.now.judged.items (shown_in c.args.self.now.config.suites (tables_in db)) c.args.self.now.dates.items ∥₁)
          old new (c.in-Err.ensures.undone clean) (c.args.self.now.kept early) up;
      under_way = λ clean up.
          let early : HasCleanDisk old = omega (arith, c.deliver_at_once.ensures.crash.clean, clean) in
          ∥∥₁_map (undone_under old new c.args.self.now.begun (c.in-Err.ensures.undone clean) (c.args.self.now.under_way early) up)
          (λ under. stopped (tables_in new.committed) c.args.self.now.begun c.stop.new.begun c.stop.ensures under);
      at_hand = λ clean up.
          let early : HasCleanDisk old = omega (arith, c.deliver_at_once.ensures.crash.clean, clean) in
          undone_kept (λ db. ∥ AreAtHand c.args.self.now.config db c.args.self.now.spare ∥₁) old new (c.in-Err.ensures.undone clean) (c.args.self.now.at_hand early) up;
      known = λ clean up.
          let early : HasCleanDisk old = omega (arith, c.deliver_at_once.ensures.crash.clean, clean) in
          undone_kept (λ db. ∥ AreKnown c.args.self.now.config (shown_in c.args.self.now.config.suites (tables_in db)) c.args.self.now.dates.items c.args.self.now.prints.items ∥₁)
          old new (c.in-Err.ensures.undone clean) (c.args.self.now.known early) up;
    }
    )

pub returns-in-Ok-clause-new : goal.returns-in-Ok-clause-new
returns-in-Ok-clause-new g c clean bodies apart has here =
    let old = state g.S.Store c.args.self.now.conn in
    let free = (at_once_tells c.args.self.now.begun c.args.body.now (sym c.is_one_piece.ensures ∙ c.if-is_one_piece.true)).0 in
    let early : HasCleanDisk old = omega (arith, c.deliver_at_once.ensures.crash.clean, clean) in
    let was_open = (c.in-Ok.ensures.open clean).0 in
    ∥∥₁_elim (c.args.self.now.kept early was_open) (hlevel props) (λ was. ∥∥₁_elim (c.args.self.now.under_way early was_open) (hlevel props) (λ under.
    c.in-Ok.ensures.new clean _ _ _ _ was (none_under (tables_in old.committed) c.args.self.now.begun free under) c.requires.deliverable c.span_of.ensures))

pub returns-in-Ok-clause-ok : goal.returns-in-Ok-clause-ok
returns-in-Ok-clause-ok g c clean bodies apart has here =
    let old = state g.S.Store c.args.self.now.conn in
    let new = state g.S.Store c.deliver_at_once.new.conn in
    let free = (at_once_tells c.args.self.now.begun c.args.body.now (sym c.is_one_piece.ensures ∙ c.if-is_one_piece.true)).0 in
    let early : HasCleanDisk old = omega (arith, c.deliver_at_once.ensures.crash.clean, clean) in
    let was_open = (c.in-Ok.ensures.open clean).0 in
    ∥∥₁_elim (c.args.self.now.kept early was_open) (book_set _ _) (λ was. ∥∥₁_elim (c.args.self.now.under_way early was_open) (book_set _ _) (λ under.
    done_book old.committed new.committed
    (c.in-Ok.ensures.done clean _ _ _ _ was (none_under (tables_in old.committed) c.args.self.now.begun free under) c.requires.deliverable).0))

pub returns-in-Ok-clause-crash : goal.returns-in-Ok-clause-crash
returns-in-Ok-clause-crash g c clean left might =
    let old = state g.S.Store c.args.self.now.conn in
    let free = (at_once_tells c.args.self.now.begun c.args.body.now (sym c.is_one_piece.ensures ∙ c.if-is_one_piece.true)).0 in
    let early : HasCleanDisk old = omega (arith, c.deliver_at_once.ensures.crash.clean, clean) in
    elim (c.deliver_at_once.ensures.crash.crash clean might.0 might.1) [
      | inl before ↦ inl (might.0, before, might.2)
      | inr new ↦ inr (
        new.2,
        inr (λ bodies apart has here. ∥∥₁_elim (c.args.self.now.kept early new.2) (left_set _ _) (λ was. ∥∥₁_elim (c.args.self.now.under_way early new.2) (left_set _ _) (λ under.
            turn_left old.committed new.0 might.0 new.1 left might.2
            (new.3 _ _ _ _ was (none_under (tables_in old.committed) c.args.self.now.begun free under) c.requires.deliverable)))),
      )
    ]

pub returns-in-Err-clause-crash : goal.returns-in-Err-clause-crash
returns-in-Err-clause-crash g c clean left might =
    let old = state g.S.Store c.args.self.now.conn in
    let free = (at_once_tells c.args.self.now.begun c.args.body.now (sym c.is_one_piece.ensures ∙ c.if-is_one_piece.true)).0 in
    let early : HasCleanDisk old = omega (arith, c.deliver_at_once.ensures.crash.clean, clean) in
    elim (c.deliver_at_once.ensures.crash.crash clean might.0 might.1) [
      | inl before ↦ inl (might.0, before, might.2)
      | inr new ↦ inr (
        new.2,
        inr (λ bodies apart has here. ∥∥₁_elim (c.args.self.now.kept early new.2) (left_set _ _) (λ was. ∥∥₁_elim (c.args.self.now.under_way early new.2) (left_set _ _) (λ under.
            turn_left old.committed new.0 might.0 new.1 left might.2
            (new.3 _ _ _ _ was (none_under (tables_in old.committed) c.args.self.now.begun free under) c.requires.deliverable)))),
      )
    ]

-- ---- no room for the pieces

pub returns-in_err-begin-clause-crash : goal.returns-in_err-begin-clause-crash
returns-in_err-begin-clause-crash g c clean left might =
    left_staying (clean_in g.S.Store) (open_in g.S.Store) (faults_in g.S.Store) (kept_in g.S.Store) (may_leave_in g.S.Store) _ _ c.begin.ensures.stays clean left might
