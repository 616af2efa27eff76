use Rattle.std.proofs.Common.{◌≡◌, ◌++◌, ◌∙◌, ◌<◌, ℕ, List, [], Some, length, take, not, ap, sym, refl, subst, arith}
use Rattle.std.specs.Option.{option_map}
use Rattle.std.proofs.lemmas.Result.{IfOk-weaker, on_err_weaker, on_ok_weaker}
use Rattle.book.specs.Book.{Book, at_moment, has_arrival, with_delivery}
use Rattle.book.specs.Keeping.{HasBodies}
use Rattle.book.proofs.Pieces.{all_come, piece_length, piece_more, some_left, whole_more}
use Rattle.book.proofs.Staying.{lasts_on, left_arriving, left_staying, on_err, stays_on}
use Rattle.book.proofs.keeper.Keeper.arrive.Goals as goal

pub loop-rest-init : goal.loop-rest-init
loop-rest-init g c = record {
  stays = c.begin.ensures.stays;
  served = c.in_ok-begin.ensures.served;
  parts = ([], refl, λ some. refl, c.in_ok-begin.ensures.begun);
}

pub piece-requires : goal.piece-requires
piece-requires g c = record {
  begun = λ clean up.
      let parts = c.loop-rest.invariant.parts in
      let size = ap length c.split_at.ensures.front ∙ piece_length c.loop-rest.rest.now c.min.result (omega (arith, c.min.ensures)) in
      let some : 0 < length c.loop-rest.rest.now = some_left c.loop-rest.rest.now c.loop-rest-test.ensures in
      record {
        body = parts.0;
        begun = parts.3 clean;
        whole = parts.2 some;
        some = omega (arith, size, c.min.ensures, some);
        small = omega (arith, size, c.min.ensures);
      };
}

pub returns-in_err-piece-clause-lasts : goal.returns-in_err-piece-clause-lasts
returns-in_err-piece-clause-lasts g c = lasts_on g.Self.Keeper.is_clean g.Self.Keeper.is_open g.Self.Keeper.faults g.Self.Keeper.book _ _ _ c.loop-rest.invariant.stays.lasts c.piece.ensures.stays.lasts

pub returns-in_err-piece-clause-err : goal.returns-in_err-piece-clause-err
returns-in_err-piece-clause-err g c clean up =
    on_err c.from_residual-in_err-piece.result
    ((stays_on g.Self.Keeper.is_clean g.Self.Keeper.is_open g.Self.Keeper.faults g.Self.Keeper.book g.Self.Keeper.may_leave _ _ _ c.loop-rest.invariant.stays c.piece.ensures.stays).same clean up)

pub returns-in_err-piece-clause-crash : goal.returns-in_err-piece-clause-crash
returns-in_err-piece-clause-crash g c clean left might =
    left_staying g.Self.Keeper.is_clean g.Self.Keeper.is_open g.Self.Keeper.faults g.Self.Keeper.book g.Self.Keeper.may_leave _ _
    (stays_on g.Self.Keeper.is_clean g.Self.Keeper.is_open g.Self.Keeper.faults g.Self.Keeper.book g.Self.Keeper.may_leave _ _ _ c.loop-rest.invariant.stays c.piece.ensures.stays)
    clean left might

pub loop-rest-preserved : goal.loop-rest-preserved
loop-rest-preserved g c =
    let parts = c.loop-rest.invariant.parts in
    let rest = c.loop-rest.rest.now in
    record {
      stays = stays_on g.Self.Keeper.is_clean g.Self.Keeper.is_open g.Self.Keeper.faults g.Self.Keeper.book g.Self.Keeper.may_leave _ _ _ c.loop-rest.invariant.stays c.piece.ensures.stays;
      served = c.in_ok-piece.ensures.served;
      parts = (
        parts.0 ++ take c.min.result rest,
        piece_more c.args.body.now parts.0 rest c.min.result parts.1 ∙ ap (λ l. (parts.0 ++ take c.min.result rest) ++ l) (sym c.split_at.ensures.back),
        λ some. whole_more parts.0 rest c.min.result c.min.ensures parts.2 (subst (λ l. 0 < length l) c.split_at.ensures.back some),
        λ clean. c.in_ok-piece.ensures.taken clean
            ∙ ap (option_map (λ body. body ++ c.split_at.result.0.now)) (parts.3 (c.piece.ensures.stays.lasts.clean clean))
            ∙ ap (λ piece. Some (parts.0 ++ piece)) c.split_at.ensures.front,
      );
    }

pub finish-requires-clause-whole : goal.finish-requires-clause-whole
finish-requires-clause-whole g c clean up =
    let parts = c.loop-rest.invariant.parts in
    record {
      body = c.args.body.now;
      begun = parts.3 clean ∙ ap (λ (body : List ℕ). Some body) (all_come c.args.body.now parts.0 c.loop-rest.rest.now parts.1 c.loop-rest-test.ensures);
      deliverable = c.requires.deliverable;
    }

pub returns-clause-lasts : goal.returns-clause-lasts
returns-clause-lasts g c = lasts_on g.Self.Keeper.is_clean g.Self.Keeper.is_open g.Self.Keeper.faults g.Self.Keeper.book _ _ _ c.loop-rest.invariant.stays.lasts c.finish.ensures.lasts

pub returns-clause-new : goal.returns-clause-new
returns-clause-new g c clean =
    let was = c.finish.ensures.lasts.clean clean in
    let parts = c.loop-rest.invariant.parts in
    let come = parts.3 was ∙ ap (λ (body : List ℕ). Some body) (all_come c.args.body.now parts.0 c.loop-rest.rest.now parts.1 c.loop-rest-test.ensures) in
    let same = c.loop-rest.invariant.stays.same was (c.loop-rest.invariant.served was) in
    IfOk-weaker c.finish.result _ _ (λ new told bodies apart has there.
    subst (λ (b : Book). new ≡ not (has_arrival (at_moment c.args.moment b).arrivals (record { name = c.args.name.now; body = c.args.body.now; moment = c.args.moment }))) same
    (told c.args.body.now come bodies apart (subst (HasBodies bodies) (sym same) has) there)) (c.finish.ensures.new clean)

pub returns-clause-ok : goal.returns-clause-ok
returns-clause-ok g c clean =
    let was = c.finish.ensures.lasts.clean clean in
    let parts = c.loop-rest.invariant.parts in
    let come = parts.3 was ∙ ap (λ (body : List ℕ). Some body) (all_come c.args.body.now parts.0 c.loop-rest.rest.now parts.1 c.loop-rest-test.ensures) in
    let same = c.loop-rest.invariant.stays.same was (c.loop-rest.invariant.served was) in
    on_ok_weaker c.finish.result (λ told bodies apart has there.
    told c.args.body.now come bodies apart (subst (HasBodies bodies) (sym same) has) there
    ∙ ap (λ (b : Book). with_delivery b (record { name = c.args.name.now; body = c.args.body.now; moment = c.args.moment })) same) (c.finish.ensures.ok clean)

pub returns-clause-err : goal.returns-clause-err
returns-clause-err g c clean up =
    let was = c.finish.ensures.lasts.clean clean in
    let same = c.loop-rest.invariant.stays.same was (c.loop-rest.invariant.served was) in
    on_err_weaker c.finish.result (λ kept. kept ∙ same) (c.finish.ensures.err clean up)

pub returns-clause-crash : goal.returns-clause-crash
returns-clause-crash g c clean left might =
    let was = c.finish.ensures.lasts.clean clean in
    let parts = c.loop-rest.invariant.parts in
    let come = parts.3 was ∙ ap (λ (body : List ℕ). Some body) (all_come c.args.body.now parts.0 c.loop-rest.rest.now parts.1 c.loop-rest-test.ensures) in
    let same = c.loop-rest.invariant.stays.same was (c.loop-rest.invariant.served was) in
    left_arriving g.Self.Keeper.is_clean g.Self.Keeper.is_open g.Self.Keeper.faults g.Self.Keeper.book g.Self.Keeper.may_leave _ _ c.loop-rest.invariant.stays was
    (λ up told bodies apart has there.
    told c.args.body.now come bodies apart (subst (HasBodies bodies) (sym same) has) there
    ∙ ap (λ (b : Book). Some (with_delivery b (record { name = c.args.name.now; body = c.args.body.now; moment = c.args.moment }))) same)
    left (c.finish.ensures.crash clean left might)
