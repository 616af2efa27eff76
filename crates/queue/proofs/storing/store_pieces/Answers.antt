use Rattle.std.proofs.Common.{◌≡◌, ◌++◌, ◌∙◌, length, ap, subst, arith}
use Rattle.std.specs.Option.{option_map}
use Rattle.std.proofs.lemmas.Result.{err_from_is_err_and}
use Rattle.std.proofs.KnownBytes.{Consumes-trans}
use Rattle.history.specs.Receiving.{HasRead}
use Rattle.book.proofs.Staying.{stays_on}
use Rattle.queue.proofs.Stored.{refused_behind, room_for, room_kept, sizes_more, whole_past}
use Rattle.queue.proofs.storing.store_pieces.Goals as goal

pub returns-in_err-store_piece-clause-refused : goal.returns-in_err-store_piece-clause-refused
returns-in_err-store_piece-clause-refused g c =
    let p = err_from_is_err_and c.from_residual.result c.from_residual.ensures.1 in
    let parts = c.loop-left.invariant.parts in
    let size = c.min-size.result in
    let is = room_for c.loop-left.buffer c.args.whole c.loop-left.left size c.loop-left.invariant.room (omega (arith, parts.2)) c.min-size.ensures in
    rw (p.1, p.2) (refused_behind g.K.Keeper.may_fail _ _ _ parts.0 c.args.whole size parts.1 (omega (arith, parts.2, c.min-size.ensures)) c.in_err-store_piece.field-0.0
    (subst (λ n. HasRead g.K.Keeper.may_fail (g.R.Read.remaining c.loop-left.reader) (g.R.Read.remaining c.store_piece.new.reader) n c.in_err-store_piece.field-0.0) is c.in_err-store_piece.ensures.refused))

pub loop-left-preserved : goal.loop-left-preserved
loop-left-preserved g c =
    let parts = c.loop-left.invariant.parts in
    let size = c.min-size.result in
    let piece = c.store_piece.new.buffer in
    let buffer = c.loop-left.buffer in
    let room = room_for buffer c.args.whole c.loop-left.left size c.loop-left.invariant.room (omega (arith, parts.2)) c.min-size.ensures in
    let is : length piece ≡ size = c.store_piece.ensures.same ∙ room in
    record {
      stays = stays_on g.K.Keeper.is_clean g.K.Keeper.is_open g.K.Keeper.faults g.K.Keeper.book g.K.Keeper.may_leave _ _ _ c.loop-left.invariant.stays c.store_piece.ensures.stays;
      served = λ clean up. c.in_ok-store_piece.ensures.served clean;
      room = room_kept piece buffer size c.args.whole is room (omega (arith, c.loop-left.invariant.room, parts.2, c.min-size.ensures)) c.loop-left.invariant.room;
      parts = (
        parts.0 ++ piece,
        Consumes-trans _ _ _ _ _ parts.1 c.in_ok-store_piece.ensures.read,
        sizes_more parts.0 piece c.loop-left.left size c.args.whole is (omega (arith, c.min-size.ensures)) parts.2,
        whole_past parts.0 piece c.loop-left.left size is c.min-size.ensures parts.3,
        λ clean. c.in_ok-store_piece.ensures.taken clean ∙ ap (option_map (λ body. body ++ piece)) (parts.4 (c.store_piece.ensures.stays.lasts.clean clean)),
      );
    }
