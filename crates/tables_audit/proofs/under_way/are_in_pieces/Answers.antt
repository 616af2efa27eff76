use Rattle.std.proofs.Common.{◌+◌, refl, nat_eq, length, take, drop, sym, subst, ◌∙◌, arith}
use Rattle.std.proofs.lemmas.Bool.{false≢true, iff_false}
use Rattle.std.proofs.lemmas.List.{take_all}
use Rattle.tables_audit.specs.Bodies.{AreInPieces, bytes_in}
use Rattle.tables_audit.proofs.BodiesLemmas.{around, its_body, piece_more, views}
use Rattle.tables_audit.proofs.UnderWayLemmas.{AreSoFar, and_behind, behind_full, is_next_behind, none_so_far}
use Rattle.tables_audit.proofs.under_way.are_in_pieces.Goals as goal

pub loop-piece-init : goal.loop-piece-init
loop-piece-init c = record { few = omega arith; so_far = λ id own. none_so_far id }

pub returns-then-not-is_full : goal.returns-then-not-is_full
returns-then-not-is_full c id own =
    let pieces = c.args.pieces.now in
    let i = c.loop-piece.piece-index in
    let x = c.piece-item.result in (
      λ e. absurd (false≢true e),
      λ fit.
          let are = sym (around pieces i x c.loop-piece-test.true c.piece-item.is) ∙ fit in
          let full = behind_full id c.loop-piece.count c.loop-piece.is_full (bytes_in (views pieces)) (views (take i pieces)) (views (drop (i + 1) pieces)) x.now are (c.loop-piece.invariant.so_far id own) in
          absurd (false≢true (sym c.if-not-is_full.true ∙ full)),
    )

pub returns-then-not-is_behind : goal.returns-then-not-is_behind
returns-then-not-is_behind c id own =
    let pieces = c.args.pieces.now in
    let i = c.loop-piece.piece-index in
    let x = c.piece-item.result in (
      λ e. absurd (false≢true e),
      λ fit.
          let are = sym (around pieces i x c.loop-piece-test.true c.piece-item.is) ∙ fit in
          absurd (iff_false c.is_behind.ensures c.if-not-is_behind.true
          (is_next_behind id c.loop-piece.count c.loop-piece.is_full (bytes_in (views pieces)) (views (take i pieces)) (views (drop (i + 1) pieces)) x.now are (c.loop-piece.invariant.so_far id own))),
    )

pub loop-piece-preserved : goal.loop-piece-preserved
loop-piece-preserved c =
    let pieces = c.args.pieces.now in
    let i = c.loop-piece.piece-index in
    let x = c.piece-item.result in
    let so_far = views (take i pieces) in
    let more = sym (piece_more pieces i x c.loop-piece-test.true c.piece-item.is) in
    let next = c.is_behind.ensures.0 c.if-not-is_behind.false in
    let few = c.loop-piece.invariant.few in
    rw c.as_slice.ensures (record {
      few = omega (arith, few);
      so_far = λ id own.
          subst (AreSoFar id (c.loop-piece.count + 1) (nat_eq (length x.now.bytes) 65536)) more
          (and_behind id c.loop-piece.count so_far x.now (its_body pieces i x c.loop-piece-test.true c.piece-item.is id own) next
          (subst (λ b. AreSoFar id c.loop-piece.count b so_far) c.if-not-is_full.false (c.loop-piece.invariant.so_far id own)));
    })

pub returns : goal.returns
returns c id own =
    let pieces = c.args.pieces.now in
    let all = take_all c.loop-piece.piece-index pieces c.loop-piece-test.false in
    let are : AreInPieces id (views pieces) = subst (λ l. AreInPieces id (views l)) all (c.loop-piece.invariant.so_far id own).pieces in
    (λ e. are, λ fit. refl)
