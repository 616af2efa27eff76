use Rattle.std.proofs.Common.{◌≡◌, ◌<◌, ◌+◌, ◌^◌, ◌++◌, length, take, drop, sym, subst, ap, ◌∙◌, refl, arith, rules}
use Rattle.std.proofs.lemmas.Bool.{false≢true, iff_false}
use Rattle.std.proofs.lemmas.List.{length-append, take_all}
use Rattle.sums.specs.Prints.{Holds, print as print_of}
use Rattle.tables_audit.specs.Bodies.{IsNext, bytes_in}
use Rattle.tables_audit.proofs.BodiesLemmas.{AreFirst, and_next, around, behind_them, bytes_more, its_body, none_yet, piece_more, views}
use Rattle.tables_audit.proofs.bodies.are_pieces_of.Goals as goal

pub returns-then-not-is_next : goal.returns-then-not-is_next
returns-then-not-is_next c id own =
    let pieces = c.args.pieces.now in
    let i = c.loop-piece.piece-index in
    let x = c.piece-item.result in
    let so_far = views (take i pieces) in (
      λ e. absurd (false≢true e),
      λ fit.
          let bytes = bytes_in (views pieces) in
          let size : c.args.print.now.size ≡ length bytes = ap (λ p. p.size) fit.printed in
          let are = sym (around pieces i x c.loop-piece-test.true c.piece-item.is) ∙ fit.pieces in
          let first = subst (λ n. AreFirst id n c.loop-piece.size so_far) size (c.loop-piece.invariant.first id own) in
          absurd (iff_false c.is_next.ensures c.if-not-is_next.true
          (subst (λ n. IsNext c.loop-piece.size n x.now) (sym size) (behind_them id c.loop-piece.size bytes so_far (views (drop (i + 1) pieces)) x.now are first))),
    )

pub loop-piece-init : goal.loop-piece-init
loop-piece-init c = record { first = λ id own. none_yet id c.args.print.now.size; within = omega arith; long = refl; holds = c.new-printer.ensures }

pub loop-piece-preserved : goal.loop-piece-preserved
loop-piece-preserved c =
    let pieces = c.args.pieces.now in
    let whole = c.args.print.now.size in
    let i = c.loop-piece.piece-index in
    let x = c.piece-item.result in
    let so_far = views (take i pieces) in
    let more = sym (piece_more pieces i x c.loop-piece-test.true c.piece-item.is) in
    let next = c.is_next.ensures.0 c.if-not-is_next.false in
    rw c.as_slice-bytes.ensures (record {
      first = λ id own. subst (AreFirst id whole (c.loop-piece.size + length x.now.bytes)) more
          (and_next id whole c.loop-piece.size so_far x.now (its_body pieces i x c.loop-piece-test.true c.piece-item.is id own) next (c.loop-piece.invariant.first id own));
      within = omega (arith, next.some, next.long);
      long = ap (λ n. n + length x.now.bytes) c.loop-piece.invariant.long ∙ sym (length-append (bytes_in so_far) x.now.bytes)
          ∙ ap length (sym (bytes_more so_far x.now)) ∙ ap (λ l. length (bytes_in l)) more;
      holds = subst (Holds c.update.new.self) (ap (λ l. bytes_in so_far ++ l) c.as_slice-bytes.ensures ∙ sym (bytes_more so_far x.now) ∙ ap bytes_in more)
          (c.update.ensures (bytes_in so_far) c.loop-piece.invariant.holds);
    })

pub returns : goal.returns
returns c id own =
    let pieces = c.args.pieces.now in
    let print = c.args.print.now in
    let ps = views pieces in
    let all = take_all c.loop-piece.piece-index pieces c.loop-piece-test.false in
    let first : AreFirst id print.size c.loop-piece.size ps = subst (λ l. AreFirst id print.size c.loop-piece.size (views l)) all (c.loop-piece.invariant.first id own) in
    let holds : Holds c.loop-piece.printer (bytes_in ps) = subst (λ l. Holds c.loop-piece.printer (bytes_in (views l))) all c.loop-piece.invariant.holds in
    let counted : length (bytes_in ps) < 2 ^ 64 = omega (arith, first.long, c.loop-piece.auto.size-fits) in
    let printed : c.finish.result ≡ print_of (bytes_in ps) = c.finish.ensures (bytes_in ps) holds counted in (
      λ e. let same : print ≡ c.finish.result = search rules in record { printed = same ∙ printed; pieces = first.pieces },
      λ fit. let same : print ≡ c.finish.result = fit.printed ∙ sym printed in search rules,
    )
