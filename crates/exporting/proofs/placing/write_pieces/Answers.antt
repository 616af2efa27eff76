use Rattle.std.proofs.Common.{◌∙◌, [], ap, arith, sym, unwrap_or}
use Rattle.std.specs.Option.{option_map}
use Rattle.book.specs.Book.{Book}
use Rattle.book.specs.Pieces.{piece_of_body}
use Rattle.book.proofs.ReadLemmas.{reads_none, reads_more}
use Rattle.book.proofs.Pieces.{is_piece_of}
use Rattle.exporting.proofs.Written.{all_written, first_written, more_written}
use Rattle.exporting.proofs.placing.write_pieces.Goals as goal

pub loop-number-init : goal.loop-number-init
loop-number-init g c = record {
  reads = reads_none c.args.archive.now.keeper;
  served = λ clean. (c.requires.first clean).0;
  written = λ clean.
      let piece = is_piece_of _ 0 _ (c.requires.first clean).1 in
      first_written _ _ _ _ (c.deref.ensures.value ∙ ap (λ p. p.bytes) piece.is) c.in_ok-write_on.ensures.written;
}

pub returns-then-begin-size-clause-written : goal.returns-then-begin-size-clause-written
returns-then-begin-size-clause-written g c =
    let sofar = c.loop-number.invariant in
    record {
      body = unwrap_or ((g.K.Keeper.book c.args.archive.now.keeper).files c.args.path.now) [];
      filed = λ h kept clean.
          let first = c.requires.first (sofar.reads.lasts.clean clean) in
          let piece = is_piece_of _ 0 _ first.1 in
          ap (λ (book : Book). book.files c.args.path.now) (sym (kept.stands first.0)) ∙ piece.some;
      written = λ clean.
          let piece = is_piece_of _ 0 _ (c.requires.first (sofar.reads.lasts.clean clean)).1 in
          all_written c.loop-number.number _ _ _ (omega (arith, ap (λ p. p.size) piece.is, c.if-begin-size.true)) (sofar.written clean);
    }

pub loop-number-preserved : goal.loop-number-preserved
loop-number-preserved g c =
    let sofar = c.loop-number.invariant in
    let number = c.loop-number.number in
    record {
      reads = reads_more sofar.reads c.in_ok-piece.ensures.reads;
      served = c.in_ok-piece.ensures.served;
      written = λ clean.
          let before = c.in_ok-piece.ensures.reads.lasts.clean clean in
          let same = ap (λ (book : Book). option_map (piece_of_body number) (book.files c.args.path.now)) (sofar.reads.same before (sofar.served before)) in
          let piece = is_piece_of _ number _ (sym same ∙ c.in_ok-piece.ensures.piece clean) in
          more_written number _ _ _ _ _ (sofar.written before) (c.deref-in-loop-number.ensures.value ∙ ap (λ p. p.bytes) piece.is) c.in_ok-write_on-2.ensures.written;
    }
