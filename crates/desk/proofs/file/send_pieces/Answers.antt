use Rattle.std.proofs.Common.{◌∙◌, ◌++◌, ◌+◌, ℕ, List, subst, string_bytes, arith}
use Rattle.std.specs.Io.KnownBytes.{Appends}
use Rattle.std.proofs.KnownBytes.{Appends-trans}
use Rattle.std.proofs.lemmas.Result.{err_from_is_err_and}
use Rattle.book.specs.Pieces.{piece_value}
use Rattle.book.proofs.ReadLemmas.{reads_none, reads_more}
use Rattle.desk.specs.Transfer.{AppendsBeginning}
use Rattle.desk.proofs.FileLemmas.{cut_by_archive, cut_by_writer, sofar_first, sofar_front, sofar_read, sofar_same}
use Rattle.desk.proofs.TransferLemmas.{AppendsBeginning-all, AppendsBeginning-behind}
use Rattle.desk.proofs.file.send_pieces.Goals as goal

pub loop-number-init : goal.loop-number-init
loop-number-init g c = record {
  reads = reads_none c.args.archive.now.keeper;
  served = λ clean. (c.requires.first clean).0;
  bytes = c.args.file.now.first.bytes.items;
  taken = subst (λ (t : List ℕ). Appends (g.W.Write.contents c.args.writer.now) (g.W.Write.contents c.write_whole.new.writer) t) c.as_slice.ensures.value c.in_ok-write_whole.ensures.ok;
  sofar = sofar_first g.K.Keeper c.args.archive.now.keeper (string_bytes c.args.file.now.path) (piece_value c.args.file.now.first) c.requires.first c.requires.size;
}

pub returns-in_err-write_whole-clause-sent : goal.returns-in_err-write_whole-clause-sent
returns-in_err-write_whole-clause-sent g c =
    let p = err_from_is_err_and c.from_residual.result c.from_residual.ensures.1 in
    let path = string_bytes c.args.file.now.path in
    let first = piece_value c.args.file.now.first in
    let before = c.args.archive.now.keeper in
    record {
      bytes = first.bytes;
      front = sofar_front g.K.Keeper before path first before 1 first.bytes c.requires.first (λ clean. clean) (sofar_first g.K.Keeper before path first c.requires.first c.requires.size);
      written = cut_by_writer first.size _ _ first.bytes _ p.0 p.1 p.2 (subst (λ (t : List ℕ). AppendsBeginning (g.W.Write.contents c.args.writer.now) (g.W.Write.contents c.write_whole.new.writer) t) c.as_slice.ensures.value c.in_err-write_whole.ensures.err);
    }

pub returns-then-begin-size-clause-sent : goal.returns-then-begin-size-clause-sent
returns-then-begin-size-clause-sent g c =
    let sofar = c.loop-number.invariant in
    let path = string_bytes c.args.file.now.path in
    let first = piece_value c.args.file.now.first in
    record {
      bytes = sofar.bytes;
      front = sofar_front g.K.Keeper c.args.archive.now.keeper path first _ c.loop-number.number sofar.bytes c.requires.first sofar.reads.lasts.clean sofar.sofar;
      written = (omega (arith, sofar.sofar.sized, c.if-begin-size.true), sofar.taken);
    }

pub returns-in_err-piece-clause-sent : goal.returns-in_err-piece-clause-sent
returns-in_err-piece-clause-sent g c =
    let p = err_from_is_err_and c.from_residual-in_err-piece.result c.from_residual-in_err-piece.ensures.1 in
    let sofar = c.loop-number.invariant in
    let path = string_bytes c.args.file.now.path in
    let first = piece_value c.args.file.now.first in
    let clean = c.in_err-piece.ensures.reads.lasts.clean in
    record {
      bytes = sofar.bytes;
      front = sofar_front g.K.Keeper c.args.archive.now.keeper path first _ c.loop-number.number sofar.bytes c.requires.first (λ now. sofar.reads.lasts.clean (clean now))
          (sofar_same g.K.Keeper c.args.archive.now.keeper path _ _ first.size c.loop-number.number sofar.bytes clean sofar.sofar);
      written = cut_by_archive first.size _ _ sofar.bytes _ p.0 p.1 (p.2 ∙ c.in_err-piece.ensures.err) sofar.taken;
    }

pub returns-in_err-write_whole-2-clause-sent : goal.returns-in_err-write_whole-2-clause-sent
returns-in_err-write_whole-2-clause-sent g c =
    let p = err_from_is_err_and c.from_residual-in_err-write_whole-2.result c.from_residual-in_err-write_whole-2.ensures.1 in
    let sofar = c.loop-number.invariant in
    let number = c.loop-number.number in
    let path = string_bytes c.args.file.now.path in
    let first = piece_value c.args.file.now.first in
    let before = c.args.archive.now.keeper in
    let next = c.in_ok-piece.ensures in
    let piece = piece_value c.in_ok-piece.piece in
    let read = sofar_read g.K.Keeper before path _ _ first.size number sofar.bytes piece sofar.reads sofar.served sofar.sofar (omega (arith, c.if-begin-size.false)) next.size next.reads.lasts.clean next.piece in
    record {
      bytes = sofar.bytes ++ piece.bytes;
      front = sofar_front g.K.Keeper before path first _ (number + 1) (sofar.bytes ++ piece.bytes) c.requires.first (λ clean. sofar.reads.lasts.clean (next.reads.lasts.clean clean)) read;
      written = cut_by_writer first.size _ _ (sofar.bytes ++ piece.bytes) _ p.0 p.1 p.2
          (AppendsBeginning-behind _ _ _ sofar.bytes piece.bytes sofar.taken (subst (λ (t : List ℕ). AppendsBeginning (g.W.Write.contents c.loop-number.writer) (g.W.Write.contents c.write_whole-in-loop-number.new.writer) t) c.as_slice-in-loop-number.ensures.value c.in_err-write_whole-2.ensures.err));
    }

pub loop-number-preserved : goal.loop-number-preserved
loop-number-preserved g c =
    let sofar = c.loop-number.invariant in
    let number = c.loop-number.number in
    let path = string_bytes c.args.file.now.path in
    let size = c.args.file.now.first.size in
    let next = c.in_ok-piece.ensures in
    let piece = piece_value c.in_ok-piece.piece in
    record {
      reads = reads_more sofar.reads next.reads;
      served = next.served;
      bytes = sofar.bytes ++ piece.bytes;
      taken = Appends-trans _ _ _ sofar.bytes piece.bytes sofar.taken (subst (λ (t : List ℕ). Appends (g.W.Write.contents c.loop-number.writer) (g.W.Write.contents c.write_whole-in-loop-number.new.writer) t) c.as_slice-in-loop-number.ensures.value c.in_ok-write_whole-2.ensures.ok);
      sofar = sofar_read g.K.Keeper c.args.archive.now.keeper path _ _ size number sofar.bytes piece sofar.reads sofar.served sofar.sofar (omega (arith, c.if-begin-size.false)) next.size next.reads.lasts.clean next.piece;
    }

pub returns-clause-sent : goal.returns-clause-sent
returns-clause-sent g c =
    let sofar = c.loop-number.invariant in
    let path = string_bytes c.args.file.now.path in
    let first = piece_value c.args.file.now.first in
    record {
      bytes = sofar.bytes;
      front = sofar_front g.K.Keeper c.args.archive.now.keeper path first _ _ sofar.bytes c.requires.first sofar.reads.lasts.clean sofar.sofar;
      written = AppendsBeginning-all _ _ sofar.bytes sofar.taken;
    }

pub returns-then-begin-size-clause-reads : goal.returns-then-begin-size-clause-reads
returns-then-begin-size-clause-reads g c = c.loop-number.invariant.reads

pub returns-in_err-piece-clause-reads : goal.returns-in_err-piece-clause-reads
returns-in_err-piece-clause-reads g c = reads_more c.loop-number.invariant.reads c.in_err-piece.ensures.reads

pub returns-in_err-write_whole-2-clause-reads : goal.returns-in_err-write_whole-2-clause-reads
returns-in_err-write_whole-2-clause-reads g c = reads_more c.loop-number.invariant.reads c.in_ok-piece.ensures.reads

pub returns-clause-reads : goal.returns-clause-reads
returns-clause-reads g c = c.loop-number.invariant.reads
