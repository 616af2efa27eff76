use Rattle.std.proofs.Common.{refl}
use Rattle.std.proofs.Math.Logic.{∥∥₁_elim}
use Rattle.std.proofs.Props.{props}
use Rattle.sqlite.specs.Held.{state}
use Rattle.tables_meaning.specs.Kept.{book_in}
use Rattle.tables.specs.Rows.{tables_in}
use Rattle.tables_bodies.specs.UnderWay.{IsUnderWay}
use Rattle.tables_meaning.proofs.KeeperReads.{left_before, same_after, still, still_kept, was_archive, was_kept}
use Rattle.tables_meaning.specs.Shown.{shown_in}
use Rattle.keep_tables.specs.AtHand.{AreAtHand, AreKnown}
use Rattle.keep_tables.proofs.keeper.TableKeeperKeeper.file_piece.Goals as goal

pub invariant_of-self : goal.invariant_of-self
invariant_of-self g c = record {
  idle = c.read_file_piece.ensures.idle;
  in_range = c.args.self.now.in_range;
  kept = still_kept (state g.S.Store c.args.self.now.conn) (state g.S.Store c.read_file_piece.new.conn) c.read_file_piece.ensures.read c.args.self.now.kept;
  under_way =
      still (state g.S.Store c.args.self.now.conn) (state g.S.Store c.read_file_piece.new.conn) c.read_file_piece.ensures.read c.args.self.now.kept
      (λ db. ∥ IsUnderWay (tables_in db) c.args.self.now.begun ∥₁) c.args.self.now.under_way;
  at_hand =
      still (state g.S.Store c.args.self.now.conn) (state g.S.Store c.read_file_piece.new.conn) c.read_file_piece.ensures.read c.args.self.now.kept
      (λ db. ∥ AreAtHand c.args.self.now.config db c.args.self.now.spare ∥₁) c.args.self.now.at_hand;
  known =
      still (state g.S.Store c.args.self.now.conn) (state g.S.Store c.read_file_piece.new.conn) c.read_file_piece.ensures.read c.args.self.now.kept
      (λ db. ∥ AreKnown c.args.self.now.config (shown_in c.args.self.now.config.suites (tables_in db)) c.args.self.now.dates.items c.args.self.now.prints.items ∥₁) c.args.self.now.known;
}

pub returns-in-Ok-clause-served : goal.returns-in-Ok-clause-served
returns-in-Ok-clause-served g c clean = c.in-Ok.ensures.open clean (was_archive (state g.S.Store c.args.self.now.conn) (state g.S.Store c.read_file_piece.new.conn) c.read_file_piece.ensures.read c.args.self.now.kept clean)

pub returns-in-Ok-clause-piece : goal.returns-in-Ok-clause-piece
returns-in-Ok-clause-piece g c clean =
    let kept = was_kept (state g.S.Store c.args.self.now.conn) (state g.S.Store c.read_file_piece.new.conn) c.read_file_piece.ensures.read c.args.self.now.kept clean (returns-in-Ok-clause-served g c clean) in
    ∥∥₁_elim kept (hlevel props) (λ was. c.in-Ok.ensures.piece clean _ _ _ _ was)

pub returns-in-Ok-clause-reads : goal.returns-in-Ok-clause-reads
unfolding book_in
returns-in-Ok-clause-reads g c =
    let old = state g.S.Store c.args.self.now.conn in
    let new = state g.S.Store c.read_file_piece.new.conn in
    let read = c.read_file_piece.ensures.read in
    let kept = c.args.self.now.kept in
    record {
      lasts = record { clean = read.clean; counts = read.counts; was_open = read.was_open; stays = read.closes; config = refl };
      same = same_after old new read kept;
      crash = left_before old new read kept;
    }

pub returns-in-Err-clause-reads : goal.returns-in-Err-clause-reads
unfolding book_in
returns-in-Err-clause-reads g c =
    let old = state g.S.Store c.args.self.now.conn in
    let new = state g.S.Store c.read_file_piece.new.conn in
    let read = c.read_file_piece.ensures.read in
    let kept = c.args.self.now.kept in
    record {
      lasts = record { clean = read.clean; counts = read.counts; was_open = read.was_open; stays = read.closes; config = refl };
      same = same_after old new read kept;
      crash = left_before old new read kept;
    }
