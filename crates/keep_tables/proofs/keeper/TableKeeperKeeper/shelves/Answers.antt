use Rattle.std.proofs.Common.{refl}
use Rattle.std.proofs.Math.Logic.{∥∥₁_elim}
use Rattle.sqlite.specs.Held.{state}
use Rattle.tables_meaning.specs.Kept.{book_in}
use Rattle.tables_meaning.specs.KeeperLemmas.{shelves_set}
use Rattle.tables_meaning.specs.Shown.{shown_in}
use Rattle.tables.specs.Rows.{tables_in}
use Rattle.tables_bodies.specs.UnderWay.{IsUnderWay}
use Rattle.tables_meaning.proofs.KeeperReads.{left_before, same_after, still, still_kept, was_archive, was_kept}
use Rattle.keep_tables.specs.AtHand.{AreKnown}
use Rattle.keep_tables.proofs.AtHandLemmas.{none_at_hand, taken_at_hand}
use Rattle.keep_tables.proofs.keeper.TableKeeperKeeper.shelves.Goals as goal

pub invariant_of-self : goal.invariant_of-self
invariant_of-self g c = record {
  idle = c.show.ensures.idle;
  in_range = c.args.self.now.in_range;
  kept = still_kept (state g.S.Store c.args.self.now.conn) (state g.S.Store c.show.new.conn) c.show.ensures.read c.args.self.now.kept;
  under_way =
      still (state g.S.Store c.args.self.now.conn) (state g.S.Store c.show.new.conn) c.show.ensures.read c.args.self.now.kept
      (λ db. ∥ IsUnderWay (tables_in db) c.args.self.now.begun ∥₁) c.args.self.now.under_way;
  at_hand = λ clean up. ∣ none_at_hand c.args.self.now.config (state g.S.Store c.show.new.conn).committed c.take-spare.new.self c.take-spare.ensures.after ∣₁;
  known =
      still (state g.S.Store c.args.self.now.conn) (state g.S.Store c.show.new.conn) c.show.ensures.read c.args.self.now.kept
      (λ db. ∥ AreKnown c.args.self.now.config (shown_in c.args.self.now.config.suites (tables_in db)) c.args.self.now.dates.items c.args.self.now.prints.items ∥₁) c.args.self.now.known;
}

pub returns-in-Ok-clause-served : goal.returns-in-Ok-clause-served
returns-in-Ok-clause-served g c clean = c.in-Ok.ensures.open clean (was_archive (state g.S.Store c.args.self.now.conn) (state g.S.Store c.show.new.conn) c.show.ensures.read c.args.self.now.kept clean)

pub returns-in-Ok-clause-shelves : goal.returns-in-Ok-clause-shelves
unfolding book_in
returns-in-Ok-clause-shelves g c clean =
    let k = c.args.self.now in
    let old = state g.S.Store k.conn in
    let read = c.show.ensures.read in
    let up = returns-in-Ok-clause-served g c clean in
    let kept = was_kept old (state g.S.Store c.show.new.conn) read k.kept clean up in
    ∥∥₁_elim kept (shelves_set _ _) (λ was. ∥∥₁_elim (k.at_hand (read.clean clean) (read.was_open clean up)) (shelves_set _ _) (λ hand.
    c.in-Ok.ensures.shown clean _ _ _ was (taken_at_hand k.config old.committed k.spare c.take-spare.result c.take-spare.ensures.value hand)))

pub returns-in-Ok-clause-reads : goal.returns-in-Ok-clause-reads
unfolding book_in
returns-in-Ok-clause-reads g c =
    let old = state g.S.Store c.args.self.now.conn in
    let new = state g.S.Store c.show.new.conn in
    let read = c.show.ensures.read in
    let kept = c.args.self.now.kept in
    record {
      lasts = record { clean = read.clean; counts = read.counts; was_open = read.was_open; stays = read.closes; config = refl };
      same = same_after old new read kept;
      crash = left_before old new read kept;
    }

pub returns-in-Err-clause-reads : goal.returns-in-Err-clause-reads
unfolding book_in
returns-in-Err-clause-reads g c =
    let old = state g.S.Store c.args.self.now.conn in
    let new = state g.S.Store c.show.new.conn in
    let read = c.show.ensures.read in
    let kept = c.args.self.now.kept in
    record {
      lasts = record { clean = read.clean; counts = read.counts; was_open = read.was_open; stays = read.closes; config = refl };
      same = same_after old new read kept;
      crash = left_before old new read kept;
    }
