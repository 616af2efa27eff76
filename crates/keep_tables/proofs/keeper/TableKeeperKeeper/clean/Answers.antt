use Rattle.std.proofs.Common.{inl, inr, refl, ap, arith}
use Rattle.std.proofs.Math.Logic.{∥∥₁_elim, ∥∥₁_map}
use Rattle.std.proofs.Props.{props}
use Rattle.sqlite.specs.Held.{state}
use Rattle.sqlite.specs.State.{HasCleanDisk}
use Rattle.tables.specs.Rows.{tables_in}
use Rattle.tables_meaning.specs.Archives.{KeepsArchive, book_in_database}
use Rattle.tables_meaning.specs.Kept.{book_in}
use Rattle.tables_meaning.specs.KeeperLemmas.{book_set, left_set}
use Rattle.tables_meaning.specs.Shown.{shown_in}
use Rattle.tables_meaning.proofs.CallLemmas.{done_book, kept_here, turn_left}
use Rattle.keep_tables.specs.AtHand.{AreAtHand, AreKnown}
use Rattle.keep_tables.proofs.AtHandLemmas.{still_at_hand, still_known}
use Rattle.keep_tables.proofs.UnderWayLemmas.{undone_kept, undone_under}
use Rattle.keep_tables.proofs.keeper.TableKeeperKeeper.clean.Goals as goal

pub invariant_of-self : goal.invariant_of-self
invariant_of-self g c =
    let old = state g.S.Store c.args.self.now.conn in
    let new = state g.S.Store c.clean_up.new.conn in (
    record {
      idle = c.clean_up.ensures.idle;
      in_range = c.args.self.now.in_range;
      kept = λ clean up.
          let early : HasCleanDisk old = omega (arith, c.clean_up.ensures.crash.clean, clean) in
          let was_open = (c.in-Ok.ensures.open clean).0 in
          ∥∥₁_map (c.args.self.now.kept early was_open) (λ was. kept_here new.committed (c.in-Ok.ensures.done clean _ _ _ _ was c.span_of-seconds.ensures).0.kept);
      under_way = λ clean up.
          let early : HasCleanDisk old = omega (arith, c.clean_up.ensures.crash.clean, clean) in
          let was_open = (c.in-Ok.ensures.open clean).0 in
          ∥∥₁_map (c.args.self.now.kept early was_open) (λ was. (c.in-Ok.ensures.done clean _ _ _ _ was c.span_of-seconds.ensures).1);
      at_hand = λ clean up.
          let early : HasCleanDisk old = omega (arith, c.clean_up.ensures.crash.clean, clean) in
          let was_open = (c.in-Ok.ensures.open clean).0 in
          ∥∥₁_elim (c.args.self.now.kept early was_open) (hlevel props) (λ was.
          ∥∥₁_map (c.args.self.now.at_hand early was_open) (still_at_hand old.committed new.committed c.args.self.now.spare
          (c.in-Ok.ensures.done clean _ _ _ _ was c.span_of-seconds.ensures).0.kept));
      known = λ clean up.
          let early : HasCleanDisk old = omega (arith, c.clean_up.ensures.crash.clean, clean) in
          let was_open = (c.in-Ok.ensures.open clean).0 in
          ∥∥₁_elim (c.args.self.now.kept early was_open) (hlevel props) (λ was.
          ∥∥₁_map (c.args.self.now.known early was_open) (still_known old.committed new.committed c.args.self.now.dates.items c.args.self.now.prints.items
          (c.in-Ok.ensures.done clean _ _ _ _ was c.span_of-seconds.ensures).0.kept));
    }
    )

pub invariant_of-self-in-Err-1 : goal.invariant_of-self-in-Err-1
invariant_of-self-in-Err-1 g c =
    let old = state g.S.Store c.args.self.now.conn in
    let new = state g.S.Store c.clean_up.new.conn in (
    record {
      idle = c.clean_up.ensures.idle;
      in_range = c.args.self.now.in_range;
      kept = λ clean up.
          let early : HasCleanDisk old = omega (arith, c.clean_up.ensures.crash.clean, clean) in
          undone_kept (λ db. ∥ KeepsArchive db c.args.self.now.config c.args.self.now.judged.items (shown_in c.args.self.now.config.suites (tables_in db)) c.args.self.now.dates.items ∥₁)
          old new (c.in-Err.ensures.undone clean) (c.args.self.now.kept early) up;
      under_way = λ clean up.
          let early : HasCleanDisk old = omega (arith, c.clean_up.ensures.crash.clean, clean) in
          undone_under old new c.args.self.now.begun (c.in-Err.ensures.undone clean) (c.args.self.now.under_way early) up;
      at_hand = λ clean up.
          let early : HasCleanDisk old = omega (arith, c.clean_up.ensures.crash.clean, clean) in
          undone_kept (λ db. ∥ AreAtHand c.args.self.now.config db c.args.self.now.spare ∥₁) old new (c.in-Err.ensures.undone clean) (c.args.self.now.at_hand early) up;
      known = λ clean up.
          let early : HasCleanDisk old = omega (arith, c.clean_up.ensures.crash.clean, clean) in
          undone_kept (λ db. ∥ AreKnown c.args.self.now.config (shown_in c.args.self.now.config.suites (tables_in db)) c.args.self.now.dates.items c.args.self.now.prints.items ∥₁)
          old new (c.in-Err.ensures.undone clean) (c.args.self.now.known early) up;
    }
    )

pub returns-in-Ok-clause-lasts : goal.returns-in-Ok-clause-lasts
unfolding book_in
returns-in-Ok-clause-lasts g c =
    let left = c.clean_up.ensures.crash in
    record {
      clean = λ clean. let early : HasCleanDisk (state g.S.Store c.args.self.now.conn) = omega (arith, left.clean, clean) in early;
      counts = left.counts;
      was_open = λ clean up. (c.in-Ok.ensures.open clean).0;
      stays = left.closes;
      config = refl;
    }

pub returns-in-Err-clause-lasts : goal.returns-in-Err-clause-lasts
unfolding book_in
returns-in-Err-clause-lasts g c =
    let left = c.clean_up.ensures.crash in
    record {
      clean = λ clean. let early : HasCleanDisk (state g.S.Store c.args.self.now.conn) = omega (arith, left.clean, clean) in early;
      counts = left.counts;
      was_open = λ clean up. (c.in-Err.ensures.undone clean).was_open up;
      stays = left.closes;
      config = refl;
    }

pub returns-in-Ok-clause-served : goal.returns-in-Ok-clause-served
returns-in-Ok-clause-served g c clean = (c.in-Ok.ensures.open clean).1

pub returns-in-Ok-clause-count : goal.returns-in-Ok-clause-count
unfolding book_in
returns-in-Ok-clause-count g c clean =
    let old = state g.S.Store c.args.self.now.conn in
    let early : HasCleanDisk old = omega (arith, c.clean_up.ensures.crash.clean, clean) in
    let was_open = (c.in-Ok.ensures.open clean).0 in
    ∥∥₁_elim (c.args.self.now.kept early was_open) (hlevel props) (λ was. c.in-Ok.ensures.count clean _ _ _ _ was c.span_of-seconds.ensures)

pub returns-in-Ok-clause-ok : goal.returns-in-Ok-clause-ok
returns-in-Ok-clause-ok g c clean =
    let old = state g.S.Store c.args.self.now.conn in
    let new = state g.S.Store c.clean_up.new.conn in
    let early : HasCleanDisk old = omega (arith, c.clean_up.ensures.crash.clean, clean) in
    let was_open = (c.in-Ok.ensures.open clean).0 in
    ∥∥₁_elim (c.args.self.now.kept early was_open) (book_set _ _) (λ was. done_book old.committed new.committed (c.in-Ok.ensures.done clean _ _ _ _ was c.span_of-seconds.ensures).0)

pub returns-in-Err-clause-err : goal.returns-in-Err-clause-err
returns-in-Err-clause-err g c clean up =
    ap (λ db. book_in_database db c.args.self.now.config c.args.self.now.judged.items (shown_in c.args.self.now.config.suites (tables_in db)) c.args.self.now.dates.items) ((c.in-Err.ensures.undone clean).committed up)

pub returns-in-Ok-clause-crash : goal.returns-in-Ok-clause-crash
returns-in-Ok-clause-crash g c clean left might =
    let old = state g.S.Store c.args.self.now.conn in
    let early : HasCleanDisk old = omega (arith, c.clean_up.ensures.crash.clean, clean) in
    elim (c.clean_up.ensures.crash.crash clean might.0 might.1) [
      | inl before ↦ inl (might.0, before, might.2)
      | inr new ↦ inr (
        new.2,
        ∥∥₁_elim (c.args.self.now.kept early new.2) (left_set _ _) (λ was. turn_left old.committed new.0 might.0 new.1 left might.2 (new.3 _ _ _ _ was c.span_of-seconds.ensures)),
      )
    ]

pub returns-in-Err-clause-crash : goal.returns-in-Err-clause-crash
returns-in-Err-clause-crash g c clean left might =
    let old = state g.S.Store c.args.self.now.conn in
    let early : HasCleanDisk old = omega (arith, c.clean_up.ensures.crash.clean, clean) in
    elim (c.clean_up.ensures.crash.crash clean might.0 might.1) [
      | inl before ↦ inl (might.0, before, might.2)
      | inr new ↦ inr (
        new.2,
        ∥∥₁_elim (c.args.self.now.kept early new.2) (left_set _ _) (λ was. turn_left old.committed new.0 might.0 new.1 left might.2 (new.3 _ _ _ _ was c.span_of-seconds.ensures)),
      )
    ]
