use Rattle.std.proofs.Common.{◌≡◌, inl, inr, refl, sym, ap, subst, ◌∙◌, arith, Some}
use Rattle.std.proofs.Math.Logic.{∥∥₁_elim, ∥∥₁_map}
use Rattle.std.proofs.Props.{props}
use Rattle.sqlite.specs.Held.{state}
use Rattle.sqlite.specs.State.{HasCleanDisk}
use Rattle.tables.specs.Rows.{tables_in}
use Rattle.tables_meaning.specs.Archives.{KeepsArchive, book_in_database}
use Rattle.tables_meaning.specs.Kept.{book_in}
use Rattle.tables_meaning.specs.KeeperLemmas.{book_set, left_set}
use Rattle.tables_meaning.specs.Shown.{shown_in}
use Rattle.tables_meaning.proofs.CallLemmas.{done_book, kept_here, turn_left}
use Rattle.tables_bodies.specs.UnderWay.{IsUnderWay, coming_in}
use Rattle.keep_tables.specs.AtHand.{AreAtHand, AreKnown}
use Rattle.keep_tables.proofs.AtHandLemmas.{still_at_hand, still_known}
use Rattle.keep_tables.proofs.UnderWayLemmas.{ends, not_finished, undone_kept, undone_under}
use Rattle.keep_tables.proofs.keeper.TableKeeperKeeper.finish.Goals as goal

pub invariant_of-self : goal.invariant_of-self
invariant_of-self g c = record {
  idle = c.args.self.now.idle;
  in_range = c.args.self.now.in_range;
  kept = c.args.self.now.kept;
  under_way = λ clean up. subst (λ b. ∥ IsUnderWay (tables_in (state g.S.Store c.args.self.now.conn).committed) b ∥₁)
      (sym c.take.ensures.value ∙ c.in_default.is ∙ sym c.take.ensures.after) (c.args.self.now.under_way clean up);
  at_hand = c.args.self.now.at_hand;
  known = c.args.self.now.known;
}

pub returns-in_default-clause-lasts : goal.returns-in_default-clause-lasts
returns-in_default-clause-lasts g c = record {
  clean = λ clean. clean;
  counts = omega arith;
  was_open = λ clean up. up;
  stays = λ clean up. inl up;
  config = refl;
}

pub returns-in_default-clause-ended : goal.returns-in_default-clause-ended
returns-in_default-clause-ended g c = ap (coming_in (tables_in (state g.S.Store c.args.self.now.conn).committed)) c.take.ensures.after

pub returns-in_default-clause-err : goal.returns-in_default-clause-err
returns-in_default-clause-err g c clean up = refl

pub returns-in_default-clause-crash : goal.returns-in_default-clause-crash
returns-in_default-clause-crash g c clean left might = inl might

pub invariant_of-self-in-Ok-1 : goal.invariant_of-self-in-Ok-1
invariant_of-self-in-Ok-1 g c =
    let old = state g.S.Store c.args.self.now.conn in
    let new = state g.S.Store c.finish_delivery.new.conn in
    let is : c.args.self.now.begun ≡ Some c.in-Some.begun = sym c.take.ensures.value ∙ c.in-Some.is in (
    record {
      idle = c.finish_delivery.ensures.idle;
      in_range = c.args.self.now.in_range;
      kept = λ clean up.
          let early : HasCleanDisk old = omega (arith, c.finish_delivery.ensures.crash.clean, clean) in
          let was_open = (c.in-Ok.ensures.open clean).0 in
          ∥∥₁_elim (c.args.self.now.kept early was_open) (hlevel props) (λ was. ∥∥₁_map (c.args.self.now.under_way early was_open) (λ under.
          let asked = c.requires.whole early was_open in
          let k = ends old.committed was c.args.self.now.begun c.in-Some.begun is under c.args.name.now asked.body asked.begun asked in
          kept_here new.committed (c.in-Ok.ensures.done clean _ _ _ _ asked.body was k.begun.comes (c.finish-print.ensures asked.body (k.begun.printer k.coming) k.short) k.deliverable).0.kept));
      under_way = λ clean up.
          let early : HasCleanDisk old = omega (arith, c.finish_delivery.ensures.crash.clean, clean) in
          let was_open = (c.in-Ok.ensures.open clean).0 in
          ∥∥₁_elim (c.args.self.now.kept early was_open) (hlevel props) (λ was. ∥∥₁_map (c.args.self.now.under_way early was_open) (λ under.
          let asked = c.requires.whole early was_open in
          let k = ends old.committed was c.args.self.now.begun c.in-Some.begun is under c.args.name.now asked.body asked.begun asked in
          subst (IsUnderWay (tables_in new.committed)) (sym c.take.ensures.after)
          (c.in-Ok.ensures.done clean _ _ _ _ asked.body was k.begun.comes (c.finish-print.ensures asked.body (k.begun.printer k.coming) k.short) k.deliverable).1));
      at_hand = λ clean up.
          let early : HasCleanDisk old = omega (arith, c.finish_delivery.ensures.crash.clean, clean) in
          let was_open = (c.in-Ok.ensures.open clean).0 in
          ∥∥₁_elim (c.args.self.now.kept early was_open) (hlevel props) (λ was. ∥∥₁_elim (c.args.self.now.under_way early was_open) (hlevel props) (λ under.
          let asked = c.requires.whole early was_open in
          let k = ends old.committed was c.args.self.now.begun c.in-Some.begun is under c.args.name.now asked.body asked.begun asked in
          ∥∥₁_map (c.args.self.now.at_hand early was_open) (still_at_hand old.committed new.committed c.args.self.now.spare
          (c.in-Ok.ensures.done clean _ _ _ _ asked.body was k.begun.comes (c.finish-print.ensures asked.body (k.begun.printer k.coming) k.short) k.deliverable).0.kept)));
      known = λ clean up.
          let early : HasCleanDisk old = omega (arith, c.finish_delivery.ensures.crash.clean, clean) in
          let was_open = (c.in-Ok.ensures.open clean).0 in
          ∥∥₁_elim (c.args.self.now.kept early was_open) (hlevel props) (λ was. ∥∥₁_elim (c.args.self.now.under_way early was_open) (hlevel props) (λ under.
          let asked = c.requires.whole early was_open in
          let k = ends old.committed was c.args.self.now.begun c.in-Some.begun is under c.args.name.now asked.body asked.begun asked in
          ∥∥₁_map (c.args.self.now.known early was_open) (still_known old.committed new.committed c.args.self.now.dates.items c.args.self.now.prints.items
          (c.in-Ok.ensures.done clean _ _ _ _ asked.body was k.begun.comes (c.finish-print.ensures asked.body (k.begun.printer k.coming) k.short) k.deliverable).0.kept)));
    }
    )

pub invariant_of-self-in-Err : goal.invariant_of-self-in-Err
invariant_of-self-in-Err g c =
    let old = state g.S.Store c.args.self.now.conn in
    let new = state g.S.Store c.finish_delivery.new.conn in
    let is : c.args.self.now.begun ≡ Some c.in-Some.begun = sym c.take.ensures.value ∙ c.in-Some.is in (
    record {
      idle = c.finish_delivery.ensures.idle;
      in_range = c.args.self.now.in_range;
      kept = λ clean up.
          let early : HasCleanDisk old = omega (arith, c.finish_delivery.ensures.crash.clean, clean) in
          undone_kept (λ db. ∥ KeepsArchive db c.args.self.now.config c.args.self.now.judged.items (shown_in c.args.self.now.config.suites (tables_in db)) c.args.self.now.dates.items ∥₁)
          old new (c.in-Err.ensures.undone clean) (c.args.self.now.kept early) up;
      under_way = λ clean up.
          let early : HasCleanDisk old = omega (arith, c.finish_delivery.ensures.crash.clean, clean) in
          ∥∥₁_map (undone_under old new c.args.self.now.begun (c.in-Err.ensures.undone clean) (c.args.self.now.under_way early) up)
          (λ under. not_finished (tables_in new.committed) c.in-Some.begun c.new.result (subst (IsUnderWay (tables_in new.committed)) is under));
      at_hand = λ clean up.
          let early : HasCleanDisk old = omega (arith, c.finish_delivery.ensures.crash.clean, clean) in
          undone_kept (λ db. ∥ AreAtHand c.args.self.now.config db c.args.self.now.spare ∥₁) old new (c.in-Err.ensures.undone clean) (c.args.self.now.at_hand early) up;
      known = λ clean up.
          let early : HasCleanDisk old = omega (arith, c.finish_delivery.ensures.crash.clean, clean) in
          undone_kept (λ db. ∥ AreKnown c.args.self.now.config (shown_in c.args.self.now.config.suites (tables_in db)) c.args.self.now.dates.items c.args.self.now.prints.items ∥₁)
          old new (c.in-Err.ensures.undone clean) (c.args.self.now.known early) up;
    }
    )

pub returns-in-Ok-clause-lasts : goal.returns-in-Ok-clause-lasts
unfolding book_in
returns-in-Ok-clause-lasts g c =
    let left = c.finish_delivery.ensures.crash in
    record {
      clean = λ clean. let early : HasCleanDisk (state g.S.Store c.args.self.now.conn) = omega (arith, left.clean, clean) in early;
      counts = left.counts;
      was_open = λ clean up. (c.in-Ok.ensures.open clean).0;
      stays = left.closes;
      config = refl;
    }

pub returns-in-Err-clause-lasts : goal.returns-in-Err-clause-lasts
unfolding book_in
returns-in-Err-clause-lasts g c =
    let left = c.finish_delivery.ensures.crash in
    record {
      clean = λ clean. let early : HasCleanDisk (state g.S.Store c.args.self.now.conn) = omega (arith, left.clean, clean) in early;
      counts = left.counts;
      was_open = λ clean up. (c.in-Err.ensures.undone clean).was_open up;
      stays = left.closes;
      config = refl;
    }

pub returns-in-Ok-clause-served : goal.returns-in-Ok-clause-served
returns-in-Ok-clause-served g c clean = (c.in-Ok.ensures.open clean).1

pub returns-in-Ok-clause-ended : goal.returns-in-Ok-clause-ended
returns-in-Ok-clause-ended g c = ap (coming_in (tables_in (state g.S.Store c.finish_delivery.new.conn).committed)) c.take.ensures.after

pub returns-in-Err-clause-ended : goal.returns-in-Err-clause-ended
returns-in-Err-clause-ended g c = refl

pub returns-in-Ok-clause-new : goal.returns-in-Ok-clause-new
returns-in-Ok-clause-new g c clean body told bodies apart has here =
    let old = state g.S.Store c.args.self.now.conn in
    let is : c.args.self.now.begun ≡ Some c.in-Some.begun = sym c.take.ensures.value ∙ c.in-Some.is in
    let early : HasCleanDisk old = omega (arith, c.finish_delivery.ensures.crash.clean, clean) in
    let was_open = (c.in-Ok.ensures.open clean).0 in
    ∥∥₁_elim (c.args.self.now.kept early was_open) (hlevel props) (λ was. ∥∥₁_elim (c.args.self.now.under_way early was_open) (hlevel props) (λ under.
    let k = ends old.committed was c.args.self.now.begun c.in-Some.begun is under c.args.name.now body told (c.requires.whole early was_open) in
    c.in-Ok.ensures.new clean _ _ _ _ body was k.begun.comes (c.finish-print.ensures body (k.begun.printer k.coming) k.short) k.deliverable c.span_of.ensures))

pub returns-in-Ok-clause-ok : goal.returns-in-Ok-clause-ok
returns-in-Ok-clause-ok g c clean body told bodies apart has here =
    let old = state g.S.Store c.args.self.now.conn in
    let new = state g.S.Store c.finish_delivery.new.conn in
    let is : c.args.self.now.begun ≡ Some c.in-Some.begun = sym c.take.ensures.value ∙ c.in-Some.is in
    let early : HasCleanDisk old = omega (arith, c.finish_delivery.ensures.crash.clean, clean) in
    let was_open = (c.in-Ok.ensures.open clean).0 in
    ∥∥₁_elim (c.args.self.now.kept early was_open) (book_set _ _) (λ was. ∥∥₁_elim (c.args.self.now.under_way early was_open) (book_set _ _) (λ under.
    let k = ends old.committed was c.args.self.now.begun c.in-Some.begun is under c.args.name.now body told (c.requires.whole early was_open) in
    done_book old.committed new.committed
    (c.in-Ok.ensures.done clean _ _ _ _ body was k.begun.comes (c.finish-print.ensures body (k.begun.printer k.coming) k.short) k.deliverable).0))

pub returns-in-Err-clause-err : goal.returns-in-Err-clause-err
returns-in-Err-clause-err g c clean up =
    ap (λ db. book_in_database db c.args.self.now.config c.args.self.now.judged.items (shown_in c.args.self.now.config.suites (tables_in db)) c.args.self.now.dates.items) ((c.in-Err.ensures.undone clean).committed up)

pub returns-in-Ok-clause-crash : goal.returns-in-Ok-clause-crash
returns-in-Ok-clause-crash g c clean left might =
    let old = state g.S.Store c.args.self.now.conn in
    let is : c.args.self.now.begun ≡ Some c.in-Some.begun = sym c.take.ensures.value ∙ c.in-Some.is in
    let early : HasCleanDisk old = omega (arith, c.finish_delivery.ensures.crash.clean, clean) in
    elim (c.finish_delivery.ensures.crash.crash clean might.0 might.1) [
      | inl before ↦ inl (might.0, before, might.2)
      | inr new ↦ inr (
        new.2,
        λ body told bodies apart has here. ∥∥₁_elim (c.args.self.now.kept early new.2) (left_set _ _) (λ was. ∥∥₁_elim (c.args.self.now.under_way early new.2) (left_set _ _) (λ under.
            let k = ends old.committed was c.args.self.now.begun c.in-Some.begun is under c.args.name.now body told (c.requires.whole early new.2) in
            turn_left old.committed new.0 might.0 new.1 left might.2
            (new.3 _ _ _ _ body was k.begun.comes (c.finish-print.ensures body (k.begun.printer k.coming) k.short) k.deliverable))),
      )
    ]

pub returns-in-Err-clause-crash : goal.returns-in-Err-clause-crash
returns-in-Err-clause-crash g c clean left might =
    let old = state g.S.Store c.args.self.now.conn in
    let is : c.args.self.now.begun ≡ Some c.in-Some.begun = sym c.take.ensures.value ∙ c.in-Some.is in
    let early : HasCleanDisk old = omega (arith, c.finish_delivery.ensures.crash.clean, clean) in
    elim (c.finish_delivery.ensures.crash.crash clean might.0 might.1) [
      | inl before ↦ inl (might.0, before, might.2)
      | inr new ↦ inr (
        new.2,
        λ body told bodies apart has here. ∥∥₁_elim (c.args.self.now.kept early new.2) (left_set _ _) (λ was. ∥∥₁_elim (c.args.self.now.under_way early new.2) (left_set _ _) (λ under.
            let k = ends old.committed was c.args.self.now.begun c.in-Some.begun is under c.args.name.now body told (c.requires.whole early new.2) in
            turn_left old.committed new.0 might.0 new.1 left might.2
            (new.3 _ _ _ _ body was k.begun.comes (c.finish-print.ensures body (k.begun.printer k.coming) k.short) k.deliverable))),
      )
    ]
