use Rattle.std.proofs.Common.{◌≡◌, ◌+◌, ◌%◌, ◌^◌, ◌++◌, inl, inr, refl, sym, ap, subst, ◌∙◌, arith, Some}
use Rattle.std.proofs.Math.Logic.{∥∥₁_elim, ∥∥₁_map}
use Rattle.std.proofs.Props.{props}
use Rattle.sqlite.specs.Held.{state}
use Rattle.sqlite.specs.State.{HasCleanDisk}
use Rattle.tables.specs.Rows.{tables_in}
use Rattle.tables_meaning.specs.Archives.{KeepsArchive, book_in_database}
use Rattle.tables_meaning.specs.Coming.{Comes}
use Rattle.tables_meaning.specs.Kept.{book_in}
use Rattle.tables_meaning.specs.KeeperLemmas.{book_set, left_set}
use Rattle.tables_meaning.specs.Shown.{shown_in}
use Rattle.tables_meaning.proofs.CallLemmas.{done_book, kept_here, turn_left}
use Rattle.tables_bodies.specs.UnderWay.{IsUnderWay, coming_in}
use Rattle.keep_tables.specs.AtHand.{AreAtHand, AreKnown}
use Rattle.keep_tables.proofs.AtHandLemmas.{still_at_hand, still_known}
use Rattle.keep_tables.proofs.UnderWayLemmas.{coming_set, not_finished, piece_coming, takes, undone_kept, undone_under}
use Rattle.keep_tables.proofs.keeper.TableKeeperKeeper.piece.Goals as goal

pub invariant_of-self : goal.invariant_of-self
invariant_of-self g c = record {
  idle = c.args.self.now.idle;
  in_range = c.args.self.now.in_range;
  kept = c.args.self.now.kept;
  under_way = λ clean up. subst (λ b. ∥ IsUnderWay (tables_in (state g.S.Store c.args.self.now.conn).committed) b ∥₁)
      (sym c.take.ensures.value ∙ c.in_default.is ∙ sym c.take.ensures.after) (c.args.self.now.under_way clean up);
  at_hand = c.args.self.now.at_hand;
  known = c.args.self.now.known;
}

pub returns-in_default-clause-stays : goal.returns-in_default-clause-stays
returns-in_default-clause-stays g c = record {
  lasts = record {
    clean = λ clean. clean;
    counts = omega arith;
    was_open = λ clean up. up;
    stays = λ clean up. inl up;
    config = refl;
  };
  same = λ clean up. refl;
  crash = λ clean left might. inl might;
}

pub returns-in_default-clause-refused : goal.returns-in_default-clause-refused
returns-in_default-clause-refused g c = ap (coming_in (tables_in (state g.S.Store c.args.self.now.conn).committed)) c.take.ensures.after

pub invariant_of-self-in-Ok : goal.invariant_of-self-in-Ok
invariant_of-self-in-Ok g c =
    let old = state g.S.Store c.args.self.now.conn in
    let new = state g.S.Store c.take_piece.new.conn in
    let is : c.args.self.now.begun ≡ Some c.in-Some.begun = sym c.take.ensures.value ∙ c.in-Some.is in (
    record {
      idle = c.take_piece.ensures.idle;
      in_range = c.args.self.now.in_range;
      kept = λ clean up.
          let early : HasCleanDisk old = omega (arith, c.take_piece.ensures.crash.clean, clean) in
          let was_open = (c.in-Ok.ensures.open clean).0 in
          ∥∥₁_elim (c.args.self.now.kept early was_open) (hlevel props) (λ was. ∥∥₁_map (c.args.self.now.under_way early was_open) (λ under.
          let k = takes old.committed was c.args.self.now.begun c.in-Some.begun is under c.args.bytes.now (c.requires.begun early was_open) in
          kept_here new.committed (c.in-Ok.ensures.done clean _ _ _ _ k.bytes was k.begun.comes k.whole k.some k.small).0.kept));
      under_way = λ clean up.
          let early : HasCleanDisk old = omega (arith, c.take_piece.ensures.crash.clean, clean) in
          let was_open = (c.in-Ok.ensures.open clean).0 in
          ∥∥₁_elim (c.args.self.now.kept early was_open) (hlevel props) (λ was. ∥∥₁_map (c.args.self.now.under_way early was_open) (λ under.
          let k = takes old.committed was c.args.self.now.begun c.in-Some.begun is under c.args.bytes.now (c.requires.begun early was_open) in
          let comes = (c.in-Ok.ensures.done clean _ _ _ _ k.bytes was k.begun.comes k.whole k.some k.small).1 in
          let next : (c.in-Some.begun.pieces + 1) % 2 ^ 64 ≡ c.in-Some.begun.pieces + 1 = omega (arith, c.in-Ok.ensures.counted) in (
            k.bytes ++ c.args.bytes.now,
            record {
              comes = subst (λ n. Comes (tables_in new.committed) (Some c.in-Ok.id) n (k.bytes ++ c.args.bytes.now)) (sym next) comes;
              printer = λ _. c.update.ensures k.bytes (k.begun.printer k.coming);
            },
          )));
      at_hand = λ clean up.
          let early : HasCleanDisk old = omega (arith, c.take_piece.ensures.crash.clean, clean) in
          let was_open = (c.in-Ok.ensures.open clean).0 in
          ∥∥₁_elim (c.args.self.now.kept early was_open) (hlevel props) (λ was. ∥∥₁_elim (c.args.self.now.under_way early was_open) (hlevel props) (λ under.
          let k = takes old.committed was c.args.self.now.begun c.in-Some.begun is under c.args.bytes.now (c.requires.begun early was_open) in
          ∥∥₁_map (c.args.self.now.at_hand early was_open) (still_at_hand old.committed new.committed c.args.self.now.spare
          (c.in-Ok.ensures.done clean _ _ _ _ k.bytes was k.begun.comes k.whole k.some k.small).0.kept)));
      known = λ clean up.
          let early : HasCleanDisk old = omega (arith, c.take_piece.ensures.crash.clean, clean) in
          let was_open = (c.in-Ok.ensures.open clean).0 in
          ∥∥₁_elim (c.args.self.now.kept early was_open) (hlevel props) (λ was. ∥∥₁_elim (c.args.self.now.under_way early was_open) (hlevel props) (λ under.
          let k = takes old.committed was c.args.self.now.begun c.in-Some.begun is under c.args.bytes.now (c.requires.begun early was_open) in
          ∥∥₁_map (c.args.self.now.known early was_open) (still_known old.committed new.committed c.args.self.now.dates.items c.args.self.now.prints.items
          (c.in-Ok.ensures.done clean _ _ _ _ k.bytes was k.begun.comes k.whole k.some k.small).0.kept)));
    }
    )

pub invariant_of-self-in-Err : goal.invariant_of-self-in-Err
invariant_of-self-in-Err g c =
    let old = state g.S.Store c.args.self.now.conn in
    let new = state g.S.Store c.take_piece.new.conn in
    let is : c.args.self.now.begun ≡ Some c.in-Some.begun = sym c.take.ensures.value ∙ c.in-Some.is in (
    record {
      idle = c.take_piece.ensures.idle;
      in_range = c.args.self.now.in_range;
      kept = λ clean up.
          let early : HasCleanDisk old = omega (arith, c.take_piece.ensures.crash.clean, clean) in
          undone_kept (λ db. ∥ KeepsArchive db c.args.self.now.config c.args.self.now.judged.items (shown_in c.args.self.now.config.suites (tables_in db)) c.args.self.now.dates.items ∥₁)
          old new (c.in-Err.ensures.undone clean) (c.args.self.now.kept early) up;
      under_way = λ clean up.
          let early : HasCleanDisk old = omega (arith, c.take_piece.ensures.crash.clean, clean) in
          ∥∥₁_map (undone_under old new c.args.self.now.begun (c.in-Err.ensures.undone clean) (c.args.self.now.under_way early) up)
          (λ under. not_finished (tables_in new.committed) c.in-Some.begun c.in-Some.begun.printer (subst (IsUnderWay (tables_in new.committed)) is under));
      at_hand = λ clean up.
          let early : HasCleanDisk old = omega (arith, c.take_piece.ensures.crash.clean, clean) in
          undone_kept (λ db. ∥ AreAtHand c.args.self.now.config db c.args.self.now.spare ∥₁) old new (c.in-Err.ensures.undone clean) (c.args.self.now.at_hand early) up;
      known = λ clean up.
          let early : HasCleanDisk old = omega (arith, c.take_piece.ensures.crash.clean, clean) in
          undone_kept (λ db. ∥ AreKnown c.args.self.now.config (shown_in c.args.self.now.config.suites (tables_in db)) c.args.self.now.dates.items c.args.self.now.prints.items ∥₁)
          old new (c.in-Err.ensures.undone clean) (c.args.self.now.known early) up;
    }
    )

pub returns-in-Ok-clause-stays : goal.returns-in-Ok-clause-stays
unfolding book_in
returns-in-Ok-clause-stays g c =
    let old = state g.S.Store c.args.self.now.conn in
    let new = state g.S.Store c.take_piece.new.conn in
    let is : c.args.self.now.begun ≡ Some c.in-Some.begun = sym c.take.ensures.value ∙ c.in-Some.is in (
    record {
      lasts = record {
        clean = λ clean. let early : HasCleanDisk (state g.S.Store c.args.self.now.conn) = omega (arith, c.take_piece.ensures.crash.clean, clean) in early;
        counts = c.take_piece.ensures.crash.counts;
        was_open = λ clean up. (c.in-Ok.ensures.open clean).0;
        stays = c.take_piece.ensures.crash.closes;
        config = refl;
      };
      same = λ clean up.
          let early : HasCleanDisk old = omega (arith, c.take_piece.ensures.crash.clean, clean) in
          let was_open = (c.in-Ok.ensures.open clean).0 in
          ∥∥₁_elim (c.args.self.now.kept early was_open) (book_set _ _) (λ was. ∥∥₁_elim (c.args.self.now.under_way early was_open) (book_set _ _) (λ under.
          let k = takes old.committed was c.args.self.now.begun c.in-Some.begun is under c.args.bytes.now (c.requires.begun early was_open) in
          done_book old.committed new.committed (c.in-Ok.ensures.done clean _ _ _ _ k.bytes was k.begun.comes k.whole k.some k.small).0));
      crash = λ clean left might.
          let early : HasCleanDisk old = omega (arith, c.take_piece.ensures.crash.clean, clean) in
          elim (c.take_piece.ensures.crash.crash clean might.0 might.1) [
            | inl before ↦ inl (might.0, before, might.2)
            | inr written ↦ inr (
              written.2,
              ∥∥₁_elim (c.args.self.now.kept early written.2) (left_set _ _) (λ was. ∥∥₁_elim (c.args.self.now.under_way early written.2) (left_set _ _) (λ under.
                  let k = takes old.committed was c.args.self.now.begun c.in-Some.begun is under c.args.bytes.now (c.requires.begun early written.2) in
                  turn_left old.committed written.0 might.0 written.1 left might.2 (written.3 _ _ _ _ k.bytes was k.begun.comes k.whole k.some k.small))),
            )
          ];
    }
    )

pub returns-in-Err-clause-stays : goal.returns-in-Err-clause-stays
unfolding book_in
returns-in-Err-clause-stays g c =
    let old = state g.S.Store c.args.self.now.conn in
    let new = state g.S.Store c.take_piece.new.conn in
    let is : c.args.self.now.begun ≡ Some c.in-Some.begun = sym c.take.ensures.value ∙ c.in-Some.is in (
    record {
      lasts = record {
        clean = λ clean. let early : HasCleanDisk (state g.S.Store c.args.self.now.conn) = omega (arith, c.take_piece.ensures.crash.clean, clean) in early;
        counts = c.take_piece.ensures.crash.counts;
        was_open = λ clean up. (c.in-Err.ensures.undone clean).was_open up;
        stays = c.take_piece.ensures.crash.closes;
        config = refl;
      };
      same = λ clean up. ap (λ db. book_in_database db c.args.self.now.config c.args.self.now.judged.items (shown_in c.args.self.now.config.suites (tables_in db)) c.args.self.now.dates.items) ((c.in-Err.ensures.undone clean).committed up);
      crash = λ clean left might.
          let early : HasCleanDisk old = omega (arith, c.take_piece.ensures.crash.clean, clean) in
          elim (c.take_piece.ensures.crash.crash clean might.0 might.1) [
            | inl before ↦ inl (might.0, before, might.2)
            | inr written ↦ inr (
              written.2,
              ∥∥₁_elim (c.args.self.now.kept early written.2) (left_set _ _) (λ was. ∥∥₁_elim (c.args.self.now.under_way early written.2) (left_set _ _) (λ under.
                  let k = takes old.committed was c.args.self.now.begun c.in-Some.begun is under c.args.bytes.now (c.requires.begun early written.2) in
                  turn_left old.committed written.0 might.0 written.1 left might.2 (written.3 _ _ _ _ k.bytes was k.begun.comes k.whole k.some k.small))),
            )
          ];
    }
    )

pub returns-in-Ok-clause-served : goal.returns-in-Ok-clause-served
returns-in-Ok-clause-served g c clean = (c.in-Ok.ensures.open clean).1

pub returns-in-Ok-clause-taken : goal.returns-in-Ok-clause-taken
returns-in-Ok-clause-taken g c clean =
    let old = state g.S.Store c.args.self.now.conn in
    let new = state g.S.Store c.take_piece.new.conn in
    let is : c.args.self.now.begun ≡ Some c.in-Some.begun = sym c.take.ensures.value ∙ c.in-Some.is in
    let early : HasCleanDisk old = omega (arith, c.take_piece.ensures.crash.clean, clean) in
    let was_open = (c.in-Ok.ensures.open clean).0 in
    ∥∥₁_elim (c.args.self.now.kept early was_open) (coming_set _ _) (λ was. ∥∥₁_elim (c.args.self.now.under_way early was_open) (coming_set _ _) (λ under.
    let k = takes old.committed was c.args.self.now.begun c.in-Some.begun is under c.args.bytes.now (c.requires.begun early was_open) in
    let did = c.in-Ok.ensures.done clean _ _ _ _ k.bytes was k.begun.comes k.whole k.some k.small in
    piece_coming old.committed new.committed did.0.kept c.args.self.now.begun c.in-Some.begun is k.bytes c.args.bytes.now k.told c.in-Ok.id (c.in-Some.begun.pieces + 1) did.1))

pub returns-in-Err-clause-refused : goal.returns-in-Err-clause-refused
returns-in-Err-clause-refused g c = refl
