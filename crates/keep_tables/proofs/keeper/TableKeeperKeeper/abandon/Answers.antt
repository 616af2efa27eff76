use Rattle.std.proofs.Common.{inl, inr, refl, sym, ap, subst, ◌∙◌, arith}
use Rattle.std.proofs.Math.Logic.{∥∥₁_elim, ∥∥₁_map}
use Rattle.std.proofs.Props.{props}
use Rattle.sqlite.specs.Held.{state}
use Rattle.sqlite.specs.State.{HasCleanDisk}
use Rattle.tables.specs.Rows.{tables_in}
use Rattle.tables_meaning.specs.Archives.{KeepsArchive, book_in_database}
use Rattle.tables_meaning.specs.Kept.{book_in}
use Rattle.tables_meaning.specs.KeeperLemmas.{book_set, left_set}
use Rattle.tables_meaning.specs.Shown.{shown_in}
use Rattle.tables_meaning.proofs.TakingLemmas.{nothing_came}
use Rattle.tables_meaning.proofs.CallLemmas.{done_book, kept_here, turn_left}
use Rattle.tables_meaning.specs.Coming.{Comes}
use Rattle.keep_tables.specs.AtHand.{AreAtHand, AreKnown}
use Rattle.keep_tables.proofs.AtHandLemmas.{still_at_hand, still_known}
use Rattle.keep_tables.proofs.UnderWayLemmas.{came, coming_not_none, none_coming_of, not_coming, stopped, undone_kept, undone_under}
use Rattle.keep_tables.proofs.keeper.TableKeeperKeeper.abandon.Goals as goal

pub invariant_of-self-in-Ok : goal.invariant_of-self-in-Ok
invariant_of-self-in-Ok g c =
    let old = state g.S.Store c.args.self.now.conn in
    let new = state g.S.Store c.forget_body.new.conn in (
    record {
      idle = c.forget_body.ensures.idle;
      in_range = c.args.self.now.in_range;
      kept = λ clean up.
          let early : HasCleanDisk old = omega (arith, c.forget_body.ensures.crash.clean, clean) in
          let was_open = (c.in-Ok.ensures.open clean).0 in
          ∥∥₁_elim (c.args.self.now.kept early was_open) (hlevel props) (λ was. ∥∥₁_map (c.args.self.now.under_way early was_open) (λ under.
          let k = came (tables_in old.committed) c.args.self.now.begun under in
          kept_here new.committed (c.in-Ok.ensures.done clean _ _ _ _ k.count k.bytes was (subst (λ o. Comes (tables_in old.committed) o k.count k.bytes) (sym c.number_of.ensures ∙ c.in-Some.is) k.comes)).0.kept));
      under_way = λ clean up.
          let early : HasCleanDisk old = omega (arith, c.forget_body.ensures.crash.clean, clean) in
          let was_open = (c.in-Ok.ensures.open clean).0 in
          ∥∥₁_elim (c.args.self.now.kept early was_open) (hlevel props) (λ was. ∥∥₁_map (c.args.self.now.under_way early was_open) (λ under.
          let k = came (tables_in old.committed) c.args.self.now.begun under in
          let ends = (c.in-Ok.ensures.done clean _ _ _ _ k.count k.bytes was (subst (λ o. Comes (tables_in old.committed) o k.count k.bytes) (sym c.number_of.ensures ∙ c.in-Some.is) k.comes)).1 in
          ends));
      at_hand = λ clean up.
          let early : HasCleanDisk old = omega (arith, c.forget_body.ensures.crash.clean, clean) in
          let was_open = (c.in-Ok.ensures.open clean).0 in
          ∥∥₁_elim (c.args.self.now.kept early was_open) (hlevel props) (λ was. ∥∥₁_elim (c.args.self.now.under_way early was_open) (hlevel props) (λ under.
          let k = came (tables_in old.committed) c.args.self.now.begun under in
          ∥∥₁_map (c.args.self.now.at_hand early was_open) (still_at_hand old.committed new.committed c.args.self.now.spare
          (c.in-Ok.ensures.done clean _ _ _ _ k.count k.bytes was (subst (λ o. Comes (tables_in old.committed) o k.count k.bytes) (sym c.number_of.ensures ∙ c.in-Some.is) k.comes)).0.kept)));
      known = λ clean up.
          let early : HasCleanDisk old = omega (arith, c.forget_body.ensures.crash.clean, clean) in
          let was_open = (c.in-Ok.ensures.open clean).0 in
          ∥∥₁_elim (c.args.self.now.kept early was_open) (hlevel props) (λ was. ∥∥₁_elim (c.args.self.now.under_way early was_open) (hlevel props) (λ under.
          let k = came (tables_in old.committed) c.args.self.now.begun under in
          ∥∥₁_map (c.args.self.now.known early was_open) (still_known old.committed new.committed c.args.self.now.dates.items c.args.self.now.prints.items
          (c.in-Ok.ensures.done clean _ _ _ _ k.count k.bytes was (subst (λ o. Comes (tables_in old.committed) o k.count k.bytes) (sym c.number_of.ensures ∙ c.in-Some.is) k.comes)).0.kept)));
    }
    )

pub invariant_of-self-in-Err : goal.invariant_of-self-in-Err
invariant_of-self-in-Err g c =
    let old = state g.S.Store c.args.self.now.conn in
    let new = state g.S.Store c.forget_body.new.conn in (
    record {
      idle = c.forget_body.ensures.idle;
      in_range = c.args.self.now.in_range;
      kept = λ clean up.
          let early : HasCleanDisk old = omega (arith, c.forget_body.ensures.crash.clean, clean) in
          undone_kept (λ db. ∥ KeepsArchive db c.args.self.now.config c.args.self.now.judged.items (shown_in c.args.self.now.config.suites (tables_in db)) c.args.self.now.dates.items ∥₁)
          old new (c.in-Err.ensures.undone clean) (c.args.self.now.kept early) up;
      under_way = λ clean up.
          let early : HasCleanDisk old = omega (arith, c.forget_body.ensures.crash.clean, clean) in
          ∥∥₁_map (undone_under old new c.args.self.now.begun (c.in-Err.ensures.undone clean) (c.args.self.now.under_way early) up)
          (λ under. stopped (tables_in new.committed) c.args.self.now.begun c.stop.new.begun c.stop.ensures under);
      at_hand = λ clean up.
          let early : HasCleanDisk old = omega (arith, c.forget_body.ensures.crash.clean, clean) in
          undone_kept (λ db. ∥ AreAtHand c.args.self.now.config db c.args.self.now.spare ∥₁) old new (c.in-Err.ensures.undone clean) (c.args.self.now.at_hand early) up;
      known = λ clean up.
          let early : HasCleanDisk old = omega (arith, c.forget_body.ensures.crash.clean, clean) in
          undone_kept (λ db. ∥ AreKnown c.args.self.now.config (shown_in c.args.self.now.config.suites (tables_in db)) c.args.self.now.dates.items c.args.self.now.prints.items ∥₁)
          old new (c.in-Err.ensures.undone clean) (c.args.self.now.known early) up;
    }
    )

pub returns-in-Ok-clause-stays : goal.returns-in-Ok-clause-stays
unfolding book_in
returns-in-Ok-clause-stays g c =
    let old = state g.S.Store c.args.self.now.conn in
    let new = state g.S.Store c.forget_body.new.conn in (
    record {
      lasts = record {
        clean = λ clean. let early : HasCleanDisk (state g.S.Store c.args.self.now.conn) = omega (arith, c.forget_body.ensures.crash.clean, clean) in early;
        counts = c.forget_body.ensures.crash.counts;
        was_open = λ clean up. (c.in-Ok.ensures.open clean).0;
        stays = c.forget_body.ensures.crash.closes;
        config = refl;
      };
      same = λ clean up.
          let early : HasCleanDisk old = omega (arith, c.forget_body.ensures.crash.clean, clean) in
          let was_open = (c.in-Ok.ensures.open clean).0 in
          ∥∥₁_elim (c.args.self.now.kept early was_open) (book_set _ _) (λ was. ∥∥₁_elim (c.args.self.now.under_way early was_open) (book_set _ _) (λ under.
          let k = came (tables_in old.committed) c.args.self.now.begun under in
          done_book old.committed new.committed (c.in-Ok.ensures.done clean _ _ _ _ k.count k.bytes was (subst (λ o. Comes (tables_in old.committed) o k.count k.bytes) (sym c.number_of.ensures ∙ c.in-Some.is) k.comes)).0));
      crash = λ clean left might.
          let early : HasCleanDisk old = omega (arith, c.forget_body.ensures.crash.clean, clean) in
          elim (c.forget_body.ensures.crash.crash clean might.0 might.1) [
            | inl before ↦ inl (might.0, before, might.2)
            | inr written ↦ inr (
              written.2,
              ∥∥₁_elim (c.args.self.now.kept early written.2) (left_set _ _) (λ was. ∥∥₁_elim (c.args.self.now.under_way early written.2) (left_set _ _) (λ under.
                  let k = came (tables_in old.committed) c.args.self.now.begun under in
                  turn_left old.committed written.0 might.0 written.1 left might.2 (written.3 _ _ _ _ k.count k.bytes was (subst (λ o. Comes (tables_in old.committed) o k.count k.bytes) (sym c.number_of.ensures ∙ c.in-Some.is) k.comes)))),
            )
          ];
    }
    )

pub returns-in-Err-clause-stays : goal.returns-in-Err-clause-stays
unfolding book_in
returns-in-Err-clause-stays g c =
    let old = state g.S.Store c.args.self.now.conn in
    let new = state g.S.Store c.forget_body.new.conn in (
    record {
      lasts = record {
        clean = λ clean. let early : HasCleanDisk (state g.S.Store c.args.self.now.conn) = omega (arith, c.forget_body.ensures.crash.clean, clean) in early;
        counts = c.forget_body.ensures.crash.counts;
        was_open = λ clean up. (c.in-Err.ensures.undone clean).was_open up;
        stays = c.forget_body.ensures.crash.closes;
        config = refl;
      };
      same = λ clean up. ap (λ db. book_in_database db c.args.self.now.config c.args.self.now.judged.items (shown_in c.args.self.now.config.suites (tables_in db)) c.args.self.now.dates.items) ((c.in-Err.ensures.undone clean).committed up);
      crash = λ clean left might.
          let early : HasCleanDisk old = omega (arith, c.forget_body.ensures.crash.clean, clean) in
          elim (c.forget_body.ensures.crash.crash clean might.0 might.1) [
            | inl before ↦ inl (might.0, before, might.2)
            | inr written ↦ inr (
              written.2,
              ∥∥₁_elim (c.args.self.now.kept early written.2) (left_set _ _) (λ was. ∥∥₁_elim (c.args.self.now.under_way early written.2) (left_set _ _) (λ under.
                  let k = came (tables_in old.committed) c.args.self.now.begun under in
                  turn_left old.committed written.0 might.0 written.1 left might.2 (written.3 _ _ _ _ k.count k.bytes was (subst (λ o. Comes (tables_in old.committed) o k.count k.bytes) (sym c.number_of.ensures ∙ c.in-Some.is) k.comes)))),
            )
          ];
    }
    )

pub returns-then-not-is_coming-clause-ended : goal.returns-then-not-is_coming-clause-ended
returns-then-not-is_coming-clause-ended g c =
    not_coming (tables_in (state g.S.Store c.args.self.now.conn).committed) c.args.self.now.begun (sym c.is_coming.ensures ∙ c.if-not-is_coming.true)

pub invariant_of-self : goal.invariant_of-self
invariant_of-self g c = record {
  idle = c.args.self.now.idle;
  in_range = c.args.self.now.in_range;
  kept = c.args.self.now.kept;
  under_way = λ clean up. ∥∥₁_map (c.args.self.now.under_way clean up) (λ under.
      let t = tables_in (state g.S.Store c.args.self.now.conn).committed in
      let k = came t c.args.self.now.begun under in
      nothing_came (state g.S.Store c.args.self.now.conn).committed (state g.S.Store c.args.self.now.conn).committed refl k.count k.bytes
      (subst (λ o. Comes t o k.count k.bytes) (sym c.number_of.ensures ∙ c.in_default.is) k.comes));
  at_hand = c.args.self.now.at_hand;
  known = c.args.self.now.known;
}

pub returns-in-Ok-clause-served : goal.returns-in-Ok-clause-served
returns-in-Ok-clause-served g c clean was = (c.in-Ok.ensures.open clean).1

pub returns-in-Ok-clause-nothing : goal.returns-in-Ok-clause-nothing
returns-in-Ok-clause-nothing g c none = absurd (coming_not_none (tables_in (state g.S.Store c.args.self.now.conn).committed) c.args.self.now.begun (sym c.is_coming.ensures ∙ c.if-not-is_coming.false) none)

pub returns-in-Err-clause-nothing : goal.returns-in-Err-clause-nothing
returns-in-Err-clause-nothing g c none = absurd (coming_not_none (tables_in (state g.S.Store c.args.self.now.conn).committed) c.args.self.now.begun (sym c.is_coming.ensures ∙ c.if-not-is_coming.false) none)

pub returns-in_default-clause-nothing : goal.returns-in_default-clause-nothing
returns-in_default-clause-nothing g c none = absurd (coming_not_none (tables_in (state g.S.Store c.args.self.now.conn).committed) c.args.self.now.begun (sym c.is_coming.ensures ∙ c.if-not-is_coming.false) none)

pub returns-in-Err-clause-ended : goal.returns-in-Err-clause-ended
returns-in-Err-clause-ended g c = none_coming_of (tables_in (state g.S.Store c.forget_body.new.conn).committed) c.args.self.now.begun c.stop.new.begun c.stop.ensures
