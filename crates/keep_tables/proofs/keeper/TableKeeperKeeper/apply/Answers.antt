use Rattle.std.proofs.Common.{◌≡◌, ℕ, List, ◌++◌, length, not, inl, inr, refl, sym, ap, subst, ◌∙◌, arith}
use Rattle.std.specs.List.{list_any}
use Rattle.std.proofs.Math.Logic.{∥∥₁_elim, ∥∥₁_map}
use Rattle.sqlite.specs.Held.{state}
use Rattle.sqlite.specs.State.{HasCleanDisk}
use Rattle.suites.specs.Shelves.{ShelvesValue}
use Rattle.book.specs.Book.{dates_past, judgements}
use Rattle.book.proofs.Staying.{on_err}
use Rattle.tables.specs.Rows.{tables_in}
use Rattle.tables_meaning.specs.Archives.{KeepsArchive, book_in_database}
use Rattle.tables_meaning.specs.Kept.{book_in}
use Rattle.tables_meaning.specs.KeeperLemmas.{book_set, left_set, shelves_set}
use Rattle.tables_meaning.specs.Making.{takes_file}
use Rattle.tables_meaning.specs.Shown.{shown_in}
use Rattle.std.proofs.Props.{props}
use Rattle.keep_tables.specs.AtHand.{AreAtHand, AreKnown, AreRenewedAtMost}
use Rattle.keep_tables.proofs.AtHandLemmas.{known_past}
use Rattle.keep_tables.proofs.AtOnceLemmas.{none_if, none_under}
use Rattle.keep_tables.proofs.UnderWayLemmas.{changed_under, undone_kept, undone_under}
use Rattle.tables_meaning.proofs.CallLemmas.{amends_turns, done_book, kept_here, shown_here, turn_left}
use Rattle.keep_tables.proofs.keeper.TableKeeperKeeper.apply.Goals as goal

-- after the room is made the judgements are the same
pub invariant_of-self-in-Break-branch-2 : goal.invariant_of-self-in-Break-branch-2
invariant_of-self-in-Break-branch-2 g c = record {
  idle = c.args.self.now.idle;
  in_range = c.args.self.now.in_range;
  kept = rw c.room_for_judgements.ensures.same c.args.self.now.kept;
  under_way = c.args.self.now.under_way;
  at_hand = c.args.self.now.at_hand;
  known = c.args.self.now.known;
}

pub returns-in_err-judged-clause-err : goal.returns-in_err-judged-clause-err
returns-in_err-judged-clause-err g c =
    let k = c.args.self.now in
    let db = (state g.S.Store k.conn).committed in
    λ clean up. on_err c.from_residual-in_err-judged.result
    (ap (λ j. book_in_database db k.config j (shown_in k.config.suites (tables_in db)) k.dates.items) c.in_err-judged.ensures.same)

pub make_change-requires-clause-archive : goal.make_change-requires-clause-archive
make_change-requires-clause-archive g c clean up = ∥∥₁_map (c.args.self.now.kept clean up) (λ was. was.held)

pub make_change-requires-clause-whole : goal.make_change-requires-clause-whole
make_change-requires-clause-whole g c none clean up =
    ∥∥₁_map (c.args.self.now.under_way clean up)
    (none_under (tables_in (state g.S.Store c.args.self.now.conn).committed) c.args.self.now.begun (sym c.number_of.ensures ∙ none_if c.number_of.result (ap not c.is_none-whole.ensures ∙ ap (λ b. not (not b)) none)))

pub invariant_of-self-in-Ok : goal.invariant_of-self-in-Ok
invariant_of-self-in-Ok g c =
    let old = state g.S.Store c.args.self.now.conn in
    let new = state g.S.Store c.make_change.new.conn in
    let config = c.args.self.now.config in
    let steps = c.args.change.now.steps in
    let count = sym (c.len.ensures ∙ c.room_for_judgements.new.judged.ok.0 ∙ ap length c.in_ok-judged.ensures.same) in
    let judged : c.append_judgements.new.judged.items ≡ c.args.self.now.judged.items ++ judgements steps =
    c.append_judgements.ensures ∙ (λ i. c.in_ok-judged.ensures.same i ++ c.in_ok-judged.ensures.more i) ∙ ap (λ s. c.args.self.now.judged.items ++ judgements s) c.as_slice-steps.ensures in
    let dates : c.in_ok-dates.dates.items ≡ dates_past c.args.change.now.moment c.args.self.now.dates.items steps =
    c.in_ok-dates.ensures.after ∙ (λ i. dates_past c.args.change.now.moment (c.deref.ensures.value i) (c.as_slice-steps.ensures i)) in (
    record {
      idle = c.make_change.ensures.idle;
      in_range = ∣ c.in_ok-dates.ensures.in_range ∣₁;
      kept = λ clean up.
          let early : HasCleanDisk old = omega (arith, c.make_change.ensures.crash.clean, clean) in
          let was_open = (c.in-Ok.ensures.open clean).0 in
          ∥∥₁_map (c.args.self.now.kept early was_open) (λ was.
          let turn = c.in-Ok.ensures.done clean _ _ _ was count (c.requires.sound early was_open) in
          subst (λ j. KeepsArchive new.committed config j (shown_in config.suites (tables_in new.committed)) c.in_ok-dates.dates.items) (sym judged)
          (subst (λ d. KeepsArchive new.committed config (c.args.self.now.judged.items ++ judgements steps) (shown_in config.suites (tables_in new.committed)) d) (sym dates)
          (kept_here new.committed turn.kept)));
      under_way = λ clean up.
          let early : HasCleanDisk old = omega (arith, c.make_change.ensures.crash.clean, clean) in
          let was_open = (c.in-Ok.ensures.open clean).0 in
          let went : c.some_take_files.result ≡ list_any takes_file steps = c.some_take_files.ensures ∙ ap (list_any takes_file) c.as_slice-steps.ensures in
          ∥∥₁_elim (c.args.self.now.kept early was_open) (hlevel props) (λ was.
          ∥∥₁_map (c.args.self.now.under_way early was_open) (λ under. changed_under old.committed new.committed c.args.self.now.begun c.forget_if.new.begun c.some_take_files.result c.forget_if.ensures
          (λ yes. c.in-Ok.ensures.ends clean (sym went ∙ yes) _ _ _ was count (c.requires.sound early was_open))
          (λ no. c.in-Ok.ensures.beside clean (sym went ∙ no) _ _ _ was) under));
      at_hand = λ clean up. ∣ tt ∣₁;
      known = λ clean up.
          let early : HasCleanDisk old = omega (arith, c.make_change.ensures.crash.clean, clean) in
          let was_open = (c.in-Ok.ensures.open clean).0 in
          let notes : AreRenewedAtMost c.args.self.now.prints.items c.args.change.now.texts c.renew_prints.new.prints.items =
          subst (λ texts. AreRenewedAtMost c.args.self.now.prints.items texts c.renew_prints.new.prints.items) c.as_slice.ensures c.renew_prints.ensures in
          ∥∥₁_elim (c.args.self.now.kept early was_open) (hlevel props) (λ was. ∥∥₁_map (c.args.self.now.known early was_open) (λ known.
          let shown = shown_here new.committed (c.in-Ok.ensures.done clean _ _ _ was count (c.requires.sound early was_open)).kept in
          subst (λ (x : ShelvesValue × List ℕ). AreKnown config x.0 x.1 c.renew_prints.new.prints.items) (λ i. (sym shown i, sym dates i))
          (known_past old.committed config c.args.self.now.judged.items (shown_in config.suites (tables_in old.committed)) c.args.self.now.dates.items c.args.change.now
          c.args.self.now.prints.items c.renew_prints.new.prints.items (c.requires.sound early was_open).texts notes known)));
    }
    )

pub invariant_of-self-in-Err-1 : goal.invariant_of-self-in-Err-1
invariant_of-self-in-Err-1 g c =
    let old = state g.S.Store c.args.self.now.conn in
    let new = state g.S.Store c.make_change.new.conn in
    let kept = c.args.self.now.kept in (
    record {
      idle = c.make_change.ensures.idle;
      in_range = c.args.self.now.in_range;
      kept = λ clean up.
          let early : HasCleanDisk old = omega (arith, c.make_change.ensures.crash.clean, clean) in
          subst (λ j. ∥ KeepsArchive new.committed c.args.self.now.config j (shown_in c.args.self.now.config.suites (tables_in new.committed)) c.args.self.now.dates.items ∥₁) (sym c.in_ok-judged.ensures.same)
          (undone_kept (λ db. ∥ KeepsArchive db c.args.self.now.config c.args.self.now.judged.items (shown_in c.args.self.now.config.suites (tables_in db)) c.args.self.now.dates.items ∥₁)
          old new (c.in-Err.ensures.undone clean) (kept early) up);
      under_way = λ clean up.
          let early : HasCleanDisk old = omega (arith, c.make_change.ensures.crash.clean, clean) in
          undone_under old new c.args.self.now.begun (c.in-Err.ensures.undone clean) (c.args.self.now.under_way early) up;
      at_hand = λ clean up.
          let early : HasCleanDisk old = omega (arith, c.make_change.ensures.crash.clean, clean) in
          undone_kept (λ db. ∥ AreAtHand c.args.self.now.config db c.args.self.now.spare ∥₁) old new (c.in-Err.ensures.undone clean) (c.args.self.now.at_hand early) up;
      known = λ clean up.
          let early : HasCleanDisk old = omega (arith, c.make_change.ensures.crash.clean, clean) in
          undone_kept (λ db. ∥ AreKnown c.args.self.now.config (shown_in c.args.self.now.config.suites (tables_in db)) c.args.self.now.dates.items c.args.self.now.prints.items ∥₁)
          old new (c.in-Err.ensures.undone clean) (c.args.self.now.known early) up;
    }
    )

pub returns-in-Ok-clause-lasts : goal.returns-in-Ok-clause-lasts
unfolding book_in
returns-in-Ok-clause-lasts g c =
    let left = c.make_change.ensures.crash in
    record {
      clean = λ clean. let early : HasCleanDisk (state g.S.Store c.args.self.now.conn) = omega (arith, left.clean, clean) in early;
      counts = left.counts;
      was_open = λ clean up. (c.in-Ok.ensures.open clean).0;
      stays = left.closes;
      config = refl;
    }

pub returns-in-Err-clause-lasts : goal.returns-in-Err-clause-lasts
unfolding book_in
returns-in-Err-clause-lasts g c =
    let left = c.make_change.ensures.crash in
    record {
      clean = λ clean. let early : HasCleanDisk (state g.S.Store c.args.self.now.conn) = omega (arith, left.clean, clean) in early;
      counts = left.counts;
      was_open = λ clean up. (c.in-Err.ensures.undone clean).was_open up;
      stays = left.closes;
      config = refl;
    }

pub returns-in-Ok-clause-ok : goal.returns-in-Ok-clause-ok
returns-in-Ok-clause-ok g c clean bodies apart has each =
    let old = state g.S.Store c.args.self.now.conn in
    let new = state g.S.Store c.make_change.new.conn in
    let config = c.args.self.now.config in
    let steps = c.args.change.now.steps in
    let count = sym (c.len.ensures ∙ c.room_for_judgements.new.judged.ok.0 ∙ ap length c.in_ok-judged.ensures.same) in
    let judged : c.append_judgements.new.judged.items ≡ c.args.self.now.judged.items ++ judgements steps =
    c.append_judgements.ensures ∙ (λ i. c.in_ok-judged.ensures.same i ++ c.in_ok-judged.ensures.more i) ∙ ap (λ s. c.args.self.now.judged.items ++ judgements s) c.as_slice-steps.ensures in
    let dates : c.in_ok-dates.dates.items ≡ dates_past c.args.change.now.moment c.args.self.now.dates.items steps =
    c.in_ok-dates.ensures.after ∙ (λ i. dates_past c.args.change.now.moment (c.deref.ensures.value i) (c.as_slice-steps.ensures i)) in
    let early : HasCleanDisk old = omega (arith, c.make_change.ensures.crash.clean, clean) in
    let was_open = (c.in-Ok.ensures.open clean).0 in
    ∥∥₁_elim (c.args.self.now.kept early was_open) (book_set _ _) (λ was.
    (λ i. book_in_database new.committed config (judged i) (shown_in config.suites (tables_in new.committed)) (dates i))
    ∙ done_book old.committed new.committed (amends_turns old.committed new.committed (c.in-Ok.ensures.done clean _ _ _ was count (c.requires.sound early was_open)) each))

pub returns-in-Ok-clause-shown : goal.returns-in-Ok-clause-shown
unfolding book_in
returns-in-Ok-clause-shown g c clean =
    let old = state g.S.Store c.args.self.now.conn in
    let new = state g.S.Store c.make_change.new.conn in
    let count = sym (c.len.ensures ∙ c.room_for_judgements.new.judged.ok.0 ∙ ap length c.in_ok-judged.ensures.same) in
    let early : HasCleanDisk old = omega (arith, c.make_change.ensures.crash.clean, clean) in
    let was_open = (c.in-Ok.ensures.open clean).0 in
    ∥∥₁_elim (c.args.self.now.kept early was_open) (shelves_set _ _) (λ was.
    shown_here new.committed (c.in-Ok.ensures.done clean _ _ _ was count (c.requires.sound early was_open)).kept)

pub returns-in-Err-clause-err : goal.returns-in-Err-clause-err
returns-in-Err-clause-err g c clean up =
    let k = c.args.self.now in
    let db = (state g.S.Store k.conn).committed in
    ap (λ db. book_in_database db k.config c.room_for_judgements.new.judged.items (shown_in k.config.suites (tables_in db)) k.dates.items) ((c.in-Err.ensures.undone clean).committed up)
    ∙ ap (λ j. book_in_database db k.config j (shown_in k.config.suites (tables_in db)) k.dates.items) c.in_ok-judged.ensures.same

pub returns-in-Ok-clause-crash : goal.returns-in-Ok-clause-crash
returns-in-Ok-clause-crash g c clean left might =
    let old = state g.S.Store c.args.self.now.conn in
    let count = sym (c.len.ensures ∙ c.room_for_judgements.new.judged.ok.0 ∙ ap length c.in_ok-judged.ensures.same) in
    let early : HasCleanDisk old = omega (arith, c.make_change.ensures.crash.clean, clean) in
    elim (c.make_change.ensures.crash.crash clean might.0 might.1) [
      | inl before ↦ inl (might.0, before, might.2)
      | inr new ↦ inr (
        new.2,
        λ bodies apart has each. ∥∥₁_elim (c.args.self.now.kept early new.2) (left_set _ _) (λ was.
            turn_left old.committed new.0 might.0 new.1 left might.2 (amends_turns old.committed new.0 (new.3 _ _ _ was count (c.requires.sound early new.2)) each)),
      )
    ]

pub returns-in-Err-clause-crash : goal.returns-in-Err-clause-crash
returns-in-Err-clause-crash g c clean left might =
    let old = state g.S.Store c.args.self.now.conn in
    let count = sym (c.len.ensures ∙ c.room_for_judgements.new.judged.ok.0 ∙ ap length c.in_ok-judged.ensures.same) in
    let early : HasCleanDisk old = omega (arith, c.make_change.ensures.crash.clean, clean) in
    elim (c.make_change.ensures.crash.crash clean might.0 might.1) [
      | inl before ↦ inl (might.0, before, might.2)
      | inr new ↦ inr (
        new.2,
        λ bodies apart has each. ∥∥₁_elim (c.args.self.now.kept early new.2) (left_set _ _) (λ was.
            turn_left old.committed new.0 might.0 new.1 left might.2 (amends_turns old.committed new.0 (new.3 _ _ _ was count (c.requires.sound early new.2)) each)),
      )
    ]
