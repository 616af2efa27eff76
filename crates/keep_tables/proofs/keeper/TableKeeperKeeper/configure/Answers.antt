use Rattle.std.proofs.Common.{◌≤◌, All, length, inl, inr, sym, ap, subst, ◌∙◌, arith}
use Rattle.std.proofs.Math.Logic.{∥∥₁_elim, ∥∥₁_map}
use Rattle.std.proofs.Props.{props}
use Rattle.sqlite.specs.Held.{state}
use Rattle.sqlite.specs.State.{HasCleanDisk}
use Rattle.tables.specs.Rows.{tables_in}
use Rattle.tables_meaning.specs.Archives.{KeepsArchive, book_in_database}
use Rattle.tables_meaning.specs.Configuring.{Reconfigures}
use Rattle.tables_meaning.specs.Kept.{book_in}
use Rattle.tables_meaning.specs.KeeperLemmas.{book_set, left_set}
use Rattle.tables_meaning.specs.Shown.{shown_in}
use Rattle.tables_meaning.proofs.CallLemmas.{kept_here, shown_here}
use Rattle.keep_tables.specs.AtHand.{AreAtHand, AreKnown}
use Rattle.keep_tables.proofs.AtHandLemmas.{none_known}
use Rattle.keep_tables.proofs.ConfiguredCalls.{configured_here, configured_left}
use Rattle.keep_tables.proofs.UnderWayLemmas.{beside_under, undone_kept, undone_under}
use Rattle.keep_tables.proofs.keeper.TableKeeperKeeper.configure.Goals as goal

pub take_configuration-requires-clause-dated : goal.take_configuration-requires-clause-dated
take_configuration-requires-clause-dated g c = ap length c.as_slice.ensures.value ∙ c.args.next.dated

pub take_configuration-requires-clause-in_range : goal.take_configuration-requires-clause-in_range
take_configuration-requires-clause-in_range g c =
    subst (All (λ date. date ≤ 4102444799)) (sym c.as_slice.ensures.value) (λ k d within. ∥∥₁_elim c.args.next.in_range (search props) (λ all. all k d within))

pub invariant_of-self : goal.invariant_of-self
unfolding book_in
invariant_of-self g c =
    let k = c.args.self.now in
    let next = c.args.next in
    let old = state g.S.Store k.conn in
    let new = state g.S.Store c.take_configuration.new.conn in (
    record {
      idle = c.take_configuration.ensures.idle;
      in_range = next.in_range;
      kept = λ clean up.
          let early : HasCleanDisk old = omega (arith, c.take_configuration.ensures.crash.clean, clean) in
          let was_open = (c.in-Ok.ensures.open clean).0 in
          let sound = c.requires.sound early was_open in
          ∥∥₁_map (k.kept early was_open) (λ was.
          subst (λ d. KeepsArchive new.committed next.config k.judged.items (shown_in next.config.suites (tables_in new.committed)) d) c.as_slice.ensures.value
          (kept_here new.committed (c.in-Ok.ensures.done clean _ _ _ _ was sound.moved sound.kept).kept));
      under_way = λ clean up.
          let early : HasCleanDisk old = omega (arith, c.take_configuration.ensures.crash.clean, clean) in
          let was_open = (c.in-Ok.ensures.open clean).0 in
          ∥∥₁_elim (k.kept early was_open) (hlevel props) (λ was.
          ∥∥₁_map (k.under_way early was_open) (beside_under old.committed new.committed k.begun (c.in-Ok.ensures.beside clean _ _ _ _ was)));
      at_hand = λ clean up.
          let early : HasCleanDisk old = omega (arith, c.take_configuration.ensures.crash.clean, clean) in
          let was_open = (c.in-Ok.ensures.open clean).0 in
          let sound = c.requires.sound early was_open in
          ∥∥₁_map (k.kept early was_open) (λ was. sym (shown_here new.committed (c.in-Ok.ensures.done clean _ _ _ _ was sound.moved sound.kept).kept));
      known = λ clean up. ∣ none_known _ _ _ c.clear.new.self.items c.clear.ensures.items ∣₁;
    }
    )

pub invariant_of-self-in-Err-1 : goal.invariant_of-self-in-Err-1
invariant_of-self-in-Err-1 g c =
    let k = c.args.self.now in
    let old = state g.S.Store k.conn in
    let new = state g.S.Store c.take_configuration.new.conn in (
    record {
      idle = c.take_configuration.ensures.idle;
      in_range = k.in_range;
      kept = λ clean up.
          let early : HasCleanDisk old = omega (arith, c.take_configuration.ensures.crash.clean, clean) in
          undone_kept (λ db. ∥ KeepsArchive db k.config k.judged.items (shown_in k.config.suites (tables_in db)) k.dates.items ∥₁) old new (c.in-Err.ensures.undone clean) (k.kept early) up;
      under_way = λ clean up.
          let early : HasCleanDisk old = omega (arith, c.take_configuration.ensures.crash.clean, clean) in
          undone_under old new k.begun (c.in-Err.ensures.undone clean) (k.under_way early) up;
      at_hand = λ clean up.
          let early : HasCleanDisk old = omega (arith, c.take_configuration.ensures.crash.clean, clean) in
          undone_kept (λ db. ∥ AreAtHand k.config db k.spare ∥₁) old new (c.in-Err.ensures.undone clean) (k.at_hand early) up;
      known = λ clean up.
          let early : HasCleanDisk old = omega (arith, c.take_configuration.ensures.crash.clean, clean) in
          undone_kept (λ db. ∥ AreKnown k.config (shown_in k.config.suites (tables_in db)) k.dates.items k.prints.items ∥₁) old new (c.in-Err.ensures.undone clean) (k.known early) up;
    }
    )

pub returns-in-Ok-clause-endures : goal.returns-in-Ok-clause-endures
returns-in-Ok-clause-endures g c =
    let left = c.take_configuration.ensures.crash in
    record {
      clean = λ clean. let early : HasCleanDisk (state g.S.Store c.args.self.now.conn) = omega (arith, left.clean, clean) in early;
      counts = left.counts;
      was_open = λ clean up. (c.in-Ok.ensures.open clean).0;
      stays = left.closes;
    }

pub returns-in-Err-clause-endures : goal.returns-in-Err-clause-endures
returns-in-Err-clause-endures g c =
    let left = c.take_configuration.ensures.crash in
    record {
      clean = λ clean. let early : HasCleanDisk (state g.S.Store c.args.self.now.conn) = omega (arith, left.clean, clean) in early;
      counts = left.counts;
      was_open = λ clean up. (c.in-Err.ensures.undone clean).was_open up;
      stays = left.closes;
    }

pub returns-in-Ok-clause-served : goal.returns-in-Ok-clause-served
returns-in-Ok-clause-served g c clean = (c.in-Ok.ensures.open clean).1

pub returns-in-Ok-clause-ok : goal.returns-in-Ok-clause-ok
unfolding book_in
returns-in-Ok-clause-ok g c clean =
    let k = c.args.self.now in
    let next = c.args.next in
    let old = state g.S.Store k.conn in
    let new = state g.S.Store c.take_configuration.new.conn in
    let early : HasCleanDisk old = omega (arith, c.take_configuration.ensures.crash.clean, clean) in
    let was_open = (c.in-Ok.ensures.open clean).0 in
    let sound = c.requires.sound early was_open in
    ∥∥₁_elim (k.kept early was_open) (book_set _ _) (λ was.
    configured_here old.committed new.committed
    (subst (λ d. Reconfigures old.committed new.committed k.config next.config k.judged.items (shown_in k.config.suites (tables_in old.committed)) k.dates.items next.shelves d) c.as_slice.ensures.value
    (c.in-Ok.ensures.done clean _ _ _ _ was sound.moved sound.kept)))

pub returns-in-Err-clause-err : goal.returns-in-Err-clause-err
returns-in-Err-clause-err g c clean up =
    let k = c.args.self.now in
    ap (λ db. book_in_database db k.config k.judged.items (shown_in k.config.suites (tables_in db)) k.dates.items) ((c.in-Err.ensures.undone clean).committed up)

pub returns-in-Ok-clause-crash : goal.returns-in-Ok-clause-crash
unfolding book_in
returns-in-Ok-clause-crash g c clean left might =
    let k = c.args.self.now in
    let next = c.args.next in
    let old = state g.S.Store k.conn in
    let early : HasCleanDisk old = omega (arith, c.take_configuration.ensures.crash.clean, clean) in
    elim (c.take_configuration.ensures.crash.crash clean might.0 might.1) [
      | inl before ↦ inl (might.0, before, might.2)
      | inr new ↦ inr (
        new.2,
        ∥∥₁_elim (k.kept early new.2) (left_set _ _) (λ was.
            configured_left old.committed new.0
            (subst (λ d. Reconfigures old.committed new.0 k.config next.config k.judged.items (shown_in k.config.suites (tables_in old.committed)) k.dates.items next.shelves d) c.as_slice.ensures.value
            (new.3 _ _ _ _ was (c.requires.sound early new.2).moved (c.requires.sound early new.2).kept)) might.0 new.1 left might.2),
      )
    ]

pub returns-in-Err-clause-crash : goal.returns-in-Err-clause-crash
unfolding book_in
returns-in-Err-clause-crash g c clean left might =
    let k = c.args.self.now in
    let next = c.args.next in
    let old = state g.S.Store k.conn in
    let early : HasCleanDisk old = omega (arith, c.take_configuration.ensures.crash.clean, clean) in
    elim (c.take_configuration.ensures.crash.crash clean might.0 might.1) [
      | inl before ↦ inl (might.0, before, might.2)
      | inr new ↦ inr (
        new.2,
        ∥∥₁_elim (k.kept early new.2) (left_set _ _) (λ was.
            configured_left old.committed new.0
            (subst (λ d. Reconfigures old.committed new.0 k.config next.config k.judged.items (shown_in k.config.suites (tables_in old.committed)) k.dates.items next.shelves d) c.as_slice.ensures.value
            (new.3 _ _ _ _ was (c.requires.sound early new.2).moved (c.requires.sound early new.2).kept)) might.0 new.1 left might.2),
      )
    ]
