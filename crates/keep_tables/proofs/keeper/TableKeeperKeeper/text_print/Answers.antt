use Rattle.std.proofs.Common.{◌≡◌, find, IfSome, Some, refl, sym, ap, subst, ◌∙◌}
use Rattle.std.proofs.Math.Logic.{∥∥₁_elim, ∥∥₁_map}
use Rattle.std.proofs.Props.{props}
use Rattle.std.specs.Option.{option_map}
use Rattle.sqlite.specs.Held.{state}
use Rattle.sums.specs.Prints.{print as print_of}
use Rattle.indices.specs.Indices.{index_text}
use Rattle.tables.specs.Rows.{tables_in}
use Rattle.tables_meaning.specs.Kept.{book_in}
use Rattle.tables_meaning.specs.Shown.{shown_in}
use Rattle.tables_bodies.specs.UnderWay.{IsUnderWay}
use Rattle.tables_meaning.proofs.KeeperReads.{left_before, same_after, still, still_committed, still_kept, was_archive, was_kept}
use Rattle.keep_tables.specs.AtHand.{AreAtHand, AreKnown, is_print_of}
use Rattle.tables_audit.specs.declared.text_print.TextPrint.{TextPrint}
use Rattle.keep_tables.proofs.AtHandLemmas.{known_is, noted_known}
use Rattle.keep_tables.proofs.keeper.TableKeeperKeeper.text_print.Goals as goal

pub invariant_of-self : goal.invariant_of-self
unfolding book_in
invariant_of-self g c =
    let k = c.args.self.now in
    let old = state g.S.Store k.conn in
    let new = state g.S.Store c.read_print.new.conn in
    let shown = shown_in k.config.suites (tables_in old.committed) in
    let path = c.args.path.now in
    let read = c.read_print.ensures.read in
    let found = c.known_print-known.ensures ∙ ap (λ ps. option_map (λ (p : TextPrint). p.print) (find (is_print_of path) ps)) c.deref.ensures.value in
    record {
      idle = c.read_print.ensures.idle;
      in_range = k.in_range;
      kept = still_kept old new read k.kept;
      under_way = still old new read k.kept (λ db. ∥ IsUnderWay (tables_in db) k.begun ∥₁) k.under_way;
      at_hand = still old new read k.kept (λ db. ∥ AreAtHand k.config db k.spare ∥₁) k.at_hand;
      known = λ clean up. ∥∥₁_elim (k.kept (read.clean clean) (read.was_open clean up)) (hlevel props) (λ was. ∥∥₁_map (k.known (read.clean clean) (read.was_open clean up)) (λ known.
          let is = c.in-Ok.ensures.print clean _ _ _ _ was
          (subst (λ o. IfSome o (λ q. option_map print_of (index_text k.config shown k.dates.items path) ≡ Some q)) (sym found) (known_is k.config shown k.dates.items k.prints.items path known)) in
          subst (λ db. AreKnown k.config (shown_in k.config.suites (tables_in db)) k.dates.items c.note_print.new.prints.items) (sym (still_committed old new read k.kept clean up))
          (noted_known k.config shown k.dates.items k.prints.items c.note_print.new.prints.items path c.in-Ok.print c.note_print.ensures is known)));
    }

pub invariant_of-self-in-Err-1 : goal.invariant_of-self-in-Err-1
invariant_of-self-in-Err-1 g c =
    let k = c.args.self.now in
    let old = state g.S.Store k.conn in
    let new = state g.S.Store c.read_print.new.conn in
    let read = c.read_print.ensures.read in
    record {
      idle = c.read_print.ensures.idle;
      in_range = k.in_range;
      kept = still_kept old new read k.kept;
      under_way = still old new read k.kept (λ db. ∥ IsUnderWay (tables_in db) k.begun ∥₁) k.under_way;
      at_hand = still old new read k.kept (λ db. ∥ AreAtHand k.config db k.spare ∥₁) k.at_hand;
      known = still old new read k.kept (λ db. ∥ AreKnown k.config (shown_in k.config.suites (tables_in db)) k.dates.items k.prints.items ∥₁) k.known;
    }

pub returns-in-Ok-clause-served : goal.returns-in-Ok-clause-served
returns-in-Ok-clause-served g c clean = c.in-Ok.ensures.open clean (was_archive (state g.S.Store c.args.self.now.conn) (state g.S.Store c.read_print.new.conn) c.read_print.ensures.read c.args.self.now.kept clean)

pub returns-in-Ok-clause-print : goal.returns-in-Ok-clause-print
unfolding book_in
returns-in-Ok-clause-print g c clean =
    let k = c.args.self.now in
    let old = state g.S.Store k.conn in
    let shown = shown_in k.config.suites (tables_in old.committed) in
    let path = c.args.path.now in
    let read = c.read_print.ensures.read in
    let found = c.known_print-known.ensures ∙ ap (λ ps. option_map (λ (p : TextPrint). p.print) (find (is_print_of path) ps)) c.deref.ensures.value in
    let up = returns-in-Ok-clause-served g c clean in
    ∥∥₁_elim (was_kept old (state g.S.Store c.read_print.new.conn) read k.kept clean up) (hlevel props) (λ was. ∥∥₁_elim (k.known (read.clean clean) (read.was_open clean up)) (hlevel props) (λ known.
    c.in-Ok.ensures.print clean _ _ _ _ was
    (subst (λ o. IfSome o (λ q. option_map print_of (index_text k.config shown k.dates.items path) ≡ Some q)) (sym found) (known_is k.config shown k.dates.items k.prints.items path known))))

pub returns-in-Ok-clause-reads : goal.returns-in-Ok-clause-reads
unfolding book_in
returns-in-Ok-clause-reads g c =
    let old = state g.S.Store c.args.self.now.conn in
    let new = state g.S.Store c.read_print.new.conn in
    let read = c.read_print.ensures.read in
    let kept = c.args.self.now.kept in
    record {
      lasts = record { clean = read.clean; counts = read.counts; was_open = read.was_open; stays = read.closes; config = refl };
      same = same_after old new read kept;
      crash = left_before old new read kept;
    }

pub returns-in-Err-clause-reads : goal.returns-in-Err-clause-reads
unfolding book_in
returns-in-Err-clause-reads g c =
    let old = state g.S.Store c.args.self.now.conn in
    let new = state g.S.Store c.read_print.new.conn in
    let read = c.read_print.ensures.read in
    let kept = c.args.self.now.kept in
    record {
      lasts = record { clean = read.clean; counts = read.counts; was_open = read.was_open; stays = read.closes; config = refl };
      same = same_after old new read kept;
      crash = left_before old new read kept;
    }
