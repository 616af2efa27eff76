use Rattle.std.proofs.Common.{◌≡◌, find, IfSome, Some, refl, sym, subst, ◌∙◌}
use Rattle.std.proofs.Math.Logic.{∥∥₁_elim}
use Rattle.std.proofs.Props.{props}
use Rattle.std.specs.Option.{option_map}
use Rattle.sqlite.specs.Held.{state}
use Rattle.sums.specs.Prints.{print as print_of}
use Rattle.indices.specs.Indices.{index_text}
use Rattle.tables_meaning.specs.Kept.{book_in}
use Rattle.tables.specs.Rows.{tables_in}
use Rattle.tables_bodies.specs.UnderWay.{IsUnderWay}
use Rattle.tables_meaning.proofs.KeeperReads.{left_before, same_after, still, still_kept, was_archive, was_kept}
use Rattle.tables_meaning.specs.Shown.{shown_in}
use Rattle.keep_tables.specs.AtHand.{AreAtHand, AreKnown, is_print_of}
use Rattle.tables_audit.specs.declared.text_print.TextPrint.{TextPrint}
use Rattle.keep_tables.proofs.AtHandLemmas.{known_is}
use Rattle.keep_tables.proofs.keeper.TableKeeperKeeper.keeps_text.Goals as goal

pub invariant_of-self : goal.invariant_of-self
invariant_of-self g c = record {
  idle = c.read_kept.ensures.idle;
  in_range = c.args.self.now.in_range;
  kept = still_kept (state g.S.Store c.args.self.now.conn) (state g.S.Store c.read_kept.new.conn) c.read_kept.ensures.read c.args.self.now.kept;
  under_way =
      still (state g.S.Store c.args.self.now.conn) (state g.S.Store c.read_kept.new.conn) c.read_kept.ensures.read c.args.self.now.kept
      (λ db. ∥ IsUnderWay (tables_in db) c.args.self.now.begun ∥₁) c.args.self.now.under_way;
  at_hand =
      still (state g.S.Store c.args.self.now.conn) (state g.S.Store c.read_kept.new.conn) c.read_kept.ensures.read c.args.self.now.kept
      (λ db. ∥ AreAtHand c.args.self.now.config db c.args.self.now.spare ∥₁) c.args.self.now.at_hand;
  known =
      still (state g.S.Store c.args.self.now.conn) (state g.S.Store c.read_kept.new.conn) c.read_kept.ensures.read c.args.self.now.kept
      (λ db. ∥ AreKnown c.args.self.now.config (shown_in c.args.self.now.config.suites (tables_in db)) c.args.self.now.dates.items c.args.self.now.prints.items ∥₁) c.args.self.now.known;
}

pub returns-in-Ok-clause-served : goal.returns-in-Ok-clause-served
returns-in-Ok-clause-served g c clean = c.in-Ok.ensures.open clean (was_archive (state g.S.Store c.args.self.now.conn) (state g.S.Store c.read_kept.new.conn) c.read_kept.ensures.read c.args.self.now.kept clean)

pub returns-in-Ok-clause-kept : goal.returns-in-Ok-clause-kept
unfolding book_in
returns-in-Ok-clause-kept g c clean =
    let k = c.args.self.now in
    let old = state g.S.Store k.conn in
    let shown = shown_in k.config.suites (tables_in old.committed) in
    let path = c.args.text.now.path in
    let read = c.read_kept.ensures.read in
    let found = c.known_print-known.ensures ∙ (λ i. option_map (λ (p : TextPrint). p.print) (find (is_print_of (c.as_str.ensures i)) (c.deref.ensures.value i))) in
    let up = returns-in-Ok-clause-served g c clean in
    ∥∥₁_elim (was_kept old (state g.S.Store c.read_kept.new.conn) read k.kept clean up) (hlevel props) (λ was. ∥∥₁_elim (k.known (read.clean clean) (read.was_open clean up)) (hlevel props) (λ known.
    c.in-Ok.ensures.kept clean _ _ _ _ was
    (subst (λ o. IfSome o (λ q. option_map print_of (index_text k.config shown k.dates.items path) ≡ Some q)) (sym found) (known_is k.config shown k.dates.items k.prints.items path known))))

pub returns-in-Ok-clause-reads : goal.returns-in-Ok-clause-reads
unfolding book_in
returns-in-Ok-clause-reads g c =
    let old = state g.S.Store c.args.self.now.conn in
    let new = state g.S.Store c.read_kept.new.conn in
    let read = c.read_kept.ensures.read in
    let kept = c.args.self.now.kept in
    record {
      lasts = record { clean = read.clean; counts = read.counts; was_open = read.was_open; stays = read.closes; config = refl };
      same = same_after old new read kept;
      crash = left_before old new read kept;
    }

pub returns-in-Err-clause-reads : goal.returns-in-Err-clause-reads
unfolding book_in
returns-in-Err-clause-reads g c =
    let old = state g.S.Store c.args.self.now.conn in
    let new = state g.S.Store c.read_kept.new.conn in
    let read = c.read_kept.ensures.read in
    let kept = c.args.self.now.kept in
    record {
      lasts = record { clean = read.clean; counts = read.counts; was_open = read.was_open; stays = read.closes; config = refl };
      same = same_after old new read kept;
      crash = left_before old new read kept;
    }
