use Rattle.std.proofs.Common.{◌≡◌, ◌++◌, Bool, true, false, filter_map, Some, None, if◌then◌else◌, sym, ap, ◌∙◌}
use Rattle.std.specs.List.{list_all}
use Rattle.std.specs.FinMap.{entries}
use Rattle.std.proofs.lemmas.List.{append-nil}
use Rattle.suites.specs.Moved.{all_stay, moved_entry, stays_kept}
use Rattle.suites.specs.declared.item.Item.{Item}
use Rattle.suites.specs.declared.key.ShelfKey.{ShelfKey}
use Rattle.suites.proofs.MovedLoops.{not_all, stays_not}
use Rattle.suites.proofs.moving.moved_entries.Goals as goal

pub returns-in_default : goal.returns-in_default
unfolding all_stay
returns-in_default c =
    let es = filter_map (moved_entry c.args.old.now c.args.new.now) (entries c.args.shelves.now) in
    let e : ShelfKey × Item = (c.in-Some.key.now, c.in-Some.item.now) in
    let not = stays_not c.args.old.now c.args.new.now e (sym c.in_default.is ∙ c.in_ok-key.ensures) in
    let all : list_all (stays_kept c.args.old.now c.args.new.now) (entries c.args.shelves.now) ≡ false =
    sym c.loop-key.invariant.stay ∙ ap (list_all (stays_kept c.args.old.now c.args.new.now)) c.in-Some.ensures.steps
    ∙ not_all (stays_kept c.args.old.now c.args.new.now) e c.next.new.self not in
    ap (λ (b : Bool). if b then Some es else None) (sym all)

pub returns : goal.returns
unfolding all_stay
returns c =
    let es = filter_map (moved_entry c.args.old.now c.args.new.now) (entries c.args.shelves.now) in
    let end = c.in-None.ensures.steps.0 in
    let all : list_all (stays_kept c.args.old.now c.args.new.now) (entries c.args.shelves.now) ≡ true =
    sym c.loop-key.invariant.stay ∙ ap (list_all (stays_kept c.args.old.now c.args.new.now)) end in
    let got : c.loop-key.moved.items ≡ es =
    sym (append-nil c.loop-key.moved.items) ∙ ap (λ es. c.loop-key.moved.items ++ filter_map (moved_entry c.args.old.now c.args.new.now) es) (sym end) ∙ c.loop-key.invariant.so_far in
    ap Some got ∙ ap (λ (b : Bool). if b then Some es else None) (sym all)
