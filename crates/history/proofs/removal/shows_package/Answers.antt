use Rattle.std.proofs.Common.{refl, sym, ◌∙◌}
use Rattle.std.specs.Map.Iter.{deref_pair}
use Rattle.suites.specs.Plan.{is_removed}
use Rattle.indices.proofs.Listing.{shown_more}
use Rattle.history.specs.Removals.{shows_package}
use Rattle.history.proofs.CopyShown.{none_more, none_shown, some_shown}
use Rattle.history.proofs.removal.shows_package.Goals as goal

pub loop-key-init : goal.loop-key-init
loop-key-init c = record {
  none = refl;
  rest = c.into_iter-key-iterator.ensures.into_iter_gives.0 ∙ c.items-key-items.ensures;
}

pub loop-key-preserved : goal.loop-key-preserved
loop-key-preserved c = record {
  none = none_more deref_pair (is_removed c.args.suite c.args.name.now) c.loop-key.yielded (c.in-Some.key, c.in-Some.item) c.loop-key.invariant.none (sym c.is_removed.ensures ∙ c.if-is_removed.false);
  rest = shown_more deref_pair c.loop-key.yielded (c.in-Some.key, c.in-Some.item) _ _ _ c.in-Some.ensures.steps c.loop-key.invariant.rest;
}

pub returns-then-is_removed : goal.returns-then-is_removed
unfolding shows_package
returns-then-is_removed c =
    sym (some_shown deref_pair (is_removed c.args.suite c.args.name.now) c.loop-key.yielded (c.in-Some.key, c.in-Some.item) _ _ _ c.in-Some.ensures.steps
    c.loop-key.invariant.rest (sym c.is_removed.ensures ∙ c.if-is_removed.true))

pub returns : goal.returns
unfolding shows_package
returns c = sym (none_shown deref_pair (is_removed c.args.suite c.args.name.now) c.loop-key.yielded c.loop-key.key-iterator _ c.in-None.ensures.steps.0 c.loop-key.invariant.rest c.loop-key.invariant.none)
