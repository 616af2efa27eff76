use Rattle.std.proofs.Common.{refl, sym, ◌∙◌}
use Rattle.std.specs.Map.Iter.{deref_pair}
use Rattle.suites.specs.Plan.{is_of_source}
use Rattle.indices.proofs.Listing.{shown_more}
use Rattle.history.specs.Copies.{shows_source}
use Rattle.history.proofs.CopyShown.{none_more, none_shown, some_shown}
use Rattle.history.proofs.copy.shows_source.Goals as goal

pub loop-key-init : goal.loop-key-init
loop-key-init c = record {
  none = refl;
  rest = c.into_iter-key-iterator.ensures.into_iter_gives.0 ∙ c.items-key-items.ensures;
}

pub loop-key-preserved : goal.loop-key-preserved
loop-key-preserved c = record {
  none = none_more deref_pair (is_of_source c.args.suite c.args.source.now) c.loop-key.yielded (c.in-Some.key, c.in-Some.item) c.loop-key.invariant.none (sym c.is_of_source.ensures ∙ c.if-is_of_source.false);
  rest = shown_more deref_pair c.loop-key.yielded (c.in-Some.key, c.in-Some.item) _ _ _ c.in-Some.ensures.steps c.loop-key.invariant.rest;
}

pub returns-then-is_of_source : goal.returns-then-is_of_source
unfolding shows_source
returns-then-is_of_source c =
    sym (some_shown deref_pair (is_of_source c.args.suite c.args.source.now) c.loop-key.yielded (c.in-Some.key, c.in-Some.item) _ _ _ c.in-Some.ensures.steps
    c.loop-key.invariant.rest (sym c.is_of_source.ensures ∙ c.if-is_of_source.true))

pub returns : goal.returns
unfolding shows_source
returns c = sym (none_shown deref_pair (is_of_source c.args.suite c.args.source.now) c.loop-key.yielded c.loop-key.key-iterator _ c.in-None.ensures.steps.0 c.loop-key.invariant.rest c.loop-key.invariant.none)
