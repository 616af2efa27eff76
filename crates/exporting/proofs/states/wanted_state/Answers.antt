use Rattle.std.proofs.Common.{ap, ◌∙◌}
use Rattle.exported.specs.Names.{state_name}
use Rattle.exporting.proofs.states.wanted_state.Goals as goal

pub returns-clause-named : goal.returns-clause-named
returns-clause-named g c = record {
  release = c.in_ok-release.release.items;
  fetched = c.in_ok-release.ensures.body;
  named = c.in_ok-state_name.ensures ∙ ap (state_name c.args.codename.now) c.deref.ensures.value;
}
