use Rattle.std.proofs.Common.{arith, option_map}
use Rattle.pages.specs.IndexPage.{key_value}
use Rattle.pages.proofs.Sections.{written_on, written_all}
use Rattle.pages.proofs.index.push_sections.Goals as goal

pub loop-position-preserved : goal.loop-position-preserved
loop-position-preserved c =
    written_on c.args.site c.args.shelves.now c.args.dates.now (option_map key_value c.args.key.now) c.args.suites.now c.loop-position.position
    c.index-suites-position.result _ _ _ (omega arith) c.index-suites-position.is c.in_ok-push_section.ensures c.loop-position.invariant

pub returns : goal.returns
returns c =
    written_all c.args.site c.args.shelves.now c.args.dates.now (option_map key_value c.args.key.now) c.args.suites.now c.loop-position.position
    _ _ (omega arith) c.loop-position.invariant
