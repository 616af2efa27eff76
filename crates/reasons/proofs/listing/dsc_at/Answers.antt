use Rattle.std.proofs.Common.{rules}
use Rattle.std.proofs.lemmas.Iterator.{YieldsList-from_slice}
use Rattle.std.proofs.lemmas.Iterator.Consumers.{YieldsList-from_filter, nth_from_yields_List}
use Rattle.std.specs.Prelude.{codes}
use Rattle.suites.specs.Upload.{has_suffix}
use Rattle.reasons.proofs.listing.dsc_at.Goals as goal

pub returns : goal.returns
returns c =
    nth_from_yields_List c.nth.result _ c.args.place c.nth.ensures.ran
    (YieldsList-from_filter _ (λ e. has_suffix (codes ".dsc") e.name) (YieldsList-from_slice c.args.entries.now (cc)) c.filter.ensures.closure (λ x r q k. search rules))
