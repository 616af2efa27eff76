use Rattle.std.proofs.Common.{◌∙◌, rules}
use Rattle.std.proofs.lemmas.Iterator.{YieldsList-from_slice}
use Rattle.std.proofs.lemmas.Iterator.Consumers.{YieldsList-from_filter, count_from_yields_List}
use Rattle.suites.specs.Upload.{has_suffix}
use Rattle.suites.proofs.Stems.{counted}
use Rattle.suites.proofs.listing.count_with.Goals as goal

pub returns : goal.returns
returns c =
    count_from_yields_List c.filter.result _ c.count.ensures.ran
    (YieldsList-from_filter _ (λ e. has_suffix c.args.ending.now e.name) (YieldsList-from_slice c.args.entries.now (cc)) c.filter.ensures.closure (λ x r q k. search rules))
    ∙ counted c.args.ending.now c.args.entries.now
