use Rattle.std.proofs.Common.{◌∙◌, not, ◌||◌, rules}
use Rattle.std.proofs.lemmas.Iterator.{YieldsList-from_slice}
use Rattle.std.proofs.lemmas.Iterator.Search.{all_from_yields_List}
use Rattle.records.specs.Records.{is_among}
use Rattle.suites.specs.Upload.{has_suffix, stem}
use Rattle.suites.specs.Verdict.{stems}
use Rattle.suites.proofs.Stems.{paired}
use Rattle.suites.proofs.listing.are_paired.Goals as goal

pub returns : goal.returns
returns c =
    all_from_yields_List (λ e. not (has_suffix c.args.ending.now e.name) || is_among (stems c.args.other.now c.args.entries.now) (stem c.args.ending.now e.name)) _ _ _ c.all.ensures.ran
    (YieldsList-from_slice c.args.entries.now c.iter.ensures.rest) (λ x b q k. search rules)
    ∙ paired c.args.ending.now c.args.other.now c.args.entries.now
