use Rattle.std.proofs.Common.{◌∙◌, sym, rules}
use Rattle.std.proofs.lemmas.Iterator.{YieldsList-from_slice}
use Rattle.std.proofs.lemmas.Iterator.Search.{all_from_yields_List}
use Rattle.std.proofs.lemmas.List.Folds.{list_all-map}
use Rattle.suites.specs.Verdict.{is_package_part}
use Rattle.suites.proofs.listing.has_package_parts_only.Goals as goal

pub returns : goal.returns
returns c =
    all_from_yields_List (λ e. is_package_part e.name) _ _ _ c.all.ensures.ran (YieldsList-from_slice c.args.entries.now c.iter.ensures.rest) (λ x b q k. search rules)
    ∙ sym (list_all-map is_package_part (λ e. e.name) c.args.entries.now)
