use Rattle.std.proofs.Common.{◌∙◌, sym, ◌||◌, rules}
use Rattle.std.proofs.lemmas.Iterator.{YieldsList-from_slice}
use Rattle.std.proofs.lemmas.Iterator.Search.{all_from_yields_List}
use Rattle.suites.specs.Verdict.{is_package_part, has_entry}
use Rattle.suites.proofs.ListTests.{list_all-filter_not}
use Rattle.suites.proofs.source.has_source_files.Goals as goal

pub returns : goal.returns
returns c =
    all_from_yields_List (λ e. is_package_part e.name || has_entry c.args.listed.now e) _ _ _ c.all.ensures.ran
    (YieldsList-from_slice c.args.entries.now c.iter.ensures.rest) (λ x b q k. search rules)
    ∙ sym (list_all-filter_not (has_entry c.args.listed.now) (λ e. is_package_part e.name) c.args.entries.now)
