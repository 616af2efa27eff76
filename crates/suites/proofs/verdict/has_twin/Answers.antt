use Rattle.std.proofs.Common.{◌∙◌, sym, rules}
use Rattle.std.proofs.lemmas.Iterator.{YieldsList-from_slice}
use Rattle.std.proofs.lemmas.Iterator.Search.{any_from_yields_List}
use Rattle.sums.proofs.Words.{list_any-map}
use Rattle.suites.specs.Verdict.{is_same_package}
use Rattle.suites.proofs.verdict.has_twin.Goals as goal

pub returns : goal.returns
returns c =
    any_from_yields_List (λ b. is_same_package c.args.binary.now.sidecar b.sidecar) _ _ _ c.any.ensures.ran (YieldsList-from_slice c.args.others.now c.iter.ensures.rest) (λ x b q k. search rules)
    ∙ sym (list_any-map (λ b. b.sidecar) (is_same_package c.args.binary.now.sidecar) c.args.others.now)
