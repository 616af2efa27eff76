use Rattle.std.proofs.Common.{◌≡◌, List, Option, Some, [], length, get_or, slice_get, refl, sym, ap, ◌∙◌}
use Rattle.std.specs.Option.{option_map_or}
use Rattle.std.proofs.lemmas.Option.{slice_get_read}
use Rattle.std.proofs.lemmas.Result.{IfOk-weaker}
use Rattle.rules.specs.declared.suite.Suite.{Suite}
use Rattle.indices.specs.Release.{indices_of}
use Rattle.indices.specs.Positions.{indices_at}
use Rattle.texts.proofs.index.indices_of.Goals as goal

pub returns : goal.returns
unfolding indices_at
returns c =
    let suites : List Suite = c.args.config.now.suites in
    let suite : Suite = c.index-suites-suite.result in
    let found : slice_get suites c.args.suite ≡ Some suite =
    slice_get_read suites (length suites) c.args.suite suite refl c.requires (c.index-suites-suite.is ∙ ap (λ (ss : List Suite). get_or ss c.args.suite suite) c.suites.ensures) in
    IfOk-weaker c.listed_indices.result _ _ (λ _ e. e
    ∙ ap (λ (o : Option Suite). option_map_or (λ s. indices_of s c.args.shelves.now c.args.suite) o []) (sym found)) c.listed_indices.ensures
