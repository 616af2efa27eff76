use Rattle.std.proofs.Common.{◌≡◌, ◌++◌, List, Some, length, get_or, slice_get, refl, ap, ◌∙◌}
use Rattle.std.proofs.lemmas.Option.{slice_get_read}
use Rattle.std.proofs.lemmas.Result.{on_ok_weaker}
use Rattle.book.specs.Book.{text_at}
use Rattle.rules.specs.Values.{ConfigValue}
use Rattle.rules.specs.declared.suite.Suite.{Suite}
use Rattle.renewing.proofs.RenewedSteps.{of_suite}
use Rattle.renewing.proofs.renewal.renew_suite.Goals as goal

pub returns-clause-texts : goal.returns-clause-texts
returns-clause-texts g c clean =
    let book = g.K.Keeper.book c.args.keeper.now in
    let suites : List Suite = book.config.suites in
    let suite : Suite = c.index-suites-suite.result in
    let all : c.suites.result.now ≡ suites = c.suites.ensures ∙ ap (λ (v : ConfigValue). v.suites) c.config.ensures in
    let at : slice_get suites c.args.suite ≡ Some suite =
    slice_get_read suites (length suites) c.args.suite suite refl c.requires.suite (c.index-suites-suite.is ∙ ap (λ (ss : List Suite). get_or ss c.args.suite suite) all) in
    on_ok_weaker c.renew_folder.result (λ more s here. more ∙ ap (λ texts. c.args.texts.now.items ++ texts)
    (of_suite (text_at book) c.args.amendment.now.shelves.now c.args.amendment.now.steps.now c.args.amendment.now.moment book.config c.args.suite c.in_ok-folder.folder s suite c.in_ok-folder.ensures at here))
    (c.renew_folder.ensures.texts clean)
