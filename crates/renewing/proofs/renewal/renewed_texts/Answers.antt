use Rattle.std.proofs.Common.{◌≡◌, Ok, sym, subst}
use Rattle.std.proofs.lemmas.Result.{IfOk-weaker}
use Rattle.book.specs.Book.{amended}
use Rattle.book.specs.Keeping.{AreRenewed}
use Rattle.rules.specs.Configuration.{config_in}
use Rattle.rules.specs.Values.{ConfigValue}
use Rattle.renewing.proofs.Renewed.{all_renewed}
use Rattle.renewing.proofs.renewal.renewed_texts.Goals as goal

pub returns-clause-renewed : goal.returns-clause-renewed
returns-clause-renewed g c clean =
    let book = g.K.Keeper.book c.args.keeper.now in
    let read : config_in book.config.text ≡ Ok book.config = subst (λ (v : ConfigValue). config_in v.text ≡ Ok v) c.config.ensures c.text.ensures.read in
    IfOk-weaker c.renewed_suites.result _ _ (λ texts is change at_moment with_steps sound after.
    subst (AreRenewed book (amended book change)) (sym is) (all_renewed book c.args.steps.now c.args.moment c.args.shelves.now change read sound after at_moment with_steps))
    (c.renewed_suites.ensures.texts clean)
