use Rattle.std.proofs.Common.{◌≡◌, ℕ, List, Option, Some, None, sym, ap, subst, ◌∙◌}
use Rattle.rules.specs.Values.{ConfigValue}
use Rattle.suites.specs.Upload.{UploadValue}
use Rattle.inquiry.specs.Reading.{kept_upload}
use Rattle.output.specs.Explaining.Judged.{IsAnswerOf}
use Rattle.telling.proofs.why.answer_on.Goals as goal

-- its files were cleaned
pub returns-in_default-clause-answer : goal.returns-in_default-clause-answer
returns-in_default-clause-answer g c clean =
    let book = g.K.Keeper.book c.args.keeper.now in
    let j = c.args.judgement.now in
    let none : None ≡ kept_upload book.arrivals j.name j.print =
    sym c.in_default.is ∙ c.in_ok-upload.ensures.upload clean ∙ ap (λ (name : List ℕ). kept_upload book.arrivals name j.print) c.as_str-name.ensures in
    subst (λ (found : Option UploadValue). IsAnswerOf book.config c.args.shelves.now found j.verdict c.cleaned.result) none
    (c.cleaned.ensures book.config c.args.shelves.now j.verdict)

-- it is there
pub returns-clause-answer : goal.returns-clause-answer
returns-clause-answer g c clean =
    let book = g.K.Keeper.book c.args.keeper.now in
    let j = c.args.judgement.now in
    let some : Some c.in-Some.upload ≡ kept_upload book.arrivals j.name j.print =
    sym c.in-Some.is ∙ c.in_ok-upload.ensures.upload clean ∙ ap (λ (name : List ℕ). kept_upload book.arrivals name j.print) c.as_str-name.ensures in
    let config : c.config.result.now ≡ book.config = c.config.ensures ∙ c.in_ok-upload.ensures.reads.lasts.config in
    subst (λ (found : Option UploadValue). IsAnswerOf book.config c.args.shelves.now found j.verdict c.in_ok-new.field-0) some
    (subst (λ (at : ConfigValue). IsAnswerOf at c.args.shelves.now (Some c.in-Some.upload) j.verdict c.in_ok-new.field-0) config c.in_ok-new.ensures)
