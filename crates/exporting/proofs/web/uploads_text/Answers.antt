use Rattle.std.proofs.Common.{◌≡◌, List, ap, ap₂, ◌∙◌}
use Rattle.book.specs.Book.{Book}
use Rattle.book.specs.declared.change.Judgement.{Judgement}
use Rattle.book.specs.declared.change.Waiting.{Waiting}
use Rattle.rules.specs.Values.{ConfigValue}
use Rattle.pages.specs.UploadsPage.{uploads_page}
use Rattle.pages.specs.declared.site.Site.TheVariants.{Tree}
use Rattle.exporting.proofs.web.uploads_text.Goals as goal

-- the page of other texts that are equal
one_page : (config other : ConfigValue) (waiting others : List Waiting) (judged changed : List Judgement) → config ≡ other → waiting ≡ others → judged ≡ changed
    → uploads_page Tree config waiting judged ≡ uploads_page Tree other others changed
one_page config other waiting others judged changed e f h =
    ap (λ (x : ConfigValue). uploads_page Tree x waiting judged) e ∙ ap₂ (uploads_page Tree other) f h

pub returns-clause-page : goal.returns-clause-page
returns-clause-page g c clean bodies apart have =
    let then = c.in_ok-judged.ensures.reads.lasts.clean clean in
    let before = c.in_ok-waiting.ensures.reads.same then (c.in_ok-waiting.ensures.served then) in
    let after = c.in_ok-judged.ensures.reads.same clean (c.in_ok-judged.ensures.served clean) in
    c.in_ok-uploads_page.ensures
    ∙ one_page _ _ _ _ _ _
    (c.config-config.ensures ∙ ap (λ (b : Book). b.config) (after ∙ before))
    (c.deref.ensures.value ∙ c.in_ok-waiting.ensures.waiting then bodies apart have)
    (c.deref-2.ensures.value ∙ c.in_ok-judged.ensures.verdicts clean
    ∙ ap (λ (b : Book). b.judged) before)
