use Rattle.std.proofs.Common.{◌↔◌, [], IsTrue, sym, ap, subst, ◌∙◌}
use Rattle.tables_read.specs.All.{tables_with}
use Rattle.tables_audit.specs.Parts.{UploadsFit}
use Rattle.old_book.specs.Settling.{unjudged, unjudged_uploads}
use Rattle.old_book.proofs.BookLemmas.{listed_in}
use Rattle.old_book.proofs.listed.are_listed.Goals as goal

pub returns-clause-fit : goal.returns-clause-fit
returns-clause-fit c keys bodies =
    let t = tables_with c.args.all.now in
    subst (λ b. IsTrue b ↔ UploadsFit (unjudged t) []) (sym c.is_some.ensures)
    (listed_in t c.replace-uploads.new.dest.items (λ j. j.items) c.in_ok-judged.judged (ap (λ v. v.items) c.replace-uploads.ensures.after ∙ c.in_ok-waiting.ensures ∙ ap unjudged_uploads c.deref.ensures.value) c.in_ok-judged.ensures.some c.in_ok-judged.ensures.none keys bodies)
