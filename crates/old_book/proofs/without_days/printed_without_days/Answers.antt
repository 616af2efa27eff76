use Rattle.std.proofs.Common.{◌++◌, Some, sym, ap, ap₂, ◌∙◌}
use Rattle.std.proofs.lemmas.Result.{err_from_is_err_and}
use Rattle.std.specs.List.{flat_map}
use Rattle.old_book.specs.Text.{other_text}
use Rattle.old_book.proofs.TextLemmas.{read_text, refused_text}
use Rattle.old_book.proofs.without_days.printed_without_days.Goals as goal

pub returns-in_err-paragraphs-clause-err : goal.returns-in_err-paragraphs-clause-err
returns-in_err-paragraphs-clause-err c =
    let p = err_from_is_err_and c.from_residual.result c.from_residual.ensures.1 in
    rw (p.1, p.2) (refused_text c.args.text.now _ c.in_err-paragraphs.ensures.refused)

pub returns-clause-ok : goal.returns-clause-ok
returns-clause-ok c =
    read_text c.args.text.now c.in_ok-paragraphs.paragraphs.items c.in_ok-paragraphs.ensures.read
    ∙ ap Some (sym (c.in_ok-write_paragraphs.ensures.ok ∙ ap₂ ◌++◌ c.new-out.ensures.items (ap (flat_map other_text) c.deref.ensures.value)))
