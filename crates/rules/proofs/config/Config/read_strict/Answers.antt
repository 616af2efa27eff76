use Rattle.std.proofs.Common.{◌≡◌, ◌∙◌, sym, ap, Ok}
use Rattle.std.proofs.lemmas.Result.{err_from_is_err_and}
use Rattle.rules.specs.Configuration.{strict_fault}
use Rattle.rules.proofs.Configs.{refused_new_text, refused_new, read_alike}
use Rattle.rules.proofs.config.Config.read_strict.Goals as goal

pub returns-in_err-paragraphs-clause-refused : goal.returns-in_err-paragraphs-clause-refused
returns-in_err-paragraphs-clause-refused c =
    let p = err_from_is_err_and c.from_residual.result c.from_residual.ensures.1 in
    rw (p.1, p.2) (refused_new_text c.args.text.now _ c.in_err-paragraphs.ensures.refused)

pub returns-in_err-check_strictly-clause-refused : goal.returns-in_err-check_strictly-clause-refused
returns-in_err-check_strictly-clause-refused c =
    let p = err_from_is_err_and c.from_residual-in_err-check_strictly.result c.from_residual-in_err-check_strictly.ensures.1 in
    rw (p.1, p.2) (refused_new c.args.text.now c.deref.result.now _ (c.in_ok-paragraphs.ensures.read ∙ ap Ok (sym c.deref.ensures.value)) c.in_err-check_strictly.ensures.refused)

pub returns-clause-read : goal.returns-clause-read
returns-clause-read c =
    rw (read_alike c.args.text.now c.deref.result.now (c.in_ok-paragraphs.ensures.read ∙ ap Ok (sym c.deref.ensures.value)) c.in_ok-check_strictly.ensures.accepted)
    c.read.ensures.read

pub returns-clause-refused : goal.returns-clause-refused
returns-clause-refused c =
    rw (read_alike c.args.text.now c.deref.result.now (c.in_ok-paragraphs.ensures.read ∙ ap Ok (sym c.deref.ensures.value)) c.in_ok-check_strictly.ensures.accepted)
    c.read.ensures.refused
