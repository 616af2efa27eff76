use Rattle.std.proofs.Common.{◌≡◌, ◌∙◌, [], sym, ap, rules, map, codes, get_or, Ok}
use Rattle.std.proofs.lemmas.Result.{err_from_is_err_and}
use Rattle.rules.specs.Paragraphs.{days, mebibytes, suite_of}
use Rattle.rules.specs.Configuration.{config_fault}
use Rattle.rules.proofs.Configs.{refused_text, refused_paragraphs, configured, configured_copy}
use Rattle.rules.proofs.config.Config.read.Goals as goal

pub returns-in_err-paragraphs-clause-refused : goal.returns-in_err-paragraphs-clause-refused
returns-in_err-paragraphs-clause-refused c =
    let p = err_from_is_err_and c.from_residual.result c.from_residual.ensures.1 in
    rw (p.1, p.2) (refused_text c.args.text.now _ c.in_err-paragraphs.ensures.refused)

pub returns-in_err-check-clause-refused : goal.returns-in_err-check-clause-refused
returns-in_err-check-clause-refused c =
    let p = err_from_is_err_and c.from_residual-in_err-check.result c.from_residual-in_err-check.ensures.1 in
    rw (p.1, p.2) (refused_paragraphs c.args.text.now c.deref.result.now _ (c.in_ok-paragraphs.ensures.read ∙ ap Ok (sym c.deref.ensures.value)) c.in_err-check.ensures.refused)

pub invariant_of-result : goal.invariant_of-result
invariant_of-result c =
    let copied : c.in_ok-text.text.items ≡ c.args.text.now = search rules in
    configured_copy c.args.text.now c.in_ok-text.text.items c.in_ok-paragraphs.paragraphs.items c.in_ok-suites.suites c.first_keep_days-keep_days.result c.first_file_size-max_file_size.result c.in_ok-paragraphs.ensures.read
    (ap config_fault (sym c.deref.ensures.value) ∙ c.in_ok-check.ensures.accepted) copied (c.in_ok-suites.ensures.found ∙ ap (λ ps. map suite_of ps) c.deref-2.ensures.value)
    (c.first_keep_days-keep_days.ensures ∙ ap (λ ps. days (codes "KeepDays") (get_or ps 0 [])) c.deref-3.ensures.value)
    (c.first_file_size-max_file_size.ensures ∙ ap (λ ps. mebibytes (codes "MaxFileSize") (get_or ps 0 [])) c.deref-4.ensures.value)

pub returns-clause-read : goal.returns-clause-read
returns-clause-read c =
    let copied : c.in_ok-text.text.items ≡ c.args.text.now = search rules in
    configured c.args.text.now c.in_ok-text.text.items c.in_ok-paragraphs.paragraphs.items c.in_ok-suites.suites c.first_keep_days-keep_days.result c.first_file_size-max_file_size.result c.in_ok-paragraphs.ensures.read
    (ap config_fault (sym c.deref.ensures.value) ∙ c.in_ok-check.ensures.accepted) copied (c.in_ok-suites.ensures.found ∙ ap (λ ps. map suite_of ps) c.deref-2.ensures.value)
    (c.first_keep_days-keep_days.ensures ∙ ap (λ ps. days (codes "KeepDays") (get_or ps 0 [])) c.deref-3.ensures.value)
    (c.first_file_size-max_file_size.ensures ∙ ap (λ ps. mebibytes (codes "MaxFileSize") (get_or ps 0 [])) c.deref-4.ensures.value)
