use Rattle.std.proofs.Common.{subst, inr}
use Rattle.std.proofs.lemmas.Result.{err_from_is_err_and}
use Rattle.sums.specs.Views.{IsSplit, lines_found}
use Rattle.sums.proofs.Splitting.{fault_found, all_split}
use Rattle.sums.proofs.lists.split_lists.Goals as goal

pub returns-in_err-check_failed : goal.returns-in_err-check_failed
returns-in_err-check_failed c =
    let found = c.args.found in
    let files = subst (λ f. IsSplit c.args.most c.in_ok-sha256.sha256.failed f (lines_found found).files c.in_ok-files.files.failed c.in_ok-files.files.lines.items) c.files_form.ensures c.in_ok-files.ensures in
    let p = err_from_is_err_and c.from_residual-in_err-check_failed.result c.from_residual-in_err-check_failed.ensures.1 in
    rw (p.1, p.2) (inr (fault_found c.args.most c.args.kind (lines_found found) c.in_ok-sha1.sha1.failed c.in_ok-sha256.sha256.failed c.in_ok-files.files.failed c.in_ok-sha1.sha1.lines.items c.in_ok-sha256.sha256.lines.items c.in_ok-files.files.lines.items c.in_err-check_failed.field-0.0
    (record { sha1 = c.in_ok-sha1.ensures; sha256 = c.in_ok-sha256.ensures; files = files }) c.in_err-check_failed.ensures))

pub returns : goal.returns
returns c =
    let found = c.args.found in
    let files = subst (λ f. IsSplit c.args.most c.in_ok-sha256.sha256.failed f (lines_found found).files c.in_ok-files.files.failed c.in_ok-files.files.lines.items) c.files_form.ensures c.in_ok-files.ensures in
    all_split c.args.most c.args.kind (lines_found found) c.in_ok-sha1.sha1.failed c.in_ok-sha256.sha256.failed c.in_ok-files.files.failed c.in_ok-sha1.sha1.lines.items c.in_ok-sha256.sha256.lines.items c.in_ok-files.files.lines.items
    (record { sha1 = c.in_ok-sha1.ensures; sha256 = c.in_ok-sha256.ensures; files = files }) c.in_ok-check_failed.ensures
