use Rattle.std.proofs.Common.{IsTrue, ap, subst, sym, true≢false, ◌∙◌, rules}
use Rattle.std.specs.Prelude.{◌↔◌, ◌≡◌}
use Rattle.suites.specs.Told.{IsBinaryOf}
use Rattle.tables_audit.specs.Columns.{has_one_at}
use Rattle.tables_audit.proofs.RecordedLemmas.{no_binary, package_file}
use Rattle.tables_audit.proofs.as_recorded.binary.is_binary_of.Goals as goal

pub returns-then-not-has_columns : goal.returns-then-not-has_columns
returns-then-not-has_columns c = (λ yes. absurd (true≢false (sym yes)), λ h. absurd (no_binary c.args.item.now c.args.sidecar.now (sym c.has_columns.ensures ∙ c.if-not-has_columns.true) h))

pub returns : goal.returns
returns c =
    let files : c.as_slice.result.now ≡ c.args.item.now.files = search rules in
    subst (λ b. IsTrue b ↔ IsBinaryOf c.args.item.now c.args.sidecar.now) (sym (c.is_one_at.ensures ∙ ap (has_one_at c.as_str-2.result.now) files))
    (package_file c.args.item.now c.args.sidecar.now c.as_str-2.result.now c.requires (sym c.has_columns.ensures ∙ c.if-not-has_columns.false) (search rules))
