use Rattle.std.proofs.Common.{sym, true≢false, ◌∙◌, rules}
use Rattle.tables_audit.proofs.RecordedLemmas.{no_source, source_files}
use Rattle.tables_audit.proofs.as_recorded.source.is_source_of.Goals as goal

pub returns-then-not-has_columns : goal.returns-then-not-has_columns
returns-then-not-has_columns c = (λ yes. absurd (true≢false (sym yes)), λ h. absurd (no_source c.args.item.now c.args.dsc.now (sym c.has_columns.ensures ∙ c.if-not-has_columns.true) h))

pub returns : goal.returns
returns c = source_files c.args.item.now c.args.dsc.now _ c.are_same_files.result c.requires (sym c.has_columns.ensures ∙ c.if-not-has_columns.false) c.in_ok-files.ensures (search rules)
