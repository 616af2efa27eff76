-- What definitions see of reports and of the copies of a promotion.
use Rattle.std.specs.Prelude.{ℕ, List, map, Option, string_bytes}
use Rattle.history.specs.declared.command.Report.{Report}
use Rattle.history.specs.declared.command.SourceCopy.{SourceCopy}

abbrev pub lines_of : Report → List (List ℕ)
lines_of report = map string_bytes report.lines.items

-- a source package of a promotion, and how many items are new
abbrev pub copy_of : SourceCopy → List ℕ × Option ℕ
copy_of copy = (string_bytes copy.source, copy.items)
