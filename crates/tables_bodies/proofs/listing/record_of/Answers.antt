use Rattle.std.proofs.Common.{sym, ◌∙◌}
use Rattle.tables_meaning.proofs.EndedLemmas.{listed_none, listed_some}
use Rattle.tables_bodies.proofs.listing.record_of.Goals as goal

pub returns-then-not-is_changes_name : goal.returns-then-not-is_changes_name
returns-then-not-is_changes_name c = listed_none c.args.name.now c.args.bytes.now (sym c.is_changes_name.ensures ∙ c.if-not-is_changes_name.true)

pub returns : goal.returns
returns c = listed_some c.args.name.now c.args.bytes.now c.in_ok-changes.changes (sym c.is_changes_name.ensures ∙ c.if-not-is_changes_name.false) c.in_ok-changes.ensures
