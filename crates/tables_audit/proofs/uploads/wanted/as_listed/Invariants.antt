use Rattle.std.proofs.Common.{◌≡◌, map, take}
use Rattle.tables_audit.proofs.uploads.wanted.as_listed.Given as goal

-- the entries so far
abbrev pub invariant-loop-entry : goal.invariant-loop-entry
invariant-loop-entry l = map (λ e. e.now) l.listed.items ≡ take l.entry-index l.entries
