use Rattle.std.proofs.Common.{◌≡◌, [], filter, not, take}
use Rattle.tables.specs.Uploads.{is_judged as has_place}
use Rattle.tables_audit.proofs.uploads.wanted.have_places.Given as goal

-- each so far has one
abbrev pub invariant-loop-row : goal.invariant-loop-row
invariant-loop-row l = filter (λ x. not (has_place x.1)) (take l.row-index l.uploads) ≡ []
