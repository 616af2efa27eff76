use Rattle.std.proofs.Common.{◌≡◌, ◌&&◌, drop, nat_eq, not}
use Rattle.std.specs.List.{list_any}
use Rattle.tables.specs.Uploads.{is_judged as has_place}
use Rattle.tables_audit.proofs.uploads.wanted.is_owned.Given as goal

abbrev pub invariant-loop-id : goal.invariant-loop-id
invariant-loop-id l = list_any (λ x. nat_eq x.0 l.upload && not (has_place x.1)) (drop l.id-index l.uploads)
    ≡ list_any (λ x. nat_eq x.0 l.upload && not (has_place x.1)) l.uploads
