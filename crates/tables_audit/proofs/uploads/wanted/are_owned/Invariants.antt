use Rattle.std.proofs.Common.{◌↔◌, ◌&&◌, All, IsTrue, drop, nat_eq, not}
use Rattle.std.specs.List.{list_any}
use Rattle.tables.specs.Rows.{rows_of}
use Rattle.tables.specs.Uploads.{is_judged as has_place}
use Rattle.tables_audit.proofs.uploads.wanted.are_owned.Given as goal

abbrev pub invariant-loop-want : goal.invariant-loop-want
invariant-loop-want l = All (λ w. IsTrue (list_any (λ x. nat_eq x.0 w.upload && not (has_place x.1)) l.uploads.all.now)) (rows_of l.wants)
    ↔ All (λ w. IsTrue (list_any (λ x. nat_eq x.0 w.upload && not (has_place x.1)) l.uploads.all.now)) (rows_of (drop l.want-index l.wants))
