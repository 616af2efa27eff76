use Rattle.std.proofs.Common.{rules, arith}
use Rattle.std.specs.Prelude.{nat_lt}
use Rattle.std.proofs.lemmas.Bool.Decides.{nat_tests}
use Rattle.std.proofs.lemmas.List.Sorted.{IsPartitionPoint-from_clause, IsPartitionedBy-ltb}
use Rattle.tables_audit.proofs.keyed.count_below.Goals as goal

pub returns-clause-parted : goal.returns-clause-parted
returns-clause-parted g c =
    let id = c.args.id in
    let rows = c.args.rows.now in
    let point = IsPartitionPoint-from_clause (λ x. nat_lt (g.T.Keyed.key_of x) id) rows c.partition_point.result c.partition_point.ensures.partitioned
    (IsPartitionedBy-ltb g.T.Keyed.key_of rows id c.requires) (λ a r q k. search rules) in
    (λ k d from within. let e = point.0 k d from within in grind (arith, nat_tests), λ k d from within. let e = point.1 k d from within in grind (arith, nat_tests))
