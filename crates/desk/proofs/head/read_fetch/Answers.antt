use Rattle.std.proofs.Common.{arith}
use Rattle.std.proofs.lemmas.Str.{IsCharBoundary-after_ascii}
use Rattle.desk.proofs.FieldLemmas.{first_slash, path_some}
use Rattle.desk.proofs.head.read_fetch.Goals as goal

pub range_from-requires : goal.range_from-requires
range_from-requires c =
    let first = first_slash c.args.target.now c.requires in
    λ h. IsCharBoundary-after_ascii c.args.target.now 0 c.utf8.target (path_some c.args.target.now c.requires) (omega arith)
