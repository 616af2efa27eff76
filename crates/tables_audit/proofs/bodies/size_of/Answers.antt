use Rattle.std.proofs.Common.{filter, length, min, ap, ◌∙◌}
use Rattle.tables.specs.Pieces.{is_of}
use Rattle.tables.specs.Rows.{rows_of}
use Rattle.tables_meaning.specs.Kept.{bytes_of}
use Rattle.tables_audit.specs.Bodies.{bytes_in}
use Rattle.tables_audit.proofs.BodiesLemmas.{as_long}
use Rattle.tables_audit.proofs.bodies.size_of.Goals as goal

pub returns : goal.returns
unfolding bytes_of
returns c =
    c.count_of_bytes.ensures
    ∙ ap (λ ps. min (length (bytes_in ps)) 18446744073709551615) c.about.ensures
    ∙ ap (λ n. min n 18446744073709551615) (as_long (filter (is_of c.args.id) (rows_of c.args.pieces.now.all.now.pieces.items)))
