use Rattle.std.proofs.Common.{ap, ◌∙◌}
use Rattle.std.specs.List.{flat_map}
use Rattle.tables.specs.declared.rows.Piece.{Piece}
use Rattle.tables_meaning.specs.Kept.{bytes_of, piece_order}
use Rattle.tables_meaning.specs.Reads.{sorted_by}
use Rattle.tables_bodies.proofs.reading.read_body.Goals as goal

pub returns-clause-ok : goal.returns-clause-ok
unfolding bytes_of
returns-clause-ok g c clean t was =
    let read = c.in_ok-pieces_of.ensures.ok clean t was in
    (c.in_ok-joined.ensures ∙ ap (flat_map (λ (p : Piece). p.bytes)) (c.deref.ensures.value ∙ c.in_ok-pieces.ensures ∙ ap (sorted_by piece_order) read.0), read.1)
