use Rattle.std.proofs.Common.{not, ap, ◌∙◌}
use Rattle.tables_meaning.proofs.SamePieces.{none_there}
use Rattle.tables_bodies.proofs.other.has_no_piece.Goals as goal

pub returns-clause-ok : goal.returns-clause-ok
returns-clause-ok g c clean t was =
    let read = c.in_ok-first.ensures.ok clean t was in
    (λ none. none_there t c.args.body c.in_ok-first.first read.0 (ap not (c.is_none.ensures ∙ ap not none)), read.1)
