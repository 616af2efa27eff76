use Rattle.std.proofs.lemmas.Result.{IfOk-weaker}
use Rattle.std.proofs.Common.{sym, subst}
use Rattle.tables_meaning.specs.Coming.{IsSameAs}
use Rattle.tables_bodies.proofs.other.is_same.Goals as goal

pub returns-in-Some-clause-ok : goal.returns-in-Some-clause-ok
returns-in-Some-clause-ok g c clean t was =
    IfOk-weaker c.have_same_pieces.result _ _ (λ same h. (λ yes. subst (λ o. IsSameAs o c.args.pieces c.args.found t) (sym c.in-Some.is) (h.0 yes), h.1)) (c.have_same_pieces.ensures.ok clean t was)

pub returns-in-None-clause-ok : goal.returns-in-None-clause-ok
returns-in-None-clause-ok g c clean t was =
    IfOk-weaker c.has_no_piece.result _ _ (λ same h. (λ yes. subst (λ o. IsSameAs o c.args.pieces c.args.found t) (sym c.in-None.is) (h.0 yes), h.1)) (c.has_no_piece.ensures.ok clean t was)
