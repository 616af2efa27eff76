use Rattle.std.proofs.Common.{◌≡◌, All, None, IsTrue, ap, sym, subst, ◌∙◌}
use Rattle.std.specs.Prelude.{◌↔◌}
use Rattle.tables.specs.Rows.{rows_of}
use Rattle.tables_read.specs.All.{tables_with}
use Rattle.tables_meaning.specs.Kept.{bytes_of, pieces_of}
use Rattle.book.proofs.Finds.{none_is}
use Rattle.tables_audit.specs.Bodies.{AreInPieces}
use Rattle.tables_audit.proofs.BodiesLemmas.{their_body, views}
use Rattle.tables_audit.proofs.under_way.is_in_pieces.Goals as goal

pub returns : goal.returns
unfolding bytes_of
returns c =
    let id = c.args.row.now.0 in
    let t = tables_with c.args.pieces.now.all.now in
    let print = c.args.row.now.1.print in
    let none : print ≡ None = none_is print (sym c.is_some.ensures ∙ c.if-is_some.false) in
    let found : views c.deref.result.now ≡ pieces_of t id = ap views c.deref.ensures.value ∙ c.in_ok-found.ensures in
    let are = subst (λ ps. All (λ p. p.body ≡ id) ps → (IsTrue c.are_in_pieces.result ↔ AreInPieces id ps)) found (c.are_in_pieces.ensures id) (their_body id (rows_of t.pieces)) in
    (λ e is. are.0 e, λ fit. are.1 (fit none))
