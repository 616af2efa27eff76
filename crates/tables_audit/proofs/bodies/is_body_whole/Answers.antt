use Rattle.std.proofs.Common.{◌≡◌, All, Some, IsTrue, sym, ap, subst, ◌∙◌}
use Rattle.std.specs.Prelude.{◌↔◌}
use Rattle.std.proofs.lemmas.Bool.{false≢true}
use Rattle.std.proofs.lemmas.Option.{same_Some}
use Rattle.tables.specs.Rows.{rows_of}
use Rattle.tables_read.specs.All.{tables_with}
use Rattle.tables_meaning.specs.Kept.{bytes_of, pieces_of}
use Rattle.tables_audit.specs.Bodies.{ArePieces}
use Rattle.tables_audit.proofs.BodiesLemmas.{their_body, used_same, views}
use Rattle.tables_audit.proofs.bodies.is_body_whole.Goals as goal

pub returns-then-not-is_among : goal.returns-then-not-is_among
returns-then-not-is_among c = (
  λ e. absurd (false≢true e),
  λ fit. absurd (false≢true (sym c.if-not-is_among.true ∙ c.is_among.ensures
      ∙ used_same (tables_with c.args.pieces.now.all.now) c.args.used.now c.args.row.now.0 c.requires ∙ fit.used)),
)

pub returns : goal.returns
unfolding bytes_of
returns c =
    let id = c.args.row.now.0 in
    let t = tables_with c.args.pieces.now.all.now in
    let print = c.in-Some.print in
    let found : views c.deref.result.now ≡ pieces_of t id = ap views c.deref.ensures.value ∙ c.in_ok-found.ensures in
    let are = subst (λ ps. All (λ p. p.body ≡ id) ps → (IsTrue c.are_pieces_of.result ↔ ArePieces id print ps)) found (c.are_pieces_of.ensures id) (their_body id (rows_of t.pieces)) in
    let stored : c.args.row.now.1.print ≡ Some print = c.in-Some.is in (
      λ e.
          let all = are.0 e in
          record {
            whole = stored ∙ ap Some all.printed;
            pieces = all.pieces;
            used = sym (used_same t c.args.used.now id c.requires) ∙ sym c.is_among.ensures ∙ c.if-not-is_among.false;
          },
      λ fit. are.1 (record { printed = same_Some print _ (sym stored ∙ fit.whole); pieces = fit.pieces }),
    )
