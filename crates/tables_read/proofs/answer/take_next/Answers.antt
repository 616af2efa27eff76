use Rattle.std.proofs.Common.{option_copied, refl, sym, ap, ◌∙◌}
use Rattle.tables_read.proofs.StreamLemmas.{ended, lacking, stepped, stopped}
use Rattle.tables_read.proofs.answer.take_next.Goals as goal

pub returns-in_err-advance-clause-steps : goal.returns-in_err-advance-clause-steps
returns-in_err-advance-clause-steps g c =
    stopped g.S.Store g.T.Stored.layout g.T.Stored.is_real c.args.rows.now.conn.now c.advance.new.self.conn.now c.args.all.now.items c.args.all.now.items c.advance.ensures.mode c.advance.ensures.survives
    c.from_residual.result c.in_err-advance.field-0.0 c.from_residual.ensures.1 c.in_err-advance.ensures.err

pub returns-in_default-clause-steps : goal.returns-in_default-clause-steps
returns-in_default-clause-steps g c =
    ended g.S.Store g.T.Stored.layout g.T.Stored.is_real c.args.rows.now.conn.now c.advance.new.self.conn.now c.args.all.now.items c.args.all.now.items c.advance.ensures.mode c.advance.ensures.survives
    _ c.in_ok-advance.ensures.ok c.in_ok-advance.ensures.same (sym c.get.ensures ∙ ap option_copied c.in_default.is) refl

pub returns-in_err-taken-clause-steps : goal.returns-in_err-taken-clause-steps
returns-in_err-taken-clause-steps g c =
    lacking g.S.Store g.T.Stored.layout g.T.Stored.is_real c.args.rows.now.conn.now c.advance.new.self.conn.now c.args.all.now.items c.take_row.new.all.items c.advance.ensures.mode c.advance.ensures.survives
    _ c.in_ok-advance.ensures.ok c.in_ok-advance.ensures.same c.in-Some.row.now (sym c.get.ensures ∙ ap option_copied c.in-Some.is)
    c.from_residual-in_err-taken.result c.in_err-taken.field-0.0 c.from_residual-in_err-taken.ensures.1 c.in_err-taken.ensures.cause

pub returns-clause-steps : goal.returns-clause-steps
returns-clause-steps g c =
    stepped g.S.Store g.T.Stored.layout g.T.Stored.is_real c.args.rows.now.conn.now c.advance.new.self.conn.now c.args.all.now.items c.take_row.new.all.items c.advance.ensures.mode c.advance.ensures.survives
    _ c.in_ok-advance.ensures.ok c.in_ok-advance.ensures.same c.in-Some.row.now (sym c.get.ensures ∙ ap option_copied c.in-Some.is)
    c.in_ok-taken.taken c.in_ok-taken.ensures.yes c.in_ok-taken.ensures.no
