use Rattle.std.proofs.Common.{Ok, ap, sym, subst, ◌∙◌}
use Rattle.std.proofs.lemmas.Result.{IfOk-at_ok}
use Rattle.sqlite.specs.Held.{state}
use Rattle.tables.specs.Rows.{Holds}
use Rattle.tables_read.specs.Pairs.{tables_in}
use Rattle.tables_read.proofs.WholeLemmas.{holds_all, holds_none}
use Rattle.tables_read.proofs.read.read_all.Goals as goal

pub returns-in-Some-clause-some : goal.returns-in-Some-clause-some
returns-in-Some-clause-some g c clean =
    subst (Holds (state g.S.Store c.args.conn.now).now) (sym c.all_of.ensures)
    (holds_all (state g.S.Store c.args.conn.now).now (tables_in c.in-Some.rows) c.requires.archive
    (IfOk-at_ok _ (c.in_ok-rows.was ∙ ap (λ o. Ok o) c.in-Some.is) (c.read.ensures.is clean c.requires.archive)))

pub returns-in-None-clause-none : goal.returns-in-None-clause-none
returns-in-None-clause-none g c clean e t real holds =
    holds_none (state g.S.Store c.args.conn.now).now t
    (IfOk-at_ok _ (c.in_ok-rows.was ∙ ap (λ o. Ok o) c.in-None.is) (c.read.ensures.is clean c.requires.archive)) real holds
