use Rattle.std.proofs.Common.{Ok, Some, None, inr, ap, ◌∙◌, subst}
use Rattle.sqlite.specs.Held.{state}
use Rattle.tables_read.proofs.PairLemmas.{second_failed, both_told}
use Rattle.tables_read.proofs.read.Tuple2Read.read.Goals as goal

pub returns-in_err-others : goal.returns-in_err-others
returns-in_err-others g c =
    second_failed (state g.S.Store c.args.conn.now) (state g.S.Store c.read.new.conn) (state g.S.Store c.read-2.new.conn) c.read.result c.read-2.result (Some c.in-Some.first) (c.in_ok-first.was ∙ ap (λ o. Ok o) c.in-Some.is)
    c.from_residual-in_err-others.result c.in_err-others.field-0.0 c.in_err-others.was c.from_residual-in_err-others.ensures.1 c.read.ensures c.read-2.ensures

pub returns-in-Some-2 : goal.returns-in-Some-2
returns-in-Some-2 g c =
    both_told (state g.S.Store c.args.conn.now) (state g.S.Store c.read.new.conn) (state g.S.Store c.read-2.new.conn) c.read.result c.read-2.result (Some c.in-Some.first) (c.in_ok-first.was ∙ ap (λ o. Ok o) c.in-Some.is)
    (Some c.in-Some-2.others) _ (c.in_ok-others.was ∙ ap (λ o. Ok o) c.in-Some-2.is) c.read.ensures c.read-2.ensures
    (λ same h k. (h, subst (λ db. g.B.Read.are db c.in-Some-2.others) same.0.now_is k))

pub returns-in-None : goal.returns-in-None
returns-in-None g c =
    both_told (state g.S.Store c.args.conn.now) (state g.S.Store c.read.new.conn) (state g.S.Store c.read-2.new.conn) c.read.result c.read-2.result (Some c.in-Some.first) (c.in_ok-first.was ∙ ap (λ o. Ok o) c.in-Some.is)
    None _ (c.in_ok-others.was ∙ ap (λ o. Ok o) c.in-None.is) c.read.ensures c.read-2.ensures
    (λ same h k. inr (subst g.B.Read.are_not same.0.now_is k))
