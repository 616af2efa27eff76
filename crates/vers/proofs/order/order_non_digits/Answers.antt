use Rattle.std.proofs.Common.{◌≡◌, ◌∙◌, sym, subst, rules, true, false}
use Rattle.std.specs.Ordering.{int_cmp, is_ne}
use Rattle.std.specs.declared.cmp.Ordering.{Ordering}
use Rattle.vers.specs.Order.{weight_at}
use Rattle.vers.proofs.Keys.{non_digits-step, then_ne, then_eq}
use Rattle.vers.proofs.order.order_non_digits.Goals as goal

pub returns-then-is_ne : goal.returns-then-is_ne
returns-then-is_ne c =
    let here : c.cmp-decided.result ≡ int_cmp (weight_at c.args.left.now c.loop-i.i) (weight_at c.args.right.now c.loop-i.i) = search rules in
    let ne : is_ne c.cmp-decided.result ≡ true = search rules in
    here ∙ (sym (then_ne _ _ (subst (λ (o : Ordering). is_ne o ≡ true) here ne)) ∙ (sym (non_digits-step c.args.left.now c.args.right.now c.loop-i.i) ∙ c.loop-i.invariant))

pub loop-i-preserved : goal.loop-i-preserved
loop-i-preserved c =
    let here : c.cmp-decided.result ≡ int_cmp (weight_at c.args.left.now c.loop-i.i) (weight_at c.args.right.now c.loop-i.i) = search rules in
    let tie : is_ne c.cmp-decided.result ≡ false = search rules in
    sym (non_digits-step c.args.left.now c.args.right.now c.loop-i.i ∙ then_eq _ _ (subst (λ (o : Ordering). is_ne o ≡ false) here tie)) ∙ c.loop-i.invariant
