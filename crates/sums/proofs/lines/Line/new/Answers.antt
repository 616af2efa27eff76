use Rattle.std.proofs.Common.{ℕ, map, ◌++◌, arith, ap, ◌∙◌, Ok}
use Rattle.std.proofs.lemmas.Iterator.Adapters.{fact_from_extend}
use Rattle.std.proofs.lemmas.Iterator.Consumers.{YieldsList-at}
use Rattle.std.proofs.lemmas.Iterator.Splits.{YieldsList-from_str_split}
use Rattle.sums.proofs.lines.Line.new.Goals as goal

pub invariant_of-result : goal.invariant_of-result
invariant_of-result c =
    fact_from_extend {E = ℕ} (λ w. w.now) (Ok tt) c.in_ok-extend.ensures.ran
    (λ it b. YieldsList-at b (YieldsList-from_str_split 32 c.args.text.now (omega arith) c.split.ensures.text c.split.ensures.has_more c.split.ensures.pattern))
    (λ xs e h. ap (map (λ w. w.now)) (h.0 ∙ ap (λ ys. ys ++ xs) c.in_ok-words.ensures.items) ∙ e)
