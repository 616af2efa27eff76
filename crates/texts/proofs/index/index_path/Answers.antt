use Rattle.std.proofs.Common.{◌≡◌, ℕ, List, ◌++◌, length, take, codes, sym, ap, ◌∙◌, append_assoc, arith}
use Rattle.std.proofs.lemmas.List.{take_all}
use Rattle.std.proofs.lemmas.Result.{IfOk-weaker}
use Rattle.indices.specs.Release.{index_path}
use Rattle.texts.proofs.index.index_path.Goals as goal

in_a_row : (a b c d : List ℕ) → a ++ (b ++ (take (length c) c ++ d)) ≡ ((a ++ b) ++ c) ++ d
in_a_row a b c d =
    ap (λ (xs : List ℕ). a ++ (b ++ (xs ++ d))) (take_all (length c) c (omega arith))
    ∙ sym (append_assoc (a ++ b) c d ∙ append_assoc a b (c ++ d))

pub returns-else-eq : goal.returns-else-eq
unfolding index_path
returns-else-eq c = IfOk-weaker c.format-else-eq.result _ _ (λ s e.
    rw (sym c.if-eq.ensures) (e ∙ in_a_row c.args.component.now (codes "/binary-") c.args.architecture.now (codes "/Packages"))) c.format-else-eq.ensures.ok
