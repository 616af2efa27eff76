use Rattle.std.proofs.Common.{◌≡◌, ℕ, List, ◌++◌, codes, sym, ◌∙◌, append_assoc}
use Rattle.std.proofs.lemmas.Result.{IfOk-weaker}
use Rattle.texts.proofs.places.path_in.Goals as goal

in_a_row : (a b c d : List ℕ) → a ++ (b ++ (c ++ d)) ≡ ((a ++ b) ++ c) ++ d
in_a_row a b c d = sym (append_assoc (a ++ b) c d ∙ append_assoc a b (c ++ d))

pub returns : goal.returns
returns c = IfOk-weaker c.format.result _ _ (λ s e. e ∙ in_a_row (codes "dists/") c.args.codename.now (codes "/") c.args.path.now) c.format.ensures.ok
