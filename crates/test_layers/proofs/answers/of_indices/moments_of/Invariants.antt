use Rattle.std.proofs.Common.{◌≤◌, All}
use Rattle.test_layers.proofs.answers.of_indices.moments_of.Given as goal

abbrev pub invariant-loop-word : goal.invariant-loop-word
invariant-loop-word l = All (λ moment. moment ≤ 4102444799) l.moments.items
