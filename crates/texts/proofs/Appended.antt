-- What follows a list after several appends.
use Rattle.std.proofs.Common.{◌≡◌, ℕ, List, ◌++◌, ap, ◌∙◌, append_assoc}

pub two : (old a b mid new : List ℕ) → mid ≡ old ++ a → new ≡ mid ++ b → new ≡ old ++ (a ++ b)
two old a b mid new first second = second ∙ ap (λ (bs : List ℕ). bs ++ b) first ∙ append_assoc old a b

pub three : (old a b c mid next new : List ℕ) → mid ≡ old ++ a → next ≡ mid ++ b → new ≡ next ++ c → new ≡ old ++ (a ++ (b ++ c))
three old a b c mid next new first second third = two old a (b ++ c) mid new first (two mid b c next new second third)
