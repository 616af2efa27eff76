-- What several appends have appended.
use Rattle.std.proofs.Common.{◌≡◌, ℕ, List, ◌++◌, Result, Ok, Err, ap, ◌∙◌}
use Rattle.std.specs.declared.alloc.AllocError.{AllocError}
use Rattle.std.specs.Result.{OnOk}
use Rattle.texts.proofs.Appended.{two}

-- the last of them, which may have been refused, and what they are together
pub at_last : (r : Result (Unit {0}) AllocError) (old now new p q whole : List ℕ)
    → now ≡ old ++ p → OnOk r (new ≡ now ++ q) → p ++ q ≡ whole → OnOk r (new ≡ old ++ whole)
at_last (Ok u) old now new p q whole h k e = two old p q now new h k ∙ ap (λ (bs : List ℕ). old ++ bs) e
at_last (Err f) old now new p q whole h k e = tt
