-- A file of the pool that is written piece by piece.
use Rattle.std.proofs.Common.{◌≡◌, ℕ, ◌+◌, ◌*◌, ◌≤◌, List, ◌++◌, Option, sym, ap, ◌∙◌, subst, take, drop, length, arith}
use Rattle.std.proofs.Math.Seq.{take-add}
use Rattle.std.proofs.lemmas.List.{take_all}
use Rattle.std.proofs.KnownBytes.{Appends-trans}
use Rattle.std.specs.Io.KnownBytes.{Appends}

-- the first piece
pub first_written : (before after : Option (List ℕ)) (body bytes : List ℕ) → bytes ≡ take 65536 (drop (65536 * 0) body) → Appends before after bytes → Appends before after (take (65536 * 1) body)
first_written before after body bytes is written = subst (λ (t : List ℕ). Appends before after t) is written

-- one more piece
pub more_written : (number : ℕ) (before mid after : Option (List ℕ)) (body bytes : List ℕ) → Appends before mid (take (65536 * number) body)
    → bytes ≡ take 65536 (drop (65536 * number) body) → Appends mid after bytes → Appends before after (take (65536 * (number + 1)) body)
more_written number before mid after body bytes sofar is written =
    let end : 65536 * (number + 1) ≡ 65536 * number + 65536 = omega arith in
    let split : take (65536 * (number + 1)) body ≡ take (65536 * number) body ++ bytes =
    ap (λ n. take n body) end ∙ take-add (65536 * number) 65536 body ∙ ap (λ t. take (65536 * number) body ++ t) (sym is) in
    subst (λ (t : List ℕ). Appends before after t) (sym split) (Appends-trans before mid after (take (65536 * number) body) bytes sofar written)

-- the whole file
pub all_written : (number : ℕ) (before after : Option (List ℕ)) (body : List ℕ) → length body ≤ 65536 * number → Appends before after (take (65536 * number) body) → Appends before after body
all_written number before after body within written = subst (λ (t : List ℕ). Appends before after t) (take_all (65536 * number) body within) written
