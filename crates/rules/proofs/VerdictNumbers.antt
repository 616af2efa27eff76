-- Verdicts and their numbers.
use Rattle.std.proofs.Common.{◌≡◌, ◌↔◌, ℕ, Bool, true, false, cond, nat_eq, List, [], ◌∷◌, find, Some, refl, sym, ap, subst, ◌∙◌}
use Rattle.std.proofs.lemmas.Bool.Decides.{Decides-eqb}
use Rattle.rules.specs.Verdicts.{all_verdicts, number_of, verdict_numbered}
use Rattle.rules.specs.declared.verdict.Verdict.{Verdict}
use Rattle.rules.specs.declared.verdict.Verdict.TheVariants as verdict

pub known : (v : Verdict) → verdict_numbered (number_of v) ≡ Some v
unfolding verdict_numbered
known verdict.Accepted = refl
known verdict.Unclaimed = refl
known verdict.ForeignArchitecture = refl
known verdict.NotAllowed = refl
known verdict.ForeignComponent = refl
known verdict.BadListing = refl
known verdict.BadDsc = refl
known verdict.BadSidecar = refl
known verdict.NotInPool = refl
known verdict.OtherContents = refl

-- a verdict that a search finds has the number
passes : (n : ℕ) (vs : List Verdict) (v : Verdict) → find (λ w. nat_eq (number_of w) n) vs ≡ Some v → nat_eq (number_of v) n ≡ true
passes n [] v e = cc
passes n (w ∷ ws) v e = go (nat_eq (number_of w) n) refl e (passes n ws v)
  where
    go : (b : Bool) → nat_eq (number_of w) n ≡ b → cond b (Some w) (find (λ u. nat_eq (number_of u) n) ws) ≡ Some v
        → (find (λ u. nat_eq (number_of u) n) ws ≡ Some v → nat_eq (number_of v) n ≡ true) → nat_eq (number_of v) n ≡ true
    go true t f more = let same : w ≡ v = cc in subst (λ u. nat_eq (number_of u) n ≡ true) same t
    go false t f more = more f

pub number_is : (n : ℕ) (v : Verdict) → verdict_numbered n ≡ Some v → n ≡ number_of v
unfolding verdict_numbered
number_is n v e = sym ((Decides-eqb (number_of v) n).0 (passes n all_verdicts v e))

-- a search for a number finds a verdict if and only if that is its number
pub numbered : (n : ℕ) (v : Verdict) → (verdict_numbered n ≡ Some v) ↔ (number_of v ≡ n)
numbered n v = (λ e. sym (number_is n v e), λ e. ap verdict_numbered (sym e) ∙ known v)

-- verdicts of the same number are equal
pub same_verdict : (v w : Verdict) → number_of v ≡ number_of w → v ≡ w
same_verdict v w e = let both : Some v ≡ Some w = sym (known v) ∙ ap verdict_numbered e ∙ known w in cc
