-- How two reads make one.
use Rattle.std.proofs.Common.{◌≡◌, Result, Ok, Err, IsErrAnd, subst}
use Rattle.std.specs.Prelude.{⊤}
use Rattle.sqlite.specs.declared.error.Error.{Error}
use Rattle.sqlite.specs.State.{State, IsUnchanged}
use Rattle.tables_read.specs.Reading.{Tells}
use Rattle.tables_read.proofs.StepLemmas.{failed, told, then_told}

module _ (a b c : State) {X Y Z : Type 0} {P : X → Type 0} {Q : Y → Type 0} {R : Z → Type 0} (first : Result X Error) (second : Result Y Error) (x : X) (is_first : first ≡ Ok x) where
  -- the second fails
  pub second_failed : (all : Result Z Error) (e : Error) → second ≡ Err e → IsErrAnd all (λ f. f ≡ e) → Tells a b first P → Tells b c second Q → Tells a c all R
  second_failed (Ok z) e is err one two = absurd err
  second_failed (Err f) e is err one two =
      failed a c e f err (subst (λ v. Tells a c v (λ _. ⊤)) is (then_told a b c x second (subst (λ v. Tells a b v P) is_first one) two (λ _ _ _ _ _ _ _. tt)))

  -- both say what they read
  pub both_told : (y : Y) (z : Z) → second ≡ Ok y → Tells a b first P → Tells b c second Q → (IsUnchanged a b → P x → Q y → R z) → Tells a c (Ok z) R
  both_told y z is one two f =
      let both : Tells a c second (λ v. IsUnchanged a b × (P x × Q v)) = then_told a b c x second (subst (λ v. Tells a b v P) is_first one) two (λ _ _ _ same h v k. (same, (h, k))) in
      told a c y z (subst (λ v. Tells a c v (λ w. IsUnchanged a b × (P x × Q w))) is both) (λ _ _ _ k. f k.0 k.1.0 k.1.1)
