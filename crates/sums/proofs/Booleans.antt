-- Tests that are put together.
use Rattle.std.proofs.Common.{◌≡◌, ◌||◌, Bool, true, false, cond, not, Option, Some, None, refl}
pub use Rattle.std.proofs.lemmas.Bool.{and_parts as both, or_parts as neither}

pub three : (a b c : Bool) → a ≡ false → b ≡ false → c ≡ false → (a || b || c) ≡ false
three a b c p q r = rw (p, q, r) refl

pub or_true : (b : Bool) → (b || true) ≡ true
or_true true = refl
or_true false = refl

pub passed : (b : Bool) → not b ≡ false → b ≡ true
passed true h = refl
passed false h = cc

pub denied : (b : Bool) → not b ≡ true → b ≡ false
denied true h = cc
denied false h = refl

-- the first of several faults is `None` only if its test fails and the rest is `None`
pub none_of : {X : Type 0} (b : Bool) (x : X) (y : Option X) → cond b (Some x) y ≡ None → (b ≡ false) × (y ≡ None)
none_of true x y h = cc
none_of false x y h = (refl, h)

pub passes : {X : Type 0} (b : Bool) (x : X) (y : Option X) → b ≡ false → y ≡ None → cond b (Some x) y ≡ None
passes b x y p q = rw p q
