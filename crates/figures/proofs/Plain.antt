-- No name of a configuration has a byte that needs an escape.
use Rattle.std.proofs.Common.{◌≡◌, ℕ, ◌==◌, ◌||◌, Bool, true, false, true≢false, not, List, [], ◌∷◌, refl, sym, ap, ◌∙◌}
use Rattle.std.specs.List.{list_all}
use Rattle.std.proofs.lemmas.Bool.{and_from, and_parts}
use Rattle.std.proofs.lemmas.Bool.Decides.{Decides-eqb}
use Rattle.records.specs.Names.{is_architecture_byte, is_architecture_name, is_plain_byte, is_plain_name}
use Rattle.indices.proofs.Paths.{HoldsOfNames}
use Rattle.figures.specs.Printing.{needs_escape, stands_for_itself}

module _ (test : ℕ → Bool) (backslash : test 92 ≡ false) (quote : test 34 ≡ false) (newline : test 10 ≡ false) where
  clash : (k c : ℕ) → test k ≡ false → c ≡ k → test c ≡ true → ⊥
  clash k c refused e passes = true≢false (sym passes ∙ ap test e ∙ refused)

  byte_stands : (c : ℕ) → test c ≡ true → needs_escape c ≡ false
  byte_stands c passes = by (c == 92) (c == 34) (c == 10) refl refl refl
    where
      by : (x y z : Bool) → (c == 92) ≡ x → (c == 34) ≡ y → (c == 10) ≡ z → (x || (y || z)) ≡ false
      by true y z p q r = absurd (clash 92 c backslash ((Decides-eqb c 92).0 p) passes)
      by false true z p q r = absurd (clash 34 c quote ((Decides-eqb c 34).0 q) passes)
      by false false true p q r = absurd (clash 10 c newline ((Decides-eqb c 10).0 r) passes)
      by false false false p q r = refl

  text_stands : (text : List ℕ) → list_all test text ≡ true → stands_for_itself text ≡ true
  text_stands [] h = refl
  text_stands (c ∷ text) h = let both = and_parts _ _ h in and_from _ _ (ap not (byte_stands c both.0)) (text_stands text both.1)

abbrev pub Stands : List ℕ → Type 0
Stands name = stands_for_itself name ≡ true

plain_stands : (name : List ℕ) → is_plain_name name ≡ true → Stands name
unfolding is_plain_name
plain_stands name h = text_stands is_plain_byte refl refl refl name (and_parts _ _ h).1

architecture_stands : (name : List ℕ) → is_architecture_name name ≡ true → Stands name
unfolding is_architecture_name
architecture_stands name h = text_stands is_architecture_byte refl refl refl name (and_parts _ _ (and_parts _ _ h).0).1

pub names_stand : HoldsOfNames Stands
names_stand = record { none = refl; plain = plain_stands; architecture = architecture_stands }
