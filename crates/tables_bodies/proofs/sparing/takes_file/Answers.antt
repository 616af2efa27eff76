use Rattle.std.proofs.Common.{◌≡◌, ◌==◌, suc, Bool, true, false, not, List, [], ◌∷◌, length, refl, sym, ap, ◌∙◌, arith}
use Rattle.std.proofs.lemmas.Bool.{eqb-true}
use Rattle.para.specs.Bytes.{is_nil}
use Rattle.tables_bodies.proofs.sparing.takes_file.Goals as goal

empty_is : {X : Type 0} (b : Bool) (xs : List X) → b ≡ (length xs == 0) → b ≡ is_nil xs
empty_is b [] e = e
empty_is b (x ∷ xs) e = by b e
  where
    by : (b : Bool) → b ≡ (suc (length xs) == 0) → b ≡ false
    by true e = absurd (omega (arith, eqb-true (suc (length xs)) 0 (sym e)))
    by false e = refl

pub returns : goal.returns
returns c = ap not (empty_is c.is_empty.result c.args.step.now.plan.files_removed (c.is_empty.ensures ∙ ap (λ xs. length xs == 0) c.as_slice.ensures))
