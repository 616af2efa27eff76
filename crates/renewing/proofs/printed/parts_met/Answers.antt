use Rattle.std.proofs.Common.{◌≡◌, ◌∙◌, ◌+◌, ◌++◌, Bool, true, false, not, List, ℕ, take, sym, refl, subst, bytes_eq}
use Rattle.std.proofs.lemmas.Slice.Eq.{bytes_eq-Decides}
use Rattle.renewing.specs.Printed.{joined}
use Rattle.renewing.proofs.PrintedLemmas.{part_met}
use Rattle.renewing.proofs.printed.parts_met.Goals as goal

-- two lists of bytes that no test distinguishes are equal
same : (a b : List ℕ) → false ≡ not (bytes_eq a b) → a ≡ b
same a b told = (bytes_eq-Decides a b).0 (kind (bytes_eq a b) told)
  where
    kind : (t : Bool) → false ≡ not t → t ≡ true
    kind true e = refl
    kind false e = e

pub loop-index-preserved : goal.loop-index-preserved
loop-index-preserved c =
    let part = c.index-parts-index.result in
    subst (λ (rest : List ℕ). joined (take (c.loop-index.index + 1) c.args.parts.now) ++ rest ≡ c.args.text.now) (sym c.split_at.ensures.back)
    (part_met c.args.parts.now c.loop-index.index part c.loop-index.rest.now c.args.text.now _ c.loop-index-test.true c.index-parts-index.is
    (sym c.split_at.ensures.front ∙ same _ _ c.if-ne.ensures ∙ c.as_slice-bytes.ensures) c.loop-index.invariant)
