-- What paragraphs say of themselves.
use Rattle.std.proofs.Common.{◌≡◌, ℕ, List, [], ◌++◌, refl, sym, ap, ◌∙◌}
use Rattle.std.proofs.lemmas.List.{append-nil}
use Rattle.para.specs.Fields.{Fields}
use Rattle.pages.specs.SuitePage.{first_line}

no_first_line : first_line [] ≡ []
unfolding first_line
no_first_line = refl

-- no fields say nothing of themselves
pub nothing_said : (fields : Fields) (out : List ℕ) → fields ≡ [] → out ≡ out ++ first_line fields
nothing_said fields out e = sym (append-nil out) ∙ ap (λ (bs : List ℕ). out ++ bs) (sym (ap first_line e ∙ no_first_line))
