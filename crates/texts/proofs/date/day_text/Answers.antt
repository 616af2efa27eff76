use Rattle.std.proofs.Common.{◌≡◌, ℕ, ◌/◌, List, ◌++◌, ◌∷◌, codes, sym, ap, ◌∙◌, append_assoc}
use Rattle.std.specs.Fmt.{styled_decimal, decimal}
use Rattle.std.proofs.lemmas.Result.{IfOk-weaker}
use Rattle.indices.specs.Calendar.{year_of, month_of, day_of, month_name, two_digits, day_text}
use Rattle.texts.proofs.Days.{two}
use Rattle.texts.proofs.date.day_text.Goals as goal

in_a_row : (a b c : List ℕ) → a ++ 32 ∷ (b ++ 32 ∷ c) ≡ (((a ++ codes " ") ++ b) ++ codes " ") ++ c
in_a_row a b c = sym (append_assoc ((a ++ codes " ") ++ b) (codes " ") c ∙ append_assoc (a ++ codes " ") b (32 ∷ c) ∙ append_assoc a (codes " ") (b ++ 32 ∷ c))

pub returns : goal.returns
unfolding day_text
returns c =
    let number : ℕ = c.args.moment / 86400 in
    let day : styled_decimal c.laid_out.result c.day-day.result ≡ two_digits (day_of number) =
    ap (λ s. styled_decimal s c.day-day.result) c.laid_out.ensures ∙ two c.day-day.result c.day-day.ensures.within ∙ ap two_digits c.day-day.ensures.value in
    let month : c.month_name-month.result.now ≡ month_name (month_of number) = c.month_name-month.ensures ∙ ap month_name c.month.ensures.value in
    let year : decimal c.year-year.result ≡ decimal (year_of number) = ap decimal c.year-year.ensures in
    IfOk-weaker c.format.result _ _ (λ s e. e
    ∙ ap (λ (d : List ℕ). d ++ 32 ∷ (c.month_name-month.result.now ++ 32 ∷ decimal c.year-year.result)) day
    ∙ ap (λ (m : List ℕ). two_digits (day_of number) ++ 32 ∷ (m ++ 32 ∷ decimal c.year-year.result)) month
    ∙ ap (λ (y : List ℕ). two_digits (day_of number) ++ 32 ∷ (month_name (month_of number) ++ 32 ∷ y)) year
    ∙ in_a_row (two_digits (day_of number)) (month_name (month_of number)) (decimal (year_of number))) c.format.ensures.ok
