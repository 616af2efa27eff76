use Rattle.std.proofs.Common.{◌≡◌, ℕ, ◌/◌, ◌%◌, List, ◌++◌, ◌∷◌, codes, string_bytes, sym, ap, ◌∙◌, append_assoc}
use Rattle.std.proofs.lemmas.Result.{IfOk-weaker}
use Rattle.indices.specs.Calendar.{weekday_name, year_of, month_of, day_of, day_text, time_text, date_text}
use Rattle.texts.proofs.date.date_text.Goals as goal

in_a_row : (a b c : List ℕ) → a ++ 44 ∷ 32 ∷ (b ++ 32 ∷ (c ++ codes " UTC")) ≡ (((((a ++ codes ", ") ++ b) ++ codes " ") ++ c) ++ codes " UTC")
in_a_row a b c =
    sym (append_assoc ((((a ++ codes ", ") ++ b) ++ codes " ")) c (codes " UTC")
    ∙ append_assoc ((a ++ codes ", ") ++ b) (codes " ") (c ++ codes " UTC")
    ∙ append_assoc (a ++ codes ", ") b (32 ∷ (c ++ codes " UTC"))
    ∙ append_assoc a (codes ", ") (b ++ 32 ∷ (c ++ codes " UTC")))

pub returns : goal.returns
unfolding date_text
returns c =
    let number : ℕ = c.args.moment / 86400 in
    let second : ℕ = c.args.moment % 86400 in
    let day : List ℕ = day_text (year_of number) (month_of number) (day_of number) in
    let time : List ℕ = time_text (second / 3600) (second / 60 % 60) (second % 60) in
    IfOk-weaker c.format.result _ _ (λ _ e. e
    ∙ ap (λ (w : List ℕ). w ++ 44 ∷ 32 ∷ (string_bytes c.in_ok-day.day ++ 32 ∷ (string_bytes c.in_ok-time.time ++ codes " UTC"))) c.weekday_name-weekday.ensures
    ∙ ap (λ (d : List ℕ). weekday_name number ++ 44 ∷ 32 ∷ (d ++ 32 ∷ (string_bytes c.in_ok-time.time ++ codes " UTC"))) c.in_ok-day.ensures
    ∙ ap (λ (t : List ℕ). weekday_name number ++ 44 ∷ 32 ∷ (day ++ 32 ∷ (t ++ codes " UTC"))) c.in_ok-time.ensures
    ∙ in_a_row (weekday_name number) day time) c.format.ensures.ok
