use Rattle.std.proofs.Common.{◌≡◌, ℕ, ◌/◌, ◌%◌, List, ◌++◌, ◌∷◌, codes, sym, ap, ◌∙◌, append_assoc, arith}
use Rattle.std.specs.Fmt.{styled_decimal}
use Rattle.std.proofs.lemmas.Result.{IfOk-weaker}
use Rattle.indices.specs.Calendar.{two_digits, time_text}
use Rattle.texts.proofs.Days.{two}
use Rattle.texts.proofs.date.time_text.Goals as goal

in_a_row : (a b c : List ℕ) → a ++ 58 ∷ (b ++ 58 ∷ c) ≡ (((a ++ codes ":") ++ b) ++ codes ":") ++ c
in_a_row a b c = sym (append_assoc ((a ++ codes ":") ++ b) (codes ":") c ∙ append_assoc (a ++ codes ":") b (58 ∷ c) ∙ append_assoc a (codes ":") (b ++ 58 ∷ c))

pub returns : goal.returns
unfolding time_text
returns c =
    let h : ℕ = c.args.second / 3600 in
    let m : ℕ = c.args.second / 60 % 60 in
    let s : ℕ = c.args.second % 60 in
    let hour : styled_decimal c.laid_out.result h ≡ two_digits h = ap (λ l. styled_decimal l h) c.laid_out.ensures ∙ two h (omega arith) in
    let minute : styled_decimal c.laid_out-2.result m ≡ two_digits m = ap (λ l. styled_decimal l m) c.laid_out-2.ensures ∙ two m (omega arith) in
    let second : styled_decimal c.laid_out-3.result s ≡ two_digits s = ap (λ l. styled_decimal l s) c.laid_out-3.ensures ∙ two s (omega arith) in
    IfOk-weaker c.format.result _ _ (λ _ e. e
    ∙ ap (λ (x : List ℕ). x ++ 58 ∷ (styled_decimal c.laid_out-2.result m ++ 58 ∷ styled_decimal c.laid_out-3.result s)) hour
    ∙ ap (λ (x : List ℕ). two_digits h ++ 58 ∷ (x ++ 58 ∷ styled_decimal c.laid_out-3.result s)) minute
    ∙ ap (λ (x : List ℕ). two_digits h ++ 58 ∷ (two_digits m ++ 58 ∷ x)) second
    ∙ in_a_row (two_digits h) (two_digits m) (two_digits s)) c.format.ensures.ok
