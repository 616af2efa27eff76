-- Dividing an uploader line.
use Rattle.std.proofs.Common.{◌≡◌, ◌≢◌, ℕ, zero, suc, ◌+◌, ◌-◌, ◌<◌, ◌≤◌, Bool, true, false, cond, List, [], ◌∷◌, ◌++◌, length, take, drop, Option, Some, None, Bor, refl, sym, ap, ◌∙◌, arith, length-append}
use Rattle.std.specs.Prelude.{codes, nat_eq, MatchOption}
use Rattle.std.specs.Option.{option_map}
use Rattle.std.specs.List.{starts_with, ends_with}
use Rattle.std.specs.Str.Pattern.{FindsText, LacksTextAt}
use Rattle.std.proofs.lemmas.Bool.Decides.{Decides-eqb}
use Rattle.std.proofs.lemmas.Slice.Eq.{starts_is, ends_is}
use Rattle.std.proofs.Math.Seq.{take-append_seam}
use Rattle.rules.specs.Uploaders.{divided, before_star}

-- ` by `
abbrev pub by : List ℕ
by = codes " by "

begins : (line : List ℕ) → starts_with nat_eq line by ≡ true → line ≡ by ++ drop 4 line
begins line = (starts_is Decides-eqb line by (starts_with nat_eq line by) refl).0

lacks : (line : List ℕ) (b : Bool) → starts_with nat_eq line by ≡ b → LacksTextAt by line 0 → b ≡ false
lacks line true e h = absurd (h (drop 4 line) (begins line e))
lacks line false e h = refl

divided-step : (c : ℕ) (rest : List ℕ) (b : Bool) → starts_with nat_eq (c ∷ rest) by ≡ b
    → divided (c ∷ rest) ≡ cond b (Some ([], drop 3 rest)) (option_map (λ (parts : List ℕ × List ℕ). (c ∷ parts.0, parts.1)) (divided rest))
divided-step c rest b e = ap (λ t. cond t (Some ([], drop 3 rest)) (option_map (λ (parts : List ℕ × List ℕ). (c ∷ parts.0, parts.1)) (divided rest))) e

divided-behind : (c : ℕ) (rest : List ℕ) → LacksTextAt by (c ∷ rest) 0
    → divided (c ∷ rest) ≡ option_map (λ (parts : List ℕ × List ℕ). (c ∷ parts.0, parts.1)) (divided rest)
divided-behind c rest h = divided-step c rest false (lacks (c ∷ rest) _ refl h)

divided-none : (line : List ℕ) → ((i : ℕ) → i ≤ length line → LacksTextAt by line i) → divided line ≡ None
divided-none [] h = refl
divided-none (c ∷ rest) h =
    divided-behind c rest (h 0 (omega arith))
    ∙ ap (option_map (λ (parts : List ℕ × List ℕ). (c ∷ parts.0, parts.1))) (divided-none rest (λ i l. h (suc i) (omega arith)))

divided-some : (i j : ℕ) (line : List ℕ) → j ≡ i + 4 → ((k : ℕ) → k < i → LacksTextAt by line k) → drop i line ≡ by ++ drop j line
    → divided line ≡ Some (take i line, drop j line)
divided-some zero j [] e h found = cc
divided-some zero j (c ∷ rest) e h found =
    divided-step c rest true ((starts_is Decides-eqb (c ∷ rest) by (starts_with nat_eq (c ∷ rest) by) refl).1 (drop j (c ∷ rest)) found)
    ∙ (let four : 4 ≡ j = omega arith in ap (λ n. Some ([], drop n (c ∷ rest))) four)
divided-some (suc i) j [] e h found = cc
divided-some (suc i) zero (c ∷ rest) e h found = absurd (omega arith)
divided-some (suc i) (suc j) (c ∷ rest) e h found =
    divided-behind c rest (h 0 (omega arith))
    ∙ ap (option_map (λ (parts : List ℕ × List ℕ). (c ∷ parts.0, parts.1)))
    (divided-some i j rest (omega arith) (λ k l. h (suc k) (omega arith)) found)

pub divided_is : (line : List ℕ) (r : Option (Bor (List ℕ) × Bor (List ℕ)))
    → MatchOption r (FindsText by line None) (λ x. (i : ℕ) × (j : ℕ) × FindsText by line (Some (i, j)) × (x.0.now ≡ take i line) × (x.1.now ≡ drop j line) × (i ≤ j) × (length x.0.now ≡ i) × (length x.1.now + j ≡ length line))
    → option_map (λ (x : Bor (List ℕ) × Bor (List ℕ)). (x.0.now, x.1.now)) r ≡ divided line
divided_is line None h = sym (divided-none line h)
divided_is line (Some x) h = (λ k. Some (h.3 k, h.4 k)) ∙ sym (divided-some h.0 h.1 line h.2.1.ends h.2.0 h.2.1.split)

-- ---- a star at the end

abbrev star : List ℕ
star = codes "*"

lacks_star : (text : List ℕ) (b : Bool) → ends_with nat_eq text star ≡ b → ((front : List ℕ) → text ≢ front ++ star) → b ≡ false
lacks_star text true e h = absurd (h _ ((ends_is Decides-eqb text star (ends_with nat_eq text star) refl).0 e))
lacks_star text false e h = refl

front_is : (text front : List ℕ) → text ≡ front ++ star → front ≡ take (length text - 1) text
front_is text front e =
    let n : length front ≡ length text - 1 = omega (arith, ap length e, length-append front star) in
    sym (take-append_seam front star) ∙ ap (take (length front)) (sym e) ∙ ap (λ k. take k text) n

pub before_star_is : (text : List ℕ) (r : Option (Bor (List ℕ))) → MatchOption r ((front : List ℕ) → text ≢ front ++ star) (λ x. text ≡ x.now ++ star)
    → option_map (λ (x : Bor (List ℕ)). x.now) r ≡ before_star text
unfolding before_star
before_star_is text None h = sym (ap (λ b. cond b (Some (take (length text - 1) text)) None) (lacks_star text _ refl h))
before_star_is text (Some x) h =
    ap Some (front_is text x.now h)
    ∙ sym (ap (λ b. cond b (Some (take (length text - 1) text)) None) ((ends_is Decides-eqb text star (ends_with nat_eq text star) refl).1 x.now h))
