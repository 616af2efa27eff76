use Rattle.std.proofs.Common.{◌≡◌, ap, ◌∙◌, sym, ℕ, ◌+◌, ◌<◌, List, [], ◌∷◌, ◌++◌, length, take, get_or, Option, Some, None, Bor, Vec, Global, arith}
use Rattle.std.specs.List.{cons_option}
use Rattle.std.specs.Option.{option_map}
use Rattle.std.proofs.lemmas.List.{take_more, map-append, append-nil}
use Rattle.std.proofs.lemmas.List.Elements.{filter_map-append}
use Rattle.rules.specs.Uploaders.{rule_parts, rule_of, rules_in}
use Rattle.rules.specs.declared.uploader.Rule.{Rule}
use Rattle.records.proofs.Different.{texts}
use Rattle.rules.proofs.uploader.rules_of.Goals as goal
use Rattle.rules.proofs.uploader.rules_of.Goals.{in-Some+in_ok-rule_of+in_ok-push, in_default}

rule_in : List ℕ → Option Rule
rule_in line = option_map rule_of (rule_parts line)

one_more : (ls : List (Bor (List ℕ))) (i : ℕ) (d : Bor (List ℕ)) → i < length ls
    → rules_in (texts (take (i + 1) ls)) ≡ rules_in (texts (take i ls)) ++ rules_in ((get_or ls i d).now ∷ [])
one_more ls i d h =
    ap (λ (xs : List (Bor (List ℕ))). rules_in (texts xs)) (take_more ls i d h)
    ∙ ap rules_in (map-append (λ (w : Bor (List ℕ)). w.now) (take i ls) (get_or ls i d ∷ []))
    ∙ filter_map-append (λ (line : List ℕ). option_map rule_of (rule_parts line)) (texts (take i ls)) ((get_or ls i d).now ∷ [])

single_some : (line : List ℕ) (parts : List ℕ × List ℕ) → Some parts ≡ rule_parts line → rules_in (line ∷ []) ≡ rule_of parts ∷ []
single_some line parts e = ap (λ o. cons_option (option_map rule_of o) []) (sym e)

single_none : (line : List ℕ) → None ≡ rule_parts line → rules_in (line ∷ []) ≡ []
single_none line e = ap (λ o. cons_option (option_map rule_of o) []) (sym e)

pub loop-line-preserved : goal.loop-line-preserved
loop-line-preserved c =
    let ls : List (Bor (List ℕ)) = c.args.lines.now in
    let i : ℕ = c.loop-line.line-index in
    let d : Bor (List ℕ) = record { ref_ptr = (0, 0); now = [] } in
    elim c.match-rule_parts.branch [
      | in-Some+in_ok-rule_of+in_ok-push w ↦
          ap (λ (v : Vec Rule Global). v.items) w.rules-is ∙ w.in_ok-push.ensures.items
          ∙ (λ k. c.loop-line.invariant k ++ w.in_ok-rule_of.ensures k ∷ [])
          ∙ ap (λ rs. rules_in (texts (take i ls)) ++ rs) (sym (single_some (get_or ls i d).now _ w.in-Some.ensures))
          ∙ sym (one_more ls i d (omega arith))
      | in_default w ↦
          ap (λ (v : Vec Rule Global). v.items) w.rules-is ∙ c.loop-line.invariant
          ∙ sym (append-nil (rules_in (texts (take i ls))))
          ∙ ap (λ rs. rules_in (texts (take i ls)) ++ rs) (sym (single_none (get_or ls i d).now w.in_default.ensures))
          ∙ sym (one_more ls i d (omega arith))
    ]
