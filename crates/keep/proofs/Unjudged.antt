-- The uploads without a verdict, one arrival more.
use Rattle.std.proofs.Common.{◌≡◌, true, false, not, cond, if◌then◌else◌, List, ◌∷◌, filter, refl, ap, Option, Some, None}
use Rattle.std.specs.List.{cons_option}
use Rattle.std.specs.Option.{option_map}
use Rattle.std.specs.Result.{result_ok}
use Rattle.records.specs.Values.{ChangesValue}
use Rattle.records.specs.Records.{changes_in}
use Rattle.book.specs.Book.{Candidate, candidate_of, candidates, in_order, is_judged, put_in_order}
use Rattle.sums.specs.FileNames.{is_changes_name}
use Rattle.keep.specs.Scan.{has_judgement, unjudged_in}
use Rattle.book.specs.declared.arrival.Arrival.{Arrival}
use Rattle.book.specs.declared.change.Judgement.{Judgement}

-- the list with one more candidate, if there is one
abbrev pub with_candidate : Option Candidate → List Candidate → List Candidate
with_candidate None cs = cs
with_candidate (Some c) cs = put_in_order c cs

-- an arrival of another name than that of a .changes counts for nothing
pub unjudged_other : (a : Arrival) (arrivals : List Arrival) (judged : List Judgement)
    → is_changes_name a.name ≡ false → unjudged_in (a ∷ arrivals) judged ≡ unjudged_in arrivals judged
unfolding candidate_of
unjudged_other a arrivals judged e =
    let after : Option Candidate → List Candidate = λ o. in_order (filter (λ c. not (is_judged judged c)) (cons_option o (candidates arrivals))) in
    let made : ChangesValue → Candidate = λ c. record { name = a.name; body = a.body; changes = c } in
    ap (λ b. after (if b then option_map made (result_ok (changes_in a.body)) else None)) e

-- an arrival that has a verdict counts for nothing
pub unjudged_passed : (a : Arrival) (arrivals : List Arrival) (judged : List Judgement)
    → has_judgement a.name a.body judged ≡ true → unjudged_in (a ∷ arrivals) judged ≡ unjudged_in arrivals judged
unfolding candidate_of is_judged
unjudged_passed a arrivals judged e =
    let after : Option Candidate → List Candidate = λ o. in_order (filter (λ c. not (is_judged judged c)) (cons_option o (candidates arrivals))) in
    let made : ChangesValue → Candidate = λ c. record { name = a.name; body = a.body; changes = c } in
    elim (is_changes_name a.name) as (λ b. after (if b then option_map made (result_ok (changes_in a.body)) else None) ≡ after None) [
      | true ↦ elim (result_ok (changes_in a.body)) as (λ o. after (option_map made o) ≡ after None) [
        | None ↦ refl
        | Some c ↦ ap (λ b. in_order (cond (not b) (made c ∷ filter (λ c. not (is_judged judged c)) (candidates arrivals)) (filter (λ c. not (is_judged judged c)) (candidates arrivals)))) e
      ]
      | false ↦ refl
    ]

-- an arrival without a verdict counts as the candidate that it is
pub unjudged_more : (a : Arrival) (arrivals : List Arrival) (judged : List Judgement)
    → has_judgement a.name a.body judged ≡ false → unjudged_in (a ∷ arrivals) judged ≡ with_candidate (candidate_of a) (unjudged_in arrivals judged)
unfolding candidate_of is_judged
unjudged_more a arrivals judged e =
    let after : Option Candidate → List Candidate = λ o. in_order (filter (λ c. not (is_judged judged c)) (cons_option o (candidates arrivals))) in
    let made : ChangesValue → Candidate = λ c. record { name = a.name; body = a.body; changes = c } in
    elim (is_changes_name a.name) as (λ b. after (if b then option_map made (result_ok (changes_in a.body)) else None) ≡ with_candidate (if b then option_map made (result_ok (changes_in a.body)) else None) (unjudged_in arrivals judged)) [
      | true ↦ elim (result_ok (changes_in a.body)) as (λ o. after (option_map made o) ≡ with_candidate (option_map made o) (unjudged_in arrivals judged)) [
        | None ↦ refl
        | Some c ↦ ap (λ b. in_order (cond (not b) (made c ∷ filter (λ c. not (is_judged judged c)) (candidates arrivals)) (filter (λ c. not (is_judged judged c)) (candidates arrivals)))) e
      ]
      | false ↦ refl
    ]
