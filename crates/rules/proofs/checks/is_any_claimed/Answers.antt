use Rattle.std.proofs.Common.{◌≡◌, ◌||◌, sym, ap, ◌∙◌, ℕ, ◌+◌, ◌<◌, Bool, List, [], length, drop, get_or, Bor, arith}
use Rattle.std.specs.List.{list_any}
use Rattle.std.proofs.lemmas.List.{drop_more}
use Rattle.rules.specs.Claimed.{holds}
use Rattle.records.proofs.Different.{texts}
use Rattle.rules.proofs.checks.is_any_claimed.Goals as goal

any_step : (p : List ℕ → Bool) (ws : List (Bor (List ℕ))) (i : ℕ) (d : Bor (List ℕ)) → i < length ws
    → list_any p (texts (drop i ws)) ≡ (p (get_or ws i d).now || list_any p (texts (drop (i + 1) ws)))
any_step p ws i d h = ap (λ (xs : List (Bor (List ℕ))). list_any p (texts xs)) (drop_more ws i d h)

pub returns-then-contains : goal.returns-then-contains
returns-then-contains c =
    let p : List ℕ → Bool = holds c.args.claimed.now in
    let ws : List (Bor (List ℕ)) = c.args.names.now in
    let i : ℕ = c.loop-name.name-index in
    let d : Bor (List ℕ) = record { ref_ptr = (0, 0); now = [] } in
    sym (sym c.loop-name.invariant ∙ any_step p ws i d (omega arith)
    ∙ ap (λ b. b || list_any p (texts (drop (i + 1) ws))) (sym c.contains.ensures ∙ c.if-contains.true))

pub loop-name-preserved : goal.loop-name-preserved
loop-name-preserved c =
    let p : List ℕ → Bool = holds c.args.claimed.now in
    let ws : List (Bor (List ℕ)) = c.args.names.now in
    let i : ℕ = c.loop-name.name-index in
    let d : Bor (List ℕ) = record { ref_ptr = (0, 0); now = [] } in
    sym (any_step p ws i d (omega arith)
    ∙ ap (λ b. b || list_any p (texts (drop (i + 1) ws))) (sym c.contains.ensures ∙ c.if-contains.false))
    ∙ c.loop-name.invariant
