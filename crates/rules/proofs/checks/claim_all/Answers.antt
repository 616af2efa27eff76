use Rattle.std.proofs.Common.{◌≡◌, ◌||◌, sym, ap, ◌∙◌, ℕ, Bool, true, false, cond, refl, List, [], take, get_or, Bor, arith}
use Rattle.std.specs.Str.{bytes_eq}
use Rattle.std.proofs.lemmas.Map.Text.{is_eq-slice_cmp}
use Rattle.records.specs.Records.{is_among}
use Rattle.rules.specs.Claimed.{holds}
use Rattle.records.proofs.Different.{texts, seen_more}
use Rattle.rules.proofs.checks.claim_all.Goals as goal

or_false : (a : Bool) → a ≡ (a || false)
or_false true = refl
or_false false = refl

added : (a b x y z : Bool) → a ≡ b → x ≡ (y || z) → cond a true x ≡ (y || (b || z))
added true b x true z p q = refl
added true b x false z p q = ap (λ t. t || z) p
added false b x y z p q = q ∙ ap (λ t. y || (t || z)) p

pub loop-name-init : goal.loop-name-init
loop-name-init c = λ q. or_false (holds c.args.claimed.now q)

pub loop-name-preserved : goal.loop-name-preserved
loop-name-preserved c = λ q.
    let word : Bor (List ℕ) = get_or c.args.names.now c.loop-name.name-index (record { ref_ptr = (0, 0); now = [] }) in
    c.in_ok-insert.ensures.updates.0 (record { ref_ptr = (0, 0); now = q })
    ∙ added _ (bytes_eq word.now q) _ (holds c.args.claimed.now q) (is_among (texts (take c.loop-name.name-index c.args.names.now)) q) (is_eq-slice_cmp word.now q) (c.loop-name.invariant q)
    ∙ ap (λ t. holds c.args.claimed.now q || t) (sym (seen_more c.args.names.now c.loop-name.name-index _ q (omega arith)))
