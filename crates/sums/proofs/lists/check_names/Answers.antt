use Rattle.std.proofs.Common.{◌∙◌, sym, inr, refl}
use Rattle.sums.proofs.lists.check_names.Goals as goal

pub returns-then-some_disagree : goal.returns-then-some_disagree
returns-then-some_disagree c =
    let h = c.in_ok-found.ensures in
    let d = sym (c.some_disagree.ensures c.args.lists.kind _ h) ∙ c.if-some_disagree.true in
    rw (h.once, d) (inr refl)

pub returns-then-is_bad_count : goal.returns-then-is_bad_count
returns-then-is_bad_count c =
    let h = c.in_ok-found.ensures in
    let d = sym (c.some_disagree.ensures c.args.lists.kind _ h) ∙ c.if-some_disagree.false in
    let b = sym c.is_bad_count.ensures ∙ c.if-is_bad_count.true in
    rw (h.once, d, b) (inr refl)

pub returns : goal.returns
returns c =
    let h = c.in_ok-found.ensures in
    let d = sym (c.some_disagree.ensures c.args.lists.kind _ h) ∙ c.if-some_disagree.false in
    let b = sym c.is_bad_count.ensures ∙ c.if-is_bad_count.false in
    rw (h.once, d, b) refl
