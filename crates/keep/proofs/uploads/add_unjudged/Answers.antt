use Rattle.std.proofs.Common.{◌≡◌, ◌++◌, ◌∷◌, map, take, drop, ap, ◌∙◌, sym, subst}
use Rattle.std.proofs.lemmas.List.{map-append}
use Rattle.std.specs.Option.{option_map}
use Rattle.book.specs.Book.{put_in_order}
use Rattle.keep.specs.Scan.{candidate_view, counted, unjudged_in}
use Rattle.book.proofs.Moments.{current_more, current_passed}
use Rattle.keep.proofs.Unjudged.{unjudged_other, unjudged_passed, unjudged_more, with_candidate}
use Rattle.keep.proofs.uploads.add_unjudged.Goals as goal

pub returns-then-not-counts : goal.returns-then-not-counts
returns-then-not-counts c = λ rest so_far.
    so_far
    ∙ ap (λ xs. unjudged_in xs c.args.judged.now) (sym (current_passed c.args.counting.span c.args.counting.moment c.args.arrival.now rest (sym c.counts.ensures ∙ c.if-not-counts.true)))

pub returns-then-not-is_changes : goal.returns-then-not-is_changes
returns-then-not-is_changes c = λ rest so_far.
    so_far ∙ sym (unjudged_other c.args.arrival.now (counted c.args.counting rest) c.args.judged.now (sym c.is_changes.ensures ∙ c.if-not-is_changes.true))
    ∙ ap (λ xs. unjudged_in xs c.args.judged.now) (sym (current_more c.args.counting.span c.args.counting.moment c.args.arrival.now rest (sym c.counts.ensures ∙ c.if-not-counts.false)))

pub returns-then-is_judged : goal.returns-then-is_judged
returns-then-is_judged c = λ rest so_far.
    so_far ∙ sym (unjudged_passed c.args.arrival.now (counted c.args.counting rest) c.args.judged.now (sym c.is_judged.ensures ∙ c.if-is_judged.true))
    ∙ ap (λ xs. unjudged_in xs c.args.judged.now) (sym (current_more c.args.counting.span c.args.counting.moment c.args.arrival.now rest (sym c.counts.ensures ∙ c.if-not-counts.false)))

pub returns-in_ok-insert : goal.returns-in_ok-insert
returns-in_ok-insert c = λ rest so_far.
    let one = candidate_view c.in-Some.one in
    let position = c.position_in_order-position.result in
    let found = c.args.found.now.items in
    ap (map candidate_view) c.in_ok-insert.ensures.items
    ∙ map-append candidate_view (take position found) (c.in-Some.one ∷ drop position found)
    ∙ sym (subst (λ xs. put_in_order one (map candidate_view xs) ≡ map candidate_view (take position xs) ++ one ∷ map candidate_view (drop position xs)) c.deref.ensures.value c.position_in_order-position.ensures.placed)
    ∙ ap (put_in_order one) so_far
    ∙ ap (λ o. with_candidate o (unjudged_in (counted c.args.counting rest) c.args.judged.now)) (ap (option_map candidate_view) (sym c.in-Some.is) ∙ c.in_ok-one.ensures)
    ∙ sym (unjudged_more c.args.arrival.now (counted c.args.counting rest) c.args.judged.now (sym c.is_judged.ensures ∙ c.if-is_judged.false))
    ∙ ap (λ xs. unjudged_in xs c.args.judged.now) (sym (current_more c.args.counting.span c.args.counting.moment c.args.arrival.now rest (sym c.counts.ensures ∙ c.if-not-counts.false)))

pub returns-in_default : goal.returns-in_default
returns-in_default c = λ rest so_far.
    so_far
    ∙ ap (λ o. with_candidate o (unjudged_in (counted c.args.counting rest) c.args.judged.now)) (ap (option_map candidate_view) (sym c.in_default.is) ∙ c.in_ok-one.ensures)
    ∙ sym (unjudged_more c.args.arrival.now (counted c.args.counting rest) c.args.judged.now (sym c.is_judged.ensures ∙ c.if-is_judged.false))
    ∙ ap (λ xs. unjudged_in xs c.args.judged.now) (sym (current_more c.args.counting.span c.args.counting.moment c.args.arrival.now rest (sym c.counts.ensures ∙ c.if-not-counts.false)))
