use Rattle.std.proofs.Common.{◌≡◌, ◌∙◌, length, rules}
use Rattle.std.specs.Cmp.Lexicographic.{slice_cmp}
use Rattle.std.specs.Ordering.{nat_cmp, ordering_then}
use Rattle.vers.proofs.Numbers.{number_cmp}
use Rattle.vers.proofs.order.order_numbers.Goals as goal

pub returns : goal.returns
returns c =
    let left = c.without_leading_zeros-left in
    let right = c.without_leading_zeros-right in
    let both : c.then_with.result ≡ ordering_then (nat_cmp (length left.result.now) (length right.result.now)) (slice_cmp nat_cmp left.result.now right.result.now) = search rules in
    both ∙ (number_cmp left.result.now right.result.now (left.ensures.digits c.requires.left) (right.ensures.digits c.requires.right) left.ensures.leading right.ensures.leading
    ∙ (λ i. nat_cmp (left.ensures.value i) (right.ensures.value i)))
