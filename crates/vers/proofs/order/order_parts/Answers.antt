use Rattle.std.proofs.Common.{◌∙◌, ◌<◌, ◌⊎◌, inl, inr, length, sym, arith}
use Rattle.std.proofs.lemmas.Bool.Decides.{nat_tests}
use Rattle.vers.specs.Order.{part_cmp}
use Rattle.vers.proofs.Keys.{Fronts, Digits, decided_by_characters, decided_by_numbers, tied_first_block, blocks_fall}
use Rattle.vers.proofs.order.order_parts.Goals as goal
use Rattle.vers.proofs.order.order_parts.Goals.{then-not-is_at_end, else-not-is_at_end+then-not-is_at_end-2}

pub returns-then-is_ne : goal.returns-then-is_ne
returns-then-is_ne c =
    let v = c.by_block.left.rest.now in
    let w = c.by_block.right.rest.now in
    let fronts : Fronts v w = record {
      left_characters = c.take_non_digits.result.now;
      right_characters = c.take_non_digits-in-by_block.result.now;
      left_behind = c.take_non_digits.new.self.rest.now;
      right_behind = c.take_non_digits-in-by_block.new.self.rest.now;
      by_characters = c.order_non_digits-by_characters.result;
      left_is = c.take_non_digits.ensures.front;
      right_is = c.take_non_digits-in-by_block.ensures.front;
      left_behind_is = c.take_non_digits.ensures.rest;
      right_behind_is = c.take_non_digits-in-by_block.ensures.rest;
      by_characters_is = c.order_non_digits-by_characters.ensures;
    } in
    decided_by_characters v w fronts (sym c.is_ne.ensures ∙ c.if-is_ne.true) ∙ c.by_block.invariant

pub returns-then-is_ne-2 : goal.returns-then-is_ne-2
returns-then-is_ne-2 c =
    let v = c.by_block.left.rest.now in
    let w = c.by_block.right.rest.now in
    let fronts : Fronts v w = record {
      left_characters = c.take_non_digits.result.now;
      right_characters = c.take_non_digits-in-by_block.result.now;
      left_behind = c.take_non_digits.new.self.rest.now;
      right_behind = c.take_non_digits-in-by_block.new.self.rest.now;
      by_characters = c.order_non_digits-by_characters.result;
      left_is = c.take_non_digits.ensures.front;
      right_is = c.take_non_digits-in-by_block.ensures.front;
      left_behind_is = c.take_non_digits.ensures.rest;
      right_behind_is = c.take_non_digits-in-by_block.ensures.rest;
      by_characters_is = c.order_non_digits-by_characters.ensures;
    } in
    let numbers : Digits fronts = record {
      left_digits = c.take_digits.result.now;
      right_digits = c.take_digits-in-by_block.result.now;
      by_numbers = c.order_numbers-by_numbers.result;
      left_is = c.take_digits.ensures.front;
      right_is = c.take_digits-in-by_block.ensures.front;
      by_numbers_is = c.order_numbers-by_numbers.ensures;
    } in
    decided_by_numbers v w fronts numbers (sym c.is_ne.ensures ∙ c.if-is_ne.false) (sym c.is_ne-in-by_block.ensures ∙ c.if-is_ne-2.true) ∙ c.by_block.invariant

pub by_block-smaller : goal.by_block-smaller
by_block-smaller c =
    let v = c.by_block.left.rest.now in
    let w = c.by_block.right.rest.now in
    let some : (0 < length v) ⊎ (0 < length w) = elim c.if-not-is_at_end.branch [
      | then-not-is_at_end h ↦ inl (grind (arith, nat_tests))
      | else-not-is_at_end+then-not-is_at_end-2 h ↦ inr (grind (arith, nat_tests))
    ] in
    rw (c.take_digits.ensures.rest, c.take_digits-in-by_block.ensures.rest, c.take_non_digits.ensures.rest, c.take_non_digits-in-by_block.ensures.rest) (blocks_fall v w some)

pub by_block-preserved : goal.by_block-preserved
by_block-preserved c =
    let v = c.by_block.left.rest.now in
    let w = c.by_block.right.rest.now in
    let fronts : Fronts v w = record {
      left_characters = c.take_non_digits.result.now;
      right_characters = c.take_non_digits-in-by_block.result.now;
      left_behind = c.take_non_digits.new.self.rest.now;
      right_behind = c.take_non_digits-in-by_block.new.self.rest.now;
      by_characters = c.order_non_digits-by_characters.result;
      left_is = c.take_non_digits.ensures.front;
      right_is = c.take_non_digits-in-by_block.ensures.front;
      left_behind_is = c.take_non_digits.ensures.rest;
      right_behind_is = c.take_non_digits-in-by_block.ensures.rest;
      by_characters_is = c.order_non_digits-by_characters.ensures;
    } in
    let numbers : Digits fronts = record {
      left_digits = c.take_digits.result.now;
      right_digits = c.take_digits-in-by_block.result.now;
      by_numbers = c.order_numbers-by_numbers.result;
      left_is = c.take_digits.ensures.front;
      right_is = c.take_digits-in-by_block.ensures.front;
      by_numbers_is = c.order_numbers-by_numbers.ensures;
    } in
    (λ i. part_cmp (c.take_digits.ensures.rest i) (c.take_digits-in-by_block.ensures.rest i))
    ∙ sym (tied_first_block v w fronts numbers (sym c.is_ne.ensures ∙ c.if-is_ne.false) (sym c.is_ne-in-by_block.ensures ∙ c.if-is_ne-2.false))
    ∙ c.by_block.invariant
