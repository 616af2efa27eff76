use Rattle.std.proofs.Common.{arith, ◌∙◌, sym, ap, ◌≡◌, ◌+◌, ◌*◌, true, take}
use Rattle.std.specs.List.{list_all}
use Rattle.std.specs.Str.Parse.{digits_value}
use Rattle.std.specs.Char.{is_ascii_digit}
use Rattle.desk.proofs.FieldLemmas.{digits_so_far, next_digit}
use Rattle.desk.proofs.head.read_length.Goals as goal

pub overflow_mul-length : goal.overflow_mul-length
overflow_mul-length c =
    let all : list_all is_ascii_digit c.args.text.now ≡ true = sym c.is_digits.ensures ∙ c.if-not-is_digits.false in
    let within = c.loop-digit-test.true in
    let below = digits_so_far c.args.text.now c.loop-digit.digit-index all (omega arith) within in
    let value = c.loop-digit.invariant in
    omega arith

pub overflow_add-length : goal.overflow_add-length
overflow_add-length c =
    let all : list_all is_ascii_digit c.args.text.now ≡ true = sym c.is_digits.ensures ∙ c.if-not-is_digits.false in
    let within = c.loop-digit-test.true in
    let below = digits_so_far c.args.text.now c.loop-digit.digit-index all (omega arith) within in
    let value : c.loop-digit.length ≡ digits_value 10 (take c.loop-digit.digit-index c.args.text.now) = c.loop-digit.invariant in
    let byte = c.from.ensures in
    omega arith

pub loop-digit-preserved : goal.loop-digit-preserved
loop-digit-preserved c =
    let all : list_all is_ascii_digit c.args.text.now ≡ true = sym c.is_digits.ensures ∙ c.if-not-is_digits.false in
    let within = c.loop-digit-test.true in
    let next = next_digit c.args.text.now c.loop-digit.digit-index all within in
    ap (λ n. n * 10 + c.from.result) c.loop-digit.invariant
    ∙ ap (λ d. digits_value 10 (take c.loop-digit.digit-index c.args.text.now) * 10 + d) c.from.ensures
    ∙ next
