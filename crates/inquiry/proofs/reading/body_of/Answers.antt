use Rattle.std.proofs.Common.{◌≡◌, ℕ, List, Some, true, true≢false, option_map, sym, ap, ◌∙◌}
use Rattle.sums.specs.Prints.{print as print_of, same_print}
use Rattle.book.proofs.Prints.{same_print-Decides}
use Rattle.inquiry.specs.Reading.{body_of}
use Rattle.inquiry.proofs.InquiryLemmas.{printed}
use Rattle.inquiry.proofs.reading.body_of.Goals as goal

pub returns-then-not-is_printed-clause-body : goal.returns-then-not-is_printed-clause-body
returns-then-not-is_printed-clause-body g c clean =
    let arrivals = (g.K.Keeper.book c.args.keeper.now).arrivals in
    let name = c.args.name.now in
    let print = c.args.print.now in
    let is : body_of arrivals name print ≡ Some c.in-Some.body.items = sym (c.in_ok-body.ensures.body clean) ∙ ap (option_map (λ body. body.items)) c.in-Some.is in
    let same : same_print (print_of c.deref.result.now) print ≡ true =
    (same_print-Decides (print_of c.deref.result.now) print).1 (ap print_of c.deref.ensures.value ∙ printed arrivals name print c.in-Some.body.items is) in
    absurd (true≢false (sym same ∙ sym c.is_printed.ensures ∙ c.if-not-is_printed.true))

pub returns-clause-printed : goal.returns-clause-printed
returns-clause-printed g c =
    ap print_of (sym c.deref.ensures.value)
    ∙ (same_print-Decides (print_of c.deref.result.now) c.args.print.now).0 (sym c.is_printed.ensures ∙ c.if-not-is_printed.false)
