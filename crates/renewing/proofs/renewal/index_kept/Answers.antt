use Rattle.std.proofs.Common.{[], string_bytes, ap, ◌∙◌}
use Rattle.std.specs.Prelude.{unwrap_or}
use Rattle.std.specs.Option.{option_map}
use Rattle.sums.specs.Prints.{print}
use Rattle.book.specs.Book.{text_at}
use Rattle.renewing.specs.Renewal.{index_with}
use Rattle.renewing.proofs.RenewedSteps.{print_or}
use Rattle.renewing.proofs.renewal.index_kept.Goals as goal

pub returns-clause-index : goal.returns-clause-index
returns-clause-index g c clean =
    let book = g.K.Keeper.book c.args.keeper.now in
    let own =
    c.print_or_none.ensures
    ∙ ap (λ o. unwrap_or o (print [])) (c.in_ok-kept.ensures.print clean ∙ ap (λ whole. option_map print (text_at book whole)) c.as_str.ensures.value)
    ∙ print_or (text_at book (string_bytes c.args.whole)) in
    λ i. index_with (c.from_string.ensures i) (own i)
