use Rattle.std.proofs.Common.{ap, ◌∙◌}
use Rattle.std.specs.Option.{option_map}
use Rattle.sums.specs.Prints.{print}
use Rattle.indices.specs.Indices.{index_text}
use Rattle.keep.specs.Plain.{plain_book}
use Rattle.keep.proofs.plain.PlainKeeperKeeper.text_print.Goals as goal

pub returns-clause-print : goal.returns-clause-print
unfolding plain_book
returns-clause-print c = λ clean.
    let k = c.args.self.now in
    c.print_of_text.ensures
    ∙ ap (option_map print) (c.in_ok-text.ensures ∙ ap (λ dates. index_text k.config k.shelves dates c.args.path.now) c.deref.ensures.value)
