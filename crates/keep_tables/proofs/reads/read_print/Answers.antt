use Rattle.std.proofs.Common.{sym, ap, ◌∙◌}
use Rattle.std.specs.Option.{option_map}
use Rattle.sums.specs.Prints.{print}
use Rattle.tables_audit.proofs.WholeLemmas.{at_some}
use Rattle.keep_tables.proofs.reads.read_print.Goals as goal

pub returns-in_ok-read_nothing-in-Some-clause-print : goal.returns-in_ok-read_nothing-in-Some-clause-print
returns-in_ok-read_nothing-in-Some-clause-print g c clean config judged shown dates keeps here = sym (at_some _ _ c.in-Some.print c.in-Some.is here)

pub returns-in_ok-text-in-None-clause-print : goal.returns-in_ok-text-in-None-clause-print
returns-in_ok-text-in-None-clause-print g c clean config judged shown dates keeps here =
    c.print_of_text.ensures ∙ ap (option_map print) (c.in_ok-text-in-None.ensures.text clean config judged shown dates keeps)
