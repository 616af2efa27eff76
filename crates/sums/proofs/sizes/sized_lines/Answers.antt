use Rattle.std.proofs.Common.{◌∙◌, ap, rules}
use Rattle.std.specs.Slice.Iter.{iter_rest}
use Rattle.std.proofs.lemmas.Iterator.{YieldsList-from_slice, YieldsList-from_map_by}
use Rattle.std.proofs.lemmas.Iterator.Consumers.{map_from_collect}
use Rattle.sums.specs.Lists.{name_and_size}
use Rattle.sums.specs.Views.{line_form, in_names}
use Rattle.sums.proofs.sizes.sized_lines.Goals as goal

pub returns : goal.returns
returns c =
    map_from_collect c.collect.result c.collect.ensures.ran
    (YieldsList-from_map_by _ in_names (name_and_size (line_form c.args.form)) (YieldsList-from_slice c.args.lines.now (ap iter_rest c.map.ensures.source ∙ c.iter.ensures.rest)) c.map.ensures.closure (λ x r q k. search rules))
