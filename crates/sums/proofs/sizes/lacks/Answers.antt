use Rattle.std.proofs.Common.{◌∙◌, sym, not, rules}
use Rattle.std.proofs.lemmas.Iterator.{YieldsList-from_slice}
use Rattle.std.proofs.lemmas.Iterator.Search.{any_from_yields_List}
use Rattle.sums.specs.Views.{in_names, size_in, is_size_of}
use Rattle.sums.proofs.Words.{list_any-map}
use Rattle.sums.proofs.sizes.lacks.Goals as goal

pub returns : goal.returns
returns c =
    any_from_yields_List (λ file. not (is_size_of (in_names file) (size_in c.args.sizes.now file.name.now))) _ _ _ c.any.ensures.ran (YieldsList-from_slice c.args.files.now c.iter.ensures.rest) (λ x b q k. search rules)
    ∙ sym (list_any-map in_names (λ x. not (is_size_of x (size_in c.args.sizes.now x.name))) c.args.files.now)
