use Rattle.std.proofs.Common.{◌≡◌, map}
use Rattle.std.specs.Map.Iter.{deref_pair}
use Rattle.std.specs.String.{string_bytes}
use Rattle.history.specs.Archives.{each_once}
use Rattle.history.proofs.PromotionSteps.{sources_among}
use Rattle.history.proofs.promotion.shown_sources.Given as goal

abbrev pub invariant-loop-key : goal.invariant-loop-key
invariant-loop-key l = map string_bytes l.set.keys ≡ each_once (sources_among l.suite (map deref_pair l.yielded))
