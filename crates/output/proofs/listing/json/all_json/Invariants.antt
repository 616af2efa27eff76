use Rattle.std.proofs.Common.{◌≡◌, map}
use Rattle.std.specs.Map.Iter.{deref_pair}
use Rattle.std.specs.String.{string_bytes}
use Rattle.output.specs.Json.{json_in}
use Rattle.output.proofs.listing.json.all_json.Given as goal

abbrev pub invariant-loop-key : goal.invariant-loop-key
invariant-loop-key l = map string_bytes l.lines.items ≡ map (json_in l.config) (map deref_pair l.yielded)
