use Rattle.std.proofs.Common.{◌≡◌, nat_eq, map, filter}
use Rattle.std.specs.Map.Iter.{deref_pair}
use Rattle.std.specs.String.{string_bytes}
use Rattle.output.specs.Json.{json_on}
use Rattle.output.proofs.listing.json.shown_json.Given as goal

abbrev pub invariant-loop-key : goal.invariant-loop-key
invariant-loop-key l = map string_bytes l.lines.items ≡ map json_on (filter (λ entry. nat_eq entry.0.suite l.suite) (map deref_pair l.yielded))
