use Rattle.std.proofs.Common.{◌≡◌, nat_eq, map, filter}
use Rattle.std.specs.Map.Iter.{deref_pair}
use Rattle.std.specs.String.{string_bytes}
use Rattle.output.specs.Listing.{line_on}
use Rattle.output.proofs.listing.shown.shown_lines.Given as goal

abbrev pub invariant-loop-key : goal.invariant-loop-key
invariant-loop-key l = map string_bytes l.lines.items ≡ map line_on (filter (λ entry. nat_eq entry.0.suite l.suite) (map deref_pair l.yielded))
