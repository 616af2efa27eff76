use Rattle.std.proofs.Common.{◌≡◌, map, length, take}
use Rattle.std.specs.List.{filter, zip}
use Rattle.suites.specs.Upload.{has_suffix}
use Rattle.suites.proofs.upload.parts_of.Given as goal

abbrev pub invariant-loop-entry : goal.invariant-loop-entry
invariant-loop-entry l =
    map (λ p. (p.entry.now, p.text.now)) l.parts.items ≡ filter (λ p. has_suffix l.ending p.0.name) (take (length l.yielded) (zip l.entries l.texts))
