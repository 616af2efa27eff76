use Rattle.std.proofs.Common.{◌≡◌, ◌++◌, drop, map, string_bytes}
use Rattle.std.specs.List.{flat_map}
use Rattle.output.specs.Explaining.Items.{source_lines}
use Rattle.output.proofs.explaining.items.push_sources.Given as goal

abbrev pub invariant-loop-part : goal.invariant-loop-part
invariant-loop-part l =
    map string_bytes l.lines.items ++ flat_map (λ p. source_lines l.place.shelves.now l.place.suite l.place.codename.now l.upload.changes (p.entry.now, p.text.now)) (drop l.part-index l.part-items)
    ≡ map string_bytes l.fn.lines.items ++ flat_map (λ p. source_lines l.place.shelves.now l.place.suite l.place.codename.now l.upload.changes (p.entry.now, p.text.now)) l.part-items
