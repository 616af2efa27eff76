use Rattle.std.proofs.Common.{map, string_bytes}
use Rattle.suites.specs.Upload.{sidecar_parts}
use Rattle.output.specs.Explaining.Items.{package_lines}
use Rattle.output.proofs.ItemLemmas.{all_added}
use Rattle.output.proofs.explaining.items.push_packages.Goals as goal

pub returns : goal.returns
returns c =
    all_added (package_lines c.args.place.now.shelves.now c.args.place.now.suite c.args.place.now.codename.now c.args.upload.now.changes) (λ p. (p.entry.now, p.text.now))
    (map string_bytes c.args.lines.now.items) (map string_bytes c.loop-part.lines.items) c.deref-part-items.result.now c.in_ok-parts.parts.items (sidecar_parts c.args.upload.now) c.loop-part.part-index
    c.loop-part-test.false c.loop-part.invariant c.deref-part-items.ensures.value c.in_ok-parts.ensures
