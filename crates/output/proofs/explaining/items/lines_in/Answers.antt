use Rattle.std.proofs.Common.{ap, map, string_bytes}
use Rattle.output.proofs.ItemLemmas.{lines_added}
use Rattle.output.proofs.explaining.items.lines_in.Goals as goal

pub returns : goal.returns
returns c =
    lines_added c.args.place.now.shelves.now c.args.place.now.suite c.args.place.now.codename.now c.args.upload.now
    (map string_bytes c.new-lines.result.items) (map string_bytes c.push_sources.new.lines.items) (map string_bytes c.push_packages.new.lines.items)
    (ap (map string_bytes) c.new-lines.ensures.items) c.in_ok-push_sources.ensures c.in_ok-push_packages.ensures
