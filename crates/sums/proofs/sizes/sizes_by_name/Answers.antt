use Rattle.std.proofs.Common.{◌∙◌, sym, get_or, Some}
use Rattle.std.proofs.lemmas.Map.Text.{btree_map_updates_str}
use Rattle.sums.proofs.SizesByName.{no_file, twice_at, sizes_more}
use Rattle.sums.proofs.sizes.sizes_by_name.Goals as goal

pub returns-then-is_some : goal.returns-then-is_some
returns-then-is_some c =
    twice_at c.args.files.now c.loop-file.file-index c.loop-file.sizes c.in_ok-insert.field-0 c.loop-file.invariant c.loop-file-test.true c.in_ok-insert.ensures.old (sym c.is_some.ensures ∙ c.if-is_some.true)

pub loop-file-preserved : goal.loop-file-preserved
loop-file-preserved c =
    let x = get_or c.args.files.now c.loop-file.file-index no_file in
    sizes_more c.args.files.now c.loop-file.file-index c.loop-file.sizes c.insert.new.self c.in_ok-insert.field-0 c.loop-file.invariant c.loop-file-test.true c.in_ok-insert.ensures.old (sym c.is_some.ensures ∙ c.if-is_some.false)
    (btree_map_updates_str x.name.now c.loop-file.sizes c.insert.new.self (Some x.size) c.in_ok-insert.ensures.updates)
