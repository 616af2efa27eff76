use Rattle.std.proofs.Common.{◌≡◌, ◌≤◌, pos, to_z, of_z, arith}
use Rattle.std.specs.Int.{w8}
use Rattle.texts.proofs.Days.{shown, month_small, back}
use Rattle.texts.proofs.date.month.Goals as goal

pub returns-clause-value : goal.returns-clause-value
returns-clause-value c =
    let found = shown c.args.time c.args.moment c.requires in
    let month = found.month in
    let small : c.args.time.date.month ≤ 12 = month_small c.args.time.date in
    let same : to_z w8 (of_z w8 c.month.result) ≡ pos c.args.time.date.month = back w8 _ _ c.month.ensures (omega arith) in
    rw same (omega arith)
