use Rattle.std.proofs.Common.{◌≡◌, ◌≤◌, pos, to_z, of_z, arith}
use Rattle.std.specs.Int.{w8}
use Rattle.texts.proofs.Days.{shown, day_small, back}
use Rattle.texts.proofs.date.day.Goals as goal

pub returns-clause-value : goal.returns-clause-value
returns-clause-value c =
    let found = shown c.args.time c.args.moment c.requires in
    let small : c.args.time.date.day ≤ 31 = day_small c.args.time.date in
    let same : to_z w8 (of_z w8 c.day.result) ≡ pos c.args.time.date.day = back w8 _ _ c.day.ensures (omega arith) in
    rw same found.day
