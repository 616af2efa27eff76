use Rattle.std.proofs.Common.{◌≤◌, length, arith}
use Rattle.desk.proofs.FaultLemmas.{name_is_short}
use Rattle.desk.proofs.fault_text.push_record.Goals as goal

pub push_str-requires-in-Missing : goal.push_str-requires-in-Missing
push_str-requires-in-Missing c =
    let short : length c.name.result.now ≤ 16 = rw c.name.ensures (name_is_short c.in-Missing.name) in
    omega (arith, short, c.requires, c.push_number.ensures.len, c.push_str.ensures.len)
