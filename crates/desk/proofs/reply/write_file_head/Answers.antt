use Rattle.std.proofs.Common.{List, ℕ, OnOk, OnErr, rules}
use Rattle.std.specs.Io.KnownBytes.{Appends}
use Rattle.desk.specs.Transfer.{AppendsBeginning}
use Rattle.desk.proofs.ReplyLemmas.{err_weaker, file_parts, head_of_file, ok_weaker}
use Rattle.desk.proofs.reply.write_file_head.Goals as goal

pub returns-clause-ok : goal.returns-clause-ok
returns-clause-ok g c =
    let held = g.W.Write.contents c.args.writer.now in
    let holds = g.W.Write.contents c.write_parts.new.writer in
    let parts : OnOk c.write_parts.result (Appends held holds (file_parts c.args.size)) = search rules in
    ok_weaker c.write_parts.result (head_of_file (Appends held holds) c.args.size) parts

pub returns-clause-err : goal.returns-clause-err
returns-clause-err g c =
    let held = g.W.Write.contents c.args.writer.now in
    let holds = g.W.Write.contents c.write_parts.new.writer in
    let parts : OnErr c.write_parts.result (AppendsBeginning held holds (file_parts c.args.size)) = search rules in
    err_weaker c.write_parts.result (head_of_file (AppendsBeginning held holds) c.args.size) parts
