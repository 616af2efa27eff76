use Rattle.std.proofs.Common.{◌∙◌, ap, sym, string_bytes}
use Rattle.std.proofs.lemmas.List.Folds.{flat_map-map}
use Rattle.desk.specs.Answer.{text_message}
use Rattle.desk.specs.Message.{message_of}
use Rattle.desk.specs.Reply.{line}
use Rattle.desk.proofs.exchange.report_reply.Goals as goal

pub returns-in-Ok : goal.returns-in-Ok
returns-in-Ok c want =
    rw c.in-Ok.is (ap message_of c.new.ensures ∙ ap (text_message 200) (sym (flat_map-map line string_bytes c.in-Ok.report.lines.items)))
