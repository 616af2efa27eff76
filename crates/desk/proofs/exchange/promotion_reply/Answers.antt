use Rattle.std.proofs.Common.{◌∙◌, ap, sym, string_bytes}
use Rattle.std.specs.List.{flat_map}
use Rattle.std.proofs.lemmas.List.Folds.{flat_map-map}
use Rattle.desk.specs.Answer.{text_message}
use Rattle.desk.specs.Message.{message_of}
use Rattle.desk.specs.Reply.{line}
use Rattle.desk.proofs.exchange.promotion_reply.Goals as goal

pub returns-in-Ok : goal.returns-in-Ok
returns-in-Ok c want =
    let lines = rw c.in-Ok.is at c.requires in
    rw c.in-Ok.is (ap message_of c.new.ensures
    ∙ ap (text_message 200) (sym (flat_map-map line string_bytes c.in-Ok.promotion.report.lines.items) ∙ ap (flat_map line) lines))
