-- A `Reply` as the message that it stands for.
use Rattle.std.specs.Prelude.{ℕ, List, decimal, string_bytes}
use Rattle.std.specs.List.{flat_map}
use Rattle.desk.specs.declared.reply.Reply.{Reply}
use Rattle.desk.specs.declared.reply.Body.{Body}
use Rattle.desk.specs.declared.reply.Body.TheVariants as b
use Rattle.desk.specs.Reply.{Message, phrase, line}

-- the bytes that a body stands for
abbrev pub body_text : ℕ → Body → List ℕ
body_text status b.Phrase = line (phrase status)
body_text status (b.Text text) = line text.now
body_text status (b.Number number) = line (decimal number)
body_text status (b.Lines lines) = flat_map (λ text. line (string_bytes text)) lines.items
body_text status (b.Fault text) = line text.bytes
body_text status (b.Bytes bytes) = bytes.items

abbrev pub message_of : Reply → Message
message_of r = record { status = r.status; allow = r.allow; content = r.content; body = body_text r.status r.body }
