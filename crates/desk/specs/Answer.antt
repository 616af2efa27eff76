-- The reply to what is refused before the archive hears of it.
use Rattle.std.specs.Prelude.{ℕ, List, None}
use Rattle.desk.specs.declared.head.Refusal.{Refusal}
use Rattle.desk.specs.declared.content.Content.TheVariants.{Text}
use Rattle.desk.specs.Refusals.{allowed, refusal_status}
use Rattle.desk.specs.Reply.{Message, phrase, line}

-- a reply of text
abbrev pub text_message : ℕ → List ℕ → Message
text_message status body = record { status = status; allow = None; content = Text; body = body }

-- the status and its phrase as the text, with the method that is allowed instead
abbrev pub refusal_message : Refusal → Message
refusal_message e = record {
  status = refusal_status e;
  allow = allowed e;
  content = Text;
  body = line (phrase (refusal_status e));
}
