use Rattle.std.proofs.Common.{◌≡◌, ◌++◌, IsUtf8, string_bytes}
use Rattle.std.specs.Str.Iter.{chars_rest}
use Rattle.telling.specs.Why.{shown_text}
use Rattle.telling.proofs.lines.shown_text.Given as goal

-- what is shown, and what is left of the line
abbrev pub invariant-loop-character : goal.invariant-loop-character
invariant-loop-character l = record {
  text : IsUtf8 (chars_rest l.character-iterator);
  shown : string_bytes l.shown ++ shown_text (chars_rest l.character-iterator) ≡ shown_text l.line;
}
