use Rattle.std.proofs.Common.{◌≡◌, ◌++◌, string_bytes}
use Rattle.std.specs.Str.Iter.{chars_rest}
use Rattle.pages.specs.Escapes.{escaped}
use Rattle.pages.proofs.escape.push_characters.Given as goal

abbrev pub invariant-loop-character : goal.invariant-loop-character
invariant-loop-character l = string_bytes l.out ++ escaped (chars_rest l.character-iterator) ≡ string_bytes l.fn.out ++ escaped l.text
