use Rattle.std.proofs.Common.{◌≡◌, ◌++◌, take}
use Rattle.std.specs.List.{flat_map}
use Rattle.old_book.specs.Text.{other_text}
use Rattle.old_book.proofs.without_days.write_paragraphs.Given as goal

-- the paragraphs so far
abbrev pub invariant-loop-paragraph : goal.invariant-loop-paragraph
invariant-loop-paragraph l = l.out.items ≡ l.fn.out.items ++ flat_map other_text (take l.paragraph-index l.paragraphs)
