use Rattle.std.proofs.Common.{◌≡◌, ◌++◌, take}
use Rattle.para.specs.Field.{field_values}
use Rattle.para.specs.Printing.{paragraph_text}
use Rattle.old_book.specs.Text.{other_fields}
use Rattle.old_book.proofs.without_days.write_others.Given as goal

-- the fields so far
abbrev pub invariant-loop-field : goal.invariant-loop-field
invariant-loop-field l = l.out.items ≡ l.fn.out.items ++ paragraph_text (other_fields (field_values (take l.field-index l.fields)))
