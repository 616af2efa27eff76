use Rattle.std.proofs.Common.{◌≡◌, take}
use Rattle.std.specs.List.{list_all}
use Rattle.sums.specs.FileNames.{is_name_character}
use Rattle.sums.proofs.file_name.are_name_characters.Given as goal

abbrev pub invariant-loop-c : goal.invariant-loop-c
invariant-loop-c l = l.all ≡ list_all is_name_character (take l.c-index l.fn.bytes)
