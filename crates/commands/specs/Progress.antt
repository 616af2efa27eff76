-- How far a command is, as a line.
use Rattle.std.specs.Prelude.{ℕ, ◌*◌, ◌/◌, nat_le, cond, List, ◌++◌, codes, decimal}

-- the part of all that is done, in percent, rounded down; 100 if there is nothing to do, or if more is done than
-- was expected
unfoldable pub percent : ℕ → ℕ → ℕ
percent done all = cond (nat_le all done) 100 ((done * 100) / all)

-- the line of a command: its name, the part that is done in percent, the number that is done of the number of all,
-- and what is counted
abbrev pub line_of : List ℕ → List ℕ → ℕ → ℕ → List ℕ
line_of command counted done all =
    command ++ (codes ": " ++ (decimal (percent done all) ++ (codes "%, " ++ (decimal done ++ (codes " of " ++ (decimal all ++ (codes " " ++ counted)))))))
