-- A list of commands, one a line: what each line asks for.
use Rattle.std.specs.Prelude.{ℕ, ◌+◌, ◌==◌, ◌&&◌, Bool, true, not, if◌then◌else◌, List, [], ◌∷◌, length, codes, Option, Some, None, is_some}
use Rattle.std.specs.Option.{option_and_then}
use Rattle.std.specs.List.{list_any, slice_split, before_first, after_first, filter_map}
use Rattle.std.specs.Str.{bytes_eq, is_utf8}
use Rattle.std.specs.Borrow.{Bor}
use Rattle.para.specs.Bytes.{is_newline}
use Rattle.sums.specs.Lines.{is_space}
use Rattle.lists.specs.declared.list.BatchFault.{BatchFault}
use Rattle.lists.specs.declared.list.BatchFault.TheVariants.{Line}
use Rattle.lists.specs.declared.request.Request.{Request}
use Rattle.lists.specs.declared.request.Request.TheVariants as request

-- what a line asks for, with its words as values, without their places in memory
abbrev pub RequestBytes : Type 0
RequestBytes = Request (List ℕ) (List ℕ) (Unit {0})

-- what a request of the program asks for, as values
abbrev pub bytes_of : Request (Bor (List ℕ)) (Bor (List ℕ)) (Unit {0}) → RequestBytes
bytes_of (request.Put path) = request.Put path.now
bytes_of request.Run = request.Run
bytes_of (request.Copy from to source) = request.Copy from.now to.now source.now
bytes_of (request.Promote from to sources) = request.Promote from.now to.now tt
bytes_of (request.Remove suite name) = request.Remove suite.now name.now
bytes_of request.Clean = request.Clean
bytes_of request.Waiting = request.Waiting
bytes_of request.Verdicts = request.Verdicts

-- ---- a line

-- a word: one byte or more, none of them a space
unfoldable pub is_one_word : List ℕ → Bool
is_one_word text = not (length text == 0) && not (list_any is_space text)

-- what stands before the first space of a text, and what stands after it, if the text has a space
unfoldable pub parted : List ℕ → Option (List ℕ × List ℕ)
parted text = if list_any is_space text then Some (before_first is_space text, after_first is_space text) else None

-- two words with one space between
unfoldable pub two_words : List ℕ → Option (List ℕ × List ℕ)
two_words text = option_and_then (λ parts. if is_one_word parts.0 && is_one_word parts.1 then Some parts else None) (parted text)

-- PATH, which may hold spaces
unfoldable pub put_of : List ℕ → Option RequestBytes
put_of path = if length path == 0 then None else Some (request.Put path)

-- FROM TO SOURCE
unfoldable pub copy_of : List ℕ → Option RequestBytes
copy_of text =
    option_and_then (λ parts. option_and_then (λ more. if is_one_word parts.0 then Some (request.Copy parts.0 more.0 more.1) else None) (two_words parts.1))
    (parted text)

-- FROM TO
unfoldable pub promotion_of : List ℕ → Option RequestBytes
promotion_of text = option_and_then (λ words. Some (request.Promote words.0 words.1 tt)) (two_words text)

-- SUITE PACKAGE
unfoldable pub removal_of : List ℕ → Option RequestBytes
removal_of text = option_and_then (λ words. Some (request.Remove words.0 words.1)) (two_words text)

-- a command with what stands after its space
unfoldable pub worded : List ℕ → List ℕ → Option RequestBytes
worded command rest =
    if bytes_eq command (codes "put") then put_of rest
    else (if bytes_eq command (codes "copy") then copy_of rest
    else (if bytes_eq command (codes "promote") then promotion_of rest
    else (if bytes_eq command (codes "remove") then removal_of rest else None)))

-- a command that is one word
unfoldable pub lone : List ℕ → Option RequestBytes
lone line =
    if bytes_eq line (codes "run") then Some request.Run
    else (if bytes_eq line (codes "clean") then Some request.Clean
    else (if bytes_eq line (codes "waiting") then Some request.Waiting
    else (if bytes_eq line (codes "verdicts") then Some request.Verdicts else None)))

abbrev pub command_by : Option (List ℕ × List ℕ) → List ℕ → Option RequestBytes
command_by None line = lone line
command_by (Some parts) line = worded parts.0 parts.1

-- the command that a text is, if it is one
unfoldable pub command_of : List ℕ → Option RequestBytes
command_of text = command_by (parted text) text

-- the command that bytes are, if they are UTF-8 and a command
unfoldable pub command_in : List ℕ → Option RequestBytes
command_in line = if is_utf8 line then command_of line else None

-- ---- the lines of a list

-- a line that is passed over: an empty one, and one that begins with a number sign
abbrev pub is_passed_over : List ℕ → Bool
is_passed_over [] = true
is_passed_over (b ∷ bs) = b == 35

-- what a line of a list asks for, if it is not passed over
unfoldable pub asked : List ℕ → Option RequestBytes
asked line = if is_passed_over line then None else command_in line

-- a line that is neither passed over nor a command
unfoldable pub is_bad : List ℕ → Bool
is_bad line = not (is_passed_over line) && not (is_some (command_in line))

-- the pieces between the newlines of a list; the last is empty if the list ends in a newline
abbrev pub lines_in : List ℕ → List (List ℕ)
lines_in list = slice_split is_newline list

-- the number of the first bad line among lines that stand after `count` others
abbrev pub fault_behind : ℕ → List (List ℕ) → Option BatchFault
fault_behind count [] = None
fault_behind count (line ∷ more) = if is_bad line then Some (Line (count + 1)) else fault_behind (count + 1) more

-- what lines ask for, in their order
abbrev pub asked_by_lines : List (List ℕ) → List RequestBytes
asked_by_lines ls = filter_map asked ls

-- why a list is refused: its first bad line
abbrev pub list_fault : List ℕ → Option BatchFault
list_fault list = fault_behind 0 (lines_in list)

-- what a list asks for
abbrev pub asked_by_list : List ℕ → List RequestBytes
asked_by_list list = asked_by_lines (lines_in list)
