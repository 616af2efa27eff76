-- The grammar of a list of commands: a printer from what is asked for to its line, what can be asked for, and the lists that are made
-- of such lines.
use Rattle.std.specs.Prelude.{◌≡◌, ◌⊎◌, ℕ, ◌+◌, ◌<◌, false, List, [], ◌∷◌, ◌++◌, length, codes, IsUtf8}
use Rattle.std.specs.List.{AllByRecursion, join_with_byte, list_any}
use Rattle.para.specs.Bytes.{is_newline}
use Rattle.sums.specs.Lines.{is_space}
use Rattle.lists.specs.Lists.{RequestBytes}
use Rattle.lists.specs.declared.request.Request.TheVariants as request

-- ---- a line

-- a word: one byte or more, none of them a space
pub record IsOneWord (word : List ℕ) : Type 0 where
  pub some : 0 < length word
  pub no_space : list_any is_space word ≡ false

-- what can be asked for: each name is a word; a path is one byte or more, and may hold spaces
abbrev pub IsAskable : RequestBytes → Type 0
IsAskable (request.Put path) = 0 < length path
IsAskable request.Run = Unit {0}
IsAskable (request.Copy from to source) = IsOneWord from × IsOneWord to × IsOneWord source
IsAskable (request.Promote from to sources) = IsOneWord from × IsOneWord to
IsAskable (request.Remove suite name) = IsOneWord suite × IsOneWord name
IsAskable request.Clean = Unit {0}
IsAskable request.Waiting = Unit {0}
IsAskable request.Verdicts = Unit {0}

-- the words that ask for a request, the command first
abbrev pub words_of : RequestBytes → List (List ℕ)
words_of (request.Put path) = codes "put" ∷ path ∷ []
words_of request.Run = codes "run" ∷ []
words_of (request.Copy from to source) = codes "copy" ∷ from ∷ to ∷ source ∷ []
words_of (request.Promote from to sources) = codes "promote" ∷ from ∷ to ∷ []
words_of (request.Remove suite name) = codes "remove" ∷ suite ∷ name ∷ []
words_of request.Clean = codes "clean" ∷ []
words_of request.Waiting = codes "waiting" ∷ []
words_of request.Verdicts = codes "verdicts" ∷ []

-- the line of a request: its words, with one space (32) between each two
abbrev pub print_request : RequestBytes → List ℕ
print_request r = join_with_byte 32 (words_of r)

-- a line that asks for this: the printed one, in UTF-8
pub record IsCommand (line : List ℕ) (r : RequestBytes) : Type 0 where
  pub utf8 : IsUtf8 line
  pub is_askable : IsAskable r
  pub printed : line ≡ print_request r

-- a line that is passed over: an empty one, and one that begins with a number sign
abbrev pub IsPassedOver : List ℕ → Type 0
IsPassedOver line = (line ≡ []) ⊎ ((rest : List ℕ) × (line ≡ codes "#" ++ rest))

-- a line that a list may have
abbrev pub IsGoodLine : List ℕ → Type 0
IsGoodLine line = IsPassedOver line ⊎ ((r : RequestBytes) × IsCommand line r)

-- ---- a list

-- a list of these lines: no line has a newline, and one (10) stands between each two
pub record HasLines (list : List ℕ) (lines : List (List ℕ)) : Type 0 where
  pub no_newline : AllByRecursion (λ line. list_any is_newline line ≡ false) lines
  pub joined : list ≡ join_with_byte 10 lines

-- these lines ask for these, in their order: a line is passed over, or asks for the next
abbrev pub AskFor : List (List ℕ) → List RequestBytes → Type 0
AskFor [] rs = rs ≡ []
AskFor (line ∷ more) rs = (IsPassedOver line × AskFor more rs) ⊎ ((r : RequestBytes) × (rest : List RequestBytes) × IsCommand line r × (rs ≡ r ∷ rest) × AskFor more rest)

-- a list that asks for these
pub record SpellsList (list : List ℕ) (rs : List RequestBytes) : Type 0 where
  pub lines : List (List ℕ)
  pub has_lines : HasLines list lines
  pub ask : AskFor lines rs

-- a list whose first bad line has this number, from 1
pub record IsBadAt (list : List ℕ) (number : ℕ) : Type 0 where
  pub before : List (List ℕ)
  pub line : List ℕ
  pub behind : List (List ℕ)
  pub has_lines : HasLines list (before ++ line ∷ behind)
  pub good : AllByRecursion IsGoodLine before
  pub bad : ¬ IsGoodLine line
  pub place : number ≡ length before + 1
