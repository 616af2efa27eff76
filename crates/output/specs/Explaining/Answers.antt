-- What an answer says, by its parts: today's verdict if it is another, what is named, and whether the files were cleaned.
use Rattle.std.specs.Prelude.{ℕ, Bool, true, false, if◌then◌else◌, List, [], ◌∷◌, ◌++◌, map, codes, string_bytes, Option, Some, None, option_to_list, unwrap_or}
use Rattle.serde_json.specs.Data.{Data}
use Rattle.rules.specs.declared.verdict.Verdict.{Verdict}
use Rattle.book.specs.declared.change.Judgement.{Judgement}
use Rattle.output.specs.Explaining.Judged.{judged_object, number_if, today_lines}
use Rattle.output.specs.Explaining.Sentences.{is_accepted, meaning, remedy, verdict_words}
use Rattle.output.specs.Explaining.Words.{upload_words}
use Rattle.output.specs.declared.explaining.answer.Answer.{Answer}

-- What is meant by today's verdict, or else by the one that was given. Nothing is said if an upload that was refused would be accepted.
abbrev pub meant_by : (given : Verdict) → Option Verdict → Option (List ℕ)
meant_by given None = Some (meaning given)
meant_by given (Some today) = if is_accepted today then None else Some (meaning today)

-- whether items are named, which stand for what an acceptance means
abbrev pub has_items : (given : Verdict) → Option Verdict → (is_cleaned : Bool) → Bool
has_items given (Some today) is_cleaned = false
has_items given None true = false
has_items given None false = is_accepted given

abbrev pub meant_lines : (given : Verdict) → Option Verdict → (is_cleaned : Bool) → List (List ℕ)
meant_lines given today is_cleaned = if has_items given today is_cleaned then [] else option_to_list (meant_by given today)

-- the line on files that were cleaned
abbrev pub gone_lines : (is_cleaned : Bool) → List (List ℕ)
gone_lines is_cleaned = if is_cleaned then codes "its files were cleaned" ∷ [] else []

-- what to do about today's verdict, or else about the one that was given
abbrev pub todo_by : (given : Verdict) → Option Verdict → Option (List ℕ)
todo_by given today = remedy (unwrap_or today given)

-- the lines below the first
abbrev pub said_below : (given : Verdict) → Option Verdict → List (List ℕ) → (is_cleaned : Bool) → List (List ℕ)
said_below given today named is_cleaned =
    today_lines today ++ (meant_lines given today is_cleaned ++ (named ++ (gone_lines is_cleaned ++ option_to_list (todo_by given today))))

-- the first line
abbrev pub first_line : Judgement → List ℕ
first_line j = upload_words (verdict_words j.verdict) j.name j.print

-- ---- as an object

abbrev pub said_data : Judgement → Answer → Data
said_data j answer =
    judged_object j (meant_by j.verdict answer.today) (todo_by j.verdict answer.today) (number_if answer.today) (map string_bytes answer.names.items)
