-- What is written as JSON about an upload has no number with a point, so that its text is exact.
use Rattle.std.proofs.Common.{◌≡◌, ℕ, ◌||◌, List, [], ◌∷◌, ◌++◌, filter, map, string_bytes, Option, Some, None, false, refl, ◌∙◌, rules}
use Rattle.serde_json.specs.Data.{Data, null}
use Rattle.serde_json.specs.View.{items_of, view}
use Rattle.serde_json.specs.declared.value.Value.{Null, the_lemmas}
use Rattle.serde_json.specs.Written.{has_float, items_have_float}
use Rattle.sums.specs.declared.print.Print.{Print}
use Rattle.book.specs.declared.change.Lack.{Lack}
use Rattle.book.specs.declared.change.Waiting.{Waiting}
use Rattle.book.specs.declared.change.Judgement.{Judgement}
use Rattle.rules.specs.declared.verdict.Verdict.{Verdict}
use Rattle.output.specs.declared.explaining.answer.Answer.{Answer}
use Rattle.output.specs.Explaining.Answers.{meant_by, said_data, todo_by}
use Rattle.output.specs.Explaining.Judged.{name_data, number_if, text_or_null}
use Rattle.output.specs.Explaining.Waits.{came_items, file_data, has_ended, lack_data, moment_data, never_came, waits_data}

-- null is null
pub view-Null : view Null ≡ null
view-Null = search (rules, the_lemmas)

-- ---- an upload that waits

came_first : (name : List ℕ) (prints : List Print) (rest : List Data)
    → items_have_float (items_of (map (file_data name) prints ++ rest)) ≡ items_have_float (items_of rest)
came_first name [] rest = refl
came_first name (print ∷ prints) rest = came_first name prints rest

came_plain : (lacks : List Lack) (all : List (List Print)) → items_have_float (items_of (came_items lacks all)) ≡ false
came_plain [] all = refl
came_plain (lack ∷ lacks) [] = refl
came_plain (lack ∷ lacks) (came ∷ all) = came_first lack.name came (came_items lacks all) ∙ came_plain lacks all

lacks_plain : (lacks : List Lack) → items_have_float (items_of (map lack_data lacks)) ≡ false
lacks_plain [] = refl
lacks_plain (lack ∷ lacks) = lacks_plain lacks

moment_plain : (moment : Option ℕ) → has_float (moment_data moment) ≡ false
moment_plain None = refl
moment_plain (Some moment) = refl

pub waits_have_no_float : (w : Waiting) (moment : Option ℕ) (came : List (List Print)) → has_float (waits_data w moment came) ≡ false
unfolding waits_data
waits_have_no_float w moment came = λ i.
    came_plain w.lacks came i || (lacks_plain (filter has_ended w.lacks) i || (lacks_plain (filter never_came w.lacks) i || (moment_plain moment i || false)))

-- ---- an upload that was judged

text_plain : (text : Option (List ℕ)) → has_float (text_or_null text) ≡ false
text_plain None = refl
text_plain (Some text) = refl

number_plain : (today : Option Verdict) → has_float (number_if today) ≡ false
number_plain None = refl
number_plain (Some today) = refl

names_plain : (named : List (List ℕ)) → items_have_float (items_of (map name_data named)) ≡ false
names_plain [] = refl
names_plain (name ∷ named) = names_plain named

pub said_has_no_float : (j : Judgement) (answer : Answer) → has_float (said_data j answer) ≡ false
said_has_no_float j answer = λ i.
    text_plain (meant_by j.verdict answer.today) i || (names_plain (map string_bytes answer.names.items) i
    || (number_plain answer.today i || (text_plain (todo_by j.verdict answer.today) i || false)))
