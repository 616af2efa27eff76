-- What an answer says is what is said of the upload that it is on.
use Rattle.std.proofs.Common.{◌≡◌, Bool, true, false, if◌then◌else◌, nat_eq, List, [], ◌∷◌, ◌++◌, map, string_bytes, String, Option, Some, None, option_to_list, unwrap_or, refl, sym, ap, ap₂, ◌∙◌}
use Rattle.std.specs.declared.alloc.Global.{Global}
use Rattle.std.proofs.lemmas.Bool.Decides.{Decides-eqb}
use Rattle.rules.specs.Values.{ConfigValue}
use Rattle.rules.specs.Verdicts.{number_of}
use Rattle.rules.specs.declared.verdict.Verdict.{Verdict}
use Rattle.rules.proofs.VerdictNumbers.{same_verdict}
use Rattle.suites.specs.Shelves.{ShelvesValue}
use Rattle.suites.specs.Upload.{UploadValue}
use Rattle.suites.specs.Verdict.{verdict_on}
use Rattle.book.specs.declared.change.Judgement.{Judgement}
use Rattle.output.specs.Explaining.Answers.{first_line, meant_by, meant_lines, said_below, said_data, todo_by}
use Rattle.output.specs.Explaining.Judged.{IsAnswerOf, judged_data, judged_lines, judged_object, lines_below, means, names, number_if, sentence, stays, today_if, today_lines}
use Rattle.output.specs.Explaining.Sentences.{is_accepted, meaning, remedy}
use Rattle.output.specs.Explaining.Words.{below}
use Rattle.output.specs.declared.explaining.answer.Answer.{Answer}

-- ---- today's verdict, by what an answer has of it

module _ (given today : Verdict) where
  same : stays given today ≡ true → given ≡ today
  same e = same_verdict given today ((Decides-eqb (number_of given) (number_of today)).0 e)

  today_is : unwrap_or (today_if given today) given ≡ today
  today_is = by (stays given today) refl
    where
      by : (b : Bool) → stays given today ≡ b → unwrap_or (if b then None else Some today) given ≡ today
      by true e = same e
      by false e = refl

  meant_today : meant_lines given (today_if given today) false ≡ sentence today
  meant_today = by (stays given today) refl
    where
      other : (b : Bool) → option_to_list (if b then None else Some (meaning today)) ≡ (if b then [] else meaning today ∷ [])
      other true = refl
      other false = refl

      by : (b : Bool) → stays given today ≡ b → meant_lines given (if b then None else Some today) false ≡ sentence today
      by true e = ap sentence (same e)
      by false e = other (is_accepted today)

  -- two acceptances have one number
  both : is_accepted given ≡ true → is_accepted today ≡ true → stays given today ≡ true
  both a b = ap₂ nat_eq ((Decides-eqb (number_of given) 0).0 a) ((Decides-eqb (number_of today) 0).0 b)

  means_today : meant_by given (today_if given today) ≡ means given today
  means_today = by (stays given today) (is_accepted given) (is_accepted today) refl refl refl
    where
      by : (b g t : Bool) → stays given today ≡ b → is_accepted given ≡ g → is_accepted today ≡ t
          → meant_by given (if b then None else Some today) ≡ (if t then (if g then Some (meaning given) else None) else Some (meaning today))
      by true true true s a e = refl
      by true false true s a e = let no : is_accepted today ≡ false = sym (ap is_accepted (same s)) ∙ a in cc
      by true g false s a e = ap (λ v. Some (meaning v)) (same s)
      by false true true s a e = let yes = both a e in cc
      by false false true s a e = ap (λ (w : Bool). if w then None else Some (meaning today)) e
      by false g false s a e = ap (λ (w : Bool). if w then None else Some (meaning today)) e

-- ---- all that is said

said_is : (config : ConfigValue) (shelves : ShelvesValue) (found : Option UploadValue) (given : Verdict) (answer : Answer) → IsAnswerOf config shelves found given answer
    → said_below given answer.today (map string_bytes answer.names.items) answer.is_cleaned ≡ lines_below config shelves found given
said_is config shelves None given answer is = λ i. said_below given (is.0 i) (map string_bytes (is.1 i)) (is.2 i)
said_is config shelves (Some u) given answer is =
    let today = verdict_on config shelves u in
    (λ i. said_below given (is.0 i) (is.1 i) (is.2 i))
    ∙ (λ i. today_lines (today_if given today) ++ (meant_today given today i ++ (names config shelves u given today ++ option_to_list (remedy (today_is given today i)))))

-- the lines, if the first is there and the others were added
pub lines_said : (config : ConfigValue) (shelves : ShelvesValue) (found : Option UploadValue) (j : Judgement) (answer : Answer)
    (one all : List (String Global)) (first : String Global) → one ≡ first ∷ [] → string_bytes first ≡ first_line j
    → map string_bytes all ≡ map string_bytes one ++ map below (said_below j.verdict answer.today (map string_bytes answer.names.items) answer.is_cleaned)
    → IsAnswerOf config shelves found j.verdict answer → map string_bytes all ≡ judged_lines config shelves found j
unfolding judged_lines
lines_said config shelves found j answer one all first alone begins added said =
    let more = said_below j.verdict answer.today (map string_bytes answer.names.items) answer.is_cleaned in
    added
    ∙ (λ i. map string_bytes (alone i) ++ map below more)
    ∙ (λ i. begins i ∷ map below (said_is config shelves found j.verdict answer said i))

pub data_said : (config : ConfigValue) (shelves : ShelvesValue) (found : Option UploadValue) (j : Judgement) (answer : Answer) → IsAnswerOf config shelves found j.verdict answer
    → said_data j answer ≡ judged_data config shelves found j
data_said config shelves None j answer is =
    λ i. judged_object j (meant_by j.verdict (is.0 i)) (todo_by j.verdict (is.0 i)) (number_if (is.0 i)) (map string_bytes (is.1 i))
data_said config shelves (Some u) j answer is =
    let today = verdict_on config shelves u in
    (λ i. judged_object j (meant_by j.verdict (is.0 i)) (todo_by j.verdict (is.0 i)) (number_if (is.0 i)) (is.1 i))
    ∙ (λ i. judged_object j (means_today j.verdict today i) (remedy (today_is j.verdict today i)) (number_if (today_if j.verdict today)) (names config shelves u j.verdict today))
