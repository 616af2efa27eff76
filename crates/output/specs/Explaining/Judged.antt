-- What is said of an upload that was judged.
use Rattle.std.specs.Prelude.{◌≡◌, ℕ, ◌==◌, nat_eq, Bool, true, false, string_bytes, if◌then◌else◌, List, [], ◌∷◌, ◌++◌, map, codes, decimal, Option, Some, None, option_to_list}
use Rattle.std.specs.List.{after_first, before_first}
use Rattle.std.specs.Option.{option_map_or}
use Rattle.hex.specs.Hex.{encode_lower}
use Rattle.serde_json.specs.Data.{Data, null, number, unsigned, string, array, object, member, no_items, no_members}
use Rattle.serde_json.specs.View.{items_of}
use Rattle.rules.specs.Values.{ConfigValue}
use Rattle.rules.specs.Verdicts.{number_of}
use Rattle.rules.specs.declared.verdict.Verdict.{Verdict}
use Rattle.suites.specs.Shelves.{ShelvesValue}
use Rattle.suites.specs.Upload.{UploadValue}
use Rattle.suites.specs.Verdict.{verdict_on}
use Rattle.book.specs.declared.change.Judgement.{Judgement}
use Rattle.reasons.specs.Reasons.{named_by}
use Rattle.output.specs.Explaining.About.{named_lines}
use Rattle.output.specs.Explaining.Items.{item_lines}
use Rattle.output.specs.Explaining.Sentences.{is_accepted, meaning, remedy, verdict_words}
use Rattle.output.specs.Explaining.Words.{below, spaced, upload_words}
use Rattle.output.specs.declared.explaining.answer.Answer.{Answer}

-- what a verdict means, if it is no acceptance: items stand for what that means
abbrev pub sentence : Verdict → List (List ℕ)
sentence v = if is_accepted v then [] else meaning v ∷ []

module _ (config : ConfigValue) (shelves : ShelvesValue) (u : UploadValue) where
  -- what a verdict on the upload is about
  abbrev pub about : Verdict → List (List ℕ)
  about v = option_map_or (named_lines config u.changes) (named_by config shelves u v) []

  -- its items, if it was accepted: one that was refused gave no suite anything
  abbrev pub items_if : (given : Verdict) → List (List ℕ)
  items_if given = if is_accepted given then item_lines config shelves u else []

  -- The lines that name something, by the verdict that was given and that of today: items, or what today's verdict is about.
  abbrev pub names : (given today : Verdict) → List (List ℕ)
  names given today = if is_accepted today then items_if given else about today

  -- what today's verdict means, what is named, and what to do
  abbrev pub lines_today : (given today : Verdict) → List (List ℕ)
  lines_today given today = sentence today ++ (names given today ++ option_to_list (remedy today))

-- whether the verdict of today is the one that was given
abbrev pub stays : (given today : Verdict) → Bool
stays given today = nat_eq (number_of given) (number_of today)

-- the verdict of today, if it is another
abbrev pub today_if : (given today : Verdict) → Option Verdict
today_if given today = if stays given today then None else Some today

-- the line on the verdict of today, if it is another
abbrev pub today_lines : Option Verdict → List (List ℕ)
today_lines None = []
today_lines (Some today) = spaced (codes "today") (decimal (number_of today)) ∷ []

-- what is left to say of an upload whose files were cleaned
abbrev pub cleaned_lines : Verdict → List (List ℕ)
cleaned_lines given = meaning given ∷ codes "its files were cleaned" ∷ option_to_list (remedy given)

-- the lines below the first, of an upload that is there or of one that was cleaned
abbrev pub lines_below : ConfigValue → ShelvesValue → Option UploadValue → Verdict → List (List ℕ)
lines_below config shelves None given = cleaned_lines given
lines_below config shelves (Some u) given =
    today_lines (today_if given (verdict_on config shelves u)) ++ lines_today config shelves u given (verdict_on config shelves u)

-- all lines on a judged upload
unfoldable pub judged_lines : ConfigValue → ShelvesValue → Option UploadValue → Judgement → List (List ℕ)
judged_lines config shelves found j =
    upload_words (verdict_words j.verdict) j.name j.print ∷ map below (lines_below config shelves found j.verdict)

-- ---- as an object

abbrev pub text_or_null : Option (List ℕ) → Data
text_or_null None = null
text_or_null (Some text) = string text

-- a line as its first word and the rest
abbrev pub name_data : List ℕ → Data
name_data line = array (items_of (
    string (before_first (λ b. b == 32) line) ∷ string (after_first (λ b. b == 32) line) ∷ []))

-- what today's verdict means; nothing if an upload that was refused would be accepted
abbrev pub means_if : (given : Verdict) → Option (List ℕ)
means_if given = if is_accepted given then Some (meaning given) else None

abbrev pub means : (given today : Verdict) → Option (List ℕ)
means given today = if is_accepted today then means_if given else Some (meaning today)

-- the number of today's verdict, if it is another
abbrev pub number_if : Option Verdict → Data
number_if None = null
number_if (Some today) = number (unsigned (number_of today))

-- an object by its parts, of an upload that has a verdict
abbrev pub judged_object : Judgement → Option (List ℕ) → Option (List ℕ) → Data → List (List ℕ) → Data
judged_object j meant todo now named =
    object (member (codes "came") (array no_items)
    (member (codes "ended") (array no_items)
    (member (codes "lacks") (array no_items)
    (member (codes "means") (text_or_null meant)
    (member (codes "names") (array (items_of (map name_data named)))
    (member (codes "sha256") (string (encode_lower j.print.sha256))
    (member (codes "since") null
    (member (codes "today") now
    (member (codes "todo") (text_or_null todo)
    (member (codes "upload") (string j.name)
    (member (codes "verdict") (number (unsigned (number_of j.verdict))) no_members)))))))))))

abbrev pub judged_data : ConfigValue → ShelvesValue → Option UploadValue → Judgement → Data
judged_data config shelves None j = judged_object j (Some (meaning j.verdict)) (remedy j.verdict) null []
judged_data config shelves (Some u) j =
    let today = verdict_on config shelves u in
    judged_object j (means j.verdict today) (remedy today) (number_if (today_if j.verdict today)) (names config shelves u j.verdict today)

-- what an answer says of an upload that is there or was cleaned, by the verdict that it was given
abbrev pub IsAnswerOf : ConfigValue → ShelvesValue → Option UploadValue → (given : Verdict) → Answer → Type 0
IsAnswerOf config shelves None given answer = (answer.today ≡ None) × (answer.names.items ≡ []) × (answer.is_cleaned ≡ true)
IsAnswerOf config shelves (Some u) given answer =
    (answer.today ≡ today_if given (verdict_on config shelves u))
    × (map string_bytes answer.names.items ≡ names config shelves u given (verdict_on config shelves u)) × (answer.is_cleaned ≡ false)
