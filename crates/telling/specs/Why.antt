-- Why: the answer on the uploads of a book.
use Rattle.std.specs.Prelude.{ℕ, Bool, true, false, ◌||◌, if◌then◌else◌, List, [], ◌∷◌, ◌++◌, map, filter, bytes_eq, Option, Some, None}
use Rattle.std.specs.Char.{is_control}
use Rattle.std.specs.List.{flat_map, list_any}
use Rattle.std.specs.Option.{option_map_or}
use Rattle.std.specs.Str.{chars, encode_utf8_all}
use Rattle.serde_json.specs.Written.{compact_text}
use Rattle.sums.specs.declared.print.Print.{Print}
use Rattle.rules.specs.Values.{ConfigValue}
use Rattle.suites.specs.Shelves.{ShelvesValue}
use Rattle.suites.specs.Upload.{UploadValue}
use Rattle.inquiry.specs.Instead.{came_for}
use Rattle.inquiry.specs.Reading.{kept_upload}
use Rattle.book.specs.Book.{Book, span, waiting_list, arrived_in}
use Rattle.book.specs.declared.arrival.Counting.{Counting}
use Rattle.book.specs.declared.arrived.ArrivedFile.{ArrivedFile}
use Rattle.book.specs.declared.change.Judgement.{Judgement}
use Rattle.book.specs.declared.change.Waiting.{Waiting}
use Rattle.output.specs.Explaining.Judged.{judged_data, judged_lines}
use Rattle.output.specs.Explaining.Waits.{since, waits_data, waits_lines}

-- a character as it is shown: a question mark in place of a control character
abbrev pub shown_character : ℕ → ℕ
shown_character c = if is_control c then 63 else c

-- a text as it is shown
unfoldable pub shown_text : List ℕ → List ℕ
shown_text text = encode_utf8_all (map shown_character (chars text))

-- a line as it is shown, and a newline
abbrev pub shown_line : List ℕ → List ℕ
shown_line line = shown_text line ++ 10 ∷ []

-- lines as they are shown
abbrev pub shown_lines : List (List ℕ) → List ℕ
shown_lines lines = flat_map shown_line lines

-- what counts at a moment
abbrev pub counting_at : ℕ → Book → Counting
counting_at moment book = record { span = span book.config; moment = moment }

-- the text on an upload that waits, by since when it does and what came in place of each file that it lacks
abbrev pub waits_with : (is_json : Bool) → Waiting → Option ℕ → List (List Print) → List ℕ
waits_with true w moment came = shown_line (compact_text (waits_data w moment came))
waits_with false w moment came = shown_lines (waits_lines w moment came)

-- the text on an upload that waits, by what counts and what arrived
abbrev pub waits_text : Counting → List ArrivedFile → (is_json : Bool) → Waiting → List ℕ
waits_text counting files is_json w = waits_with is_json w (since files w) (map (came_for counting files) w.lacks)

-- the text on an upload that was judged, which is there or was cleaned
unfoldable pub answer_text : ConfigValue → ShelvesValue → Option UploadValue → (is_json : Bool) → Judgement → List ℕ
answer_text config shelves found true j = shown_line (compact_text (judged_data config shelves found j))
answer_text config shelves found false j = shown_lines (judged_lines config shelves found j)

-- the text on an upload that was judged, by what the suites show
abbrev pub judged_text : Book → ShelvesValue → (is_json : Bool) → Judgement → List ℕ
judged_text book shelves is_json j = answer_text book.config shelves (kept_upload book.arrivals j.name j.print) is_json j

-- those of a name, or all
abbrev pub is_asked : Option (List ℕ) → Waiting → Bool
is_asked name w = option_map_or (bytes_eq w.name) name true

-- those of a name
abbrev pub is_named : List ℕ → Judgement → Bool
is_named name j = bytes_eq j.name name

-- the texts on uploads that wait, of a name or of all
abbrev pub waits_texts : Counting → List ArrivedFile → Option (List ℕ) → (is_json : Bool) → List Waiting → List ℕ
waits_texts counting files name is_json ws = flat_map (waits_text counting files is_json) (filter (is_asked name) ws)

-- the texts on uploads of a name that were judged
abbrev pub judged_texts : Book → ShelvesValue → List ℕ → (is_json : Bool) → List Judgement → List ℕ
judged_texts book shelves name is_json js = flat_map (judged_text book shelves is_json) (filter (is_named name) js)

-- what is said at a moment of the uploads that wait, of a name or of all
abbrev pub waits_told : ℕ → Book → Option (List ℕ) → (is_json : Bool) → List ℕ
waits_told moment book name is_json = waits_texts (counting_at moment book) (arrived_in book) name is_json (waiting_list moment book)

-- what is said of the uploads of a name that were judged
abbrev pub judged_told : Book → List ℕ → (is_json : Bool) → List ℕ
judged_told book name is_json = judged_texts book book.shown name is_json book.judged

-- an upload of the name waits or was judged
abbrev pub is_known : ℕ → Book → List ℕ → Bool
is_known moment book name = list_any (is_asked (Some name)) (waiting_list moment book) || list_any (is_named name) book.judged

-- What those uploads lack that wait; of a name, first those that wait, and then why those that were judged have their verdicts. There is no
-- text if no upload has the name.
unfoldable pub why_told : ℕ → Book → Option (List ℕ) → (is_json : Bool) → Option (List ℕ)
why_told moment book None is_json = Some (waits_told moment book None is_json)
why_told moment book (Some name) is_json =
    if is_known moment book name then Some (waits_told moment book (Some name) is_json ++ judged_told book name is_json) else None
