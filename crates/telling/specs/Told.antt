-- The questions to an archive, and the answers that a book gives.
use Rattle.std.specs.Prelude.{◌≡◌, ℕ, nat_lt, Bool, true, false, List, [], ◌∷◌, ◌++◌, map, Option, Some, None, Result, Ok, Err, ⊤, string_bytes}
use Rattle.std.specs.FinMap.{entries}
use Rattle.std.specs.List.{flat_map}
use Rattle.std.specs.Option.{option_map}
use Rattle.std.specs.declared.alloc.Global.{Global}
use Rattle.std.specs.declared.vec.Vec.{Vec}
use Rattle.serde_json.specs.Written.{compact_text}
use Rattle.rules.specs.Suites.{suite_named}
use Rattle.rules.specs.Values.{ConfigValue}
use Rattle.suites.specs.Shelves.{ShelvesValue}
use Rattle.book.specs.Book.{Book, latest, waiting_list}
use Rattle.book.specs.Keeping.{Apart, MayAnswer}
use Rattle.book.specs.declared.change.Judgement.{Judgement}
use Rattle.book.specs.declared.change.Waiting.{Waiting as WaitingUpload}
use Rattle.output.specs.Json.{json_in, json_on, judgement_data, waiting_data}
use Rattle.output.specs.Listing.{line_in, line_on, shown_in}
use Rattle.figures.specs.Families.{families}
use Rattle.figures.specs.Printing.{metrics_text, status_text}
use Rattle.pages.specs.IndexPage.{KeyValue, index_page as index_text}
use Rattle.pages.specs.SuitePage.{suite_page as suite_text}
use Rattle.pages.specs.UploadsPage.{uploads_page as uploads_text}
use Rattle.pages.specs.declared.site.Site.TheVariants.{Served}
use Rattle.telling.specs.Why.{why_told}
use Rattle.telling.specs.declared.fault.TellFault.{TellFault}
use Rattle.telling.specs.declared.fault.TellFault.TheVariants.{Keeper, Moment, UnknownSuite}
use Rattle.telling.specs.declared.question.Question.{Question}
use Rattle.telling.specs.declared.question.Question.TheVariants as q
use Rattle.telling.specs.declared.question.Page.{Page}
use Rattle.telling.specs.declared.question.Page.TheVariants as p

-- which page is asked for, its codename as its bytes
pub data Paging : Type 0 where
  suites_page : Paging
  uploads_page : Paging
  suite_page : (codename : List ℕ) → Paging

-- what is asked, its names as their bytes
pub data Asking : Type 0 where
  explained : (name : Option (List ℕ)) → (is_json : Bool) → Asking
  shown_of : (suite : Option (List ℕ)) → (is_json : Bool) → Asking
  configuration : Asking
  waiting_objects : Asking
  verdict_objects : Asking
  figures : Asking
  figure_lines : Asking
  page_of : (page : Paging) → (key : Option (List ℕ)) → Asking

abbrev pub paging_of : Page → Paging
paging_of p.Suites = suites_page
paging_of p.Uploads = uploads_page
paging_of (p.Suite codename) = suite_page (string_bytes codename)

abbrev pub question_of : Question → Asking
question_of (q.Why name is_json) = explained (option_map string_bytes name) is_json
question_of (q.Shown suite is_json) = shown_of (option_map string_bytes suite) is_json
question_of q.Configuration = configuration
question_of q.Waiting = waiting_objects
question_of q.Verdicts = verdict_objects
question_of q.Figures = figures
question_of q.Status = figure_lines
question_of (q.Page page key) = page_of (paging_of page) (option_map string_bytes key)

-- a line and a newline
abbrev pub ended : List ℕ → List ℕ
ended text = text ++ 10 ∷ []

-- lines as one text
abbrev pub text_of : List (List ℕ) → List ℕ
text_of lines = flat_map ended lines

-- the lines of what a suite shows, or its objects
abbrev pub shown_told : ShelvesValue → ℕ → Bool → List ℕ
shown_told shelves suite true = text_of (map json_on (shown_in suite shelves))
shown_told shelves suite false = text_of (map line_on (shown_in suite shelves))

-- the lines of what all suites show, or its objects: each names its suite
abbrev pub all_told : ConfigValue → ShelvesValue → Bool → List ℕ
all_told config shelves true = text_of (map (json_in config) (entries shelves))
all_told config shelves false = text_of (map (line_in config) (entries shelves))

-- what the suite at a position shows, if there is such a suite
abbrev pub suite_told : Option ℕ → ShelvesValue → Bool → Result (Option (List ℕ)) TellFault
suite_told None shelves is_json = Err UnknownSuite
suite_told (Some suite) shelves is_json = Ok (Some (shown_told shelves suite is_json))

-- the objects of the uploads that have no verdict
abbrev pub waiting_told : List WaitingUpload → List ℕ
waiting_told uploads = text_of (map (λ upload. compact_text (waiting_data upload)) uploads)

-- the objects of the judged uploads
abbrev pub verdicts_told : List Judgement → List ℕ
verdicts_told judged = text_of (map (λ judgement. compact_text (judgement_data judgement)) judged)

-- a key whose file has this name, and lies in no tree
abbrev pub key_named : List ℕ → KeyValue
key_named name = record { name = name; is_here = false }

-- the page of the suite at a position, if there is such a suite
abbrev pub suite_shown : Option ℕ → ConfigValue → ShelvesValue → Option (List ℕ)
suite_shown None config shelves = None
suite_shown (Some suite) config shelves = Some (suite_text config shelves suite)

-- it is not refused
abbrev pub IsAnswered : Result (Option (List ℕ)) TellFault → Type 0
IsAnswered (Ok text) = ⊤
IsAnswered (Err fault) = ⊥

-- The answer of a book at a moment. What waits is as the book says if no two of the bodies that arrived have one print.
abbrev pub IsOf : Book → ℕ → Asking → Result (Option (List ℕ)) TellFault → Type 0
IsOf book moment (explained name is_json) told = IsAnswered told × Apart book (told ≡ Ok (why_told moment book name is_json))
IsOf book moment (shown_of None is_json) told = told ≡ Ok (Some (all_told book.config book.shown is_json))
IsOf book moment (shown_of (Some suite) is_json) told = told ≡ suite_told (suite_named book.config.suites suite) book.shown is_json
IsOf book moment configuration told = told ≡ Ok (Some book.config.text)
IsOf book moment waiting_objects told = IsAnswered told × Apart book (told ≡ Ok (Some (waiting_told (waiting_list moment book))))
IsOf book moment verdict_objects told = told ≡ Ok (Some (verdicts_told book.judged))
IsOf book moment figures told = IsAnswered told × Apart book (told ≡ Ok (Some (metrics_text (families moment book))))
IsOf book moment figure_lines told = IsAnswered told × Apart book (told ≡ Ok (Some (status_text (families moment book))))
IsOf book moment (page_of suites_page key) told = told ≡ Ok (Some (index_text Served book.config book.shown book.dates (option_map key_named key)))
IsOf book moment (page_of uploads_page key) told = IsAnswered told × Apart book (told ≡ Ok (Some (uploads_text Served book.config (waiting_list moment book) book.judged)))
IsOf book moment (page_of (suite_page codename) key) told = told ≡ Ok (suite_shown (suite_named book.config.suites codename) book.config book.shown)

-- what a keeper refuses: want of memory, or a disk that failed, if it can have one
abbrev pub MayRefuse : Bool → TellFault → Type 0
MayRefuse may_fail (Keeper fault) = MayAnswer may_fail fault
MayRefuse may_fail Moment = ⊥
MayRefuse may_fail UnknownSuite = ⊥

-- the answer of a book, unless the moment is too late
abbrev pub IsOfIf : (is_late : Bool) → Book → ℕ → Asking → Result (Option (List ℕ)) TellFault → Type 0
IsOfIf true book moment asking told = told ≡ Err Moment
IsOfIf false book moment asking told = IsOf book moment asking told

-- This is the answer at a moment. In its place may stand what the keeper refuses.
abbrev pub IsTold : Bool → Book → Asking → ℕ → Result (Option (List ℕ)) TellFault → Type 0
IsTold may_fail book asking moment (Err (Keeper fault)) = MayAnswer may_fail fault
IsTold may_fail book asking moment told = IsOfIf (nat_lt latest moment) book moment asking told

-- a text as its bytes
abbrev pub bytes_of : Result (Option (Vec ℕ Global)) TellFault → Result (Option (List ℕ)) TellFault
bytes_of (Ok text) = Ok (option_map (λ it. it.items) text)
bytes_of (Err fault) = Err fault
