-- The paths that ask a question (RFC 3986, section 3.3): each form is a tree, a printer from the tree to its bytes, and a fact that says which trees are valid.
use Rattle.std.specs.Prelude.{ℕ, Bool, true, false, Option, List, [], ◌++◌, codes, None, Some, Result, Ok}
use Rattle.desk.specs.declared.head.Refusal.{Refusal}
use Rattle.desk.specs.Paths.{IsPart}
use Rattle.desk.specs.Want.{◌>>=◌, decoded}
use Rattle.telling.specs.Told.{Asking, explained, shown_of, configuration, waiting_objects, verdict_objects, figures, page_of, suites_page, uploads_page, suite_page}

-- what a path asks, its name as it was sent
pub data Inquiry : Type 0 where
  to_why : (is_json : Bool) → Inquiry
  to_why_of : (name : List ℕ) → (is_json : Bool) → Inquiry
  to_list : (is_json : Bool) → Inquiry
  to_list_of : (suite : List ℕ) → (is_json : Bool) → Inquiry
  to_configuration : Inquiry
  to_queue_objects : Inquiry
  to_verdict_objects : Inquiry
  to_metrics : Inquiry
  to_root : Inquiry
  to_index : Inquiry
  to_uploads : Inquiry
  to_suite : (codename : List ℕ) → Inquiry

-- what comes first in the path of a question whose answer is objects of JSON
abbrev pub json_front : Bool → List ℕ
json_front true = codes "/json"
json_front false = []

-- the bytes of a path
abbrev pub print_question : Inquiry → List ℕ
print_question (to_why is_json) = json_front is_json ++ codes "/why"
print_question (to_why_of name is_json) = json_front is_json ++ (codes "/why/" ++ name)
print_question (to_list is_json) = json_front is_json ++ codes "/list"
print_question (to_list_of suite is_json) = json_front is_json ++ (codes "/list/" ++ suite)
print_question to_configuration = codes "/configuration"
print_question to_queue_objects = codes "/json/queue"
print_question to_verdict_objects = codes "/json/verdicts"
print_question to_metrics = codes "/metrics"
print_question to_root = codes "/"
print_question to_index = codes "/index.html"
print_question to_uploads = codes "/uploads.html"
print_question (to_suite codename) = codes "/suites/" ++ (codename ++ codes "/index.html")

-- a name has its form
abbrev pub IsInquiry : Inquiry → Type 0
IsInquiry (to_why is_json) = Unit {0}
IsInquiry (to_why_of name is_json) = IsPart name
IsInquiry (to_list is_json) = Unit {0}
IsInquiry (to_list_of suite is_json) = IsPart suite
IsInquiry to_configuration = Unit {0}
IsInquiry to_queue_objects = Unit {0}
IsInquiry to_verdict_objects = Unit {0}
IsInquiry to_metrics = Unit {0}
IsInquiry to_root = Unit {0}
IsInquiry to_index = Unit {0}
IsInquiry to_uploads = Unit {0}
IsInquiry (to_suite codename) = IsPart codename

-- The question, its name decoded. A page names the key of the desk, if there is one.
abbrev pub question_of_path : (key : Option (List ℕ)) → Inquiry → Result Asking Refusal
question_of_path key (to_why is_json) = Ok (explained None is_json)
question_of_path key (to_why_of name is_json) = do
  decoded_name ← decoded name
  Ok (explained (Some decoded_name) is_json)
question_of_path key (to_list is_json) = Ok (shown_of None is_json)
question_of_path key (to_list_of suite is_json) = do
  decoded_suite ← decoded suite
  Ok (shown_of (Some decoded_suite) is_json)
question_of_path key to_configuration = Ok configuration
question_of_path key to_queue_objects = Ok waiting_objects
question_of_path key to_verdict_objects = Ok verdict_objects
question_of_path key to_metrics = Ok figures
question_of_path key to_root = Ok (page_of suites_page key)
question_of_path key to_index = Ok (page_of suites_page key)
question_of_path key to_uploads = Ok (page_of uploads_page key)
question_of_path key (to_suite codename) = do
  decoded_codename ← decoded codename
  Ok (page_of (suite_page decoded_codename) key)
