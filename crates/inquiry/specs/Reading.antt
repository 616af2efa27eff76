-- An upload as it is judged, found from what arrived.
use Rattle.std.specs.Prelude.{ℕ, if◌then◌else◌, List, [], ◌∷◌, find, Option, Some}
use Rattle.std.specs.Option.{option_and_then, option_map}
use Rattle.std.specs.Result.{result_ok}
use Rattle.records.specs.Records.{changes_in}
use Rattle.records.specs.Values.{ChangesValue}
use Rattle.sums.specs.declared.entries.Entry.{Entry}
use Rattle.sums.specs.declared.print.Print.{Print}
use Rattle.suites.specs.Upload.{UploadValue, has_text}
use Rattle.book.specs.Book.{is_arrival_of}
use Rattle.book.specs.declared.arrival.Arrival.{Arrival}

-- the body of a name and print, if it is there
abbrev pub body_of : List Arrival → List ℕ → Print → Option (List ℕ)
body_of arrivals name print = option_map (λ a. a.body) (find (is_arrival_of name print) arrivals)

-- the .changes of a name and print, if it is there
abbrev pub changes_of : List Arrival → List ℕ → Print → Option ChangesValue
changes_of arrivals name print = option_and_then (λ body. result_ok (changes_in body)) (body_of arrivals name print)

-- the text that is kept of a listed file: the body of a .dsc or a sidecar, if it is there
unfoldable pub kept_text : List Arrival → Entry → Option (List ℕ)
kept_text arrivals e = if has_text e.name then body_of arrivals e.name e.print else Some []

-- the texts of listed files, if all are there
abbrev pub kept_texts : List Arrival → List Entry → Option (List (List ℕ))
kept_texts arrivals [] = Some []
kept_texts arrivals (e ∷ es) = option_and_then (λ text. option_map (λ texts. text ∷ texts) (kept_texts arrivals es)) (kept_text arrivals e)

-- an upload of this name and print, of this record and these texts
abbrev pub upload_with : List ℕ → Print → ChangesValue → List (List ℕ) → UploadValue
upload_with name print c texts = record { name = name; print = print; changes = c; texts = texts }

-- the upload of a .changes of this name and print, if all that it is read from is there
abbrev pub kept_upload : List Arrival → List ℕ → Print → Option UploadValue
kept_upload arrivals name print = option_and_then (λ c. option_map (upload_with name print c) (kept_texts arrivals c.entries)) (changes_of arrivals name print)
