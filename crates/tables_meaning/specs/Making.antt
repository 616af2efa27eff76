-- What the calls make of the tables.
use Rattle.std.specs.Prelude.{ℕ, ◌+◌, Bool, false, not, if◌then◌else◌, nat_lt, List, [], ◌∷◌, fold, find, Option, Some, None, is_some, unwrap_or}
use Rattle.std.specs.List.{list_any, enumerate_from}
use Rattle.std.specs.Option.{option_map_or}
use Rattle.para.specs.Bytes.{is_nil}
use Rattle.rules.specs.Values.{ConfigValue}
use Rattle.rules.specs.Verdicts.{number_of}
use Rattle.rules.specs.declared.suite.Suite.{Suite}
use Rattle.sums.specs.declared.entries.Entry.{Entry}
use Rattle.sums.specs.declared.print.Print.{Print}
use Rattle.suites.specs.declared.item.Item as shelf
use Rattle.suites.specs.declared.item.PoolFile.{PoolFile}
use Rattle.suites.specs.declared.key.ShelfKey.{ShelfKey}
use Rattle.suites.specs.declared.plan.Plan.{Plan}
use Rattle.book.specs.Scan.{some_touches}
use Rattle.book.specs.declared.change.Change.{Change}
use Rattle.book.specs.declared.change.IndexText.{IndexText}
use Rattle.book.specs.declared.change.Judgement.{Judgement}
use Rattle.book.specs.declared.change.Step.{Step}
use Rattle.tables.specs.Arrivals.{is_arrival, with_moment}
use Rattle.tables.specs.Bodies.{body_with}
use Rattle.tables.specs.Dates.{with_new_date}
use Rattle.tables.specs.Files.{without_file}
use Rattle.tables.specs.Items.{without_item}
use Rattle.tables.specs.Refs.{without_refs}
use Rattle.tables.specs.Rows.{Tables, next_in, rows_of, with_arrival, with_body, with_file, with_item, with_piece, with_ref, with_upload, with_want}
use Rattle.tables.specs.Texts.{with_new_text}
use Rattle.tables.specs.Uploads.{is_upload, with_verdict}
use Rattle.tables.specs.Wants.{with_here, without_wants}
use Rattle.tables.specs.declared.rows.Piece.{Piece}
use Rattle.tables.specs.declared.rows.Ref.{Ref}
use Rattle.tables_meaning.specs.Kept.{pieces_for, refs_for, item_row, is_on}
use Rattle.tables_meaning.specs.Sweeping.{swept}

-- ---- a delivery

abbrev pub with_pieces : List Piece → Tables → Tables
with_pieces pieces t = fold (λ now p. with_piece p now) t pieces

-- the body, unless one of its print is there
unfoldable pub with_bytes : Print → List ℕ → Tables → Tables
with_bytes print bytes t =
    if is_some (body_with print t.bodies) then t
    else with_pieces (pieces_for (next_in t.bodies) bytes) (with_body (record { print = Some print }) t)

-- the number of the body of this print
abbrev pub number_with : Print → Tables → ℕ
number_with print t = unwrap_or (body_with print t.bodies) 0

-- the arrival of a body under a name, with the greater moment if it is there already
unfoldable pub with_arrived : List ℕ → ℕ → ℕ → Tables → Tables
with_arrived name body moment t =
    option_map_or (λ x. if nat_lt x.1.moment moment then with_moment x.0 moment t else t)
    (find (λ x. is_arrival name body x.1) t.arrivals)
    (with_arrival (record { name = name; body = body; moment = moment }) t)

-- a body of the listed file has arrived
unfoldable pub is_here : Tables → Entry → Bool
is_here t e = option_map_or (λ body. list_any (is_arrival e.name body) (rows_of t.arrivals)) (body_with e.print t.bodies) false

-- what an upload of this number wants
abbrev pub with_wants : ℕ → List Entry → Tables → Tables
with_wants upload entries t = fold (λ now e. with_want (record { upload = upload; name = e.name; print = e.print; here = is_here now e }) now) t entries

-- the upload and what it wants, unless it is there
unfoldable pub with_requested : List ℕ → Print → List Entry → Tables → Tables
with_requested name print entries t =
    if list_any (is_upload name print) (rows_of t.uploads) then t
    else with_wants (next_in t.uploads) entries (with_upload (record { name = name; print = print; place = None; verdict = None }) t)

-- the delivery of a file, and what a .changes lists
unfoldable pub with_delivered : List ℕ → Print → List ℕ → ℕ → Option (List Entry) → Tables → Tables
with_delivered name print bytes moment listed t =
    let stored = with_bytes print bytes t in
    let marked = with_here name print (with_arrived name (number_with print stored) moment stored) in
    option_map_or (λ entries. with_requested name print entries marked) listed marked

-- ---- a change

-- the upload of this judgement gets its place and verdict, and wants nothing more
unfoldable pub with_judged : ℕ → Judgement → Tables → Tables
with_judged place j t =
    option_map_or (λ x. without_wants x.0 (with_verdict x.0 place (number_of j.verdict) t)) (find (λ x. is_upload j.name j.print x.1) t.uploads) t

-- a shelf is empty
unfoldable pub without_shown : List Suite → ShelfKey × shelf.Item → Tables → Tables
without_shown suites e t = option_map_or (λ x. without_item x.0 (without_refs x.0 t)) (find (is_on suites e.0) t.items) t

abbrev pub with_refs : List Ref → Tables → Tables
with_refs refs t = fold (λ now r. with_ref r now) t refs

-- an item stands on its shelf
unfoldable pub with_shown : List Suite → ShelfKey × shelf.Item → Tables → Tables
with_shown suites e t = with_refs (refs_for (next_in t.items) e.1) (with_item (item_row suites e) t)

-- a file stands in the pool, if a body of its print is there
unfoldable pub with_pooled : PoolFile → Tables → Tables
with_pooled f t = option_map_or (λ body. with_file (record { path = f.path; body = body }) t) (body_with f.print t.bodies) t

-- a plan is made
unfoldable pub with_plan : List Suite → Plan → Tables → Tables
with_plan suites plan t =
    let items = fold (λ now e. with_shown suites e now) (fold (λ now e. without_shown suites e now) t plan.dropped) plan.put in
    fold (λ now f. with_pooled f now) (fold (λ now f. without_file f.path now) items plan.files_removed) plan.files_added

-- a step is made, before which this number of uploads are judged
unfoldable pub with_step : List Suite → ℕ → Step → Tables → Tables
with_step suites judged step t = with_plan suites step.plan (option_map_or (λ j. with_judged (judged + 1) j t) step.judgement t)

abbrev pub judged_by : ℕ → Step → ℕ
judged_by judged step = option_map_or (λ _. judged + 1) step.judgement judged

abbrev pub with_steps : List Suite → ℕ → List Step → Tables → Tables
with_steps suites judged [] t = t
with_steps suites judged (step ∷ steps) t = with_steps suites (judged_by judged step) steps (with_step suites judged step t)

abbrev pub with_new_texts : List IndexText → Tables → Tables
with_new_texts texts t = fold (λ now x. with_new_text x.path x.text now) t texts

-- the date of each suite that a step touches becomes the moment
abbrev pub with_new_dates : List Suite → ℕ → List Step → Tables → Tables
with_new_dates suites moment steps t =
    fold (λ now s. if some_touches s.0 steps then with_new_date s.1.codename moment now else now) t (enumerate_from 0 suites)

-- the steps are made, and then the texts and the dates
unfoldable pub with_written : ConfigValue → ℕ → Change → Tables → Tables
with_written config judged change t =
    with_new_dates config.suites change.moment change.steps (with_new_texts change.texts (with_steps config.suites judged change.steps t))

-- the step takes a file of the pool away
abbrev pub takes_file : Step → Bool
takes_file s = not (is_nil s.plan.files_removed)

-- The whole change is made. If it takes a file away, the bodies that nothing uses go after it.
unfoldable pub with_change : ConfigValue → ℕ → Change → Tables → Tables
with_change config judged change t =
    if list_any takes_file change.steps then swept (with_written config judged change t) else with_written config judged change t
