-- What the head of a request asks for (RFC 9112; RFC 9110 for the fields and the statuses).
use Rattle.std.specs.Prelude.{string_bytes, ℕ, ◌-◌, ◌==◌, ◌&&◌, ◌||◌, not, nat_le, Bool, true, false, if◌then◌else◌, List, [], ◌∷◌, map, filter, drop, take, length, codes, Option, Some, None, unwrap_or, Result, Ok, Err, slice_index}
use Rattle.std.specs.List.{list_any, list_all}
use Rattle.std.specs.Option.{option_map}
use Rattle.std.specs.Char.{is_ascii_digit}
use Rattle.std.specs.Str.{bytes_eq, is_utf8, str_eq_ignore_ascii_case}
use Rattle.std.specs.Str.Parse.{digits_value}
use Rattle.httparse.specs.Grammar.{RequestHead}
use Rattle.httparse.specs.Spans.{name_and_value}
use Rattle.matchit.specs.Rows.{RowsOf}
use Rattle.matchit.specs.Order.{placed}
use Rattle.matchit.specs.Route.{Scan, parse_route}
use Rattle.matchit.specs.Router.{RouteOf, route_from}
use Rattle.matchit.specs.Seek.{first}
use Rattle.matchit.specs.Params.{walk, named}
use Rattle.matchit.specs.declared.error.InsertError.{InsertError}
use Rattle.percent_encoding.specs.Percent.{percent_decode}
use Rattle.desk.specs.declared.routes.Route.{Route}
use Rattle.desk.specs.declared.routes.Route.TheVariants as at
use Rattle.desk.specs.declared.routes.Rules.{Rules}
use Rattle.desk.specs.declared.head.Refusal.{Refusal}
use Rattle.desk.specs.declared.head.Refusal.TheVariants.{BadRequest, NotFound, MethodNotAllowed, Forbidden, LengthRequired, PayloadTooLarge, NotImplemented}
use Rattle.sums.specs.FileNames.{is_file_name}
use Rattle.sums.specs.Lines.{most_size}
use Rattle.telling.specs.Told.{Asking, Paging, explained, shown_of, configuration, waiting_objects, verdict_objects, figures, page_of, suites_page, uploads_page, suite_page}

-- what a request wants of the archive, without a delivery's body
pub data Want : Type 0 where
  delivery : (name : List ℕ) → (length : ℕ) → Want
  queue_run : Want
  copying : (from to source : List ℕ) → Want
  fetching : (path : List ℕ) → (is_pool : Bool) → Want
  waiting_list : Want
  cleaning : Want
  verdict_list : Want
  removing : (suite name : List ℕ) → Want
  promoting : (from to : List ℕ) → Want
  asking : (question : Asking) → Want

infixl 10 ◌>>=◌
-- the first result may refuse, else the rest goes on
abbrev pub ◌>>=◌ : {A B : Type 0} → Result A Refusal → (A → Result B Refusal) → Result B Refusal
(Ok x) >>= f = f x
(Err e) >>= f = Err e

-- a test that has to pass
abbrev pub pass : Bool → Refusal → Result (Unit {0}) Refusal
pass true refusal = Ok tt
pass false refusal = Err refusal

-- ---- the target

-- the target is a path alone (origin-form without a query, RFC 9112, section 3.2.1)
abbrev pub is_path : List ℕ → Bool
is_path target = slice_index target 0 == 47 && not (list_any (λ b. b == 63 || b == 35) target)

-- the routes, each with its command
abbrev pub route_texts : List (List ℕ × Route)
route_texts =
    (codes "/incoming/{name}", at.Deliver)
    ∷ (codes "/queue/run", at.Run)
    ∷ (codes "/copy/{from}/{to}/{source}", at.Copy)
    ∷ (codes "/queue", at.Waiting)
    ∷ (codes "/verdicts", at.Verdicts)
    ∷ (codes "/dists/{*path}", at.Dists)
    ∷ (codes "/pool/{*path}", at.Pool)
    ∷ (codes "/remove/{suite}/{package}", at.Remove)
    ∷ (codes "/queue/clean", at.Clean)
    ∷ (codes "/promote/{from}/{to}", at.Promote)
    ∷ []

-- a router's rows and one route more
abbrev pub add_read : Result Scan InsertError → Route → RowsOf (RouteOf Route) → RowsOf (RouteOf Route)
add_read (Ok scan) route rows = placed (scan.pattern, route_from scan route) rows
add_read (Err e) route rows = rows

abbrev pub add_routes : List (List ℕ × Route) → RowsOf (RouteOf Route) → RowsOf (RouteOf Route)
add_routes [] rows = rows
add_routes (r ∷ rest) rows = add_routes rest (add_read (parse_route r.0) r.1 rows)

-- the rows of the router that holds all routes
unfoldable pub routes : RowsOf (RouteOf Route)
routes = add_routes route_texts []

-- the parameters of a route, each name with the part of the path that it took
abbrev pub parameters : RouteOf Route → List ℕ → List (List ℕ × List ℕ)
parameters route path = walk route.pattern route.text path route.names 0 0

-- what the parameter of this name took
abbrev pub parameter : List (List ℕ × List ℕ) → List ℕ → List ℕ
parameter taken name = unwrap_or (named name taken) []

-- a text with its escapes undone (RFC 3986, section 2.1)
abbrev pub decoded : List ℕ → Result (List ℕ) Refusal
decoded escaped = if is_utf8 (percent_decode escaped) then Ok (percent_decode escaped) else Err BadRequest

-- a file or an index text, by its path
abbrev pub fetched_at : List ℕ → Bool → Result Want Refusal
fetched_at path is_pool = do
  name ← decoded path
  Ok (fetching name is_pool)

-- the command of a route, its parameters decoded; a fetch is by the whole path without its first slash
abbrev pub wanted_at : Route → List (List ℕ × List ℕ) → List ℕ → Result Want Refusal
wanted_at at.Deliver taken path = do
  name ← decoded (parameter taken (codes "name"))
  Ok (delivery name 0)
wanted_at at.Run taken path = Ok queue_run
wanted_at at.Copy taken path = do
  from ← decoded (parameter taken (codes "from"))
  to ← decoded (parameter taken (codes "to"))
  source ← decoded (parameter taken (codes "source"))
  Ok (copying from to source)
wanted_at at.Waiting taken path = Ok waiting_list
wanted_at at.Clean taken path = Ok cleaning
wanted_at at.Verdicts taken path = Ok verdict_list
wanted_at at.Dists taken path = fetched_at (drop 1 path) false
wanted_at at.Pool taken path = fetched_at (drop 1 path) true
wanted_at at.Remove taken path = do
  suite ← decoded (parameter taken (codes "suite"))
  name ← decoded (parameter taken (codes "package"))
  Ok (removing suite name)
wanted_at at.Promote taken path = do
  from ← decoded (parameter taken (codes "from"))
  to ← decoded (parameter taken (codes "to"))
  Ok (promoting from to)
wanted_at at.Question taken path = Err NotFound

-- ---- questions

-- the paths that ask one question each
abbrev pub question_paths : List (List ℕ × Asking)
question_paths =
    (codes "/why", explained None false)
    ∷ (codes "/json/why", explained None true)
    ∷ (codes "/list", shown_of None false)
    ∷ (codes "/json/list", shown_of None true)
    ∷ (codes "/configuration", configuration)
    ∷ (codes "/json/queue", waiting_objects)
    ∷ (codes "/json/verdicts", verdict_objects)
    ∷ (codes "/metrics", figures)
    ∷ []

-- the paths that ask for one page each
abbrev pub page_paths : List (List ℕ × Paging)
page_paths =
    (codes "/", suites_page)
    ∷ (codes "/index.html", suites_page)
    ∷ (codes "/uploads.html", uploads_page)
    ∷ []

-- the beginnings of paths that end with a name, each with the question about that name
abbrev pub question_fronts : List (List ℕ × (List ℕ → Asking))
question_fronts =
    (codes "/why/", λ name. explained (Some name) false)
    ∷ (codes "/json/why/", λ name. explained (Some name) true)
    ∷ (codes "/list/", λ suite. shown_of (Some suite) false)
    ∷ (codes "/json/list/", λ suite. shown_of (Some suite) true)
    ∷ []

-- what stands beside this path in a list of paths
abbrev pub beside_path : {A : Type 0} → List (List ℕ × A) → List ℕ → Option A
beside_path [] path = None
beside_path (q ∷ rest) path = if bytes_eq path q.0 then Some q.1 else beside_path rest path

-- what follows a front of a path, if the path begins with it
abbrev pub after_front : List ℕ → List ℕ → Option (List ℕ)
after_front front path = if bytes_eq (take (length front) path) front then Some (drop (length front) path) else None

-- what precedes an end of a path, if the path ends with it
abbrev pub before_end : List ℕ → List ℕ → Option (List ℕ)
before_end end path = if bytes_eq (drop (length path - length end) path) end then Some (take (length path - length end) path) else None

abbrev pub before_end_of : List ℕ → Option (List ℕ) → Option (List ℕ)
before_end_of end None = None
before_end_of end (Some rest) = before_end end rest

-- what is between a front and an end of a path, if the path has both
abbrev pub between : List ℕ → List ℕ → List ℕ → Option (List ℕ)
between front end path = before_end_of end (after_front front path)

-- a name in a path, its escapes undone: one byte or more, without a slash
abbrev pub name_at : List ℕ → Result (List ℕ) Refusal
name_at part = if (length part == 0) || list_any (λ b. b == 47) part then Err NotFound else decoded part

-- the question about a name, if there is one, else another
abbrev pub by_name : Option (List ℕ) → (List ℕ → Asking) → Result Asking Refusal → Result Asking Refusal
by_name None question other = other
by_name (Some part) question other = do
  name ← name_at part
  Ok (question name)

-- the question of this path among paths that end with a name
abbrev pub named_question : List (List ℕ × (List ℕ → Asking)) → List ℕ → Result Asking Refusal
named_question [] path = Err NotFound
named_question (q ∷ rest) path = by_name (after_front q.0 path) q.1 (named_question rest path)

-- a question that was found, or another
abbrev pub question_or : Option Asking → Result Asking Refusal → Result Asking Refusal
question_or None other = other
question_or (Some question) other = Ok question

-- The question of a path. A page names the key of the desk, if there is one.
abbrev pub questioned : (key : Option (List ℕ)) → List ℕ → Result Asking Refusal
questioned key path =
    question_or (beside_path question_paths path)
    (question_or (option_map (λ page. page_of page key) (beside_path page_paths path))
    (by_name (between (codes "/suites/") (codes "/index.html") path) (λ codename. page_of (suite_page codename) key)
    (named_question question_fronts path)))

-- the method that a route wants (RFC 9110, section 9)
abbrev pub method_of : Route → List ℕ
method_of at.Deliver = codes "PUT"
method_of at.Run = codes "POST"
method_of at.Copy = codes "POST"
method_of at.Waiting = codes "GET"
method_of at.Verdicts = codes "GET"
method_of at.Dists = codes "GET"
method_of at.Pool = codes "GET"
method_of at.Remove = codes "POST"
method_of at.Clean = codes "POST"
method_of at.Promote = codes "POST"
method_of at.Question = codes "GET"

-- ---- the fields

-- a field has this name, ASCII case ignored
abbrev pub is_named : List ℕ → List ℕ × List ℕ → Bool
is_named name field = str_eq_ignore_ascii_case field.0 name

-- one to ten decimal digits, as a number
abbrev pub length_value : List ℕ → Result ℕ Refusal
length_value text =
    if nat_le 1 (length text) && (nat_le (length text) 10 && list_all is_ascii_digit text)
    then Ok (digits_value 10 text) else Err BadRequest

-- there is at most one value of Content-Length, and it is a number
abbrev pub one_length : List (List ℕ) → Result (Option ℕ) Refusal
one_length [] = Ok None
one_length (value ∷ []) = do
  length ← length_value value
  Ok (Some length)
one_length (value ∷ more ∷ rest) = Err BadRequest

abbrev pub content_length : List (List ℕ × List ℕ) → Result (Option ℕ) Refusal
content_length fields = one_length (map (λ f. f.1) (filter (is_named (codes "content-length")) fields))

-- Whether the archive may be asked. A body of more than 4 MiB has to come under the name of a file.
abbrev pub may_ask : Want → Bool
may_ask (delivery name n) = is_file_name name || nat_le n most_size
may_ask queue_run = true
may_ask (copying a b c) = true
may_ask (fetching p k) = true
may_ask waiting_list = true
may_ask cleaning = true
may_ask verdict_list = true
may_ask (removing a b) = true
may_ask (promoting a b) = true
may_ask (asking question) = true

-- the command with the length of its body, which only a delivery may have
abbrev pub with_length : Want → Option ℕ → Result Want Refusal
with_length (delivery name n) None = Err LengthRequired
with_length (delivery name n) (Some length) = if is_file_name name || nat_le length most_size then Ok (delivery name length) else Err PayloadTooLarge
with_length queue_run length = if unwrap_or length 0 == 0 then Ok queue_run else Err BadRequest
with_length (copying a b c) length = if unwrap_or length 0 == 0 then Ok (copying a b c) else Err BadRequest
with_length (fetching p k) length = if unwrap_or length 0 == 0 then Ok (fetching p k) else Err BadRequest
with_length waiting_list length = if unwrap_or length 0 == 0 then Ok waiting_list else Err BadRequest
with_length cleaning length = if unwrap_or length 0 == 0 then Ok cleaning else Err BadRequest
with_length verdict_list length = if unwrap_or length 0 == 0 then Ok verdict_list else Err BadRequest
with_length (removing a b) length = if unwrap_or length 0 == 0 then Ok (removing a b) else Err BadRequest
with_length (promoting a b) length = if unwrap_or length 0 == 0 then Ok (promoting a b) else Err BadRequest
with_length (asking question) length = if unwrap_or length 0 == 0 then Ok (asking question) else Err BadRequest

-- whether what is wanted changes nothing
abbrev pub is_look_up : Want → Bool
is_look_up (fetching path is_pool) = true
is_look_up waiting_list = true
is_look_up verdict_list = true
is_look_up (asking question) = true
is_look_up want = false

-- ---- the head

-- a command beside its route
abbrev pub beside : Route → Result Want Refusal → Result (Route × Want) Refusal
beside route (Ok want) = Ok (route, want)
beside route (Err e) = Err e

-- the command of a path at its route
abbrev pub command_at : List ℕ → RouteOf Route → Result (Route × Want) Refusal
command_at path route = beside route.value (wanted_at route.value (parameters route path) path)

-- a question with the route of all questions
abbrev pub at_question : Result Asking Refusal → Result (Route × Want) Refusal
at_question (Ok question) = Ok (at.Question, asking question)
at_question (Err e) = Err e

-- what a path asks for: the command of its route, or its question if it has no route
abbrev pub asked_by : (key : Option (List ℕ)) → List ℕ → Option (RouteOf Route) → Result (Route × Want) Refusal
asked_by key path None = at_question (questioned key path)
asked_by key path (Some route) = command_at path route

-- what a path asks for: its route, and the command of that route
abbrev pub asked_at : (key : Option (List ℕ)) → List ℕ → Result (Route × Want) Refusal
asked_at key path = asked_by key path (first routes path)

-- whether a route changes something: its method is not GET
abbrev pub changes : Route → Bool
changes route = not (bytes_eq (method_of route) (codes "GET"))

-- whether a page in a browser asks for a change: with such a request a browser names where the page is from, in the field Origin (RFC 6454,
-- section 7)
abbrev pub is_of_page : Route → List (List ℕ × List ℕ) → Bool
is_of_page route fields = changes route && list_any (is_named (codes "origin")) fields

-- What the parts of a head ask for. The checks are made in their order, and the first that fails decides. Whether a page may ask for a
-- change depends on the desk.
unfoldable pub wanted_by : (refuses : Bool) → (key : Option (List ℕ)) → List ℕ → List ℕ → List (List ℕ × List ℕ) → Result Want Refusal
wanted_by refuses key method target fields = do
  _ ← pass (is_path target) BadRequest
  _ ← pass (not (list_any (is_named (codes "transfer-encoding")) fields)) NotImplemented
  found ← asked_at key target
  _ ← pass (bytes_eq method (method_of found.0)) (MethodNotAllowed (method_of found.0))
  _ ← pass (not (refuses && is_of_page found.0 fields)) Forbidden
  length ← content_length fields
  with_length found.1 length

-- what a desk goes by that was given no rules
abbrev pub no_rules : Rules
no_rules = record { refuses_origin = false; key = None }

-- what a head asks for, at a desk that goes by these rules
abbrev pub wanted : Rules → RequestHead → Result Want Refusal
wanted rules h = wanted_by rules.refuses_origin (option_map string_bytes rules.key) h.method h.target (map name_and_value h.fields)
