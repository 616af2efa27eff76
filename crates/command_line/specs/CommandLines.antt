-- What a command line says, as clap reads its words.
use Rattle.std.specs.Prelude.{◌≡◌, ◌≢◌, ◌≤◌, ◌&&◌, ◌||◌, ℕ, Bool, false, not, codes, List, [], map, Option, Some, None, Ok}
use Rattle.std.specs.Option.{is_some, option_map, option_map_or}
use Rattle.std.specs.Str.{bytes_eq}
use Rattle.std.specs.Str.Parse.{ParsesUnsigned}
use Rattle.std.specs.declared.vec.Vec.{Vec}
use Rattle.std.specs.declared.alloc.Global.{Global}
use Rattle.std.specs.Borrow.{Bor}
use Rattle.clap.specs.Words.{Row, Text, all_of, first_of}
use Rattle.book.specs.Book.{latest}
use Rattle.usage.specs.Shape.{most_connections}
use Rattle.command_line.specs.Keys.{is_misnamed, lacks_signed}
use Rattle.command_line.specs.declared.parsed.Serving.{Serving}
use Rattle.command_line.specs.declared.parsed.CommandLine.{CommandLine}
use Rattle.command_line.specs.declared.parsed.CommandLine.TheVariants.{Try, Compare, Check, Init, Ask, Batch, Configure, Migrate, Show, List as Listing, Why, Configuration, Status, Export, Serve}
use Rattle.lists.specs.declared.request.Request.{Request}
use Rattle.lists.specs.declared.request.Request.TheVariants as request

-- the words name this command, and P holds of its values
abbrev pub IsNamed : Option (Text × List Row) → Text → (List Row → Type 0) → Type 0
IsNamed found name P = (rows : List Row) × (found ≡ Some (name, rows)) × P rows

-- the word is the value of this argument
abbrev pub IsWord : Text → List Row → Bor (List ℕ) → Type 0
IsWord id rows word = first_of id rows ≡ Some word.now

-- the word is the value of this argument, if it was given one
abbrev pub IsOptionalWord : Text → List Row → Option (Bor (List ℕ)) → Type 0
IsOptionalWord id rows word = option_map (λ text. text.now) word ≡ first_of id rows

-- whether this flag was given
abbrev pub is_true : Text → List Row → Bool
is_true id rows = option_map_or (λ text. bytes_eq text (codes "true")) (first_of id rows) false

-- whether the words give this flag: those of a command that has no such flag never do
abbrev pub is_given : Text → Option (Text × List Row) → Bool
is_given id found = option_map_or (λ (named : Text × List Row). is_true id named.1) found false

-- the words are those that this argument was given, if it was given any
abbrev pub AreWords : Text → List Row → Option (Vec (Bor (List ℕ)) Global) → Type 0
AreWords id rows words = option_map (λ given. map (λ word. word.now) given.items) words ≡ all_of id rows

-- the paths are those given, one or more
abbrev pub HasPaths : List Row → Vec (Bor (List ℕ)) Global → Type 0
HasPaths rows paths = (all_of (codes "PATH") rows ≡ Some (map (λ path. path.now) paths.items)) × (paths.items ≢ [])

-- the number is the one that the value of this argument spells in decimal, and lies in the bounds
pub record IsNumber (id : Text) (rows : List Row) (least most n : ℕ) : Type 0 where
  pub text : Text
  pub value : first_of id rows ≡ Some text
  pub spelled : ParsesUnsigned {E = Unit {0}} 64 10 text (Ok n)
  pub low : least ≤ n
  pub high : n ≤ most

-- the moment that was handed in
abbrev pub IsMoment : List Row → ℕ → Type 0
IsMoment rows at = IsNumber (codes "at") rows 0 latest at

-- the moment that was handed in, if one was
abbrev pub IsOptionalMoment : List Row → Option ℕ → Type 0
IsOptionalMoment rows (Some at) = IsMoment rows at
IsOptionalMoment rows None = first_of (codes "at") rows ≡ None

-- the command and each value of a request are those that were found
abbrev pub IsRequested : Option (Text × List Row) → Bor (List ℕ) → ℕ → Request (Bor (List ℕ)) (Vec (Bor (List ℕ)) Global) (Option (Vec (Bor (List ℕ)) Global)) → Type 0
IsRequested found db at (request.Put paths) = IsNamed found (codes "put") (λ rows.
    IsWord (codes "db") rows db × IsMoment rows at × HasPaths rows paths)
IsRequested found db at request.Run = IsNamed found (codes "run") (λ rows. IsWord (codes "db") rows db × IsMoment rows at)
IsRequested found db at (request.Copy from to source) = IsNamed found (codes "copy") (λ rows.
    IsWord (codes "db") rows db × IsMoment rows at × IsWord (codes "FROM") rows from × IsWord (codes "TO") rows to
    × IsWord (codes "SOURCE") rows source)
IsRequested found db at (request.Promote from to sources) = IsNamed found (codes "promote") (λ rows.
    IsWord (codes "db") rows db × IsMoment rows at × IsWord (codes "FROM") rows from × IsWord (codes "TO") rows to
    × AreWords (codes "SOURCE") rows sources)
IsRequested found db at (request.Remove suite name) = IsNamed found (codes "remove") (λ rows.
    IsWord (codes "db") rows db × IsMoment rows at × IsWord (codes "SUITE") rows suite × IsWord (codes "PACKAGE") rows name)
IsRequested found db at request.Clean = IsNamed found (codes "clean") (λ rows. IsWord (codes "db") rows db × IsMoment rows at)
IsRequested found db at request.Waiting = IsNamed found (codes "waiting") (λ rows. IsWord (codes "db") rows db × IsMoment rows at)
IsRequested found db at request.Verdicts = IsNamed found (codes "verdicts") (λ rows. IsWord (codes "db") rows db × (at ≡ 0))

-- the database and the moment are those that were found
pub record IsTimed (rows : List Row) (db : Bor (List ℕ)) (at : ℕ) : Type 0 where
  pub word : IsWord (codes "db") rows db
  pub moment : IsMoment rows at

-- a command of this name asks for this, whatever its database and its moment
abbrev pub Asks : Text → List Row → Request (Bor (List ℕ)) (Vec (Bor (List ℕ)) Global) (Option (Vec (Bor (List ℕ)) Global)) → Type 0
Asks name rows asked = (db : Bor (List ℕ)) (at : ℕ) → IsTimed rows db at → IsRequested (Some (name, rows)) db at asked

-- a line that has both `--signed` and `--unsigned`
abbrev pub has_both : Bool → Bool → Bool
has_both signed unsigned = signed && unsigned

-- a serving that lacks the folder which `--unsigned` or `--by-hash` is about
abbrev pub lacks_export : Serving → Bool
lacks_export serving = not (is_some serving.export) && (serving.unsigned || serving.by_hash)

-- the command and each value are those that were found, flags of an export come with its folder, a key is named by a name that it can have
-- and comes with `--signed`, and no flag contradicts another
abbrev pub IsLine : Option (Text × List Row) → CommandLine → Type 0
IsLine found (Try paths) = IsNamed found (codes "try") (λ rows. HasPaths rows paths)
IsLine found (Compare left right) = IsNamed found (codes "compare") (λ rows.
    IsWord (codes "A") rows left × IsWord (codes "B") rows right)
IsLine found (Check conf) = IsNamed found (codes "check") (λ rows. IsWord (codes "CONF") rows conf)
IsLine found (Init db at conf) = IsNamed found (codes "init") (λ rows.
    IsWord (codes "db") rows db × IsMoment rows at × IsWord (codes "CONF") rows conf)
IsLine found (Ask db at asked manner) =
    IsRequested found db at asked × (manner.strict ≡ is_given (codes "strict") found) × (manner.json ≡ is_given (codes "json") found)
IsLine found (Batch db at list strict) = IsNamed found (codes "batch") (λ rows.
    IsWord (codes "db") rows db × IsMoment rows at × IsWord (codes "LIST") rows list × (strict ≡ is_true (codes "strict") rows))
IsLine found (Configure db at conf) = IsNamed found (codes "configure") (λ rows.
    IsWord (codes "db") rows db × IsMoment rows at × IsWord (codes "CONF") rows conf)
IsLine found (Migrate from db at conf) = IsNamed found (codes "migrate") (λ rows.
    IsWord (codes "from") rows from × IsWord (codes "db") rows db × IsMoment rows at × IsWord (codes "CONF") rows conf)
IsLine found (Show db path) = IsNamed found (codes "show") (λ rows.
    IsWord (codes "db") rows db × IsWord (codes "PATH") rows path)
IsLine found (Listing db suite json) = IsNamed found (codes "list") (λ rows.
    IsWord (codes "db") rows db × IsOptionalWord (codes "SUITE") rows suite × (json ≡ is_true (codes "json") rows))
IsLine found (Why db at name json) = IsNamed found (codes "why") (λ rows.
    IsWord (codes "db") rows db × IsOptionalMoment rows at × IsOptionalWord (codes "NAME") rows name × (json ≡ is_true (codes "json") rows))
IsLine found (Configuration db) = IsNamed found (codes "configuration") (λ rows. IsWord (codes "db") rows db)
IsLine found (Status db at) = IsNamed found (codes "status") (λ rows. IsWord (codes "db") rows db × IsMoment rows at)
IsLine found (Export db exporting) = IsNamed found (codes "export") (λ rows.
    IsWord (codes "db") rows db × IsOptionalMoment rows exporting.at × IsWord (codes "DIR") rows exporting.dir
    × (exporting.signed ≡ is_true (codes "signed") rows) × (exporting.unsigned ≡ is_true (codes "unsigned") rows)
    × (exporting.by_hash ≡ is_true (codes "by-hash") rows) × IsOptionalWord (codes "key") rows exporting.key
    × (is_misnamed exporting.key ≡ false) × (lacks_signed exporting.key exporting.signed ≡ false) × (has_both exporting.signed exporting.unsigned ≡ false))
IsLine found (Serve db serving) = IsNamed found (codes "serve") (λ rows.
    IsWord (codes "db") rows db × IsMoment rows serving.at × IsOptionalWord (codes "moments") rows serving.moments
    × (serving.log ≡ is_true (codes "log") rows) × IsOptionalWord (codes "export") rows serving.export
    × (serving.signed ≡ is_true (codes "signed") rows) × (serving.unsigned ≡ is_true (codes "unsigned") rows)
    × (serving.by_hash ≡ is_true (codes "by-hash") rows) × IsOptionalWord (codes "key") rows serving.key
    × (serving.refuse_origin ≡ is_true (codes "refuse-origin") rows)
    × (is_misnamed serving.key ≡ false) × (lacks_signed serving.key serving.signed ≡ false)
    × (lacks_export serving ≡ false) × (has_both serving.signed serving.unsigned ≡ false) × IsWord (codes "ADDRESS") rows serving.address
    × IsNumber (codes "COUNT") rows 1 most_connections serving.count)
