-- The book of a database under another configuration.
use Rattle.std.proofs.Common.{◌≡◌, ℕ, true, subst}
use Rattle.std.proofs.Math.Logic.{∥∥₁_elim}
use Rattle.std.proofs.Props.{props}
use Rattle.sqlite.specs.Effect.{Database}
use Rattle.rules.specs.Configuration.{ClaimApart}
use Rattle.rules.specs.Values.{ConfigValue}
use Rattle.rules.proofs.Apart.{claim_apart}
use Rattle.book.specs.Book.{Book, HasItsFiles}
use Rattle.book.specs.Configured.{configured, keeps_shown}
use Rattle.tables_meaning.specs.Archives.{KeepsFinished}
use Rattle.tables_meaning.proofs.BookFiles.{finished_files}
use Rattle.history.proofs.ConfiguredLemmas.{configured_files}
use Rattle.promise.proofs.Stops.{own_config}

claims_prop : (config : ConfigValue) → IsProp (ClaimApart config.suites)
claims_prop config = hlevel props

-- no two suites of its configuration claim one name
claims_apart : (db : Database) (config : ConfigValue) (b : Book) → KeepsFinished db config b → ClaimApart b.config.suites
claims_apart db config b keeps = ∥∥₁_elim keeps (claims_prop b.config) (λ w.
    subst (λ (x : ConfigValue). ClaimApart x.suites) (own_config db config b keeps) (claim_apart config.text config w.4.read))

-- the configured book has its files
pub configured_its : (db : Database) (before config : ConfigValue) (moment : ℕ) (b : Book) → KeepsFinished db before b → keeps_shown config b ≡ true → HasItsFiles (configured config moment b)
configured_its db before config moment b keeps stay = configured_files config moment b (claims_apart db before b keeps) stay (finished_files db before b keeps)

pub own_keeps : (db : Database) (config : ConfigValue) (b : Book) → KeepsFinished db config b → KeepsFinished db b.config b
own_keeps db config b keeps = subst (λ (c : ConfigValue). KeepsFinished db c b) (own_config db config b keeps) keeps
