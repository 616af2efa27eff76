-- A change that an archive makes: what it requires of its steps, and what is said of the book afterwards.
use Rattle.std.specs.Prelude.{◌≡◌, ℕ, List, [], map, take, length}
use Rattle.suites.specs.Shelves.{ShelvesValue}
use Rattle.suites.specs.Told.{AreTold}
use Rattle.book.specs.Book.{Book, amended, at_moment, due, judgements, shown_past}
use Rattle.book.specs.Keeping.{Apart, AreSteps, HasEachBody, sign_of, sign_on}
use Rattle.book.specs.declared.change.Change.{Change}
use Rattle.book.specs.declared.change.Step.{Step}

-- Each plan is made for what those before it leave. The judged uploads are the first of those that are due at the moment. If
-- records describe all that was shown before, they describe all that is shown afterwards. The shelves are what is then shown.
pub record IsPlanned (book : Book) (moment : ℕ) (steps : List Step) (shelves : ShelvesValue) : Type 0 where
  pub plans : AreSteps book.shown steps
  pub judged : map sign_on (judgements steps) ≡ map sign_of (take (length (judgements steps)) (due (at_moment moment book)))
  pub told : AreTold book.config.suites book.shown → AreTold book.config.suites (shown_past book.shown steps)
  pub shown : shelves ≡ shown_past book.shown steps

-- The change that these steps are, with any index texts: the book after it does not depend on them.
abbrev pub steps_at : ℕ → List Step → Change
steps_at moment steps = record { moment = moment; steps = steps; texts = [] }

-- This holds of the book after the steps, if it has each body and no two bodies have one print.
abbrev pub OnceAmended : Book → ℕ → List Step → (Book → Type 0) → Type 0
OnceAmended book moment steps Says = Apart book (HasEachBody book (steps_at moment steps) → Says (amended book (steps_at moment steps)))
