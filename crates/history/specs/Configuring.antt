-- What another configuration makes of an archive: it goes on as a history that opens with the configured book.
use Rattle.std.specs.Prelude.{◌≡◌, ◌⊎◌, true, ℕ, Option, Some, Result, Ok, Err}
use Rattle.rules.specs.Values.{ConfigValue}
use Rattle.book.specs.Book.{Book}
use Rattle.book.specs.Configured.{configured, keeps_shown}
use Rattle.book.specs.Keeping as keeping
use Rattle.book.specs.declared.fault.KeepFault.{KeepFault}
use Rattle.book.specs.declared.keeper.Keeper.{Ghosts}
use Rattle.history.specs.Answers.{IsKept}
use Rattle.history.specs.Archives.{book_of}
use Rattle.history.specs.Histories.{History, opened_with}

-- The history without calls that opens with what another leaves, under this configuration from this moment on.
abbrev pub reopened : ConfigValue → ℕ → History → History
reopened config moment h = opened_with (configured config moment (book_of h))

-- What was left is this book, or the configured one. The latter is left only if the configuration keeps all that the book shows.
abbrev pub IsLeftConfigured : ConfigValue → ℕ → Book → Option Book → Type 0
IsLeftConfigured config moment book left = (left ≡ Some book) ⊎ ((keeps_shown config book ≡ true) × (left ≡ Some (configured config moment book)))

module _ {K : Type 0} (g : Ghosts K) (old : K) where
  -- what another configuration leaves of the archive's keeper
  abbrev pub Endures : K → Type 0
  Endures new = keeping.Endures g.is_clean g.is_open g.faults old new

  -- If it is done, what the history leaves goes on under the configuration, which keeps all that is shown. If it is refused, what was
  -- kept is still kept.
  abbrev pub Configures : ConfigValue → ℕ → {T : Type 0} → Result T KeepFault → K → Type 0
  Configures config moment (Ok done) new = (h : History) → IsKept (g.is_open old) (g.book old) h → g.is_clean new
      → (keeps_shown config (book_of h) ≡ true) × IsKept (g.is_open new) (g.book new) (reopened config moment h)
  Configures config moment (Err fault) new = (h : History) → IsKept (g.is_open old) (g.book old) h → g.is_clean new → IsKept (g.is_open new) (g.book new) h

  -- A crash leaves what it would have left before, or the configured book.
  abbrev pub LeavesConfigured : ConfigValue → ℕ → K → Type 0
  LeavesConfigured config moment new = (h : History) → IsKept (g.is_open old) (g.book old) h → g.is_clean new → (left : Option Book) → g.may_leave new left
      → g.may_leave old left ⊎ ((keeps_shown config (book_of h) ≡ true) × (left ≡ Some (configured config moment (book_of h))))
