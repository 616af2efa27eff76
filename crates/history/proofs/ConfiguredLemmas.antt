-- An archive under another configuration: its book, and the history that goes on with it.
use Rattle.std.proofs.Common.{◌≡◌, ℕ, true, List, refl, ap, ◌∙◌}
use Rattle.std.specs.FinMap.{values}
use Rattle.rules.specs.Configuration.{ClaimApart}
use Rattle.rules.specs.Values.{ConfigValue}
use Rattle.suites.specs.Pool.{AreAgreed, files_of}
use Rattle.suites.specs.Shelves.{ShelvesValue}
use Rattle.suites.proofs.MovedLemmas.{agreed_moved, pool_moved}
use Rattle.book.specs.Book.{Book, HasItsFiles}
use Rattle.book.specs.Configured.{configured, dates_under, keeps_shown, reconfigured, shown_under}
use Rattle.history.specs.Answers.{IsFaithful}
use Rattle.history.specs.Archives.{Stands, book_of}
use Rattle.history.specs.Configuring.{reopened}
use Rattle.history.specs.Histories.{Call, History, opened_with}
use Rattle.suites.proofs.MovedEntries.{codenames_apart}
use Rattle.history.proofs.Reopening.{book_of-files, goes_on, opens_itself}

-- a book that has its files has them under a configuration that keeps all that is shown
pub configured_files : (config : ConfigValue) (moment : ℕ) (book : Book) → ClaimApart book.config.suites → keeps_shown config book ≡ true → HasItsFiles book
    → HasItsFiles (configured config moment book)
unfolding configured
configured_files config moment book apart stay its =
    let names = codenames_apart book.config.suites apart in
    record {
      agreed = agreed_moved book.config.suites config.suites names book.shown its.agreed;
      files = λ path. pool_moved book.config.suites config.suites names book.shown stay its.agreed path ∙ its.files path;
    }

-- the configured book stands for the history that opens with it
pub configured_stands : (config : ConfigValue) (moment : ℕ) (h : History) → ClaimApart (book_of h).config.suites → keeps_shown config (book_of h) ≡ true
    → AreAgreed (files_of (values (book_of h).shown)) → Stands (configured config moment (book_of h)) (reopened config moment h)
configured_stands config moment h apart stay agreed =
    opens_itself (configured config moment (book_of h)) (configured_files config moment (book_of h) apart stay (book_of-files h agreed))

-- calls go on after the configured book
pub configured_goes_on : (config : ConfigValue) (moment : ℕ) (h : History) (calls : List Call) → ClaimApart (book_of h).config.suites → keeps_shown config (book_of h) ≡ true
    → AreAgreed (files_of (values (book_of h).shown)) → IsFaithful h calls → IsFaithful (reopened config moment h) calls
unfolding configured
configured_goes_on config moment h calls apart stay agreed faithful =
    let on : IsFaithful (opened_with (book_of h)) calls = goes_on h calls agreed faithful in
    record {
      bodies = on.bodies;
      apart = on.apart;
      opened = record {
        known = record { arrivals = on.opened.known.arrivals; files = on.opened.known.files };
        whole = configured_stands config moment h apart stay agreed;
      };
      delivered = on.delivered;
    }

-- the book that a keeper has then
pub made_book : (config given : ConfigValue) (moment : ℕ) (old mid new : Book) (shown : ShelvesValue) (dates : List ℕ) → new ≡ reconfigured given shown dates mid → mid ≡ old → given ≡ config
    → shown ≡ shown_under config old → dates ≡ dates_under config shown moment old → new ≡ configured config moment old
unfolding configured
made_book config given moment old mid new shown dates made same is moved dated =
    let on : dates ≡ dates_under config (shown_under config old) moment old = dated ∙ ap (λ s. dates_under config s moment old) moved in
    made ∙ (λ i. reconfigured (is i) (moved i) (on i) (same i))

-- the history that goes on has the configuration
pub config_of : (config : ConfigValue) (moment : ℕ) (h : History) → config ≡ (reopened config moment h).opening.config
unfolding configured
config_of config moment h = refl
