-- The book under another configuration.
use Rattle.std.specs.Prelude.{◌≡◌, ℕ, Bool, true, if◌then◌else◌, List, map, codes, slice_get, Option, None}
use Rattle.std.specs.Option.{option_and_then, option_map_or}
use Rattle.std.specs.List.{enumerate_from}
use Rattle.rules.specs.Suites.{suite_named}
use Rattle.rules.specs.Values.{ConfigValue}
use Rattle.rules.specs.declared.suite.Suite.{Suite}
use Rattle.suites.specs.Moved.{all_stay, moved}
use Rattle.suites.specs.Shelves.{ShelvesValue}
use Rattle.indices.specs.Indices.{suite_path}
use Rattle.indices.specs.Release.{indices_of, release_text}
use Rattle.book.specs.Book.{Book, is_kept, text_at}

-- the book with this configuration, this shown and these dates, and all else as it was
abbrev pub reconfigured : ConfigValue → ShelvesValue → List ℕ → Book → Book
reconfigured config shown dates book = record book { config = config; shown = shown; dates = dates }

-- all that the suites show is kept under another configuration, each suite going by its codename
abbrev pub keeps_shown : ConfigValue → Book → Bool
keeps_shown config book = all_stay book.config.suites config.suites book.shown

-- what the suites show under another configuration
abbrev pub shown_under : ConfigValue → Book → ShelvesValue
shown_under config book = moved book.config.suites config.suites book.shown

-- the date of the suite with a codename
unfoldable pub date_of : Book → List ℕ → Option ℕ
date_of book codename = option_and_then (λ n. slice_get book.dates n) (suite_named book.config.suites codename)

-- the Release of the suite at a position, with a date, if the suites show this
abbrev pub release_with : ShelvesValue → ℕ × Suite → ℕ → List ℕ
release_with shown s date = release_text s.1 date (indices_of s.1 shown s.0)

-- The date of the suite at a position: the old date if the Release of that date is the text that is kept. Otherwise, and if
-- the suite is new, it is the moment.
unfoldable pub date_under : Book → ShelvesValue → ℕ → ℕ × Suite → ℕ
date_under book shown moment s = option_map_or
    (λ date. if is_kept (text_at book (suite_path s.1 (codes "Release"))) (release_with shown s date) then date else moment)
    (date_of book s.1.codename) moment

abbrev pub dates_under : ConfigValue → ShelvesValue → ℕ → Book → List ℕ
dates_under config shown moment book = map (date_under book shown moment) (enumerate_from 0 config.suites)

-- the book under another configuration, from a moment on
unfoldable pub configured : ConfigValue → ℕ → Book → Book
configured config moment book =
    reconfigured config (shown_under config book) (dates_under config (shown_under config book) moment book) book

-- A migration asks that two configurations have the same suites in the same order. They may differ in how long a Release is valid,
-- and in how long arrivals count.
abbrev pub without_days : Suite → Suite
without_days s = record s { valid_days = None }

abbrev pub AreAlike : ConfigValue → ConfigValue → Type 0
AreAlike config other = map without_days config.suites ≡ map without_days other.suites

-- What is handed over with another configuration is what the suites show under it, and all of that is kept.
pub record IsConfiguration (book : Book) (config : ConfigValue) (shown : ShelvesValue) : Type 0 where
  pub moved : shown ≡ shown_under config book
  pub kept : keeps_shown config book ≡ true
