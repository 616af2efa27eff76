-- Which promotions are refused, the steps of one that is not, and the copies in a row that it stands for.
use Rattle.std.specs.Prelude.{◌≡◌, ◌⊎◌, ⊤, ℕ, Bool, true, nat_eq, nat_lt, if◌then◌else◌, List, [], ◌∷◌, map, filter, length, Option, Some, None, Result, Ok}
use Rattle.std.specs.FinMap.{entries}
use Rattle.std.specs.List.{fold}
use Rattle.book.specs.Book.{latest}
use Rattle.book.specs.declared.change.Step.{Step}
use Rattle.rules.specs.Values.{ConfigValue}
use Rattle.suites.specs.Plan.{IsStep, after_copy}
use Rattle.suites.specs.Shelves.{ShelvesValue}
use Rattle.history.specs.Answers.{answer, is_free_copy}
use Rattle.history.specs.Archives.{each_once, suite_named}
use Rattle.history.specs.Copies.{shows_source, suites_fault}
use Rattle.history.specs.Deliveries.{IsKeepers}
use Rattle.history.specs.Histories.{Copying, Count, History, Reply, followed}
use Rattle.history.specs.declared.fault.Fault.{Fault}
use Rattle.history.specs.declared.fault.Fault.TheVariants.{Moment}

-- Why a promotion is refused, by the lowest fault that applies: the moment is too late, no suite has a codename, both are one
-- suite.
unfoldable pub promotion_fault : ConfigValue → List ℕ → List ℕ → ℕ → Option Fault
promotion_fault config from to moment =
    if nat_lt latest moment then Some Moment else suites_fault (suite_named config from) (suite_named config to)

-- what a promotion is refused for: the fault by its moment and the configuration, or else one of the keeper's own
abbrev pub IsPromotionFault : Bool → ConfigValue → (from to : List ℕ) → ℕ → Fault → Type 0
IsPromotionFault may_fail config from to moment fault =
    (promotion_fault config from to moment ≡ Some fault) ⊎ IsKeepers may_fail (is_free_copy config from to moment ≡ true) fault

-- ---- on what the keeper shows

-- the source packages of which the suite shows an item, once for each item
unfoldable pub sources_on : ShelvesValue → ℕ → List (List ℕ)
sources_on shelves from = map (λ e. e.1.source) (filter (λ e. nat_eq e.0.suite from) (entries shelves))

-- the source packages of a promotion, in the order of their bytes, each once
abbrev pub sources_from : ShelvesValue → ℕ → Option (List (List ℕ)) → List (List ℕ)
sources_from shelves from (Some sources) = each_once sources
sources_from shelves from None = each_once (sources_on shelves from)

-- The step is that of a copy of the source package: its plan, and no judgement.
pub record IsCopyStep (config : ConfigValue) (shelves : ShelvesValue) (from to : ℕ) (source : List ℕ) (step : Step) : Type 0 where
  pub judgement : step.judgement ≡ None
  pub plan : IsStep shelves (after_copy config shelves from to source) step.plan

-- the shelves after copies of source packages, in order
abbrev pub after_copies : ConfigValue → ℕ → ℕ → ShelvesValue → List (List ℕ) → ShelvesValue
after_copies config from to shelves sources = fold (λ now source. after_copy config now from to source) shelves sources

-- a step for each of the source packages, on what those before it leave
abbrev pub AreCopied : ConfigValue → ℕ → ℕ → ShelvesValue → List (List ℕ) → List Step → Type 0
AreCopied config from to shelves [] [] = ⊤
AreCopied config from to shelves (source ∷ sources) (step ∷ steps) =
    IsCopyStep config shelves from to source step × AreCopied config from to (after_copy config shelves from to source) sources steps
AreCopied config from to shelves [] (step ∷ steps) = ⊥
AreCopied config from to shelves (source ∷ sources) [] = ⊥

-- how many items a step puts, if the suite shows an item of the source package
abbrev pub items_put : ShelvesValue → ℕ → List ℕ → Step → Option ℕ
items_put shelves from source step = if shows_source shelves from source then Some (length step.plan.put) else None

-- each source package and how many items its step puts, on what those before it leave
abbrev pub copies_on : ConfigValue → ℕ → ℕ → ShelvesValue → List (List ℕ) → List Step → List (List ℕ × Option ℕ)
copies_on config from to shelves [] steps = []
copies_on config from to shelves (source ∷ sources) [] = []
copies_on config from to shelves (source ∷ sources) (step ∷ steps) =
    (source, items_put shelves from source step) ∷ copies_on config from to (after_copy config shelves from to source) sources steps

-- ---- copies in a row

-- the history with a copy after it, and with what the plain archive answers to that copy
abbrev pub with_copy : History → List ℕ → List ℕ → ℕ → List ℕ → History
with_copy h from to moment source = followed h (Copying from to source moment) (answer h (Copying from to source moment))

-- the history with a copy of each source package in turn, and with the answers
abbrev pub with_copies : History → List ℕ → List ℕ → ℕ → List (List ℕ) → History
with_copies h from to moment sources = fold (λ now source. with_copy now from to moment source) h sources

-- how many items a copy says are new; `None` if it is refused
abbrev pub items_new : Result Reply Fault → Option ℕ
items_new (Ok (Count items)) = Some items
items_new outcome = None

-- each source package, with what its copy in turn answers
abbrev pub answered_copies : History → List ℕ → List ℕ → ℕ → List (List ℕ) → List (List ℕ × Option ℕ)
answered_copies h from to moment [] = []
answered_copies h from to moment (source ∷ sources) =
    (source, items_new (answer h (Copying from to source moment)))
    ∷ answered_copies (with_copy h from to moment source) from to moment sources
