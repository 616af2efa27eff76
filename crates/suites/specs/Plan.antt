-- What an upload, a copy and a removal change.
use Rattle.std.specs.Prelude.{◌≡◌, ℕ, Bool, cond, List, [], ◌∷◌, map, filter, bytes_eq, Option, Some, None, option_to_list, ◌&&◌, nat_eq, slice_get, length}
use Rattle.std.specs.List.{flat_map, enumerate_from}
use Rattle.std.specs.FinMap.{entries}
use Rattle.rules.specs.Values.{ConfigValue}
use Rattle.rules.specs.Suites.{claiming, keeps_architecture, keeps_component}
use Rattle.rules.specs.Judgement.{component}
use Rattle.rules.specs.declared.suite.Suite.{Suite}
use Rattle.rules.specs.declared.verdict.Verdict.{Verdict}
use Rattle.rules.specs.declared.verdict.Verdict.TheVariants.{Accepted}
use Rattle.sums.specs.declared.print.Print.{Print}
use Rattle.suites.specs.Change.{IsChange, without, with_all}
use Rattle.suites.specs.Items.{ItemWith, Admitted, on_shelf, item_of, standing}
use Rattle.suites.specs.Shelves.{ShelvesValue, shown_after, version_of, pool, AreSound}
use Rattle.suites.specs.Pool.{pair_of}
use Rattle.suites.specs.Upload.{UploadValue, items_of}
use Rattle.suites.specs.Verdict.{verdict_on}
use Rattle.suites.specs.declared.plan.Plan.{Plan}
use Rattle.suites.specs.declared.plan.Reference.{Reference}
use Rattle.suites.specs.declared.item.Item.{Item}
use Rattle.suites.specs.declared.key.ShelfKey.{ShelfKey}

-- what a verdict lets in: all if it is acceptance, else nothing
abbrev pub admitted_if : {X : Type 0} → Verdict → List X → List X
admitted_if Accepted items = items
admitted_if _ items = []

-- the items of an upload on the shelves of the suite that claims its distribution
unfoldable pub given : {C : Type 0} → ConfigValue → UploadValue → List (ItemWith C) → List (Admitted C)
given config u items = flat_map (λ suite. map (on_shelf suite) items)
    (option_to_list (claiming u.changes.distribution config.suites))

-- the program's item, with its shelf
abbrev pub printed : Admitted Print → ShelfKey × Item
printed a = (a.0, item_of a.1)

-- what an upload admits by prints
unfoldable pub admitted : ConfigValue → ShelvesValue → UploadValue → List (ShelfKey × Item)
admitted config shelves u = admitted_if (verdict_on config shelves u)
    (map printed (given config u (items_of (λ e. e.print) u (component u.changes))))

-- what the suites show after the upload
abbrev pub after_upload : ConfigValue → ShelvesValue → UploadValue → ShelvesValue
after_upload config shelves u = shown_after version_of shelves (admitted config shelves u)

-- A copy admits to the target the items of the source package that the other suite shows and the target keeps.
unfoldable pub is_copied : ℕ → List ℕ → Suite → ShelfKey × Item → Bool
is_copied from source target a =
    nat_eq a.0.suite from && bytes_eq a.1.source source && keeps_component target a.1.component
    && keeps_architecture target a.1.architecture

unfoldable pub copied : ConfigValue → ShelvesValue → ℕ → ℕ → List ℕ → List (ShelfKey × Item)
copied config shelves from to source = flat_map
    (λ target. map (λ a. standing to a.1) (filter (is_copied from source target) (entries shelves)))
    (option_to_list (slice_get config.suites to))

-- whether the item is one of the source package that the suite shows
unfoldable pub is_of_source : ℕ → List ℕ → ShelfKey × Item → Bool
is_of_source from source a = nat_eq a.0.suite from && bytes_eq a.1.source source

-- the shelves on which the items of the source package stand, in order
unfoldable pub shelves_of : ShelvesValue → ℕ → List ℕ → List ShelfKey
shelves_of shelves from source = map (λ a. a.0) (filter (is_of_source from source) (entries shelves))

-- what stands on a shelf, if the target keeps it
abbrev pub kept_by : Suite → Option Item → List Item
kept_by target None = []
kept_by target (Some item) =
    cond (keeps_component target item.component && keeps_architecture target item.architecture) (item ∷ []) []

abbrev pub after_copy : ConfigValue → ShelvesValue → ℕ → ℕ → List ℕ → ShelvesValue
after_copy config shelves from to source = shown_after version_of shelves (copied config shelves from to source)

-- A removal takes from a suite all items of a package's name, sources and packages alike.
unfoldable pub is_removed : {X : Type 0} → ℕ → List ℕ → ShelfKey × X → Bool
is_removed suite name e = nat_eq e.0.suite suite && bytes_eq e.0.«package» name

-- the items that a removal takes
unfoldable pub removed : ShelvesValue → ℕ → List ℕ → List (ShelfKey × Item)
removed shelves suite name = filter (is_removed suite name) (entries shelves)

abbrev pub after_removal : ShelvesValue → ℕ → List ℕ → ShelvesValue
after_removal shelves suite name = without shelves (removed shelves suite name)

-- the references of items: each file by its number in its item, from 1
abbrev pub references_of : ShelfKey × Item → List Reference
references_of a = map (λ f. record { key = a.0; number = f.0; path = f.1.path; print = f.1.print }) (enumerate_from 1 a.1.files)

unfoldable pub references : List (ShelfKey × Item) → List Reference
references items = flat_map references_of items

-- The plan is the step from what is shown and pooled before to what is after, and nothing else.
pub record IsStep (old new : ShelvesValue) (plan : Plan) : Type 0 where
  pub items : IsChange old new plan.put plan.dropped
  pub files : IsChange (pool old) (pool new) (map pair_of plan.files_added) (map pair_of plan.files_removed)
  pub references_put : plan.references_put ≡ references plan.put
  pub references_dropped : plan.references_dropped ≡ references plan.dropped
  pub sound : AreSound new

-- the shelves with a plan made
abbrev pub applied : ShelvesValue → Plan → ShelvesValue
applied shelves plan = with_all (without shelves plan.dropped) plan.put
