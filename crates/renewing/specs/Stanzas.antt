-- The stanzas of an index, by the kind of the items that it lists.
use Rattle.std.specs.Prelude.{ℕ, Bool, if◌then◌else◌, List, filter}
use Rattle.std.specs.List.{flat_map}
use Rattle.std.specs.FinMap.{entries}
use Rattle.suites.specs.Shelves.{ShelvesValue}
use Rattle.suites.specs.declared.item.Item.{Item}
use Rattle.suites.specs.declared.key.ShelfKey.{ShelfKey}
use Rattle.suites.specs.declared.key.Kind.{Kind}
use Rattle.suites.specs.declared.key.Kind.TheVariants.{Source, Binary}
use Rattle.indices.specs.Listed.{is_in_packages, is_in_sources}
use Rattle.indices.specs.Release.{is_source}
use Rattle.indices.specs.Stanzas.{package_stanza, source_stanza}
use Rattle.renewing.specs.declared.stanzas.Inputs.{Inputs}

-- what the stanza of an item is made of
abbrev pub inputs_of : Item → Inputs
inputs_of item = record { paragraph = item.paragraph; component = item.component; source = item.source; files = item.files }

-- the stanza of an item of a kind
unfoldable pub stanza_of : Kind → Item → List ℕ
stanza_of Source item = source_stanza item
stanza_of Binary item = package_stanza item

-- the kind of the items that the index of an architecture lists
abbrev pub kind_of : List ℕ → Kind
kind_of architecture = if is_source architecture then Source else Binary

-- the index of items of a kind, of a suite, a component and an architecture, lists the item
unfoldable pub is_in_index : Kind → ℕ → List ℕ → List ℕ → ShelfKey × Item → Bool
is_in_index Source suite component architecture = is_in_sources suite component
is_in_index Binary suite component architecture = is_in_packages suite component architecture

-- the stanzas of the items that it lists, in the order of their shelves
unfoldable pub stanzas_of : Kind → ShelvesValue → ℕ → List ℕ → List ℕ → List ℕ
stanzas_of kind shelves suite component architecture =
    flat_map (λ a. stanza_of kind a.1) (filter (is_in_index kind suite component architecture) (entries shelves))
