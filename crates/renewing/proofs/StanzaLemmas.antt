-- Stanzas of items that are made of the same, and of an index by the kind of its items.
use Rattle.std.proofs.Common.{◌≡◌, ℕ, Bool, true, false, List, ◌∷◌, ◌++◌, filter, codes, refl, ap, if◌then◌else◌}
use Rattle.std.specs.List.{flat_map}
use Rattle.std.specs.FinMap.{entries}
use Rattle.para.specs.Printing.{paragraph_text}
use Rattle.suites.specs.Pool.{directory_of}
use Rattle.suites.specs.Shelves.{ShelvesValue}
use Rattle.suites.specs.declared.item.Item.{Item}
use Rattle.suites.specs.declared.key.Kind.{Kind}
use Rattle.suites.specs.declared.key.Kind.TheVariants.{Source, Binary}
use Rattle.indices.specs.Release.{is_source, listed_text}
use Rattle.indices.specs.Stanzas.{fields_of_text, file_fields, line_field, package_fields, package_stanza, packages_text, source_fields, source_lists, source_stanza, sources_text}
use Rattle.renewing.specs.Stanzas.{inputs_of, is_in_index, kind_of, stanza_of, stanzas_of}
use Rattle.renewing.specs.declared.stanzas.Inputs.{Inputs}

-- items that are made of the same have one stanza
pub same_stanza : (kind : Kind) (a b : Item) → inputs_of a ≡ inputs_of b → stanza_of kind a ≡ stanza_of kind b
unfolding stanza_of source_stanza package_stanza
same_stanza Source a b same =
    ap (λ (i : Inputs). paragraph_text (source_fields (fields_of_text i.paragraph) ++ line_field (codes "Directory") (directory_of i.component i.source) ∷ source_lists i.files) ++ codes "\n") same
same_stanza Binary a b same =
    ap (λ (i : Inputs). paragraph_text (package_fields (fields_of_text i.paragraph) ++ flat_map file_fields i.files) ++ codes "\n") same

-- the text of an index by the kind of its items, which is that of sources or of packages
listed_by : Bool → ShelvesValue → ℕ → List ℕ → List ℕ → List ℕ
listed_by source shelves suite component architecture =
    if source then sources_text shelves suite component else packages_text shelves suite component architecture

by_kind : (source : Bool) (shelves : ShelvesValue) (suite : ℕ) (component architecture : List ℕ)
    → stanzas_of (if source then Source else Binary) shelves suite component architecture ≡ listed_by source shelves suite component architecture
unfolding stanzas_of stanza_of is_in_index sources_text packages_text listed_by
by_kind true shelves suite component architecture = refl
by_kind false shelves suite component architecture = refl

pub listed_by_kind : (shelves : ShelvesValue) (suite : ℕ) (component architecture : List ℕ)
    → stanzas_of (kind_of architecture) shelves suite component architecture ≡ listed_text shelves suite component architecture
unfolding listed_text listed_by
listed_by_kind shelves suite component architecture = by_kind (is_source architecture) shelves suite component architecture
