-- What is markup in a page.
use Rattle.std.specs.Prelude.{ℕ, Bool, false, List, filter, length, slice_get, is_some, codes}
use Rattle.std.specs.Option.{option_map_or}
use Rattle.para.specs.Fields.{field_named}
use Rattle.book.specs.declared.change.Waiting.{Waiting}
use Rattle.rules.specs.Suites.{keeps_architecture}
use Rattle.rules.specs.Values.{ConfigValue}
use Rattle.rules.specs.declared.suite.Suite.{Suite}
use Rattle.suites.specs.declared.item.Item.{Item}
use Rattle.indices.specs.Stanzas.{fields_of_text}
use Rattle.pages.specs.Escapes.{is_markup}

-- the bytes of a page that could begin or end markup, or end an attribute
abbrev pub markup : List ℕ → List ℕ
markup page = filter is_markup page

-- what decides which lines there are of an item: whether its paragraph says in one line what it is, and how many files it has
abbrev pub item_form : Item → Bool × ℕ
item_form a = (is_some (field_named (codes "Description") (fields_of_text a.paragraph)), length a.files)

-- whether there is a suite at a position, and the configuration says what it is for
abbrev pub has_description_at : ConfigValue → ℕ → Bool
has_description_at config suite = option_map_or (λ s. is_some s.description) (slice_get config.suites suite) false

-- what decides which lines there are of a suite: whether it has another name, whether the configuration says what it is for, and whether
-- it keeps sources
abbrev pub suite_form : Suite → Bool × Bool × Bool
suite_form s = (is_some s.suite, is_some s.description, keeps_architecture s (codes "source"))

-- how many files an upload lacks
abbrev pub lack_count : Waiting → ℕ
lack_count w = length w.lacks
