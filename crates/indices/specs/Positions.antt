-- What a configuration has at a position.
use Rattle.std.specs.Prelude.{ℕ, List, [], get_or, slice_get}
use Rattle.std.specs.Option.{option_map_or}
use Rattle.rules.specs.Values.{ConfigValue}
use Rattle.suites.specs.Shelves.{ShelvesValue}
use Rattle.indices.specs.declared.index.Index.{Index}
use Rattle.indices.specs.Release.{release_text, indices_of}

-- the components of the suite at a position, none if there is no suite
unfoldable pub components_at : ConfigValue → ℕ → List (List ℕ)
components_at config suite = option_map_or (λ s. s.components) (slice_get config.suites suite) []

-- the architectures of the suite at a position, none if there is no suite
unfoldable pub architectures_at : ConfigValue → ℕ → List (List ℕ)
architectures_at config suite = option_map_or (λ s. s.architectures) (slice_get config.suites suite) []

-- the name of a component and of an architecture, by position
abbrev pub component_at : ConfigValue → ℕ → ℕ → List ℕ
component_at config suite component = get_or (components_at config suite) component []

abbrev pub architecture_at : ConfigValue → ℕ → ℕ → List ℕ
architecture_at config suite architecture = get_or (architectures_at config suite) architecture []

-- the indices that the Release of the suite at a position lists, none if there is no suite
unfoldable pub indices_at : ConfigValue → ShelvesValue → ℕ → List Index
indices_at config shelves suite = option_map_or (λ s. indices_of s shelves suite) (slice_get config.suites suite) []

-- the Release of the suite at a position, an empty text if there is no suite
unfoldable pub release_at : ConfigValue → ℕ → ℕ → List Index → List ℕ
release_at config suite moment indices =
    option_map_or (λ s. release_text s moment indices) (slice_get config.suites suite) []
