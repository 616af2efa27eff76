-- The codenames of suites.
use Rattle.std.specs.Prelude.{ℕ, List, [], slice_get}
use Rattle.std.specs.Option.{option_map_or}
use Rattle.rules.specs.declared.suite.Suite.{Suite}

-- the codename of the suite at a position, or an empty text if there is no suite
abbrev pub codename_at : List Suite → ℕ → List ℕ
codename_at suites position = option_map_or (λ s. s.codename) (slice_get suites position) []
