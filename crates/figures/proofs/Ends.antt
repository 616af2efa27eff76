-- Until when a suite's Release is valid.
use Rattle.std.proofs.Common.{◌≡◌, ℕ, ◌+◌, ◌*◌, List, map, codes, option_to_list, Option, Some, None, refl}
use Rattle.std.specs.Option.{option_map}
use Rattle.rules.specs.declared.suite.Suite.{Suite}
use Rattle.indices.specs.Calendar.{date_text}
use Rattle.indices.specs.Release.{valid_until}
use Rattle.indices.specs.Stanzas.{line_field}
use Rattle.figures.specs.Numbers.{date_at, end_at}

by_days : (date : ℕ) (o : Option ℕ)
    → map (λ (days : ℕ). line_field (codes "Valid-Until") (date_text (date + days * 86400))) (option_to_list o)
    ≡ map (λ (end : ℕ). line_field (codes "Valid-Until") (date_text end)) (option_to_list (option_map (λ (days : ℕ). date + days * 86400) o))
by_days date None = refl
by_days date (Some days) = refl

pub end_of_release : (dates : List ℕ) (position : ℕ) (s : Suite)
    → valid_until s (date_at dates position) ≡ map (λ (end : ℕ). line_field (codes "Valid-Until") (date_text end)) (option_to_list (end_at dates position s))
unfolding valid_until end_at
end_of_release dates position s = by_days (date_at dates position) s.valid_days
