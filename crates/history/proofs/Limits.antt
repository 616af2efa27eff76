-- The largest body that may be delivered under a name.
use Rattle.std.proofs.Common.{◌≡◌, ◌≤◌, ℕ, Bool, true, false, ◌||◌, List, if◌then◌else◌, ap, ◌∙◌, arith}
use Rattle.std.proofs.Math.Bool.{or-true}
use Rattle.rules.proofs.Sizes.{largest-greatest, largest-least}
use Rattle.rules.specs.Sizes.{largest}
use Rattle.rules.specs.Values.{ConfigValue}
use Rattle.suites.specs.Upload.{has_text}
use Rattle.sums.specs.FileNames.{is_changes_name}
use Rattle.sums.specs.Lines.{greatest_size, most_size}
use Rattle.history.specs.Deliveries.{most_named}

pub named_greatest : (config : ConfigValue) (name : List ℕ) → most_named config name ≤ greatest_size
unfolding most_named
named_greatest config name = by_text (has_text name || is_changes_name name)
  where
    by_text : (b : Bool) → (if b then most_size else largest config) ≤ greatest_size
    by_text true = omega arith
    by_text false = largest-greatest config

pub named_least : (config : ConfigValue) (name : List ℕ) → most_size ≤ most_named config name
unfolding most_named
named_least config name = by_text (has_text name || is_changes_name name)
  where
    by_text : (b : Bool) → most_size ≤ (if b then most_size else largest config)
    by_text true = omega arith
    by_text false = largest-least config

-- the limit of a .changes is the same in each archive
pub named_changes : (config : ConfigValue) (name : List ℕ) → is_changes_name name ≡ true → most_named config name ≡ most_size
unfolding most_named
named_changes config name is =
    ap (λ (b : Bool). if b then most_size else largest config) (ap (λ (b : Bool). has_text name || b) is ∙ or-true (has_text name))

-- the limit is that of an equal configuration
pub named_under : (most : ℕ) (config other : ConfigValue) (name : List ℕ) → most ≡ most_named config name → config ≡ other → most ≡ most_named other name
named_under most config other name is same = is ∙ ap (λ (c : ConfigValue). most_named c name) same
