-- What the statements on the one row of `meta` speak of.
use Rattle.std.specs.Prelude.{ℕ, true, List}
use Rattle.tables.specs.Rows.{Tables, changed}

-- the text of the configuration becomes another
abbrev pub with_configuration : List ℕ → Tables → Tables
with_configuration text t = record t { meta = changed (λ _. true) (λ m. record m { configuration = text }) t.meta }
