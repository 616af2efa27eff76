-- How a schema shows whether it is that of an archive.
use Rattle.std.specs.Prelude.{◌≡◌, [], All}
use Rattle.sqlite_schema.specs.declared.schema.Stamps.{Stamps}
use Rattle.sqlite_schema.specs.declared.schema.Table.{Table}
use Rattle.sqlite_value.specs.declared.value.Value.TheVariants.{Null}

-- no default reads the time
abbrev pub no_stamps : Stamps
no_stamps = record { places = []; terms = []; formats = [] }

-- each default is NULL, and nothing is checked
pub record IsPlainTable (t : Table) : Type 0 where
  pub columns : All (λ c. c.default ≡ Null) t.columns
  pub checks : t.checks ≡ []
  pub stamps : t.stamps ≡ no_stamps
