-- What the statements on bodies speak of.
use Rattle.std.specs.Prelude.{ℕ, Bool, false, Option, Some, option_map, find, nat_eq}
use Rattle.std.specs.List.{list_any}
use Rattle.std.specs.Option.{option_map_or}
use Rattle.sums.specs.declared.print.Print.{Print}
use Rattle.sums.specs.Prints.{same_print}
use Rattle.tables.specs.Rows.{Numbered, Tables, changed, without}
use Rattle.tables.specs.declared.rows.BodyRow.{BodyRow}

abbrev pub has_print : Print → BodyRow → Bool
has_print p x = option_map_or (λ q. same_print q p) x.print false

-- there is a body of this number
abbrev pub is_body_there : Tables → ℕ → Bool
is_body_there t id = list_any (λ x. nat_eq x.0 id) t.bodies

-- the number of the body with this print
abbrev pub body_with : Print → Numbered BodyRow → Option ℕ
body_with p bodies = option_map (λ x. x.0) (find (λ x. has_print p x.1) bodies)

-- the body of this number is gone
abbrev pub without_body : ℕ → Tables → Tables
without_body id t = record t { bodies = without (λ x. nat_eq x.0 id) t.bodies }

-- the body of this number has this print
abbrev pub with_print : ℕ → Print → Tables → Tables
with_print id p t = record t { bodies = changed (λ x. nat_eq x.0 id) (λ b. record b { print = Some p }) t.bodies }
