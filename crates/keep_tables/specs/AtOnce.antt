-- Which bodies arrive in one transaction.
use Rattle.std.specs.Prelude.{nat_le, Bool, ◌&&◌, ℕ, List, length, Option, is_none}
use Rattle.std.specs.Option.{option_and_then}
use Rattle.tables_bodies.specs.declared.coming.Begun.{Begun}

-- A body has at least one byte and no more than a piece may have, and what was begun, if anything was, has no row.
abbrev pub arrives_at_once : Option Begun → List ℕ → Bool
arrives_at_once begun body = nat_le 1 (length body) && (nat_le (length body) 65536 && is_none (option_and_then (λ (b : Begun). b.body) begun))
