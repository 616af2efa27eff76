-- How connections ended.
use Rattle.std.specs.Prelude.{ℕ, List, Option, Some, None, Result, Ok, slice_get}
use Rattle.std.specs.Option.{option_and_then}
use Rattle.desk.specs.declared.connection.Connection.{Connection}
use Rattle.desk.specs.declared.exchange.DeskFault.{DeskFault}
use Rattle.desk.specs.declared.exchange.Served.{Served}
use Rattle.desk.specs.declared.exchange.Served.TheVariants.{Nothing}

-- how a connection ended, or `Nothing` if it has not ended
abbrev pub end_of : Option (Result Served DeskFault) → Result Served DeskFault
end_of (Some end) = end
end_of None = Ok Nothing

-- how the first of the connections ended, or `Nothing` if there is none
abbrev pub first_end : {R W : Type 0} → List (Connection R W) → Result Served DeskFault
first_end connections = end_of (option_and_then (λ one. one.end) (slice_get connections 0))
