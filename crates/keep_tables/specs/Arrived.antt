-- What has arrived, as its rows say.
use Rattle.std.specs.Prelude.{ℕ, List, find, Option}
use Rattle.std.specs.List.{filter_map}
use Rattle.std.specs.Option.{option_and_then, option_map}
use Rattle.sums.specs.declared.print.Print.{Print}
use Rattle.book.specs.declared.arrived.ArrivedFile.{ArrivedFile}
use Rattle.tables.specs.Arrivals.{is_arrival}
use Rattle.tables.specs.Bodies.{body_with}
use Rattle.tables.specs.Rows.{Tables}
use Rattle.tables.specs.declared.rows.ArrivalRow.{ArrivalRow}
use Rattle.tables_meaning.specs.Kept.{bytes_of, print_at}

-- an arrival of this print without its bytes
abbrev pub file_with : ArrivalRow → Print → ArrivedFile
file_with a print = record { name = a.name; print = print; moment = a.moment }

-- the arrival of a row without its bytes, if its body has a print
abbrev pub file_in : Tables → ArrivalRow → Option ArrivedFile
file_in t a = option_map (file_with a) (print_at t a.body)

-- all arrivals without their bytes, in the order of their rows
unfoldable pub files_in : Tables → List ArrivedFile
files_in t = filter_map (λ x. file_in t x.1) t.arrivals

-- the bytes of a body that arrived under this name
abbrev pub bytes_under : List ℕ → Tables → ℕ → Option (List ℕ)
bytes_under name t body = option_map (λ x. bytes_of t x.1.body) (find (λ x. is_arrival name body x.1) t.arrivals)

-- the bytes of the body with this print, if it arrived under this name
unfoldable pub found_bytes : List ℕ → Print → Tables → Option (List ℕ)
found_bytes name print t = option_and_then (bytes_under name t) (body_with print t.bodies)
