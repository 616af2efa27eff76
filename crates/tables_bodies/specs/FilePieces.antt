-- One piece of a file, as its rows say.
use Rattle.std.specs.Prelude.{ℕ, ◌+◌, List, [], find, Option, option_map, unwrap_or}
use Rattle.std.specs.Option.{option_and_then}
use Rattle.sums.specs.declared.print.Print.{Print}
use Rattle.book.specs.Pieces.{PieceValue}
use Rattle.tables.specs.Files.{is_file_at}
use Rattle.tables.specs.Rows.{Tables, rows_of}
use Rattle.tables_meaning.specs.Coming.{bytes_at}
use Rattle.tables_meaning.specs.Kept.{print_at}

-- the piece of a body of this print at a place, from 0
abbrev pub piece_with : Tables → ℕ → ℕ → Print → PieceValue
piece_with t number id print = record { size = print.size; bytes = unwrap_or (bytes_at t id (number + 1)) [] }

-- the piece of a body at a place, from 0, if the body has a print
abbrev pub stored_piece : Tables → ℕ → ℕ → Option PieceValue
stored_piece t number id = option_map (piece_with t number id) (print_at t id)

-- the piece of the file at a path at a place, from 0
unfoldable pub piece_in : Tables → List ℕ → ℕ → Option PieceValue
piece_in t path number = option_and_then (λ f. stored_piece t number f.body) (find (is_file_at path) (rows_of t.files))
