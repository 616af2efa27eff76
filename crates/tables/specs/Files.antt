-- What the statements on files speak of.
use Rattle.std.specs.Prelude.{ℕ, Bool, List, bytes_eq}
use Rattle.tables.specs.Rows.{Tables, without}
use Rattle.tables.specs.declared.rows.File.{File}

-- the file has this path
abbrev pub is_file_at : List ℕ → File → Bool
is_file_at path x = bytes_eq x.path path

-- the file of this path is gone
abbrev pub without_file : List ℕ → Tables → Tables
without_file path t = record t { files = without (λ x. is_file_at path x.1) t.files }
