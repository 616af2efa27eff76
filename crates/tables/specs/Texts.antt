-- What the statements on texts speak of.
use Rattle.std.specs.Prelude.{ℕ, Bool, List, [], bytes_eq}
use Rattle.tables.specs.Rows.{Tables, changed}
use Rattle.tables.specs.declared.rows.TextRow.{TextRow}

abbrev pub has_path : List ℕ → TextRow → Bool
has_path path x = bytes_eq x.path path

-- the text of a path becomes another
abbrev pub with_new_text : List ℕ → List ℕ → Tables → Tables
with_new_text path body t = record t { texts = changed (λ x. has_path path x.1) (λ x. record x { body = body }) t.texts }

-- no text is left
abbrev pub without_texts : Tables → Tables
without_texts t = record t { texts = [] }
