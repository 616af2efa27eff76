-- What the statements on uploads speak of.
use Rattle.std.specs.Prelude.{ℕ, Bool, ◌&&◌, List, Some, is_some, nat_eq, bytes_eq}
use Rattle.sums.specs.declared.print.Print.{Print}
use Rattle.sums.specs.Prints.{same_print}
use Rattle.tables.specs.Rows.{Tables, changed, without}
use Rattle.tables.specs.declared.rows.UploadRow.{UploadRow}

-- the upload is that of this name and print
abbrev pub is_upload : List ℕ → Print → UploadRow → Bool
is_upload name print x = bytes_eq x.name name && same_print x.print print

-- the name and the print, by which an upload is known
abbrev pub sign_in : UploadRow → List ℕ × Print
sign_in x = (x.name, x.print)

-- the upload has a place in the order of judging
abbrev pub is_judged : UploadRow → Bool
is_judged x = is_some x.place

-- the upload of this number gets a place and a verdict
abbrev pub with_verdict : ℕ → ℕ → ℕ → Tables → Tables
with_verdict id place verdict t = record t { uploads = changed (λ x. nat_eq x.0 id) (λ x. record x { place = Some place; verdict = Some verdict }) t.uploads }

-- the upload of this number is gone
abbrev pub without_upload : ℕ → Tables → Tables
without_upload id t = record t { uploads = without (λ x. nat_eq x.0 id) t.uploads }
