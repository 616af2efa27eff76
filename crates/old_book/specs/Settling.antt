-- From the rows that are shown to those of an archive of today.
use Rattle.std.specs.Prelude.{ℕ, nat_eq, Bool, ◌&&◌, List, [], ◌∷◌, map, filter, None}
use Rattle.std.specs.List.{list_any}
use Rattle.tables.specs.Rows.{first_number, Numbered, Tables, without}
use Rattle.tables.specs.Uploads.{is_judged as has_place}
use Rattle.tables.specs.declared.meta.TheConstants.{VERSION}
use Rattle.tables.specs.declared.rows.UploadRow.{UploadRow}

-- the upload as if it had not been judged
abbrev pub as_unjudged : UploadRow → UploadRow
as_unjudged u = record u { place = None; verdict = None }

abbrev pub unjudged_uploads : Numbered UploadRow → Numbered UploadRow
unjudged_uploads uploads = map (λ x. (x.0, as_unjudged x.1)) uploads

-- the rows as if no upload had been judged: each waits, and wants what it lists
abbrev pub unjudged : Tables → Tables
unjudged t = record t { uploads = unjudged_uploads t.uploads }

-- the number is that of a judged upload
unfoldable pub has_judged : Numbered UploadRow → ℕ → Bool
has_judged uploads id = list_any (λ x. nat_eq x.0 id && has_place x.1) uploads

-- the numbers of judged uploads
abbrev pub judged_ids : Numbered UploadRow → List ℕ
judged_ids uploads = map (λ x. x.0) (filter (λ x. has_place x.1) uploads)

-- the rows without what judged uploads want
abbrev pub settled : Tables → Tables
settled t = record t { wants = without (λ w. has_judged t.uploads w.1.upload) t.wants }

-- the one row of meta is that of this layout with this text
abbrev pub with_meta_row : List ℕ → Tables → Tables
with_meta_row text t = record t { meta = (first_number, record { version = VERSION; configuration = text }) ∷ [] }
