use Rattle.std.proofs.Common.{ℕ, nat_eq, not, ◌∙◌}
use Rattle.tables.specs.Uploads.{is_judged as has_place}
use Rattle.tables.specs.declared.rows.UploadRow.{UploadRow}
use Rattle.tables_audit.proofs.KeyedLemmas.{any_same}
use Rattle.tables_audit.proofs.uploads.wanted.is_owned_by_number.Goals as goal

pub returns : goal.returns
returns c =
    c.is_owned.ensures
    ∙ any_same (λ (x : ℕ × UploadRow). nat_eq x.0 c.args.upload) (λ (x : ℕ × UploadRow). not (has_place x.1)) c.about.result.now c.args.uploads.now.all.now c.about.ensures
