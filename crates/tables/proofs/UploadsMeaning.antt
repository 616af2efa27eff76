-- What the statements mean under the schema.
use Rattle.std.proofs.Common.{◌≡◌, refl, ◌∷◌, [], List, codes, false}
use Rattle.sqlite_tied.specs.Compute.{everything}
use Rattle.sqlite.specs.declared.types.Value.TheVariants.{Null}
use Rattle.sqlite.specs.Command.TheVariants.{Insert, Select, Update, Delete}
use Rattle.sqlite.specs.Source.TheVariants.{Values}
use Rattle.sqlite.specs.Term.{Term, lit, col}
use Rattle.sqlite.specs.Listing.{understood, reads_listing}
use Rattle.sqlite.proofs.Callers.{command_of, IsPlain}
use Rattle.sqlite.specs.Collation.TheVariants.{Binary}
use Rattle.sqlite_sql.specs.Term.{op2}
use Rattle.sqlite_sql.specs.declared.ops.BinaryOp.TheVariants.{Compare}
use Rattle.sqlite_sql.specs.declared.ops.CompareOp.TheVariants.{Eq}
use Rattle.tables.specs.declared.uploads.TheConstants.{INSERT_UPLOAD, SELECT_UPLOAD, SELECT_NUMBERED, UPDATE_VERDICT, DELETE_UPLOAD}
use Rattle.tables.specs.Others.{Others, with_others}
use Rattle.tables.proofs.SelectLemmas.{rows_query}
use Rattle.tables.proofs.UpdateLemmas.{edit_query}

abbrev pub upload_columns : List Term
upload_columns = col 1 0 ∷ col 1 0 ∷ col 1 2 ∷ col 1 3 ∷ col 1 4 ∷ col 1 5 ∷ col 1 6 ∷ col 1 7 ∷ col 1 8 ∷ []

abbrev pub upload_is : List Term
upload_is = op2 (Compare Eq Binary) (col 1 2) (col 0 0) ∷ op2 (Compare Eq Binary) (col 1 3) (col 0 1) ∷ op2 (Compare Eq Binary) (col 1 4) (col 0 2) ∷ op2 (Compare Eq Binary) (col 1 5) (col 0 3) ∷ op2 (Compare Eq Binary) (col 1 6) (col 0 4) ∷ []

abbrev pub upload_id_is : List Term
upload_id_is = op2 (Compare Eq Binary) (col 1 0) (col 0 0) ∷ []

abbrev pub update_verdict_columns : List Term
update_verdict_columns = col 1 0 ∷ col 1 0 ∷ lit Null ∷ col 1 2 ∷ col 1 3 ∷ col 1 4 ∷ col 1 5 ∷ col 1 6 ∷ col 0 1 ∷ col 0 2 ∷ []

abbrev pub delete_upload_columns : List Term
delete_upload_columns = col 1 0 ∷ []

abbrev pub insert_upload_terms : List Term
insert_upload_terms = lit Null ∷ lit Null ∷ col 0 0 ∷ col 0 1 ∷ col 0 2 ∷ col 0 3 ∷ col 0 4 ∷ lit Null ∷ lit Null ∷ []

pub insert_upload_is : (o : Others) → command_of (understood (with_others o) INSERT_UPLOAD.now) ≡ Insert 4 (Values insert_upload_terms 9)
unfolding understood everything
insert_upload_is o = refl

pub insert_upload_plain : (o : Others) → IsPlain (understood (with_others o) INSERT_UPLOAD.now)
unfolding understood everything
insert_upload_plain o = (refl, refl)

pub select_upload_is : (o : Others) → (command_of (understood (with_others o) SELECT_UPLOAD.now) ≡ Select (record { lets = []; body = rows_query 7 upload_is upload_columns }) (codes "id" ∷ codes "id" ∷ codes "name" ∷ codes "size" ∷ codes "md5" ∷ codes "sha1" ∷ codes "sha256" ∷ codes "place" ∷ codes "verdict" ∷ [])) × (reads_listing (with_others o) SELECT_UPLOAD.now ≡ false)
unfolding understood everything
select_upload_is o = (refl, refl)

pub select_upload_plain : (o : Others) → IsPlain (understood (with_others o) SELECT_UPLOAD.now)
unfolding understood everything
select_upload_plain o = (refl, refl)

pub select_numbered_is : (o : Others) → (command_of (understood (with_others o) SELECT_NUMBERED.now) ≡ Select (record { lets = []; body = rows_query 7 upload_id_is upload_columns }) (codes "id" ∷ codes "id" ∷ codes "name" ∷ codes "size" ∷ codes "md5" ∷ codes "sha1" ∷ codes "sha256" ∷ codes "place" ∷ codes "verdict" ∷ [])) × (reads_listing (with_others o) SELECT_NUMBERED.now ≡ false)
unfolding understood everything
select_numbered_is o = (refl, refl)

pub select_numbered_plain : (o : Others) → IsPlain (understood (with_others o) SELECT_NUMBERED.now)
unfolding understood everything
select_numbered_plain o = (refl, refl)

pub update_verdict_is : (o : Others) → command_of (understood (with_others o) UPDATE_VERDICT.now) ≡ Update 4 (record { lets = []; body = edit_query 7 upload_id_is update_verdict_columns })
unfolding understood everything
update_verdict_is o = refl

pub update_verdict_plain : (o : Others) → IsPlain (understood (with_others o) UPDATE_VERDICT.now)
unfolding understood everything
update_verdict_plain o = (refl, refl)

pub delete_upload_is : (o : Others) → command_of (understood (with_others o) DELETE_UPLOAD.now) ≡ Delete 4 (record { lets = []; body = edit_query 7 upload_id_is delete_upload_columns })
unfolding understood everything
delete_upload_is o = refl

pub delete_upload_plain : (o : Others) → IsPlain (understood (with_others o) DELETE_UPLOAD.now)
unfolding understood everything
delete_upload_plain o = (refl, refl)
