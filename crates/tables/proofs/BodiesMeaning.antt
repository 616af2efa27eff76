-- What the statements mean under the schema.
use Rattle.std.proofs.Common.{◌≡◌, refl, ◌∷◌, [], List, codes, false}
use Rattle.sqlite_tied.specs.Compute.{everything}
use Rattle.sqlite.specs.declared.types.Value.TheVariants.{Null}
use Rattle.sqlite.specs.Command.TheVariants.{Insert, Select, Update, Delete}
use Rattle.sqlite.specs.Source.TheVariants.{Values}
use Rattle.sqlite.specs.Term.{Term, lit, col}
use Rattle.sqlite.specs.Listing.{understood, reads_listing}
use Rattle.sqlite.proofs.Callers.{command_of, IsPlain}
use Rattle.sqlite.specs.Collation.TheVariants.{Binary}
use Rattle.sqlite_sql.specs.Term.{op2}
use Rattle.sqlite_sql.specs.declared.ops.BinaryOp.TheVariants.{Compare}
use Rattle.sqlite_sql.specs.declared.ops.CompareOp.TheVariants.{Eq}
use Rattle.tables.specs.declared.bodies.TheConstants.{INSERT_BODY, INSERT_BEGUN, UPDATE_PRINT, SELECT_BODY, SELECT_NUMBERED, SELECT_NUMBERS, DELETE_BODY}
use Rattle.tables.specs.Others.{Others, with_others}
use Rattle.tables.proofs.SelectLemmas.{rows_query}
use Rattle.tables.proofs.UpdateLemmas.{edit_query}

abbrev pub insert_body_terms : List Term
insert_body_terms = lit Null ∷ lit Null ∷ col 0 0 ∷ col 0 1 ∷ col 0 2 ∷ col 0 3 ∷ []

pub insert_body_is : (o : Others) → command_of (understood (with_others o) INSERT_BODY.now) ≡ Insert 1 (Values insert_body_terms 6)
unfolding understood everything
insert_body_is o = refl

pub insert_body_plain : (o : Others) → IsPlain (understood (with_others o) INSERT_BODY.now)
unfolding understood everything
insert_body_plain o = (refl, refl)

abbrev pub print_terms : List Term
print_terms =
    op2 (Compare Eq Binary) (col 1 2) (col 0 0) ∷ op2 (Compare Eq Binary) (col 1 3) (col 0 1) ∷ op2 (Compare Eq Binary) (col 1 4) (col 0 2)
    ∷ op2 (Compare Eq Binary) (col 1 5) (col 0 3) ∷ []

pub select_body_is : (o : Others) → (command_of (understood (with_others o) SELECT_BODY.now) ≡ Select (record { lets = []; body = rows_query 1 print_terms (col 1 0 ∷ []) }) (codes "id" ∷ [])) × (reads_listing (with_others o) SELECT_BODY.now ≡ false)
unfolding understood everything
select_body_is o = (refl, refl)

pub select_body_plain : (o : Others) → IsPlain (understood (with_others o) SELECT_BODY.now)
unfolding understood everything
select_body_plain o = (refl, refl)

abbrev pub body_id_is : List Term
body_id_is = op2 (Compare Eq Binary) (col 1 0) (col 0 0) ∷ []

abbrev pub body_columns : List Term
body_columns = col 1 0 ∷ col 1 0 ∷ col 1 2 ∷ col 1 3 ∷ col 1 4 ∷ col 1 5 ∷ []

pub select_numbered_is : (o : Others) → (command_of (understood (with_others o) SELECT_NUMBERED.now) ≡ Select (record { lets = []; body = rows_query 1 body_id_is body_columns }) (codes "id" ∷ codes "id" ∷ codes "size" ∷ codes "md5" ∷ codes "sha1" ∷ codes "sha256" ∷ [])) × (reads_listing (with_others o) SELECT_NUMBERED.now ≡ false)
unfolding understood everything
select_numbered_is o = (refl, refl)

pub select_numbered_plain : (o : Others) → IsPlain (understood (with_others o) SELECT_NUMBERED.now)
unfolding understood everything
select_numbered_plain o = (refl, refl)

pub select_numbers_is : (o : Others) → (command_of (understood (with_others o) SELECT_NUMBERS.now) ≡ Select (record { lets = []; body = rows_query 1 [] (col 1 0 ∷ []) }) (codes "id" ∷ [])) × (reads_listing (with_others o) SELECT_NUMBERS.now ≡ false)
unfolding understood everything
select_numbers_is o = (refl, refl)

pub select_numbers_plain : (o : Others) → IsPlain (understood (with_others o) SELECT_NUMBERS.now)
unfolding understood everything
select_numbers_plain o = (refl, refl)

abbrev pub delete_body_columns : List Term
delete_body_columns = col 1 0 ∷ []

pub delete_body_is : (o : Others) → command_of (understood (with_others o) DELETE_BODY.now) ≡ Delete 1 (record { lets = []; body = edit_query 1 body_id_is delete_body_columns })
unfolding understood everything
delete_body_is o = refl

pub delete_body_plain : (o : Others) → IsPlain (understood (with_others o) DELETE_BODY.now)
unfolding understood everything
delete_body_plain o = (refl, refl)

abbrev pub insert_begun_terms : List Term
insert_begun_terms = lit Null ∷ lit Null ∷ lit Null ∷ lit Null ∷ lit Null ∷ lit Null ∷ []

pub insert_begun_is : (o : Others) → command_of (understood (with_others o) INSERT_BEGUN.now) ≡ Insert 1 (Values insert_begun_terms 6)
unfolding understood everything
insert_begun_is o = refl

pub insert_begun_plain : (o : Others) → IsPlain (understood (with_others o) INSERT_BEGUN.now)
unfolding understood everything
insert_begun_plain o = (refl, refl)

abbrev pub update_print_columns : List Term
update_print_columns = col 1 0 ∷ col 1 0 ∷ lit Null ∷ col 0 1 ∷ col 0 2 ∷ col 0 3 ∷ col 0 4 ∷ []

pub update_print_is : (o : Others) → command_of (understood (with_others o) UPDATE_PRINT.now) ≡ Update 1 (record { lets = []; body = edit_query 1 body_id_is update_print_columns })
unfolding understood everything
update_print_is o = refl

pub update_print_plain : (o : Others) → IsPlain (understood (with_others o) UPDATE_PRINT.now)
unfolding understood everything
update_print_plain o = (refl, refl)
