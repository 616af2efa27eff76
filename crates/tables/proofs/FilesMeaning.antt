-- What the statements mean under the schema.
use Rattle.std.proofs.Common.{◌≡◌, refl, ◌∷◌, [], List, codes, false}
use Rattle.sqlite_tied.specs.Compute.{everything}
use Rattle.sqlite.specs.declared.types.Value.TheVariants.{Null}
use Rattle.sqlite.specs.Command.TheVariants.{Insert, Select, Delete}
use Rattle.sqlite.specs.Source.TheVariants.{Values}
use Rattle.sqlite.specs.Term.{Term, lit, col}
use Rattle.sqlite.specs.Listing.{understood, reads_listing}
use Rattle.sqlite.proofs.Callers.{command_of, IsPlain}
use Rattle.sqlite.specs.Collation.TheVariants.{Binary}
use Rattle.sqlite_sql.specs.Term.{op2}
use Rattle.sqlite_sql.specs.declared.ops.BinaryOp.TheVariants.{Compare}
use Rattle.sqlite_sql.specs.declared.ops.CompareOp.TheVariants.{Eq}
use Rattle.tables.specs.declared.files.TheConstants.{INSERT_FILE, SELECT_FILE, SELECT_BODIES, DELETE_FILE}
use Rattle.tables.specs.Others.{Others, with_others}
use Rattle.tables.proofs.SelectLemmas.{rows_query}
use Rattle.tables.proofs.UpdateLemmas.{edit_query}

abbrev pub file_columns : List Term
file_columns = col 1 0 ∷ col 1 1 ∷ col 1 2 ∷ []

abbrev pub file_path_is : List Term
file_path_is = op2 (Compare Eq Binary) (col 1 1) (col 0 0) ∷ []

abbrev pub delete_file_columns : List Term
delete_file_columns = col 1 0 ∷ []

abbrev pub insert_file_terms : List Term
insert_file_terms = lit Null ∷ col 0 0 ∷ col 0 1 ∷ []

pub insert_file_is : (o : Others) → command_of (understood (with_others o) INSERT_FILE.now) ≡ Insert 8 (Values insert_file_terms 3)
unfolding understood everything
insert_file_is o = refl

pub insert_file_plain : (o : Others) → IsPlain (understood (with_others o) INSERT_FILE.now)
unfolding understood everything
insert_file_plain o = (refl, refl)

pub select_file_is : (o : Others) → (command_of (understood (with_others o) SELECT_FILE.now) ≡ Select (record { lets = []; body = rows_query 17 file_path_is file_columns }) (codes "rowid" ∷ codes "path" ∷ codes "body" ∷ [])) × (reads_listing (with_others o) SELECT_FILE.now ≡ false)
unfolding understood everything
select_file_is o = (refl, refl)

pub select_file_plain : (o : Others) → IsPlain (understood (with_others o) SELECT_FILE.now)
unfolding understood everything
select_file_plain o = (refl, refl)

pub select_bodies_is : (o : Others) → (command_of (understood (with_others o) SELECT_BODIES.now) ≡ Select (record { lets = []; body = rows_query 17 [] (col 1 2 ∷ []) }) (codes "body" ∷ [])) × (reads_listing (with_others o) SELECT_BODIES.now ≡ false)
unfolding understood everything
select_bodies_is o = (refl, refl)

pub select_bodies_plain : (o : Others) → IsPlain (understood (with_others o) SELECT_BODIES.now)
unfolding understood everything
select_bodies_plain o = (refl, refl)

pub delete_file_is : (o : Others) → command_of (understood (with_others o) DELETE_FILE.now) ≡ Delete 8 (record { lets = []; body = edit_query 17 file_path_is delete_file_columns })
unfolding understood everything
delete_file_is o = refl

pub delete_file_plain : (o : Others) → IsPlain (understood (with_others o) DELETE_FILE.now)
unfolding understood everything
delete_file_plain o = (refl, refl)
