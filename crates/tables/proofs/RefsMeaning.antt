-- What the statements mean under the schema.
use Rattle.std.proofs.Common.{◌≡◌, refl, ◌∷◌, [], List, codes, false}
use Rattle.sqlite_tied.specs.Compute.{everything}
use Rattle.sqlite.specs.declared.types.Value.TheVariants.{Null}
use Rattle.sqlite.specs.Command.TheVariants.{Insert, Select, Delete}
use Rattle.sqlite.specs.Source.TheVariants.{Values}
use Rattle.sqlite.specs.Term.{Term, lit, col}
use Rattle.sqlite.specs.Listing.{understood, reads_listing}
use Rattle.sqlite.proofs.Callers.{command_of, IsPlain}
use Rattle.sqlite.specs.Collation.TheVariants.{Binary}
use Rattle.sqlite_sql.specs.Term.{op2}
use Rattle.sqlite_sql.specs.declared.ops.BinaryOp.TheVariants.{Compare}
use Rattle.sqlite_sql.specs.declared.ops.CompareOp.TheVariants.{Eq}
use Rattle.tables.specs.declared.refs.TheConstants.{INSERT_REF, SELECT_REFS_OF, DELETE_REFS}
use Rattle.tables.specs.Others.{Others, with_others}
use Rattle.tables.proofs.SelectLemmas.{rows_query}
use Rattle.tables.proofs.UpdateLemmas.{edit_query}

abbrev pub ref_columns : List Term
ref_columns = col 1 0 ∷ col 1 1 ∷ col 1 2 ∷ col 1 3 ∷ col 1 4 ∷ col 1 5 ∷ col 1 6 ∷ col 1 7 ∷ []

abbrev pub ref_item_is : List Term
ref_item_is = op2 (Compare Eq Binary) (col 1 1) (col 0 0) ∷ []

abbrev pub delete_refs_columns : List Term
delete_refs_columns = col 1 0 ∷ []

abbrev pub insert_ref_terms : List Term
insert_ref_terms = lit Null ∷ col 0 0 ∷ col 0 1 ∷ col 0 2 ∷ col 0 3 ∷ col 0 4 ∷ col 0 5 ∷ col 0 6 ∷ []

pub insert_ref_is : (o : Others) → command_of (understood (with_others o) INSERT_REF.now) ≡ Insert 7 (Values insert_ref_terms 8)
unfolding understood everything
insert_ref_is o = refl

pub insert_ref_plain : (o : Others) → IsPlain (understood (with_others o) INSERT_REF.now)
unfolding understood everything
insert_ref_plain o = (refl, refl)

pub select_refs_of_is : (o : Others) → (command_of (understood (with_others o) SELECT_REFS_OF.now) ≡ Select (record { lets = []; body = rows_query 15 ref_item_is ref_columns }) (codes "rowid" ∷ codes "item" ∷ codes "number" ∷ codes "path" ∷ codes "size" ∷ codes "md5" ∷ codes "sha1" ∷ codes "sha256" ∷ [])) × (reads_listing (with_others o) SELECT_REFS_OF.now ≡ false)
unfolding understood everything
select_refs_of_is o = (refl, refl)

pub select_refs_of_plain : (o : Others) → IsPlain (understood (with_others o) SELECT_REFS_OF.now)
unfolding understood everything
select_refs_of_plain o = (refl, refl)

pub delete_refs_is : (o : Others) → command_of (understood (with_others o) DELETE_REFS.now) ≡ Delete 7 (record { lets = []; body = edit_query 15 ref_item_is delete_refs_columns })
unfolding understood everything
delete_refs_is o = refl

pub delete_refs_plain : (o : Others) → IsPlain (understood (with_others o) DELETE_REFS.now)
unfolding understood everything
delete_refs_plain o = (refl, refl)
