-- What the statements mean under the schema.
use Rattle.std.proofs.Common.{◌≡◌, refl, ◌∷◌, [], List, codes, false}
use Rattle.sqlite_tied.specs.Compute.{everything}
use Rattle.sqlite.specs.declared.types.Value.TheVariants.{Null}
use Rattle.sqlite.specs.Command.TheVariants.{Insert, Select, Update, Delete}
use Rattle.sqlite.specs.Source.TheVariants.{Values}
use Rattle.sqlite.specs.Term.{Term, lit, col}
use Rattle.sqlite.specs.Listing.{understood, reads_listing}
use Rattle.sqlite.proofs.Callers.{command_of, IsPlain}
use Rattle.sqlite.specs.Collation.TheVariants.{Binary}
use Rattle.sqlite_sql.specs.Term.{op2}
use Rattle.sqlite_sql.specs.declared.ops.BinaryOp.TheVariants.{Compare}
use Rattle.sqlite_sql.specs.declared.ops.CompareOp.TheVariants.{Eq}
use Rattle.tables.specs.declared.texts.TheConstants.{INSERT_TEXT, SELECT_TEXT, UPDATE_TEXT, DELETE_TEXTS}
use Rattle.tables.specs.Others.{Others, with_others}
use Rattle.tables.proofs.SelectLemmas.{rows_query}
use Rattle.tables.proofs.UpdateLemmas.{edit_query}

abbrev pub insert_text_terms : List Term
insert_text_terms = lit Null ∷ col 0 0 ∷ col 0 1 ∷ []

pub insert_text_is : (o : Others) → command_of (understood (with_others o) INSERT_TEXT.now) ≡ Insert 9 (Values insert_text_terms 3)
unfolding understood everything
insert_text_is o = refl

pub insert_text_plain : (o : Others) → IsPlain (understood (with_others o) INSERT_TEXT.now)
unfolding understood everything
insert_text_plain o = (refl, refl)

abbrev pub text_columns : List Term
text_columns = col 1 0 ∷ col 1 1 ∷ col 1 2 ∷ []

abbrev pub path_is : List Term
path_is = op2 (Compare Eq Binary) (col 1 1) (col 0 0) ∷ []

pub select_text_is : (o : Others) → (command_of (understood (with_others o) SELECT_TEXT.now) ≡ Select (record { lets = []; body = rows_query 19 path_is text_columns }) (codes "rowid" ∷ codes "path" ∷ codes "body" ∷ [])) × (reads_listing (with_others o) SELECT_TEXT.now ≡ false)
unfolding understood everything
select_text_is o = (refl, refl)

pub select_text_plain : (o : Others) → IsPlain (understood (with_others o) SELECT_TEXT.now)
unfolding understood everything
select_text_plain o = (refl, refl)

abbrev pub update_text_columns : List Term
update_text_columns = col 1 0 ∷ col 1 0 ∷ col 1 1 ∷ col 0 1 ∷ []

pub update_text_is : (o : Others) → command_of (understood (with_others o) UPDATE_TEXT.now) ≡ Update 9 (record { lets = []; body = edit_query 19 path_is update_text_columns })
unfolding understood everything
update_text_is o = refl

pub update_text_plain : (o : Others) → IsPlain (understood (with_others o) UPDATE_TEXT.now)
unfolding understood everything
update_text_plain o = (refl, refl)

abbrev pub delete_texts_columns : List Term
delete_texts_columns = col 1 0 ∷ []

pub delete_texts_is : (o : Others) → command_of (understood (with_others o) DELETE_TEXTS.now) ≡ Delete 9 (record { lets = []; body = edit_query 19 [] delete_texts_columns })
unfolding understood everything
delete_texts_is o = refl

pub delete_texts_plain : (o : Others) → IsPlain (understood (with_others o) DELETE_TEXTS.now)
unfolding understood everything
delete_texts_plain o = (refl, refl)
