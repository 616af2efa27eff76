-- What the statements mean under the schema.
use Rattle.std.proofs.Common.{◌≡◌, refl, ◌∷◌, [], List, codes, false}
use Rattle.sqlite_tied.specs.Compute.{everything}
use Rattle.sqlite.specs.declared.types.Value.TheVariants.{Null}
use Rattle.sqlite.specs.Command.TheVariants.{Insert, Select, Delete}
use Rattle.sqlite.specs.Source.TheVariants.{Values}
use Rattle.sqlite.specs.Term.{Term, lit, col}
use Rattle.sqlite.specs.Listing.{understood, reads_listing}
use Rattle.sqlite.proofs.Callers.{command_of, IsPlain}
use Rattle.sqlite.specs.Collation.TheVariants.{Binary}
use Rattle.sqlite_sql.specs.Term.{op2}
use Rattle.sqlite_sql.specs.declared.ops.BinaryOp.TheVariants.{Compare}
use Rattle.sqlite_sql.specs.declared.ops.CompareOp.TheVariants.{Eq}
use Rattle.tables.specs.declared.items.TheConstants.{INSERT_ITEM, SELECT_ITEMS, SELECT_ITEM, DELETE_ITEM}
use Rattle.tables.specs.Others.{Others, with_others}
use Rattle.tables.proofs.SelectLemmas.{rows_query}
use Rattle.tables.proofs.UpdateLemmas.{edit_query}

abbrev pub item_columns : List Term
item_columns = col 1 0 ∷ col 1 0 ∷ col 1 2 ∷ col 1 3 ∷ col 1 4 ∷ col 1 5 ∷ col 1 6 ∷ col 1 7 ∷ col 1 8 ∷ col 1 9 ∷ []

abbrev pub item_is : List Term
item_is = op2 (Compare Eq Binary) (col 1 2) (col 0 0) ∷ op2 (Compare Eq Binary) (col 1 3) (col 0 1) ∷ op2 (Compare Eq Binary) (col 1 4) (col 0 2) ∷ op2 (Compare Eq Binary) (col 1 5) (col 0 3) ∷ []

abbrev pub item_id_is : List Term
item_id_is = op2 (Compare Eq Binary) (col 1 0) (col 0 0) ∷ []

abbrev pub delete_item_columns : List Term
delete_item_columns = col 1 0 ∷ []

abbrev pub insert_item_terms : List Term
insert_item_terms = lit Null ∷ lit Null ∷ col 0 0 ∷ col 0 1 ∷ col 0 2 ∷ col 0 3 ∷ col 0 4 ∷ col 0 5 ∷ col 0 6 ∷ col 0 7 ∷ []

pub insert_item_is : (o : Others) → command_of (understood (with_others o) INSERT_ITEM.now) ≡ Insert 6 (Values insert_item_terms 10)
unfolding understood everything
insert_item_is o = refl

pub insert_item_plain : (o : Others) → IsPlain (understood (with_others o) INSERT_ITEM.now)
unfolding understood everything
insert_item_plain o = (refl, refl)

pub select_items_is : (o : Others) → (command_of (understood (with_others o) SELECT_ITEMS.now) ≡ Select (record { lets = []; body = rows_query 13 [] item_columns }) (codes "id" ∷ codes "id" ∷ codes "suite" ∷ codes "kind" ∷ codes "package" ∷ codes "architecture" ∷ codes "version" ∷ codes "component" ∷ codes "source" ∷ codes "paragraph" ∷ [])) × (reads_listing (with_others o) SELECT_ITEMS.now ≡ false)
unfolding understood everything
select_items_is o = (refl, refl)

pub select_items_plain : (o : Others) → IsPlain (understood (with_others o) SELECT_ITEMS.now)
unfolding understood everything
select_items_plain o = (refl, refl)

pub select_item_is : (o : Others) → (command_of (understood (with_others o) SELECT_ITEM.now) ≡ Select (record { lets = []; body = rows_query 13 item_is item_columns }) (codes "id" ∷ codes "id" ∷ codes "suite" ∷ codes "kind" ∷ codes "package" ∷ codes "architecture" ∷ codes "version" ∷ codes "component" ∷ codes "source" ∷ codes "paragraph" ∷ [])) × (reads_listing (with_others o) SELECT_ITEM.now ≡ false)
unfolding understood everything
select_item_is o = (refl, refl)

pub select_item_plain : (o : Others) → IsPlain (understood (with_others o) SELECT_ITEM.now)
unfolding understood everything
select_item_plain o = (refl, refl)

pub delete_item_is : (o : Others) → command_of (understood (with_others o) DELETE_ITEM.now) ≡ Delete 6 (record { lets = []; body = edit_query 13 item_id_is delete_item_columns })
unfolding understood everything
delete_item_is o = refl

pub delete_item_plain : (o : Others) → IsPlain (understood (with_others o) DELETE_ITEM.now)
unfolding understood everything
delete_item_plain o = (refl, refl)
