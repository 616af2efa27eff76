-- What the statements mean under the schema.
use Rattle.std.proofs.Common.{◌≡◌, refl, ◌∷◌, [], List, codes, false}
use Rattle.sqlite_tied.specs.Compute.{everything}
use Rattle.sqlite.specs.declared.types.Value.TheVariants.{Null}
use Rattle.sqlite.specs.Command.TheVariants.{Insert, Select, Update, Delete}
use Rattle.sqlite.specs.Source.TheVariants.{Values}
use Rattle.sqlite.specs.Term.{Term, lit, col}
use Rattle.sqlite.specs.Listing.{understood, reads_listing}
use Rattle.sqlite.proofs.Callers.{command_of, IsPlain}
use Rattle.sqlite.specs.Collation.TheVariants.{Binary}
use Rattle.sqlite_sql.specs.Term.{op2}
use Rattle.sqlite_sql.specs.declared.ops.BinaryOp.TheVariants.{Compare}
use Rattle.sqlite_sql.specs.declared.ops.CompareOp.TheVariants.{Eq}
use Rattle.tables.specs.declared.arrivals.TheConstants.{INSERT_ARRIVAL, SELECT_ARRIVAL, SELECT_ARRIVALS, SELECT_BODIES, UPDATE_MOMENT, DELETE_ARRIVAL}
use Rattle.tables.specs.Others.{Others, with_others}
use Rattle.tables.proofs.SelectLemmas.{rows_query}
use Rattle.tables.proofs.UpdateLemmas.{edit_query}

abbrev pub arrival_columns : List Term
arrival_columns = col 1 0 ∷ col 1 0 ∷ col 1 2 ∷ col 1 3 ∷ col 1 4 ∷ []

abbrev pub arrival_is : List Term
arrival_is = op2 (Compare Eq Binary) (col 1 2) (col 0 0) ∷ op2 (Compare Eq Binary) (col 1 3) (col 0 1) ∷ []

abbrev pub arrival_id_is : List Term
arrival_id_is = op2 (Compare Eq Binary) (col 1 0) (col 0 0) ∷ []

abbrev pub delete_arrival_columns : List Term
delete_arrival_columns = col 1 0 ∷ []

abbrev pub update_moment_columns : List Term
update_moment_columns = col 1 0 ∷ col 1 0 ∷ lit Null ∷ col 1 2 ∷ col 1 3 ∷ col 0 1 ∷ []

abbrev pub insert_arrival_terms : List Term
insert_arrival_terms = lit Null ∷ lit Null ∷ col 0 0 ∷ col 0 1 ∷ col 0 2 ∷ []

pub insert_arrival_is : (o : Others) → command_of (understood (with_others o) INSERT_ARRIVAL.now) ≡ Insert 3 (Values insert_arrival_terms 5)
unfolding understood everything
insert_arrival_is o = refl

pub insert_arrival_plain : (o : Others) → IsPlain (understood (with_others o) INSERT_ARRIVAL.now)
unfolding understood everything
insert_arrival_plain o = (refl, refl)

pub select_arrival_is : (o : Others) → (command_of (understood (with_others o) SELECT_ARRIVAL.now) ≡ Select (record { lets = []; body = rows_query 5 arrival_is arrival_columns }) (codes "id" ∷ codes "id" ∷ codes "name" ∷ codes "body" ∷ codes "moment" ∷ [])) × (reads_listing (with_others o) SELECT_ARRIVAL.now ≡ false)
unfolding understood everything
select_arrival_is o = (refl, refl)

pub select_arrival_plain : (o : Others) → IsPlain (understood (with_others o) SELECT_ARRIVAL.now)
unfolding understood everything
select_arrival_plain o = (refl, refl)

pub select_arrivals_is : (o : Others) → (command_of (understood (with_others o) SELECT_ARRIVALS.now) ≡ Select (record { lets = []; body = rows_query 5 [] arrival_columns }) (codes "id" ∷ codes "id" ∷ codes "name" ∷ codes "body" ∷ codes "moment" ∷ [])) × (reads_listing (with_others o) SELECT_ARRIVALS.now ≡ false)
unfolding understood everything
select_arrivals_is o = (refl, refl)

pub select_arrivals_plain : (o : Others) → IsPlain (understood (with_others o) SELECT_ARRIVALS.now)
unfolding understood everything
select_arrivals_plain o = (refl, refl)

pub select_bodies_is : (o : Others) → (command_of (understood (with_others o) SELECT_BODIES.now) ≡ Select (record { lets = []; body = rows_query 5 [] (col 1 3 ∷ []) }) (codes "body" ∷ [])) × (reads_listing (with_others o) SELECT_BODIES.now ≡ false)
unfolding understood everything
select_bodies_is o = (refl, refl)

pub select_bodies_plain : (o : Others) → IsPlain (understood (with_others o) SELECT_BODIES.now)
unfolding understood everything
select_bodies_plain o = (refl, refl)

pub update_moment_is : (o : Others) → command_of (understood (with_others o) UPDATE_MOMENT.now) ≡ Update 3 (record { lets = []; body = edit_query 5 arrival_id_is update_moment_columns })
unfolding understood everything
update_moment_is o = refl

pub update_moment_plain : (o : Others) → IsPlain (understood (with_others o) UPDATE_MOMENT.now)
unfolding understood everything
update_moment_plain o = (refl, refl)

pub delete_arrival_is : (o : Others) → command_of (understood (with_others o) DELETE_ARRIVAL.now) ≡ Delete 3 (record { lets = []; body = edit_query 5 arrival_id_is delete_arrival_columns })
unfolding understood everything
delete_arrival_is o = refl

pub delete_arrival_plain : (o : Others) → IsPlain (understood (with_others o) DELETE_ARRIVAL.now)
unfolding understood everything
delete_arrival_plain o = (refl, refl)
