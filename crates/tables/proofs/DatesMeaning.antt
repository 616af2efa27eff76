-- What the statements mean under the schema.
use Rattle.std.proofs.Common.{◌≡◌, refl, ◌∷◌, [], List}
use Rattle.sqlite_tied.specs.Compute.{everything}
use Rattle.sqlite.specs.declared.types.Value.TheVariants.{Null}
use Rattle.sqlite.specs.Command.TheVariants.{Insert, Update, Delete}
use Rattle.sqlite.specs.Source.TheVariants.{Values}
use Rattle.sqlite.specs.Term.{Term, lit, col}
use Rattle.sqlite.specs.Listing.{understood}
use Rattle.sqlite.proofs.Callers.{command_of, IsPlain}
use Rattle.sqlite.specs.Collation.TheVariants.{Binary}
use Rattle.sqlite_sql.specs.Term.{op2}
use Rattle.sqlite_sql.specs.declared.ops.BinaryOp.TheVariants.{Compare}
use Rattle.sqlite_sql.specs.declared.ops.CompareOp.TheVariants.{Eq}
use Rattle.tables.specs.declared.dates.TheConstants.{INSERT_DATE, UPDATE_DATE, DELETE_DATES}
use Rattle.tables.specs.Others.{Others, with_others}
use Rattle.tables.proofs.UpdateLemmas.{edit_query}

abbrev pub insert_date_terms : List Term
insert_date_terms = lit Null ∷ col 0 0 ∷ col 0 1 ∷ []

pub insert_date_is : (o : Others) → command_of (understood (with_others o) INSERT_DATE.now) ≡ Insert 10 (Values insert_date_terms 3)
unfolding understood everything
insert_date_is o = refl

pub insert_date_plain : (o : Others) → IsPlain (understood (with_others o) INSERT_DATE.now)
unfolding understood everything
insert_date_plain o = (refl, refl)

abbrev pub suite_is : List Term
suite_is = op2 (Compare Eq Binary) (col 1 1) (col 0 0) ∷ []

abbrev pub update_date_columns : List Term
update_date_columns = col 1 0 ∷ col 1 0 ∷ col 1 1 ∷ col 0 1 ∷ []

pub update_date_is : (o : Others) → command_of (understood (with_others o) UPDATE_DATE.now) ≡ Update 10 (record { lets = []; body = edit_query 21 suite_is update_date_columns })
unfolding understood everything
update_date_is o = refl

pub update_date_plain : (o : Others) → IsPlain (understood (with_others o) UPDATE_DATE.now)
unfolding understood everything
update_date_plain o = (refl, refl)

abbrev pub delete_dates_columns : List Term
delete_dates_columns = col 1 0 ∷ []

pub delete_dates_is : (o : Others) → command_of (understood (with_others o) DELETE_DATES.now) ≡ Delete 10 (record { lets = []; body = edit_query 21 [] delete_dates_columns })
unfolding understood everything
delete_dates_is o = refl

pub delete_dates_plain : (o : Others) → IsPlain (understood (with_others o) DELETE_DATES.now)
unfolding understood everything
delete_dates_plain o = (refl, refl)
