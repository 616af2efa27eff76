-- What the statements mean under the schema.
use Rattle.std.proofs.Common.{◌≡◌, refl, ◌∷◌, [], List, pos, codes, false}
use Rattle.sqlite_tied.specs.Compute.{everything}
use Rattle.sqlite.specs.declared.types.Value.TheVariants.{Null, Int}
use Rattle.sqlite.specs.Command.TheVariants.{Insert, Select, Update, Delete}
use Rattle.sqlite.specs.Source.TheVariants.{Values}
use Rattle.sqlite.specs.Term.{Term, lit, col}
use Rattle.sqlite.specs.Listing.{understood, reads_listing}
use Rattle.sqlite.proofs.Callers.{command_of, IsPlain}
use Rattle.sqlite.specs.Collation.TheVariants.{Binary}
use Rattle.sqlite_sql.specs.Term.{op2}
use Rattle.sqlite_sql.specs.declared.ops.BinaryOp.TheVariants.{Compare}
use Rattle.sqlite_sql.specs.declared.ops.CompareOp.TheVariants.{Eq}
use Rattle.tables.specs.declared.wants.TheConstants.{INSERT_WANT, SELECT_WANTS_OF, UPDATE_HERE, UPDATE_AWAY, DELETE_WANTS}
use Rattle.tables.specs.Others.{Others, with_others}
use Rattle.tables.proofs.SelectLemmas.{rows_query}
use Rattle.tables.proofs.UpdateLemmas.{edit_query}

abbrev pub want_columns : List Term
want_columns = col 1 0 ∷ col 1 1 ∷ col 1 2 ∷ col 1 3 ∷ col 1 4 ∷ col 1 5 ∷ col 1 6 ∷ col 1 7 ∷ []

abbrev pub want_upload_is : List Term
want_upload_is = op2 (Compare Eq Binary) (col 1 1) (col 0 0) ∷ []

abbrev pub want_is : List Term
want_is = op2 (Compare Eq Binary) (col 1 2) (col 0 0) ∷ op2 (Compare Eq Binary) (col 1 3) (col 0 1) ∷ op2 (Compare Eq Binary) (col 1 4) (col 0 2) ∷ op2 (Compare Eq Binary) (col 1 5) (col 0 3) ∷ op2 (Compare Eq Binary) (col 1 6) (col 0 4) ∷ []

abbrev pub update_here_columns : List Term
update_here_columns = col 1 0 ∷ col 1 0 ∷ col 1 1 ∷ col 1 2 ∷ col 1 3 ∷ col 1 4 ∷ col 1 5 ∷ col 1 6 ∷ lit (Int (pos 1)) ∷ []

abbrev pub update_away_columns : List Term
update_away_columns = col 1 0 ∷ col 1 0 ∷ col 1 1 ∷ col 1 2 ∷ col 1 3 ∷ col 1 4 ∷ col 1 5 ∷ col 1 6 ∷ lit (Int (pos 0)) ∷ []

abbrev pub delete_wants_columns : List Term
delete_wants_columns = col 1 0 ∷ []

abbrev pub insert_want_terms : List Term
insert_want_terms = lit Null ∷ col 0 0 ∷ col 0 1 ∷ col 0 2 ∷ col 0 3 ∷ col 0 4 ∷ col 0 5 ∷ col 0 6 ∷ []

pub insert_want_is : (o : Others) → command_of (understood (with_others o) INSERT_WANT.now) ≡ Insert 5 (Values insert_want_terms 8)
unfolding understood everything
insert_want_is o = refl

pub insert_want_plain : (o : Others) → IsPlain (understood (with_others o) INSERT_WANT.now)
unfolding understood everything
insert_want_plain o = (refl, refl)

pub select_wants_of_is : (o : Others) → (command_of (understood (with_others o) SELECT_WANTS_OF.now) ≡ Select (record { lets = []; body = rows_query 10 want_upload_is want_columns }) (codes "rowid" ∷ codes "upload" ∷ codes "name" ∷ codes "size" ∷ codes "md5" ∷ codes "sha1" ∷ codes "sha256" ∷ codes "here" ∷ [])) × (reads_listing (with_others o) SELECT_WANTS_OF.now ≡ false)
unfolding understood everything
select_wants_of_is o = (refl, refl)

pub select_wants_of_plain : (o : Others) → IsPlain (understood (with_others o) SELECT_WANTS_OF.now)
unfolding understood everything
select_wants_of_plain o = (refl, refl)

pub update_here_is : (o : Others) → command_of (understood (with_others o) UPDATE_HERE.now) ≡ Update 5 (record { lets = []; body = edit_query 10 want_is update_here_columns })
unfolding understood everything
update_here_is o = refl

pub update_here_plain : (o : Others) → IsPlain (understood (with_others o) UPDATE_HERE.now)
unfolding understood everything
update_here_plain o = (refl, refl)

pub update_away_is : (o : Others) → command_of (understood (with_others o) UPDATE_AWAY.now) ≡ Update 5 (record { lets = []; body = edit_query 10 want_is update_away_columns })
unfolding understood everything
update_away_is o = refl

pub update_away_plain : (o : Others) → IsPlain (understood (with_others o) UPDATE_AWAY.now)
unfolding understood everything
update_away_plain o = (refl, refl)

pub delete_wants_is : (o : Others) → command_of (understood (with_others o) DELETE_WANTS.now) ≡ Delete 5 (record { lets = []; body = edit_query 10 want_upload_is delete_wants_columns })
unfolding understood everything
delete_wants_is o = refl

pub delete_wants_plain : (o : Others) → IsPlain (understood (with_others o) DELETE_WANTS.now)
unfolding understood everything
delete_wants_plain o = (refl, refl)
