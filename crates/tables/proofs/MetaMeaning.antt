-- What the statements on the one row of `meta` mean under the schema.
use Rattle.std.proofs.Common.{◌≡◌, refl, ◌∷◌, [], List}
use Rattle.sqlite_tied.specs.Compute.{everything}
use Rattle.sqlite.specs.declared.types.Value.TheVariants.{Null}
use Rattle.sqlite.specs.Command.TheVariants.{Insert, Update}
use Rattle.sqlite.specs.Source.TheVariants.{Values}
use Rattle.sqlite.specs.Term.{Term, lit, col}
use Rattle.sqlite.specs.Listing.{understood}
use Rattle.sqlite.proofs.Callers.{command_of, IsPlain}
use Rattle.tables.specs.declared.meta.TheConstants.{INSERT_META, UPDATE_META}
use Rattle.tables.specs.Others.{Others, with_others}
use Rattle.tables.proofs.UpdateLemmas.{edit_query}

abbrev pub insert_meta_terms : List Term
insert_meta_terms = lit Null ∷ col 0 0 ∷ col 0 1 ∷ []

pub insert_meta_is : (o : Others) → command_of (understood (with_others o) INSERT_META.now) ≡ Insert 0 (Values insert_meta_terms 3)
unfolding understood everything
insert_meta_is o = refl

pub insert_meta_plain : (o : Others) → IsPlain (understood (with_others o) INSERT_META.now)
unfolding understood everything
insert_meta_plain o = (refl, refl)

abbrev pub update_meta_columns : List Term
update_meta_columns = col 1 0 ∷ col 1 0 ∷ col 1 1 ∷ col 0 0 ∷ []

pub update_meta_is : (o : Others) → command_of (understood (with_others o) UPDATE_META.now) ≡ Update 0 (record { lets = []; body = edit_query 0 [] update_meta_columns })
unfolding understood everything
update_meta_is o = refl

pub update_meta_plain : (o : Others) → IsPlain (understood (with_others o) UPDATE_META.now)
unfolding understood everything
update_meta_plain o = (refl, refl)
