-- What the statements that copy a row under its number mean under the schema.
use Rattle.std.proofs.Common.{◌≡◌, refl, ◌∷◌, [], List}
use Rattle.sqlite_tied.specs.Compute.{everything}
use Rattle.sqlite.specs.declared.types.Value.TheVariants.{Null}
use Rattle.sqlite.specs.Command.TheVariants.{Insert}
use Rattle.sqlite.specs.Source.TheVariants.{Values}
use Rattle.sqlite.specs.Term.{Term, lit, col}
use Rattle.sqlite.specs.Listing.{understood}
use Rattle.sqlite.proofs.Callers.{command_of, IsPlain}
use Rattle.tables.specs.Others.{Others, with_others}
use Rattle.old_book.specs.declared.bodies.TheConstants.{COPY_BODY, COPY_BEGUN}
use Rattle.old_book.specs.declared.uploads.TheConstants.{COPY_UPLOAD}
use Rattle.old_book.specs.declared.items.TheConstants.{COPY_ITEM}

-- ---- bodies

abbrev pub copy_body_terms : List Term
copy_body_terms = col 0 0 ∷ lit Null ∷ col 0 1 ∷ col 0 2 ∷ col 0 3 ∷ col 0 4 ∷ []

pub copy_body_is : (o : Others) → command_of (understood (with_others o) COPY_BODY.now) ≡ Insert 1 (Values copy_body_terms 6)
unfolding understood everything
copy_body_is o = refl

pub copy_body_plain : (o : Others) → IsPlain (understood (with_others o) COPY_BODY.now)
unfolding understood everything
copy_body_plain o = (refl, refl)

abbrev pub copy_begun_terms : List Term
copy_begun_terms = col 0 0 ∷ lit Null ∷ lit Null ∷ lit Null ∷ lit Null ∷ lit Null ∷ []

pub copy_begun_is : (o : Others) → command_of (understood (with_others o) COPY_BEGUN.now) ≡ Insert 1 (Values copy_begun_terms 6)
unfolding understood everything
copy_begun_is o = refl

pub copy_begun_plain : (o : Others) → IsPlain (understood (with_others o) COPY_BEGUN.now)
unfolding understood everything
copy_begun_plain o = (refl, refl)

-- ---- uploads

abbrev pub copy_upload_terms : List Term
copy_upload_terms = col 0 0 ∷ lit Null ∷ col 0 1 ∷ col 0 2 ∷ col 0 3 ∷ col 0 4 ∷ col 0 5 ∷ col 0 6 ∷ col 0 7 ∷ []

pub copy_upload_is : (o : Others) → command_of (understood (with_others o) COPY_UPLOAD.now) ≡ Insert 4 (Values copy_upload_terms 9)
unfolding understood everything
copy_upload_is o = refl

pub copy_upload_plain : (o : Others) → IsPlain (understood (with_others o) COPY_UPLOAD.now)
unfolding understood everything
copy_upload_plain o = (refl, refl)

-- ---- items

abbrev pub copy_item_terms : List Term
copy_item_terms = col 0 0 ∷ lit Null ∷ col 0 1 ∷ col 0 2 ∷ col 0 3 ∷ col 0 4 ∷ col 0 5 ∷ col 0 6 ∷ col 0 7 ∷ col 0 8 ∷ []

pub copy_item_is : (o : Others) → command_of (understood (with_others o) COPY_ITEM.now) ≡ Insert 6 (Values copy_item_terms 10)
unfolding understood everything
copy_item_is o = refl

pub copy_item_plain : (o : Others) → IsPlain (understood (with_others o) COPY_ITEM.now)
unfolding understood everything
copy_item_plain o = (refl, refl)
