-- What the CREATE texts mean, each under the schema of the tables before it.
use Rattle.std.proofs.Common.{refl}
use Rattle.sqlite_tied.specs.Compute.{everything}
use Rattle.sqlite.specs.Listing.{understood}
use Rattle.tables.specs.Schema.{meta, bodies, pieces, arrivals, uploads, wants, items, refs, files, texts, dates}
use Rattle.tables.specs.Creating.{schema_up_to}
use Rattle.tables.specs.declared.schema.TheConstants.{CREATE_META, CREATE_BODIES, CREATE_PIECES, CREATE_ARRIVALS, CREATE_UPLOADS, CREATE_WANTS, CREATE_ITEMS, CREATE_REFS, CREATE_FILES, CREATE_TEXTS, CREATE_DATES}
use Rattle.tables.proofs.CreateLemmas.{Makes}
use Rattle.tables.proofs.SchemaLemmas.{meta_is, bodies_is, pieces_is, arrivals_is, uploads_is, wants_is, items_is, refs_is, files_is, texts_is, dates_is}

pub meta_made : Makes (schema_up_to 0) CREATE_META.now meta
unfolding understood everything
meta_made = record { is = refl; plain = (refl, refl); text = refl; defined = meta_is; uncounted = refl }

pub bodies_made : Makes (schema_up_to 1) CREATE_BODIES.now bodies
unfolding understood everything
bodies_made = record { is = refl; plain = (refl, refl); text = refl; defined = bodies_is; uncounted = refl }

pub pieces_made : Makes (schema_up_to 2) CREATE_PIECES.now pieces
unfolding understood everything
pieces_made = record { is = refl; plain = (refl, refl); text = refl; defined = pieces_is; uncounted = refl }

pub arrivals_made : Makes (schema_up_to 3) CREATE_ARRIVALS.now arrivals
unfolding understood everything
arrivals_made = record { is = refl; plain = (refl, refl); text = refl; defined = arrivals_is; uncounted = refl }

pub uploads_made : Makes (schema_up_to 4) CREATE_UPLOADS.now uploads
unfolding understood everything
uploads_made = record { is = refl; plain = (refl, refl); text = refl; defined = uploads_is; uncounted = refl }

pub wants_made : Makes (schema_up_to 5) CREATE_WANTS.now wants
unfolding understood everything
wants_made = record { is = refl; plain = (refl, refl); text = refl; defined = wants_is; uncounted = refl }

pub items_made : Makes (schema_up_to 6) CREATE_ITEMS.now items
unfolding understood everything
items_made = record { is = refl; plain = (refl, refl); text = refl; defined = items_is; uncounted = refl }

pub refs_made : Makes (schema_up_to 7) CREATE_REFS.now refs
unfolding understood everything
refs_made = record { is = refl; plain = (refl, refl); text = refl; defined = refs_is; uncounted = refl }

pub files_made : Makes (schema_up_to 8) CREATE_FILES.now files
unfolding understood everything
files_made = record { is = refl; plain = (refl, refl); text = refl; defined = files_is; uncounted = refl }

pub texts_made : Makes (schema_up_to 9) CREATE_TEXTS.now texts
unfolding understood everything
texts_made = record { is = refl; plain = (refl, refl); text = refl; defined = texts_is; uncounted = refl }

pub dates_made : Makes (schema_up_to 10) CREATE_DATES.now dates
unfolding understood everything
dates_made = record { is = refl; plain = (refl, refl); text = refl; defined = dates_is; uncounted = refl }
