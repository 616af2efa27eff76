-- Each CREATE text defines its table.
use Rattle.std.proofs.Common.{◌≡◌, Ok, refl}
use Rattle.sqlite.specs.Compile.{table_defined_by}
use Rattle.sqlite_tied.specs.Compute.{everything}
use Rattle.tables.specs.declared.schema.TheConstants.{CREATE_META, CREATE_BODIES, CREATE_PIECES, CREATE_ARRIVALS, CREATE_UPLOADS, CREATE_WANTS, CREATE_ITEMS, CREATE_REFS, CREATE_FILES, CREATE_TEXTS, CREATE_DATES}
use Rattle.tables.specs.Schema.{meta, bodies, pieces, arrivals, uploads, wants, items, refs, files, texts, dates}

pub meta_is : table_defined_by CREATE_META.now ≡ Ok meta
unfolding everything
meta_is = refl

pub bodies_is : table_defined_by CREATE_BODIES.now ≡ Ok bodies
unfolding everything
bodies_is = refl

pub pieces_is : table_defined_by CREATE_PIECES.now ≡ Ok pieces
unfolding everything
pieces_is = refl

pub arrivals_is : table_defined_by CREATE_ARRIVALS.now ≡ Ok arrivals
unfolding everything
arrivals_is = refl

pub uploads_is : table_defined_by CREATE_UPLOADS.now ≡ Ok uploads
unfolding everything
uploads_is = refl

pub wants_is : table_defined_by CREATE_WANTS.now ≡ Ok wants
unfolding everything
wants_is = refl

pub items_is : table_defined_by CREATE_ITEMS.now ≡ Ok items
unfolding everything
items_is = refl

pub refs_is : table_defined_by CREATE_REFS.now ≡ Ok refs
unfolding everything
refs_is = refl

pub files_is : table_defined_by CREATE_FILES.now ≡ Ok files
unfolding everything
files_is = refl

pub texts_is : table_defined_by CREATE_TEXTS.now ≡ Ok texts
unfolding everything
texts_is = refl

pub dates_is : table_defined_by CREATE_DATES.now ≡ Ok dates
unfolding everything
dates_is = refl
