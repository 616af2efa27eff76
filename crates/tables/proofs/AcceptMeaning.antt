-- What the CREATE texts make is refused by no schema of the tables before it.
use Rattle.std.proofs.Common.{refl, lit<, lit≤}
use Rattle.sqlite_trees.specs.Sound as sound
use Rattle.sqlite_value.specs.Order.{value_cmp}
use Rattle.sqlite_tied.specs.Compute.{everything}
use Rattle.sqlite.specs.Listing.{understood}
use Rattle.tables.specs.Schema.{meta, bodies, pieces, arrivals, uploads, wants, items, refs, files, texts, dates}
use Rattle.tables.specs.Creating.{schema_up_to}
use Rattle.tables.specs.declared.schema.TheConstants.{CREATE_META, CREATE_BODIES, CREATE_PIECES, CREATE_ARRIVALS, CREATE_UPLOADS, CREATE_WANTS, CREATE_ITEMS, CREATE_REFS, CREATE_FILES, CREATE_TEXTS, CREATE_DATES}
use Rattle.tables.proofs.RefusalLemmas.{IsAccepted}

pub meta_accepted : IsAccepted (schema_up_to 0) CREATE_META.now meta
unfolding understood everything sound.fits_kind sound.is_free_name sound.begins sound.same_name value_cmp lib.Ieee.is_nan lib.Ieee.lt
meta_accepted = record {
  alone = (lit≤ tt, refl);
  text = refl;
  name = refl;
  unreserved = refl;
  free = refl;
  keys_free = tt;
  trees = lit< tt;
  reals = lit< tt;
  key_reals = tt;
  formed = refl;
  fit = refl;
  short = lit< tt;
}

pub bodies_accepted : IsAccepted (schema_up_to 1) CREATE_BODIES.now bodies
unfolding understood everything sound.fits_kind sound.is_free_name sound.begins sound.same_name value_cmp lib.Ieee.is_nan lib.Ieee.lt
bodies_accepted = record {
  alone = (lit≤ tt, refl);
  text = refl;
  name = refl;
  unreserved = refl;
  free = refl;
  keys_free = (refl, tt);
  trees = lit< tt;
  reals = lit< tt;
  key_reals = (lit< tt, tt);
  formed = refl;
  fit = refl;
  short = lit< tt;
}

pub pieces_accepted : IsAccepted (schema_up_to 2) CREATE_PIECES.now pieces
unfolding understood everything sound.fits_kind sound.is_free_name sound.begins sound.same_name value_cmp lib.Ieee.is_nan lib.Ieee.lt
pieces_accepted = record {
  alone = (lit≤ tt, refl);
  text = refl;
  name = refl;
  unreserved = refl;
  free = refl;
  keys_free = (refl, tt);
  trees = lit< tt;
  reals = lit< tt;
  key_reals = (lit< tt, tt);
  formed = refl;
  fit = refl;
  short = lit< tt;
}

pub arrivals_accepted : IsAccepted (schema_up_to 3) CREATE_ARRIVALS.now arrivals
unfolding understood everything sound.fits_kind sound.is_free_name sound.begins sound.same_name value_cmp lib.Ieee.is_nan lib.Ieee.lt
arrivals_accepted = record {
  alone = (lit≤ tt, refl);
  text = refl;
  name = refl;
  unreserved = refl;
  free = refl;
  keys_free = (refl, tt);
  trees = lit< tt;
  reals = lit< tt;
  key_reals = (lit< tt, tt);
  formed = refl;
  fit = refl;
  short = lit< tt;
}

pub uploads_accepted : IsAccepted (schema_up_to 4) CREATE_UPLOADS.now uploads
unfolding understood everything sound.fits_kind sound.is_free_name sound.begins sound.same_name value_cmp lib.Ieee.is_nan lib.Ieee.lt
uploads_accepted = record {
  alone = (lit≤ tt, refl);
  text = refl;
  name = refl;
  unreserved = refl;
  free = refl;
  keys_free = (refl, (refl, tt));
  trees = lit< tt;
  reals = lit< tt;
  key_reals = (lit< tt, (lit< tt, tt));
  formed = refl;
  fit = refl;
  short = lit< tt;
}

pub wants_accepted : IsAccepted (schema_up_to 5) CREATE_WANTS.now wants
unfolding understood everything sound.fits_kind sound.is_free_name sound.begins sound.same_name value_cmp lib.Ieee.is_nan lib.Ieee.lt
wants_accepted = record {
  alone = (lit≤ tt, refl);
  text = refl;
  name = refl;
  unreserved = refl;
  free = refl;
  keys_free = (refl, (refl, tt));
  trees = lit< tt;
  reals = lit< tt;
  key_reals = (lit< tt, (lit< tt, tt));
  formed = refl;
  fit = refl;
  short = lit< tt;
}

pub items_accepted : IsAccepted (schema_up_to 6) CREATE_ITEMS.now items
unfolding understood everything sound.fits_kind sound.is_free_name sound.begins sound.same_name value_cmp lib.Ieee.is_nan lib.Ieee.lt
items_accepted = record {
  alone = (lit≤ tt, refl);
  text = refl;
  name = refl;
  unreserved = refl;
  free = refl;
  keys_free = (refl, tt);
  trees = lit< tt;
  reals = lit< tt;
  key_reals = (lit< tt, tt);
  formed = refl;
  fit = refl;
  short = lit< tt;
}

pub refs_accepted : IsAccepted (schema_up_to 7) CREATE_REFS.now refs
unfolding understood everything sound.fits_kind sound.is_free_name sound.begins sound.same_name value_cmp lib.Ieee.is_nan lib.Ieee.lt
refs_accepted = record {
  alone = (lit≤ tt, refl);
  text = refl;
  name = refl;
  unreserved = refl;
  free = refl;
  keys_free = (refl, tt);
  trees = lit< tt;
  reals = lit< tt;
  key_reals = (lit< tt, tt);
  formed = refl;
  fit = refl;
  short = lit< tt;
}

pub files_accepted : IsAccepted (schema_up_to 8) CREATE_FILES.now files
unfolding understood everything sound.fits_kind sound.is_free_name sound.begins sound.same_name value_cmp lib.Ieee.is_nan lib.Ieee.lt
files_accepted = record {
  alone = (lit≤ tt, refl);
  text = refl;
  name = refl;
  unreserved = refl;
  free = refl;
  keys_free = (refl, tt);
  trees = lit< tt;
  reals = lit< tt;
  key_reals = (lit< tt, tt);
  formed = refl;
  fit = refl;
  short = lit< tt;
}

pub texts_accepted : IsAccepted (schema_up_to 9) CREATE_TEXTS.now texts
unfolding understood everything sound.fits_kind sound.is_free_name sound.begins sound.same_name value_cmp lib.Ieee.is_nan lib.Ieee.lt
texts_accepted = record {
  alone = (lit≤ tt, refl);
  text = refl;
  name = refl;
  unreserved = refl;
  free = refl;
  keys_free = (refl, tt);
  trees = lit< tt;
  reals = lit< tt;
  key_reals = (lit< tt, tt);
  formed = refl;
  fit = refl;
  short = lit< tt;
}

pub dates_accepted : IsAccepted (schema_up_to 10) CREATE_DATES.now dates
unfolding understood everything sound.fits_kind sound.is_free_name sound.begins sound.same_name value_cmp lib.Ieee.is_nan lib.Ieee.lt
dates_accepted = record {
  alone = (lit≤ tt, refl);
  text = refl;
  name = refl;
  unreserved = refl;
  free = refl;
  keys_free = (refl, tt);
  trees = lit< tt;
  reals = lit< tt;
  key_reals = (lit< tt, tt);
  formed = refl;
  fit = refl;
  short = lit< tt;
}
