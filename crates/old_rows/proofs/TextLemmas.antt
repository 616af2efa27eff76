-- Each text of the older layouts is a SELECT that reads no time.
use Rattle.std.proofs.Common.{refl}
use Rattle.sqlite_tied.specs.Compute.{everything}
use Rattle.old_rows.specs.Layouts.{AreSelects, first_layout, second_layout}
use Rattle.old_rows.specs.Shown.{IsSelectText}

first_meta : IsSelectText first_layout.meta
unfolding everything
first_meta = record { parsed = _; query = _; is = refl; selects = refl; untimed = refl }

first_bodies : IsSelectText first_layout.bodies
unfolding everything
first_bodies = record { parsed = _; query = _; is = refl; selects = refl; untimed = refl }

first_pieces : IsSelectText first_layout.pieces
unfolding everything
first_pieces = record { parsed = _; query = _; is = refl; selects = refl; untimed = refl }

first_arrivals : IsSelectText first_layout.arrivals
unfolding everything
first_arrivals = record { parsed = _; query = _; is = refl; selects = refl; untimed = refl }

first_uploads : IsSelectText first_layout.uploads
unfolding everything
first_uploads = record { parsed = _; query = _; is = refl; selects = refl; untimed = refl }

first_wants : IsSelectText first_layout.wants
unfolding everything
first_wants = record { parsed = _; query = _; is = refl; selects = refl; untimed = refl }

first_items : IsSelectText first_layout.items
unfolding everything
first_items = record { parsed = _; query = _; is = refl; selects = refl; untimed = refl }

first_refs : IsSelectText first_layout.refs
unfolding everything
first_refs = record { parsed = _; query = _; is = refl; selects = refl; untimed = refl }

first_files : IsSelectText first_layout.files
unfolding everything
first_files = record { parsed = _; query = _; is = refl; selects = refl; untimed = refl }

first_texts : IsSelectText first_layout.texts
unfolding everything
first_texts = record { parsed = _; query = _; is = refl; selects = refl; untimed = refl }

first_dates : IsSelectText first_layout.dates
unfolding everything
first_dates = record { parsed = _; query = _; is = refl; selects = refl; untimed = refl }

pub first_selects : AreSelects first_layout
first_selects = record { meta = first_meta; bodies = first_bodies; pieces = first_pieces; arrivals = first_arrivals; uploads = first_uploads; wants = first_wants; items = first_items; refs = first_refs; files = first_files; texts = first_texts; dates = first_dates }

second_meta : IsSelectText second_layout.meta
unfolding everything
second_meta = record { parsed = _; query = _; is = refl; selects = refl; untimed = refl }

second_bodies : IsSelectText second_layout.bodies
unfolding everything
second_bodies = record { parsed = _; query = _; is = refl; selects = refl; untimed = refl }

second_pieces : IsSelectText second_layout.pieces
unfolding everything
second_pieces = record { parsed = _; query = _; is = refl; selects = refl; untimed = refl }

second_arrivals : IsSelectText second_layout.arrivals
unfolding everything
second_arrivals = record { parsed = _; query = _; is = refl; selects = refl; untimed = refl }

second_uploads : IsSelectText second_layout.uploads
unfolding everything
second_uploads = record { parsed = _; query = _; is = refl; selects = refl; untimed = refl }

second_files : IsSelectText second_layout.files
unfolding everything
second_files = record { parsed = _; query = _; is = refl; selects = refl; untimed = refl }

pub second_selects : AreSelects second_layout
second_selects = record { meta = second_meta; bodies = second_bodies; pieces = second_pieces; arrivals = second_arrivals; uploads = second_uploads; wants = first_wants; items = first_items; refs = first_refs; files = second_files; texts = first_texts; dates = first_dates }
