-- What the statements mean under the schema.
use Rattle.std.proofs.Common.{refl, lit≤, codes, [], ◌∷◌}
use Rattle.sqlite_tied.specs.Compute.{everything}
use Rattle.sqlite.specs.Listing.{understood}
use Rattle.tables_read.specs.declared.stored.TheConstants.{META, BODIES, PIECES, ARRIVALS, UPLOADS, WANTS, ITEMS, REFS, FILES, TEXTS, DATES}
use Rattle.tables_read.specs.Reading.{AsksForRows}
use Rattle.tables_read.specs.Layouts.{meta_layout, body_layout, piece_layout, arrival_layout, upload_layout, want_layout, item_layout, ref_layout, file_layout, text_layout, date_layout}

pub meta_rows : AsksForRows meta_layout.tree meta_layout.columns META.now
unfolding understood everything
meta_rows = record { names = codes "rowid" ∷ codes "version" ∷ codes "configuration" ∷ []; is = λ _. refl; plain = λ _. (refl, refl); alone = λ _. (lit≤ tt, refl); accepted = λ _. refl; unlisted = λ _. refl; real = λ _. refl }

pub body_rows : AsksForRows body_layout.tree body_layout.columns BODIES.now
unfolding understood everything
body_rows = record { names = codes "id" ∷ codes "size" ∷ codes "md5" ∷ codes "sha1" ∷ codes "sha256" ∷ []; is = λ _. refl; plain = λ _. (refl, refl); alone = λ _. (lit≤ tt, refl); accepted = λ _. refl; unlisted = λ _. refl; real = λ _. refl }

pub piece_rows : AsksForRows piece_layout.tree piece_layout.columns PIECES.now
unfolding understood everything
piece_rows = record { names = codes "rowid" ∷ codes "body" ∷ codes "number" ∷ codes "bytes" ∷ []; is = λ _. refl; plain = λ _. (refl, refl); alone = λ _. (lit≤ tt, refl); accepted = λ _. refl; unlisted = λ _. refl; real = λ _. refl }

pub arrival_rows : AsksForRows arrival_layout.tree arrival_layout.columns ARRIVALS.now
unfolding understood everything
arrival_rows = record { names = codes "id" ∷ codes "name" ∷ codes "body" ∷ codes "moment" ∷ []; is = λ _. refl; plain = λ _. (refl, refl); alone = λ _. (lit≤ tt, refl); accepted = λ _. refl; unlisted = λ _. refl; real = λ _. refl }

pub upload_rows : AsksForRows upload_layout.tree upload_layout.columns UPLOADS.now
unfolding understood everything
upload_rows = record { names = codes "id" ∷ codes "name" ∷ codes "size" ∷ codes "md5" ∷ codes "sha1" ∷ codes "sha256" ∷ codes "place" ∷ codes "verdict" ∷ []; is = λ _. refl; plain = λ _. (refl, refl); alone = λ _. (lit≤ tt, refl); accepted = λ _. refl; unlisted = λ _. refl; real = λ _. refl }

pub want_rows : AsksForRows want_layout.tree want_layout.columns WANTS.now
unfolding understood everything
want_rows = record { names = codes "rowid" ∷ codes "upload" ∷ codes "name" ∷ codes "size" ∷ codes "md5" ∷ codes "sha1" ∷ codes "sha256" ∷ codes "here" ∷ []; is = λ _. refl; plain = λ _. (refl, refl); alone = λ _. (lit≤ tt, refl); accepted = λ _. refl; unlisted = λ _. refl; real = λ _. refl }

pub item_rows : AsksForRows item_layout.tree item_layout.columns ITEMS.now
unfolding understood everything
item_rows = record { names = codes "id" ∷ codes "suite" ∷ codes "kind" ∷ codes "package" ∷ codes "architecture" ∷ codes "version" ∷ codes "component" ∷ codes "source" ∷ codes "paragraph" ∷ []; is = λ _. refl; plain = λ _. (refl, refl); alone = λ _. (lit≤ tt, refl); accepted = λ _. refl; unlisted = λ _. refl; real = λ _. refl }

pub ref_rows : AsksForRows ref_layout.tree ref_layout.columns REFS.now
unfolding understood everything
ref_rows = record { names = codes "rowid" ∷ codes "item" ∷ codes "number" ∷ codes "path" ∷ codes "size" ∷ codes "md5" ∷ codes "sha1" ∷ codes "sha256" ∷ []; is = λ _. refl; plain = λ _. (refl, refl); alone = λ _. (lit≤ tt, refl); accepted = λ _. refl; unlisted = λ _. refl; real = λ _. refl }

pub file_rows : AsksForRows file_layout.tree file_layout.columns FILES.now
unfolding understood everything
file_rows = record { names = codes "rowid" ∷ codes "path" ∷ codes "body" ∷ []; is = λ _. refl; plain = λ _. (refl, refl); alone = λ _. (lit≤ tt, refl); accepted = λ _. refl; unlisted = λ _. refl; real = λ _. refl }

pub text_rows : AsksForRows text_layout.tree text_layout.columns TEXTS.now
unfolding understood everything
text_rows = record { names = codes "rowid" ∷ codes "path" ∷ codes "body" ∷ []; is = λ _. refl; plain = λ _. (refl, refl); alone = λ _. (lit≤ tt, refl); accepted = λ _. refl; unlisted = λ _. refl; real = λ _. refl }

pub date_rows : AsksForRows date_layout.tree date_layout.columns DATES.now
unfolding understood everything
date_rows = record { names = codes "rowid" ∷ codes "suite" ∷ codes "moment" ∷ []; is = λ _. refl; plain = λ _. (refl, refl); alone = λ _. (lit≤ tt, refl); accepted = λ _. refl; unlisted = λ _. refl; real = λ _. refl }
