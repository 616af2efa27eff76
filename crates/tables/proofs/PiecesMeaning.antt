-- What the statements mean under the schema.
use Rattle.std.proofs.Common.{◌≡◌, refl, ◌∷◌, [], List, codes, false}
use Rattle.sqlite_tied.specs.Compute.{everything}
use Rattle.sqlite.specs.declared.types.Value.TheVariants.{Null}
use Rattle.sqlite.specs.Command.TheVariants.{Insert, Select, Delete}
use Rattle.sqlite.specs.Source.TheVariants.{Values}
use Rattle.sqlite.specs.Term.{Term, lit, col}
use Rattle.sqlite.specs.Listing.{understood, reads_listing}
use Rattle.sqlite.proofs.Callers.{command_of, IsPlain}
use Rattle.sqlite.specs.Collation.TheVariants.{Binary}
use Rattle.sqlite_sql.specs.Term.{op2}
use Rattle.sqlite_sql.specs.declared.ops.BinaryOp.TheVariants.{Compare}
use Rattle.sqlite_sql.specs.declared.ops.CompareOp.TheVariants.{Eq}
use Rattle.tables.specs.declared.pieces.TheConstants.{INSERT_PIECE, SELECT_PIECE, SELECT_PIECES_OF, DELETE_PIECE, DELETE_PIECES}
use Rattle.tables.specs.Others.{Others, with_others}
use Rattle.tables.proofs.SelectLemmas.{rows_query}
use Rattle.tables.proofs.UpdateLemmas.{edit_query}

abbrev pub piece_columns : List Term
piece_columns = col 1 0 ∷ col 1 1 ∷ col 1 2 ∷ col 1 3 ∷ []

abbrev pub piece_body_is : List Term
piece_body_is = op2 (Compare Eq Binary) (col 1 1) (col 0 0) ∷ []

abbrev pub insert_piece_terms : List Term
insert_piece_terms = lit Null ∷ col 0 0 ∷ col 0 1 ∷ col 0 2 ∷ []

pub insert_piece_is : (o : Others) → command_of (understood (with_others o) INSERT_PIECE.now) ≡ Insert 2 (Values insert_piece_terms 4)
unfolding understood everything
insert_piece_is o = refl

pub insert_piece_plain : (o : Others) → IsPlain (understood (with_others o) INSERT_PIECE.now)
unfolding understood everything
insert_piece_plain o = (refl, refl)

pub select_pieces_of_is : (o : Others) → (command_of (understood (with_others o) SELECT_PIECES_OF.now) ≡ Select (record { lets = []; body = rows_query 3 piece_body_is piece_columns }) (codes "rowid" ∷ codes "body" ∷ codes "number" ∷ codes "bytes" ∷ [])) × (reads_listing (with_others o) SELECT_PIECES_OF.now ≡ false)
unfolding understood everything
select_pieces_of_is o = (refl, refl)

pub select_pieces_of_plain : (o : Others) → IsPlain (understood (with_others o) SELECT_PIECES_OF.now)
unfolding understood everything
select_pieces_of_plain o = (refl, refl)

abbrev pub delete_pieces_columns : List Term
delete_pieces_columns = col 1 0 ∷ []

pub delete_pieces_is : (o : Others) → command_of (understood (with_others o) DELETE_PIECES.now) ≡ Delete 2 (record { lets = []; body = edit_query 3 piece_body_is delete_pieces_columns })
unfolding understood everything
delete_pieces_is o = refl

pub delete_pieces_plain : (o : Others) → IsPlain (understood (with_others o) DELETE_PIECES.now)
unfolding understood everything
delete_pieces_plain o = (refl, refl)

abbrev pub piece_is : List Term
piece_is = op2 (Compare Eq Binary) (col 1 1) (col 0 0) ∷ op2 (Compare Eq Binary) (col 1 2) (col 0 1) ∷ []

pub select_piece_is : (o : Others) → (command_of (understood (with_others o) SELECT_PIECE.now) ≡ Select (record { lets = []; body = rows_query 3 piece_is piece_columns }) (codes "rowid" ∷ codes "body" ∷ codes "number" ∷ codes "bytes" ∷ [])) × (reads_listing (with_others o) SELECT_PIECE.now ≡ false)
unfolding understood everything
select_piece_is o = (refl, refl)

pub select_piece_plain : (o : Others) → IsPlain (understood (with_others o) SELECT_PIECE.now)
unfolding understood everything
select_piece_plain o = (refl, refl)

pub delete_piece_is : (o : Others) → command_of (understood (with_others o) DELETE_PIECE.now) ≡ Delete 2 (record { lets = []; body = edit_query 3 piece_is delete_pieces_columns })
unfolding understood everything
delete_piece_is o = refl

pub delete_piece_plain : (o : Others) → IsPlain (understood (with_others o) DELETE_PIECE.now)
unfolding understood everything
delete_piece_plain o = (refl, refl)
