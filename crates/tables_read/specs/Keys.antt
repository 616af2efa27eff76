-- The keys of the tables hold, whatever is written.
use Rattle.std.proofs.Common.{◌≡◌, ◌≢◌, ℕ, true, false, List, [], ◌∷◌, map, Option, Some, None, refl, sym, ap, subst, ◌∙◌, codes, eqb-true}
use Rattle.std.proofs.lemmas.Bool.{and_parts, false_from_ne_true}
use Rattle.sqlite.specs.Effect.{Database, IsDatabase}
use Rattle.sqlite.specs.Values.{or_null}
use Rattle.sqlite.specs.declared.types.Value.{Value}
use Rattle.sqlite.specs.declared.types.Value.TheVariants.{Text, Blob}
use Rattle.sqlite_catalog.specs.Listing.{automatic}
use Rattle.sqlite_rules.proofs.ListLemmas.{has_got}
use Rattle.sqlite_schema.specs.Names.{same_name}
use Rattle.sqlite_schema.specs.Rules.{Keeps, parent_key}
use Rattle.sqlite_schema.specs.declared.schema.Constraint.{Constraint}
use Rattle.sqlite_schema.specs.declared.schema.Constraint.TheVariants.{ForeignKey, Unique}
use Rattle.sqlite_sql.specs.Ops.{is_null}
use Rattle.sqlite_value.specs.Keys.{joined, plain}
use Rattle.sums.proofs.Agree.{same_bytes}
use Rattle.sums.specs.declared.print.Print.{Print}
use Rattle.tables.specs.Arrivals.{is_arrival}
use Rattle.tables.specs.Items.{is_item}
use Rattle.tables.specs.Rows.{Holds, Tables, arrival_cells, body_cells, file_cells, full_body, full_upload, id_cell, item_cells, piece_cells, ref_cells, stored, upload_cells, want_cells, whole}
use Rattle.tables.specs.Uploads.{sign_in}
use Rattle.tables.specs.Others.{IsArchiveSchema, Others, others_in, with_others}
use Rattle.tables.specs.Schema.{arrivals_table, bodies_table, files_table, items_table, pieces_table, refers, refs_table, uploads_table, wants_table}
use Rattle.tables.specs.declared.rows.ArrivalRow.{ArrivalRow}
use Rattle.tables.specs.declared.rows.BodyRow.{BodyRow}
use Rattle.tables.specs.declared.rows.File.{File}
use Rattle.tables.specs.declared.rows.ItemRow.{ItemRow}
use Rattle.tables.specs.declared.rows.UploadRow.{UploadRow}
use Rattle.tables_read.specs.All.{AreConstrained}
use Rattle.tables_read.specs.RowKeys.{AreSame, HasNoClash, HasParents, apart, guarded, no_clash_read, owned, parents_read, referred, rows_apart}

-- ---- what the schema has

-- where the references point: to the tree of a table, by the rowid
bodies_key : (o : Others) → parent_key (with_others o).tables (refers 1 (codes "bodies")) ≡ Some (1, 0 ∷ [], plain)
unfolding same_name joined
bodies_key o = refl

uploads_key : (o : Others) → parent_key (with_others o).tables (refers 1 (codes "uploads")) ≡ Some (7, 0 ∷ [], plain)
unfolding same_name joined
uploads_key o = refl

items_key : (o : Others) → parent_key (with_others o).tables (refers 1 (codes "items")) ≡ Some (13, 0 ∷ [], plain)
unfolding same_name joined
items_key o = refl

module _ (db : Database) (is : IsArchiveSchema db.schema) (sound : IsDatabase db) where
  -- the rows pass each rule
  abbrev o : Others
  o = others_in db.schema

  keeps : (rule : Constraint) → Keeps rule (with_others o) db.trees
  keeps rule = subst (λ s. Keeps rule s db.trees) is.is (sound.obeys.rules rule)

  -- the unique keys, each by its columns
  bodies_clash : HasNoClash (2 ∷ 3 ∷ 4 ∷ 5 ∷ []) (db.trees 1)
  bodies_clash =
      guarded (with_others o) db.trees bodies_table (automatic bodies_table 0 (2 ∷ 3 ∷ 4 ∷ 5 ∷ []) 2) (keeps Unique) (has_got (with_others o).tables 1 bodies_table refl) (has_got (with_others o).indexes 0 _ refl) refl

  arrivals_clash : HasNoClash (2 ∷ 3 ∷ []) (db.trees 5)
  arrivals_clash =
      guarded (with_others o) db.trees arrivals_table (automatic arrivals_table 0 (2 ∷ 3 ∷ []) 6) (keeps Unique) (has_got (with_others o).tables 3 arrivals_table refl) (has_got (with_others o).indexes 2 _ refl) refl

  places_clash : HasNoClash (7 ∷ []) (db.trees 7)
  places_clash =
      guarded (with_others o) db.trees uploads_table (automatic uploads_table 0 (7 ∷ []) 8) (keeps Unique) (has_got (with_others o).tables 4 uploads_table refl) (has_got (with_others o).indexes 3 _ refl) refl

  uploads_clash : HasNoClash (2 ∷ 3 ∷ 4 ∷ 5 ∷ 6 ∷ []) (db.trees 7)
  uploads_clash =
      guarded (with_others o) db.trees uploads_table (automatic uploads_table 1 (2 ∷ 3 ∷ 4 ∷ 5 ∷ 6 ∷ []) 9) (keeps Unique) (has_got (with_others o).tables 4 uploads_table refl) (has_got (with_others o).indexes 4 _ refl) refl

  items_clash : HasNoClash (2 ∷ 3 ∷ 4 ∷ 5 ∷ []) (db.trees 13)
  items_clash =
      guarded (with_others o) db.trees items_table (automatic items_table 0 (2 ∷ 3 ∷ 4 ∷ 5 ∷ []) 14) (keeps Unique) (has_got (with_others o).tables 6 items_table refl) (has_got (with_others o).indexes 7 _ refl) refl

  files_clash : HasNoClash (1 ∷ []) (db.trees 17)
  files_clash =
      guarded (with_others o) db.trees files_table (automatic files_table 0 (1 ∷ []) 18) (keeps Unique) (has_got (with_others o).tables 8 files_table refl) (has_got (with_others o).indexes 9 _ refl) refl

  -- the references, each by its column and the tree of its parents
  pieces_refer : HasParents 1 (db.trees 1) (db.trees 3)
  pieces_refer = referred (with_others o) db.trees pieces_table (refers 1 (codes "bodies")) 1 1 (keeps ForeignKey) (has_got (with_others o).tables 2 pieces_table refl) (has_got pieces_table.references 0 _ refl) refl (bodies_key o)

  arrivals_refer : HasParents 3 (db.trees 1) (db.trees 5)
  arrivals_refer = referred (with_others o) db.trees arrivals_table (refers 3 (codes "bodies")) 3 1 (keeps ForeignKey) (has_got (with_others o).tables 3 arrivals_table refl) (has_got arrivals_table.references 0 _ refl) refl (bodies_key o)

  wants_refer : HasParents 1 (db.trees 7) (db.trees 10)
  wants_refer = referred (with_others o) db.trees wants_table (refers 1 (codes "uploads")) 1 7 (keeps ForeignKey) (has_got (with_others o).tables 5 wants_table refl) (has_got wants_table.references 0 _ refl) refl (uploads_key o)

  refs_refer : HasParents 1 (db.trees 13) (db.trees 15)
  refs_refer = referred (with_others o) db.trees refs_table (refers 1 (codes "items")) 1 13 (keeps ForeignKey) (has_got (with_others o).tables 7 refs_table refl) (has_got refs_table.references 0 _ refl) refl (items_key o)

  files_refer : HasParents 2 (db.trees 1) (db.trees 17)
  files_refer = referred (with_others o) db.trees files_table (refers 2 (codes "bodies")) 2 1 (keeps ForeignKey) (has_got (with_others o).tables 8 files_table refl) (has_got files_table.references 0 _ refl) refl (bodies_key o)

-- ---- rows that would have one key

-- a value that is there is not stored as NULL
not_null : {X : Type 0} (put : X → Value) → ((x : X) → is_null (put x) ≡ false) → (o : Option X) → o ≢ None → is_null (or_null put o) ≡ false
not_null put some None is = absurd (is refl)
not_null put some (Some x) is = some x

same_bodies : (x y : ℕ × BodyRow) → x.1.print ≢ None → x.1.print ≡ y.1.print → AreSame (2 ∷ 3 ∷ 4 ∷ 5 ∷ []) (stored body_cells x) (stored body_cells y)
same_bodies x y some same =
    let there : y.1.print ≢ None = λ none. some (same ∙ none) in (
      (ap (or_null (λ p. whole p.size)) same, not_null (λ p. whole p.size) (λ _. refl) y.1.print there),
      (
        (ap (or_null (λ p. Blob p.md5)) same, not_null (λ p. Blob p.md5) (λ _. refl) y.1.print there),
        (
          (ap (or_null (λ p. Blob p.sha1)) same, not_null (λ p. Blob p.sha1) (λ _. refl) y.1.print there),
          (
            (ap (or_null (λ p. Blob p.sha256)) same, not_null (λ p. Blob p.sha256) (λ _. refl) y.1.print there),
            tt,
          ),
        ),
      ),
    )

same_arrivals : (x y : ℕ × ArrivalRow) → is_arrival x.1.name x.1.body y.1 ≡ true → AreSame (2 ∷ 3 ∷ []) (stored arrival_cells x) (stored arrival_cells y)
same_arrivals x y same =
    let parts = and_parts _ _ same in
    ((ap Text (sym (same_bytes _ _ parts.0)), refl), ((ap id_cell (sym (eqb-true _ _ parts.1)), refl), tt))

same_uploads : (x y : ℕ × UploadRow) → sign_in x.1 ≡ sign_in y.1 → AreSame (2 ∷ 3 ∷ 4 ∷ 5 ∷ 6 ∷ []) (stored upload_cells x) (stored upload_cells y)
same_uploads x y same =
    let name : x.1.name ≡ y.1.name = ap (λ (k : List ℕ × Print). k.0) same in
    let print : x.1.print ≡ y.1.print = ap (λ (k : List ℕ × Print). k.1) same in
    ((ap Text name, refl), ((ap (λ p. whole p.size) print, refl), ((ap (λ p. Blob p.md5) print, refl), ((ap (λ p. Blob p.sha1) print, refl), ((ap (λ p. Blob p.sha256) print, refl), tt)))))

same_places : (x y : ℕ × UploadRow) → x.1.place ≢ None → x.1.place ≡ y.1.place → AreSame (7 ∷ []) (stored upload_cells x) (stored upload_cells y)
same_places x y some same = ((ap (or_null whole) same, not_null whole (λ _. refl) y.1.place (λ none. some (same ∙ none))), tt)

same_items : (x y : ℕ × ItemRow) → is_item x.1.suite x.1.kind x.1.«package» x.1.architecture y.1 ≡ true → AreSame (2 ∷ 3 ∷ 4 ∷ 5 ∷ []) (stored item_cells x) (stored item_cells y)
same_items x y same =
    let last = and_parts _ _ same in
    let third = and_parts _ _ last.0 in
    let two = and_parts _ _ third.0 in
    ((ap Text (sym (same_bytes _ _ two.0)), refl), ((ap whole (sym (eqb-true _ _ two.1)), refl), ((ap Text (sym (same_bytes _ _ third.1)), refl), ((ap Text (sym (same_bytes _ _ last.1)), refl), tt))))

same_files : (x y : ℕ × File) → x.1.path ≡ y.1.path → AreSame (1 ∷ []) (stored file_cells x) (stored file_cells y)
same_files x y same = ((ap Text same, refl), tt)

-- ---- the tables

module _ (db : Database) (t : Tables) (sound : IsDatabase db) (holds : Holds db t) where
  -- the keys of bodies and of uploads, as their rows are read
  bodies_printed : HasNoClash (2 ∷ 3 ∷ 4 ∷ 5 ∷ []) (map full_body (db.trees 1))
  bodies_printed = no_clash_read full_body (2 ∷ 3 ∷ 4 ∷ 5 ∷ []) (λ a b. refl) (λ a. refl) (db.trees 1) (bodies_clash db holds.schema sound)

  uploads_named : HasNoClash (2 ∷ 3 ∷ 4 ∷ 5 ∷ 6 ∷ []) (map full_upload (db.trees 7))
  uploads_named = no_clash_read full_upload (2 ∷ 3 ∷ 4 ∷ 5 ∷ 6 ∷ []) (λ a b. refl) (λ a. refl) (db.trees 7) (uploads_clash db holds.schema sound)

  uploads_placed : HasNoClash (7 ∷ []) (map full_upload (db.trees 7))
  uploads_placed = no_clash_read full_upload (7 ∷ []) (λ a b. refl) (λ a. refl) (db.trees 7) (places_clash db holds.schema sound)

  -- the keys hold of the rows
  pub constrained : AreConstrained t
  constrained = record {
    bodies_apart =
        apart body_cells (2 ∷ 3 ∷ 4 ∷ 5 ∷ []) (map full_body (db.trees 1)) t.bodies holds.rows.bodies bodies_printed (λ x y. x.1.print ≢ None → x.1.print ≢ y.1.print)
        (λ x y no some same. no (same_bodies x y some same));
    pieces_owned =
        owned piece_cells body_cells (db.trees 3) (map full_body (db.trees 1)) t.pieces t.bodies 1 (λ p. p.body) holds.rows.pieces holds.rows.bodies (λ _. refl)
        (parents_read full_body (λ _. refl) 1 (db.trees 1) (db.trees 3) (pieces_refer db holds.schema sound));
    arrivals_owned =
        owned arrival_cells body_cells (db.trees 5) (map full_body (db.trees 1)) t.arrivals t.bodies 3 (λ a. a.body) holds.rows.arrivals holds.rows.bodies (λ _. refl)
        (parents_read full_body (λ _. refl) 3 (db.trees 1) (db.trees 5) (arrivals_refer db holds.schema sound));
    arrivals_apart =
        rows_apart arrival_cells (2 ∷ 3 ∷ []) (db.trees 5) t.arrivals holds.rows.arrivals (arrivals_clash db holds.schema sound) (λ a b. is_arrival a.name a.body b ≡ false)
        (λ x y no. false_from_ne_true _ (λ same. no (same_arrivals x y same)));
    uploads_apart =
        rows_apart upload_cells (2 ∷ 3 ∷ 4 ∷ 5 ∷ 6 ∷ []) (map full_upload (db.trees 7)) t.uploads holds.rows.uploads uploads_named (λ u v. sign_in u ≢ sign_in v) (λ x y no same. no (same_uploads x y same));
    places_apart =
        rows_apart upload_cells (7 ∷ []) (map full_upload (db.trees 7)) t.uploads holds.rows.uploads uploads_placed (λ u v. u.place ≢ None → u.place ≢ v.place) (λ x y no some same. no (same_places x y some same));
    wants_owned =
        owned want_cells upload_cells (db.trees 10) (map full_upload (db.trees 7)) t.wants t.uploads 1 (λ w. w.upload) holds.rows.wants holds.rows.uploads (λ _. refl)
        (parents_read full_upload (λ _. refl) 1 (db.trees 7) (db.trees 10) (wants_refer db holds.schema sound));
    items_apart =
        rows_apart item_cells (2 ∷ 3 ∷ 4 ∷ 5 ∷ []) (db.trees 13) t.items holds.rows.items (items_clash db holds.schema sound)
        (λ x y. is_item x.suite x.kind x.«package» x.architecture y ≡ false) (λ x y no. false_from_ne_true _ (λ same. no (same_items x y same)));
    refs_owned =
        owned ref_cells item_cells (db.trees 15) (db.trees 13) t.refs t.items 1 (λ r. r.item) holds.rows.refs holds.rows.items (λ _. refl) (refs_refer db holds.schema sound);
    files_owned =
        owned file_cells body_cells (db.trees 17) (map full_body (db.trees 1)) t.files t.bodies 2 (λ f. f.body) holds.rows.files holds.rows.bodies (λ _. refl)
        (parents_read full_body (λ _. refl) 2 (db.trees 1) (db.trees 17) (files_refer db holds.schema sound));
    files_apart =
        rows_apart file_cells (1 ∷ []) (db.trees 17) t.files holds.rows.files (files_clash db holds.schema sound) (λ f g. f.path ≢ g.path) (λ x y no same. no (same_files x y same));
  }
