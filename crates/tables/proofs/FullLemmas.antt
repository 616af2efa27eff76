-- Rows as they are stored, whether or not they end before their last columns.
use Rattle.std.proofs.Common.{◌≡◌, ℕ, ◌+◌, ◌<◌, pos, not, Bool, true, false, cond, List, [], ◌∷◌, ◌++◌, map, filter, find, drop, slice_get, Option, refl, sym, ap, subst, ◌∙◌}
use Rattle.std.specs.List.{list_all}
use Rattle.sqlite.specs.Order.{Row, column}
use Rattle.sqlite.specs.declared.types.Value.{Value}
use Rattle.sqlite.specs.declared.types.Value.TheVariants.{Null}
use Rattle.sqlite.specs.Command.TheVariants.{Select}
use Rattle.sqlite.specs.Edit.{id_in}
use Rattle.sqlite.specs.Listing.{understood, reads_listing}
use Rattle.sqlite.specs.Program.{overlay}
use Rattle.sqlite.specs.Query.{IsAnswer}
use Rattle.sqlite.specs.State.{State, IsUnchanged, Shown}
use Rattle.sqlite.specs.Term.{Term}
use Rattle.sqlite.specs.Tree.{Trees, rowid}
use Rattle.sqlite.proofs.Callers.{command_of, IsPlain}
use Rattle.sqlite_sql.specs.Term.{eval_all, holds}
use Rattle.sqlite_keyed.proofs.ListLemmas.{map-map, map_same, map_back, filter-map, slice_get-filter, ascending-map, ascending_from_map}
use Rattle.tables.specs.Others.{IsArchiveSchema, Others, with_others}
use Rattle.tables.specs.Rows.{first_number, id_cell, id_int, row_of, Numbered, Rises, HasRows, stored, added, next_from, next_in, changed, without}
use Rattle.tables.specs.Reading.{IsRead, IsReadFirst}
use Rattle.tables.proofs.SelectLemmas.{reads_rows, rows_query}
use Rattle.tables.proofs.ShownLemmas.{Shows, shown, shown_back}
use Rattle.tables.proofs.UpdateLemmas.{Edits, deletes_rows, edit_query}

-- How a table stores its values, and a stored row with NULL in each column that it lacks, whatever its rowid.
pub record Storing (X : Type 0) : Type 0 where
  pub cells : X → Row
  pub full : Row → Row
  pub same : (x : X) → full (id_cell 0 ∷ cells x) ≡ stored cells (0, x)
  pub again : (v w : Value) (rest : Row) → full (v ∷ rest) ≡ v ∷ drop 1 (full (w ∷ rest))
  pub none : column (full []) 0 ≡ Null

module _ {X : Type 0} (s : Storing X) where
  -- a value beside its columns as they are stored
  pub record Raw : Type 0 where
    pub value : X
    pub cells : Row
    pub full : s.full (id_cell 0 ∷ cells) ≡ stored s.cells (0, value)

  abbrev pub raw_cells : Raw → Row
  raw_cells k = k.cells

  abbrev pub value_in : ℕ × Raw → ℕ × X
  value_in x = (x.0, x.1.value)

  pub full_as : (x : ℕ × Raw) → s.full (stored raw_cells x) ≡ stored s.cells (value_in x)
  full_as x = s.again (id_cell x.0) (id_cell 0) x.1.cells ∙ ap (λ r. id_cell x.0 ∷ drop 1 r) x.1.full

  -- a row that is stored with all its columns
  abbrev pub raw : X → Raw
  raw x = record { value = x; cells = s.cells x; full = s.same x }

  -- the rows of the tree, and which values they are
  pub record AreRaw (rows : Numbered X) (tree : List Row) : Type 0 where
    pub of : Numbered Raw
    pub values : rows ≡ map value_in of
    pub has : HasRows raw_cells of tree

  record IsRaw (x : ℕ × X) (r : Row) : Type 0 where
    one : Raw
    value : x ≡ (x.0, one.value)
    is : r ≡ stored raw_cells (x.0, one)

  is_raw : (x : ℕ × X) (r : Row) → s.full r ≡ stored s.cells x → IsRaw x r
  is_raw x [] e = absurd (let k : Null ≡ id_cell x.0 = sym s.none ∙ ap (λ r. column r 0) e in cc)
  is_raw x (v ∷ rest) e = record {
    one = record { value = x.1; cells = rest; full = s.again (id_cell 0) v rest ∙ ap (λ r. id_cell 0 ∷ drop 1 r) e };
    value = refl;
    is = ap (λ c. c ∷ rest) (sym (ap (λ r. column r 0) (s.again v v rest)) ∙ ap (λ r. column r 0) e);
  }

  record Match (rows : Numbered X) (tree : List Row) : Type 0 where
    of : Numbered Raw
    values : rows ≡ map value_in of
    are : tree ≡ map (stored raw_cells) of

  matches : (rows : Numbered X) (tree : List Row) → map s.full tree ≡ map (stored s.cells) rows → Match rows tree
  matches [] [] e = record { of = []; values = refl; are = refl }
  matches [] (r ∷ tree) e = absurd cc
  matches (x ∷ rows) [] e = absurd cc
  matches (x ∷ rows) (r ∷ tree) e =
      let both : s.full r ∷ map s.full tree ≡ stored s.cells x ∷ map (stored s.cells) rows = e in
      let head : s.full r ≡ stored s.cells x = cc in
      let tail : map s.full tree ≡ map (stored s.cells) rows = cc in
      let first = is_raw x r head in
      let more = matches rows tree tail in
      record {
        of = (x.0, first.one) ∷ more.of;
        values = λ i. first.value i ∷ more.values i;
        are = λ i. first.is i ∷ more.are i;
      }

  pub raw_rows : (rows : Numbered X) (tree : List Row) → HasRows s.cells rows (map s.full tree) → AreRaw rows tree
  raw_rows rows tree h =
      let m = matches rows tree h.are in
      record {
        of = m.of;
        values = m.values;
        has = record { are = m.are; rise = ascending_from_map (λ a b. a.0 < b.0) value_in m.of (subst Rises m.values h.rise) };
      }

  pub full_rows : (of : Numbered Raw) (tree : List Row) → HasRows raw_cells of tree → HasRows s.cells (map value_in of) (map s.full tree)
  full_rows of tree h = record {
    are =
        ap (map s.full) h.are ∙ map-map s.full (stored raw_cells) of ∙ map_same _ (λ x. stored s.cells (value_in x)) full_as of
        ∙ sym (map-map (stored s.cells) value_in of);
    rise = ascending-map (λ a b. a.0 < b.0) value_in of h.rise;
  }

  -- a tree of raw rows has the rows of these values, if NULL is put in each column that a row lacks
  pub full_rows_as : (of : Numbered Raw) (rows : Numbered X) (tree : List Row) → map value_in of ≡ rows → HasRows raw_cells of tree → HasRows s.cells rows (map s.full tree)
  full_rows_as of rows tree same h = subst (λ l. HasRows s.cells l (map s.full tree)) same (full_rows of tree h)

  -- ---- one more row

  next_same : (top : ℕ) (of : Numbered Raw) → next_from top (map value_in of) ≡ next_from top of
  next_same top [] = refl
  next_same top (x ∷ of) = next_same (x.0 + 1) of

  map_last : (of : Numbered Raw) (x : ℕ × Raw) → map value_in (of ++ x ∷ []) ≡ map value_in of ++ value_in x ∷ []
  map_last [] x = refl
  map_last (y ∷ of) x = ap (λ l. value_in y ∷ l) (map_last of x)

  pub next_of : (rows : Numbered X) (of : Numbered Raw) → rows ≡ map value_in of → next_in of ≡ next_in rows
  next_of rows of same = sym (ap next_in same ∙ next_same first_number of)

  pub added_of : (rows : Numbered X) (of : Numbered Raw) (u : X) → rows ≡ map value_in of → map value_in (added of (raw u)) ≡ added rows u
  added_of rows of u same =
      map_last of (next_in of, raw u) ∙ ap (λ n. map value_in of ++ (n, u) ∷ []) (sym (next_same first_number of)) ∙ sym (ap (λ l. added l u) same)

  -- ---- rows that are changed, and rows that are taken out

  pub changed_of : (rows : Numbered X) (of : Numbered Raw) (p : ℕ × X → Bool) (f : X → X) (g : Raw → Raw) → ((k : Raw) → (g k).value ≡ f k.value) → rows ≡ map value_in of
      → map value_in (changed (λ x. p (value_in x)) g of) ≡ changed p f rows
  changed_of rows of p f g does same = go of ∙ sym (ap (changed p f) same)
    where
      one : (b : Bool) (x : ℕ × Raw) → value_in (cond b (x.0, g x.1) x) ≡ cond b ((value_in x).0, f (value_in x).1) (value_in x)
      one true x = ap (λ u. (x.0, u)) (does x.1)
      one false x = refl

      go : (of : Numbered Raw) → map value_in (changed (λ x. p (value_in x)) g of) ≡ changed p f (map value_in of)
      go [] = refl
      go (x ∷ of) = λ i. one (p (value_in x)) x i ∷ go of i

  left_of : (rows : Numbered X) (of : Numbered Raw) (p : ℕ × X → Bool) → rows ≡ map value_in of → map value_in (without (λ x. p (value_in x)) of) ≡ without p rows
  left_of rows of p same = sym (filter-map (λ x. not (p x)) value_in of) ∙ sym (ap (without p) same)

  -- ---- what a query shows

  -- the terms read columns alone
  pub record ReadsColumns (where_ project : List Term) (params : Row) : Type 0 where
    pub tests : (r : Row) → list_all (holds (params ∷ r ∷ [])) where_ ≡ list_all (holds (params ∷ s.full r ∷ [])) where_
    pub shows : (r : Row) → eval_all project (params ∷ r ∷ []) ≡ eval_all project (params ∷ s.full r ∷ [])

  module _ (tree : ℕ) (where_ project : List Term) (params : Row) (p : ℕ × X → Bool) (show : ℕ × X → Row) (c : ReadsColumns where_ project params)
      (tests : (x : ℕ × X) → list_all (holds (params ∷ stored s.cells x ∷ [])) where_ ≡ p x) (shows : (x : ℕ × X) → eval_all project (params ∷ stored s.cells x ∷ []) ≡ show x) where
    raw_tests : (x : ℕ × Raw) → list_all (holds (params ∷ stored raw_cells x ∷ [])) where_ ≡ p (value_in x)
    raw_tests x = c.tests (stored raw_cells x) ∙ ap (λ r. list_all (holds (params ∷ r ∷ [])) where_) (full_as x) ∙ tests (value_in x)

    raw_shows : (x : ℕ × Raw) → eval_all project (params ∷ stored raw_cells x ∷ []) ≡ show (value_in x)
    raw_shows x = c.shows (stored raw_cells x) ∙ ap (λ r. eval_all project (params ∷ r ∷ [])) (full_as x) ∙ shows (value_in x)

    pub reads_full : (sql : List ℕ) (names : List (List ℕ)) (real : (db : Trees) → overlay db [] tree ≡ db tree) (old new : State) (rows : List Row) (xs : Numbered X)
        → ((o : Others) → command_of (understood (with_others o) sql) ≡ Select (record { lets = []; body = rows_query tree where_ project }) names) → ((o : Others) → IsPlain (understood (with_others o) sql))
        → ((o : Others) → reads_listing (with_others o) sql ≡ false) → IsArchiveSchema old.now.schema → HasRows s.cells xs (map s.full (old.now.trees tree)) → Shown sql params old new rows → rows ≡ map show (filter p xs)
    reads_full sql names real old new rows xs is plain unlisted schema has h =
        let raws = raw_rows xs (old.now.trees tree) has in
        reads_rows raw_cells tree where_ project params (λ x. p (value_in x)) (λ x. show (value_in x)) raw_tests raw_shows sql names real old new rows raws.of is plain unlisted schema raws.has h
        ∙ sym (map-map show value_in _) ∙ ap (map show) (sym (filter-map p value_in raws.of) ∙ ap (filter p) (sym raws.values))

    pub deletes_full : ((x : ℕ × X) → id_in (rowid (show x)) ≡ id_int x.0) → ((db : Trees) → overlay db [] tree ≡ db tree) → (old new : State) (xs : Numbered X) → HasRows s.cells xs (map s.full (old.now.trees tree))
        → (found : List Row) → IsAnswer (edit_query tree where_ project) (overlay old.now.trees []) params found → Edits tree found [] old new → HasRows s.cells (without p xs) (map s.full (new.now.trees tree))
    deletes_full names real old new xs has found answer edits =
        let raws = raw_rows xs (old.now.trees tree) has in
        full_rows_as _ _ (new.now.trees tree) (left_of xs raws.of p raws.values)
        (deletes_rows raw_cells tree where_ project params (λ x. p (value_in x)) (λ x. show (value_in x)) raw_tests raw_shows (λ x. names (value_in x)) real old new raws.of raws.has found answer edits)

  module _ (tree : ℕ) (where_ project : List Term) (params : Row) (sql : List ℕ) (old new : State) (rows : Numbered X) (schema : IsArchiveSchema old.now.schema)
      (has : HasRows s.cells rows (map s.full (old.now.trees tree))) (p : ℕ × X → Bool) (read : Row → X) (back : (x : ℕ × X) → read (shown s.cells x) ≡ x.1)
      (q : Shows s.cells tree where_ project params p (shown s.cells) sql) (c : ReadsColumns where_ project params) where
    pub reads_values : (all : List (ℕ × X)) → IsRead (row_of read) sql params old new all → (all ≡ filter p rows) × IsUnchanged old new
    reads_values all h =
        let given = reads_full tree where_ project params p (shown s.cells) c q.tests q.shows sql q.names q.real old new h.rows rows q.is q.plain q.unlisted schema has h.shown in
        (h.are ∙ ap (map (row_of read)) given ∙ map_back (shown s.cells) (row_of read) (shown_back s.cells read back) (filter p rows), h.same)

    pub first_value : (found : Option (ℕ × X)) → IsReadFirst (row_of read) sql params old new found → (found ≡ find p rows) × IsUnchanged old new
    first_value found h =
        let all = reads_values h.all h.read in
        (h.is ∙ ap (λ l. slice_get l 0) all.0 ∙ slice_get-filter p rows, all.1)
