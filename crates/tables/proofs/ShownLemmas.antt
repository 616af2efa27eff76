-- What the rows of an answer read as, with their rowids or without.
use Rattle.std.proofs.Common.{◌≡◌, ℕ, Bool, false, List, [], ◌∷◌, map, filter, find, slice_get, Option, sym, ap, ◌∙◌}
use Rattle.std.specs.List.{list_all}
use Rattle.sqlite.specs.Order.{Row}
use Rattle.sqlite.specs.Tree.{Trees}
use Rattle.sqlite.specs.Listing.{understood, reads_listing}
use Rattle.sqlite.specs.State.{State, IsUnchanged}
use Rattle.sqlite.specs.Program.{overlay}
use Rattle.sqlite.specs.Command.TheVariants.{Select}
use Rattle.sqlite.proofs.Callers.{command_of, IsPlain}
use Rattle.sqlite.specs.Term.{Term}
use Rattle.sqlite_sql.specs.Term.{eval_all, holds}
use Rattle.sqlite_keyed.proofs.ListLemmas.{map-map, map_same, map_back, filter-map, slice_get-filter}
use Rattle.tables.specs.Others.{IsArchiveSchema, Others, with_others}
use Rattle.tables.specs.Rows.{id_cell, Numbered, HasRows, stored, row_of, rows_of}
use Rattle.tables.specs.Reading.{IsRead, IsReadFirst}
use Rattle.tables.proofs.EqualLemmas.{id_back}
use Rattle.tables.proofs.SelectLemmas.{rows_query, reads_rows}

-- a row of a table with an id, as SELECT shows it: the id is the rowid
abbrev pub with_id : ℕ → Row → Row
with_id id [] = []
with_id id (_ ∷ rest) = id_cell id ∷ rest

abbrev pub shown : {X : Type 0} → (X → Row) → ℕ × X → Row
shown cells x = id_cell x.0 ∷ with_id x.0 (cells x.1)

pub shown_back : {X : Type 0} (cells : X → Row) (read : Row → X) → ((x : ℕ × X) → read (shown cells x) ≡ x.1) → (x : ℕ × X) → row_of read (shown cells x) ≡ x
shown_back cells read back x = λ i. (id_back x.0 i, back x i)

-- what a query on one table means, and what it shows of a row
pub record Shows {X : Type 0} (cells : X → Row) (tree : ℕ) (where_ project : List Term) (params : Row) (p : ℕ × X → Bool) (show : ℕ × X → Row) (sql : List ℕ) : Type 0 where
  pub names : List (List ℕ)
  pub is : (o : Others) → command_of (understood (with_others o) sql) ≡ Select (record { lets = []; body = rows_query tree where_ project }) names
  pub plain : (o : Others) → IsPlain (understood (with_others o) sql)
  pub unlisted : (o : Others) → reads_listing (with_others o) sql ≡ false
  pub tests : (x : ℕ × X) → list_all (holds (params ∷ stored cells x ∷ [])) where_ ≡ p x
  pub shows : (x : ℕ × X) → eval_all project (params ∷ stored cells x ∷ []) ≡ show x
  pub real : (db : Trees) → overlay db [] tree ≡ db tree

module _ {X : Type 0} (cells : X → Row) (tree : ℕ) (where_ project : List Term) (params : Row) (sql : List ℕ) (old new : State) (xs : Numbered X)
    (schema : IsArchiveSchema old.now.schema) (has : HasRows cells xs (old.now.trees tree)) where
  module _ (p : ℕ × X → Bool) (read : Row → X) (back : (x : ℕ × X) → read (shown cells x) ≡ x.1) (q : Shows cells tree where_ project params p (shown cells) sql) where
    pub reads_shown : (all : List (ℕ × X)) → IsRead (row_of read) sql params old new all → (all ≡ filter p xs) × IsUnchanged old new
    reads_shown all h =
        let rows = reads_rows cells tree where_ project params p (shown cells) q.tests q.shows sql q.names q.real old new h.rows xs q.is q.plain q.unlisted schema has h.shown in
        (h.are ∙ ap (map (row_of read)) rows ∙ map_back (shown cells) (row_of read) (shown_back cells read back) (filter p xs), h.same)

    pub first_shown : (found : Option (ℕ × X)) → IsReadFirst (row_of read) sql params old new found → (found ≡ find p xs) × IsUnchanged old new
    first_shown found h =
        let all = reads_shown h.all h.read in
        (h.is ∙ ap (λ l. slice_get l 0) all.0 ∙ slice_get-filter p xs, all.1)

  module _ (p : X → Bool) (read : Row → X) (back : (x : ℕ × X) → read (stored cells x) ≡ x.1) (q : Shows cells tree where_ project params (λ x. p x.1) (stored cells) sql) where
    pub reads_stored : (all : List X) → IsRead read sql params old new all → (all ≡ filter p (rows_of xs)) × IsUnchanged old new
    reads_stored all h =
        let rows = reads_rows cells tree where_ project params (λ x. p x.1) (stored cells) q.tests q.shows sql q.names q.real old new h.rows xs q.is q.plain q.unlisted schema has h.shown in
        (h.are ∙ ap (map read) rows ∙ map-map read (stored cells) _ ∙ map_same _ (λ x. x.1) back _ ∙ sym (filter-map p (λ x. x.1) xs), h.same)
