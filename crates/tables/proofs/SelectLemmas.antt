-- What the queries on one table answer.
use Rattle.std.proofs.Common.{◌≡◌, ℕ, pos, negsuc, List, None, [], ◌∷◌, map, filter, false, refl, sym, ap, ◌∙◌, arith, lt→ltb, map-id, subst, Bool, find, slice_get}
use Rattle.std.proofs.lemmas.Int.{ints}
use Rattle.std.specs.List.{list_all}
use Rattle.sqlite.specs.Order.{Row}
use Rattle.sqlite.specs.Schema.{Schema}
use Rattle.sqlite.specs.Tree.{Trees}
use Rattle.sqlite.specs.Listing.{understood, reads_listing}
use Rattle.sqlite.specs.State.{State, Shown, IsUnchanged}
use Rattle.sqlite.specs.Program.{overlay}
use Rattle.sqlite.specs.Command.TheVariants.{Select}
use Rattle.sqlite.specs.declared.types.Value.TheVariants.{Null, Int}
use Rattle.sqlite.proofs.Callers.{reads_as, command_of, IsPlain}
use Rattle.sqlite.specs.Query.{Query, inner, end, IsAnswer}
use Rattle.sqlite.specs.Term.{Term, lit, col}
use Rattle.sqlite_sql.specs.Term.{eval_all, holds}
use Rattle.sqlite_value.specs.Keys.{ascending}
use Rattle.sqlite.specs.Collation.TheVariants.{Binary}
use Rattle.sqlite_value.proofs.OrderLemmas.{value_cmp-Int, then-Equal}
use Rattle.sqlite_keyed.proofs.ListLemmas.{ascending_weaker, map-map, map_same, filter-map, slice_get-filter}
use Rattle.sqlite_keyed.specs.Keyed.{IsKeyedBy}
use Rattle.sqlite_typed.proofs.AnswerLemmas.{last_table, at_end, answer_by_keys}
use Rattle.tables.specs.Rows.{id_int, Numbered, HasRows, Rises, stored, rows_of}
use Rattle.tables.specs.Others.{IsArchiveSchema, Others, others_in, with_others}

-- the rows of one table that pass the terms, in the order of their rowids
abbrev pub rows_query : ℕ → List Term → List Term → Query
rows_query tree where_ project = record {
  from = inner tree end;
  filter = where_;
  group = None;
  project = project;
  distinct = false;
  collations = [];
  order = (col 1 0, ascending Binary) ∷ [];
  limit = lit (Int (negsuc 0));
  offset = lit (Int (pos 0));
}

pub keyed_if_rises : {X : Type 0} (xs : Numbered X) → Rises xs → IsKeyedBy (λ (x : ℕ × X). id_int x.0) xs
keyed_if_rises xs up = ascending_weaker _ _ (λ a b h. omega (arith, ints, lt→ltb, h)) xs up

module _ {X : Type 0} (cells : X → Row) (tree : ℕ) (where_ project : List Term) (params : Row) (p : ℕ × X → Bool) (show : ℕ × X → Row)
    (tests : (x : ℕ × X) → list_all (holds (params ∷ stored cells x ∷ [])) where_ ≡ p x) (shows : (x : ℕ × X) → eval_all project (params ∷ stored cells x ∷ []) ≡ show x) where
  answered : (db : Trees) (xs : Numbered X) → HasRows cells xs (db tree) → (rows : List Row) → IsAnswer (rows_query tree where_ project) db params rows → rows ≡ map show (filter p xs)
  answered db xs has rows got =
      let source = last_table db tree (stored cells) (λ (x : ℕ × X). id_int x.0) xs has.are (keyed_if_rises xs has.rise) (at_end db) in
      sym (map-id rows) ∙ answer_by_keys (rows_query tree where_ project) db params source p tests (λ r. r) show shows refl refl (λ a b. then-Equal _ ∙ value_cmp-Int _ _) rows got

  pub reads_rows : (sql : List ℕ) (names : List (List ℕ)) (real : (db : Trees) → overlay db [] tree ≡ db tree) (old new : State) (rows : List Row) (xs : Numbered X)
      → ((o : Others) → command_of (understood (with_others o) sql) ≡ Select (record { lets = []; body = rows_query tree where_ project }) names) → ((o : Others) → IsPlain (understood (with_others o) sql))
      → ((o : Others) → reads_listing (with_others o) sql ≡ false) → IsArchiveSchema old.now.schema → HasRows cells xs (old.now.trees tree) → Shown sql params old new rows → rows ≡ map show (filter p xs)
  reads_rows sql names real old new rows xs is plain unlisted schema has h =
      let o = others_in old.now.schema in
      let read = reads_as sql params old new (with_others o) schema.is _ (is o) (plain o) (unlisted o) rows h in
      answered (overlay old.now.trees []) xs (record { are = real old.now.trees ∙ has.are; rise = has.rise }) rows (read.answer Null)

-- a query that is no write leaves the connection as it was
pub unchanged : (schema : Schema) (sql : List ℕ) (params : Row) (old new : State) (rows : List Row) → old.now.schema ≡ schema → IsPlain (understood schema sql) → Shown sql params old new rows → IsUnchanged old new
unfolding Shown
unchanged schema sql params old new rows has plain h =
    let bare = subst IsPlain (ap (λ s. understood s sql) (sym has) ∙ h.1.is) plain in
    (rw bare.0 at h.2).3

-- the first of the rows that pass, without its rowid
pub first_read : {X : Type 0} (cells : X → Row) (read : Row → X) → ((x : ℕ × X) → read (stored cells x) ≡ x.1) → (p : X → Bool) (xs : Numbered X)
    → slice_get (map read (map (stored cells) (filter (λ x. p x.1) xs))) 0 ≡ find p (rows_of xs)
first_read cells read back p xs =
    ap (λ all. slice_get all 0) (map-map read (stored cells) _ ∙ map_same _ (λ x. x.1) back _ ∙ sym (filter-map p (λ x. x.1) xs)) ∙ slice_get-filter p (rows_of xs)
