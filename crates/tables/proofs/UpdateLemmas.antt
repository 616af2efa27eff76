-- What an UPDATE or a DELETE of the rows that pass a test leaves of a table.
use Rattle.std.proofs.Common.{◌≡◌, ◌≢◌, ◌≤◌, ℕ, ◌<◌, ℤ, ◌<ℤ◌, not, pos, negsuc, Bool, false, cond, List, [], ◌∷◌, map, filter, fold, drop, slice_get, Some, None, Ok, refl, sym, ap, subst, subst₂, ◌∙◌, IsPermutation, length, unwrap_or}
use Rattle.std.specs.List.{AllByRecursion, list_all}
use Rattle.std.proofs.lemmas.Bool.{cond_both}
use Rattle.std.proofs.lemmas.List.{length-map}
use Rattle.std.proofs.lemmas.List.Sorted.{IsPermutation-map, length_permutation}
use Rattle.sqlite.specs.Order.{Row}
use Rattle.sqlite.specs.declared.types.Value.TheVariants.{Null, Int}
use Rattle.sqlite_trees.specs.Tree.{Trees, rowid, put_row}
use Rattle.sqlite_rules.specs.Edit.{edit_of, taken_by, without_all, put_all, numbered, id_in}
use Rattle.sqlite_rules.specs.Calls.{ids_of}
use Rattle.sqlite_rules.specs.Cast.{cast_row}
use Rattle.sqlite_rules.specs.declared.error.Rowids.TheVariants.{Given}
use Rattle.sqlite_schema.specs.declared.schema.Keys.TheVariants.{Enforced}
use Rattle.sqlite.specs.Command.TheVariants.{Update, Delete}
use Rattle.sqlite.specs.Table.{Table}
use Rattle.sqlite.specs.Effect.{Database}
use Rattle.sqlite.specs.Does.{Tally, Does}
use Rattle.sqlite.specs.Rows.{Written}
use Rattle.sqlite.specs.Listing.{understood}
use Rattle.sqlite.specs.State.{State, mode_of, Executes}
use Rattle.sqlite.specs.Program.{overlay}
use Rattle.sqlite.specs.Query.{Query, inner, end, output, IsAnswer}
use Rattle.sqlite.specs.Term.{Term, lit}
use Rattle.sqlite_sql.specs.Term.{eval_all, holds}
use Rattle.sqlite.proofs.Callers.{IsPlain, command_of, statement_of, runs_as, one_step}
use Rattle.sqlite_keyed.specs.Keyed.{IsKeyedBy}
use Rattle.sqlite_keyed.specs.Lists.{delete_where}
use Rattle.sqlite_keyed.proofs.ListLemmas.{map-map, map_same, ascending-map, ascending-filter, ascending_weaker}
use Rattle.sqlite_typed.proofs.AnswerLemmas.{last_table, at_end, matches_are}
use Rattle.sqlite_typed.proofs.RowLemmas.{puts-map}
use Rattle.tables.specs.Schema.{archive_schema}
use Rattle.tables.specs.Others.{IsArchiveSchema, Others, last_tree, others_in, with_others}
use Rattle.tables.proofs.CalmLemmas.{calm}
use Rattle.tables.proofs.OtherLemmas.{own_tables, stays}
use Rattle.tables.specs.Rows.{id_int, Numbered, HasRows, stored, changed, without}
use Rattle.tables.proofs.InsertLemmas.{went, same_value}
use Rattle.tables.proofs.SelectLemmas.{keyed_if_rises}
use Rattle.tables.proofs.DeleteLemmas.{deleted}
use Rattle.tables.proofs.OrderLemmas.{in_any_order, puts_back, IsImage, image_of}

-- the rows of one table that pass the terms, in any order
abbrev pub edit_query : ℕ → List Term → List Term → Query
edit_query tree where_ project = record {
  from = inner tree end;
  filter = where_;
  group = None;
  project = project;
  distinct = false;
  collations = [];
  order = [];
  limit = lit (Int (negsuc 0));
  offset = lit (Int (pos 0));
}

-- the rows that the query found are taken out, and these are put in
pub record Edits (tree : ℕ) (found news : List Row) (old new : State) : Type 0 where
  pub schema_is : IsArchiveSchema new.now.schema
  pub rows : new.now.trees tree ≡ put_all (without_all (old.now.trees tree) (ids_of found)) news
  pub others : AllByRecursion (λ t. t.tree ≢ tree → new.now.trees t.tree ≡ old.now.trees t.tree) archive_schema.tables

module _ (sql : List ℕ) (at : ℕ) (q : Query) (plain : (o : Others) → IsPlain (understood (with_others o) sql)) (into : Table) (there : (o : Others) → slice_get (with_others o).tables at ≡ Some into) (low : into.tree ≤ last_tree) where
  module _ (is : (o : Others) → command_of (understood (with_others o) sql) ≡ Update at (record { lets = []; body = q })) where
    -- an UPDATE
    pub updates : (old new : State) (params : Row) (count : ℕ) → IsArchiveSchema old.now.schema → Executes sql params old new (Ok count)
        → (found : List Row) × IsAnswer q (overlay old.now.trees []) params found
        × Edits into.tree found (numbered Given (without_all (old.now.trees into.tree) (ids_of found)) (map (λ s. cast_row into (drop 1 s)) found)) old new
    updates old new params count was h =
        let o = others_in old.now.schema in
        let schema = with_others o in
        let has = was.is in
        let db = old.now.trees in
        let w = runs_as sql params old new schema has (Update at (record { lets = []; body = q })) (is o) (plain o) count h in
        let text = statement_of sql (understood schema sql) in
        let change = subst (λ s. Does old.step_limit (mode_of old) params (record old.now { schema = s }) text None (Update at (record { lets = []; body = q })) (Ok (w.tally, new.now))) has w.changed in
        let done = went (rw (there o) at change) in
        let now = ap (λ (p : Tally × Database). p.1) (same_value (went (went done.2).2).2) in
        let given = went done.1 in
        let written = went given.2 in
        let found = given.0 in
        let edit = edit_of db into (ids_of found) Given 1 found in
        let trees : done.0.trees ≡ written.0 = ap (λ (it : Written). it.trees) (same_value written.2) in
        let applied = one_step schema Enforced db written.0 edit (calm o was.apart into.tree low (taken_by db edit) edit.news) written.1 in
        let all : new.now.trees ≡ written.0 = ap (λ (d : Database). d.trees) now ∙ trees in (
          found,
          given.1.answer Null,
          record {
            schema_is = stays old.now.schema new.now.schema was (ap (λ (d : Database). d.schema) now);
            rows = ap (λ (t : Trees). t into.tree) all ∙ applied.rows;
            others = subst (λ (n : Trees). AllByRecursion (λ t. t.tree ≢ into.tree → n t.tree ≡ db t.tree) archive_schema.tables) (sym all) (own_tables (λ t. t.tree ≢ into.tree → written.0 t.tree ≡ db t.tree) o applied.tables);
          },
        )

  module _ (is : (o : Others) → command_of (understood (with_others o) sql) ≡ Delete at (record { lets = []; body = q })) where
    -- a DELETE, and how many rows it took
    pub deletes_counted : (old new : State) (params : Row) (count : ℕ) → IsArchiveSchema old.now.schema → Executes sql params old new (Ok count)
        → (found : List Row) × IsAnswer q (overlay old.now.trees []) params found × Edits into.tree found [] old new × (count ≡ length found)
    deletes_counted old new params count was h =
        let o = others_in old.now.schema in
        let schema = with_others o in
        let has = was.is in
        let db = old.now.trees in
        let w = runs_as sql params old new schema has (Delete at (record { lets = []; body = q })) (is o) (plain o) count h in
        let text = statement_of sql (understood schema sql) in
        let change = subst (λ s. Does old.step_limit (mode_of old) params (record old.now { schema = s }) text None (Delete at (record { lets = []; body = q })) (Ok (w.tally, new.now))) has w.changed in
        let done = went (rw (there o) at change) in
        let told = same_value (went (went done.2).2).2 in
        let now = ap (λ (p : Tally × Database). p.1) told in
        let given = went done.1 in
        let written = went given.2 in
        let found = given.0 in
        let edit = edit_of db into (ids_of found) Given 0 [] in
        let trees : done.0.trees ≡ written.0 = ap (λ (it : Written). it.trees) (same_value written.2) in
        let taken : done.0.rows ≡ taken_by db edit = ap (λ (it : Written). it.rows) (same_value written.2) in
        let applied = one_step schema Enforced db written.0 edit (calm o was.apart into.tree low (taken_by db edit) edit.news) written.1 in
        let all : new.now.trees ≡ written.0 = ap (λ (d : Database). d.trees) now ∙ trees in (
          found,
          given.1.answer Null,
          record {
            schema_is = stays old.now.schema new.now.schema was (ap (λ (d : Database). d.schema) now);
            rows = ap (λ (t : Trees). t into.tree) all ∙ applied.rows;
            others = subst (λ (n : Trees). AllByRecursion (λ t. t.tree ≢ into.tree → n t.tree ≡ db t.tree) archive_schema.tables) (sym all) (own_tables (λ t. t.tree ≢ into.tree → written.0 t.tree ≡ db t.tree) o applied.tables);
          },
          w.counted ∙ ap (λ (p : Tally × Database). unwrap_or p.0.rows 0) told ∙ ap length taken ∙ length-map (ids_of found) _ ∙ length-map found _,
        )

    -- a DELETE
    pub deletes : (old new : State) (params : Row) (count : ℕ) → IsArchiveSchema old.now.schema → Executes sql params old new (Ok count)
        → (found : List Row) × IsAnswer q (overlay old.now.trees []) params found × Edits into.tree found [] old new
    deletes old new params count was h = let did = deletes_counted old new params count was h in (did.0, did.1, did.2)

numbered_given : (rows news : List Row) → numbered Given rows news ≡ news
numbered_given rows [] = refl
numbered_given rows (n ∷ news) = ap (λ l. n ∷ l) (numbered_given (put_row n rows) news)

module _ {X : Type 0} (cells : X → Row) (tree : ℕ) (where_ project : List Term) (params : Row) (p : ℕ × X → Bool) (show : ℕ × X → Row)
    (tests : (x : ℕ × X) → list_all (holds (params ∷ stored cells x ∷ [])) where_ ≡ p x) (shows : (x : ℕ × X) → eval_all project (params ∷ stored cells x ∷ []) ≡ show x) where
  abbrev key : ℕ × X → ℤ
  key x = id_int x.0

  -- the query finds the rows that pass, in some order
  found_are : (db : Trees) (xs : Numbered X) → HasRows cells xs (db tree) → (found : List Row) → IsAnswer (edit_query tree where_ project) db params found → IsImage show (filter p xs) found
  found_are db xs has found answer =
      let q = edit_query tree where_ project in
      let source = last_table db tree (stored cells) key xs has.are (keyed_if_rises xs has.rise) (at_end db) in
      let env = λ (x : ℕ × X). params ∷ stored cells x ∷ [] in
      let same = subst (λ l. IsPermutation l answer.ordered)
      (answer.distinct ∙ ap (map (output q)) (answer.grouped ∙ matches_are q db params source p tests) ∙ map-map (output q) env (filter p xs)) answer.same in
      let shown = IsPermutation-map (λ (o : Row × Row). o.1) _ _ same in
      let all : map (λ (o : Row × Row). o.1) (map (λ x. output q (env x)) (filter p xs)) ≡ map show (filter p xs) =
      map-map (λ (o : Row × Row). o.1) (λ x. output q (env x)) (filter p xs) ∙ map_same _ show shows (filter p xs) in
      image_of show (filter p xs) found (subst₂ IsPermutation all (sym answer.shown) shown)

  module _ (names : (x : ℕ × X) → id_in (rowid (show x)) ≡ id_int x.0) (real : (db : Trees) → overlay db [] tree ≡ db tree) (old new : State) (xs : Numbered X) (has : HasRows cells xs (old.now.trees tree))
      (found : List Row) (answer : IsAnswer (edit_query tree where_ project) (overlay old.now.trees []) params found) where
    abbrev keyed : IsKeyedBy key xs
    keyed = keyed_if_rises xs has.rise

    abbrev image : IsImage show (filter p xs) found
    image = found_are (overlay old.now.trees []) xs (record { are = real old.now.trees ∙ has.are; rise = has.rise }) found answer

    -- what is left when the rows that pass are taken out
    left : without_all (old.now.trees tree) (ids_of found) ≡ map (stored cells) (delete_where p xs)
    left =
        let ids : ids_of found ≡ map key image.of = ap ids_of image.are ∙ map-map (λ r. id_in (rowid r)) show image.of ∙ map_same _ key names image.of in
        ap (λ rows. without_all rows (ids_of found)) has.are ∙ ap (without_all (map (stored cells) xs)) ids
        ∙ deleted key (stored cells) (λ _. refl) p xs (map key image.of) keyed (IsPermutation-map key (filter p xs) image.of image.same)

    -- as many rows are found as pass
    pub found_length : length found ≡ length (filter p xs)
    found_length = ap length image.are ∙ length-map image.of show ∙ length_permutation (filter p xs) image.of image.same

    pub deletes_rows : Edits tree found [] old new → HasRows cells (without p xs) (new.now.trees tree)
    deletes_rows edits = record { are = edits.rows ∙ left; rise = ascending-filter (λ a b. a.0 < b.0) (λ x. not (p x)) xs has.rise }

    module _ (f : X → X) (into : Table) (cast : (x : ℕ × X) → cast_row into (drop 1 (show x)) ≡ stored cells (x.0, f x.1)) where
      abbrev put : ℕ × X → ℕ × X
      put x = (x.0, f x.1)

      news_are : (rows : List Row) → numbered Given rows (map (λ s. cast_row into (drop 1 s)) found) ≡ map (stored cells) (map put image.of)
      news_are rows =
          numbered_given rows _ ∙ ap (map (λ s. cast_row into (drop 1 s))) image.are ∙ map-map (λ s. cast_row into (drop 1 s)) show image.of
          ∙ map_same _ (λ x. stored cells (put x)) cast image.of ∙ sym (map-map (stored cells) put image.of)

      put_each : (news : Numbered X) (rows : List Row) → put_all rows (map (stored cells) news) ≡ fold (λ rows x. put_row (stored cells x) rows) rows news
      put_each [] rows = refl
      put_each (n ∷ news) rows = put_each news (put_row (stored cells n) rows)

      pub updates_rows : Edits tree found (numbered Given (without_all (old.now.trees tree) (ids_of found)) (map (λ s. cast_row into (drop 1 s)) found)) old new → HasRows cells (changed p f xs) (new.now.trees tree)
      updates_rows edits =
          let some = filter p xs in
          let base = delete_where p xs in
          let chosen = ascending-map (λ a b. key a <ℤ key b) put some (ascending-filter (λ a b. key a <ℤ key b) p xs keyed) in
          let order = in_any_order key (map put some) (map put image.of) chosen (IsPermutation-map put some image.of image.same) base in
          let kept = λ (x : ℕ × X). cond_both (p x) (put x) x (λ y. y.0 ≡ x.0) (λ _. refl) (λ _. refl) in
          let all = λ (x : ℕ × X). cond (p x) (put x) x in
          record {
            are =
                edits.rows ∙ ap (put_all _) (news_are _) ∙ ap (λ rows. put_all rows (map (stored cells) (map put image.of))) left
                ∙ put_each (map put image.of) (map (stored cells) base) ∙ puts-map key (stored cells) (λ _. refl) (map put image.of) base
                ∙ ap (map (stored cells)) (sym order ∙ puts_back key p put (λ _. refl) xs keyed);
            rise = ascending-map (λ a b. a.0 < b.0) all xs (ascending_weaker (λ a b. a.0 < b.0) (λ a b. (all a).0 < (all b).0) (λ a b h. rw (kept a, kept b) h) xs has.rise);
          }
