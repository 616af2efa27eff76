-- What a plan makes of the rows: shelves are emptied and filled one by one, and so is the pool.
use Rattle.std.proofs.Common.{◌≡◌, ◌≢◌, ℕ, ◌<◌, true, false, not, List, [], ◌∷◌, ◌++◌, map, filter, find, fold, length, refl, sym, ap, subst, subst₂, true≢false, ◌∙◌, append-nil, append_assoc, AllPairs, Option, Some, None, is_some, option_map, IsTrue, nat_eq}
use Rattle.std.specs.List.{AllByRecursion, list_any}
use Rattle.std.specs.Option.{option_and_then, option_map_or}
use Rattle.std.specs.FinMap.{get, insert, remove}
use Rattle.std.proofs.lemmas.List.{map-append}
use Rattle.std.proofs.lemmas.List.Elements.{recursion_from_All, All-from_recursion}
use Rattle.std.proofs.lemmas.List.Folds.{fold-map}
use Rattle.std.proofs.lemmas.Option.{same_Some}
use Rattle.sqlite_keyed.specs.Lists.{delete_where}
use Rattle.sqlite_keyed.proofs.ListLemmas.{all_map, ascending-map, ascending_from_map, filter-map}
use Rattle.rules.specs.declared.suite.Suite.{Suite}
use Rattle.sums.specs.declared.print.Print.{Print}
use Rattle.suites.specs.Change.{IsChange, without, with_all}
use Rattle.suites.specs.KeyLemmas.{key_order_total, text_order_total}
use Rattle.suites.specs.Plan.{applied}
use Rattle.suites.specs.Pool.{PoolWith, pair_of}
use Rattle.suites.specs.Shelves.{ShelvesValue, pool}
use Rattle.suites.specs.declared.item.Item as shelf
use Rattle.suites.specs.declared.item.PoolFile.{PoolFile}
use Rattle.suites.specs.declared.key.ShelfKey.{ShelfKey}
use Rattle.suites.specs.declared.plan.Plan.{Plan}
use Rattle.tables.specs.Bodies.{body_with}
use Rattle.tables.specs.Files.{is_file_at, without_file}
use Rattle.tables.specs.Items.{without_item}
use Rattle.tables.specs.Refs.{is_ref_of, without_refs}
use Rattle.tables.specs.Rows.{Tables, Numbered, Rises, next_in, rows_of, with_file, with_item, with_ref}
use Rattle.tables.specs.declared.rows.BodyRow.{BodyRow}
use Rattle.tables.specs.declared.rows.File.{File}
use Rattle.tables.specs.declared.rows.ItemRow.{ItemRow}
use Rattle.tables.specs.declared.rows.Ref.{Ref}
use Rattle.tables.proofs.Pairwise.{ascending_from_pairs, pairs_from_ascending}
use Rattle.tables_meaning.specs.Kept.{AreFiles, AreItems, AreNumbered, AreStored, has_body, is_on, item_row, refs_among, refs_for, shown_row}
use Rattle.tables_meaning.specs.Making.{with_plan, with_pooled, with_refs, with_shown, without_shown}
use Rattle.tables_meaning.specs.Planned.{IsPlanned, KeepsOthers, MayPlan}
use Rattle.tables_meaning.proofs.RowLists.{along_drops, along_puts}
use Rattle.tables_meaning.proofs.ItemLemmas.{OnSome, Shelved, Stands, drop_none, drop_some, put_shelf, same_shelf}
use Rattle.tables_meaning.proofs.FileLemmas.{Pooled, add_file, found_body, is_body, take_file}

-- ---- the parts of the tables that change

-- the tables with the items and their files of others, and with the pool of others
abbrev items_from : Tables → Tables → Tables
items_from t u = record t { items = u.items; refs = u.refs }

abbrev files_from : Tables → Tables → Tables
files_from t u = record t { files = u.files }

-- steps that each change only a part change only that part
pub part_changed : {E : Type 0} (part : Tables → Tables → Tables) (same : (t : Tables) → t ≡ part t t) (again : (t u v : Tables) → part (part t u) v ≡ part t v)
    (step : Tables → E → Tables) → ((t : Tables) (e : E) → step t e ≡ part t (step t e)) → (es : List E) (t : Tables) → fold step t es ≡ part t (fold step t es)
part_changed part same again step each [] t = same t
part_changed part same again step each (e ∷ es) t =
    part_changed part same again step each es (step t e)
    ∙ ap (λ u. part u (fold step (step t e) es)) (each t e)
    ∙ again t (step t e) (fold step (step t e) es)

emptied_part : (suites : List Suite) (t : Tables) (e : ShelfKey × shelf.Item) → without_shown suites e t ≡ items_from t (without_shown suites e t)
unfolding without_shown
emptied_part suites t e = go (find (is_on suites e.0) t.items)
  where
    go : (o : Option (ℕ × ItemRow)) → option_map_or (λ x. without_item x.0 (without_refs x.0 t)) o t ≡ items_from t (option_map_or (λ x. without_item x.0 (without_refs x.0 t)) o t)
    go None = refl
    go (Some x) = refl

-- what rows of files of items leave
record OnlyRefs (t u : Tables) (refs : List Ref) : Type 0 where
  is : u ≡ record t { refs = u.refs }
  rows : rows_of u.refs ≡ rows_of t.refs ++ refs

refs_put : (refs : List Ref) (t : Tables) → OnlyRefs t (with_refs refs t) refs
refs_put [] t = record { is = refl; rows = sym (append-nil (rows_of t.refs)) }
refs_put (r ∷ refs) t =
    let rest = refs_put refs (with_ref r t) in
    record {
      is = rest.is;
      rows = rest.rows ∙ ap (λ rs. rs ++ refs) (map-append (λ (x : ℕ × Ref). x.1) t.refs ((next_in t.refs, r) ∷ [])) ∙ append_assoc (rows_of t.refs) (r ∷ []) refs;
    }

filled_part : (suites : List Suite) (t : Tables) (e : ShelfKey × shelf.Item) → with_shown suites e t ≡ items_from t (with_shown suites e t)
unfolding with_shown
filled_part suites t e =
    let put = refs_put (refs_for (next_in t.items) e.1) (with_item (item_row suites e) t) in
    put.is ∙ ap (λ items. record t { items = items; refs = (with_refs (refs_for (next_in t.items) e.1) (with_item (item_row suites e) t)).refs }) (sym (ap (λ (u : Tables). u.items) put.is))

pooled_part : (t : Tables) (f : PoolFile) → with_pooled f t ≡ files_from t (with_pooled f t)
unfolding with_pooled
pooled_part t f = go (body_with f.print t.bodies)
  where
    go : (o : Option ℕ) → option_map_or (λ body. with_file (record { path = f.path; body = body }) t) o t ≡ files_from t (option_map_or (λ body. with_file (record { path = f.path; body = body }) t) o t)
    go None = refl
    go (Some body) = refl

-- ---- items, as facts row by row

abbrev shown_by : List Ref → ℕ × ItemRow → ItemRow × List Ref
shown_by refs x = (x.1, refs_among refs x.0)

stands_from : (refs : List Ref) (suites : List Suite) (key : ShelfKey) (f : Option (ℕ × ItemRow)) (a : Option shelf.Item)
    → option_map (shown_by refs) f ≡ option_and_then (λ x. option_map (shown_row suites key x.0) a) f
    → option_map (λ _. true) f ≡ option_map (λ _. true) a → Stands refs suites key f a
stands_from refs suites key None None are all = tt
stands_from refs suites key None (Some item) are all = cc
stands_from refs suites key (Some x) None are all = cc
stands_from refs suites key (Some x) (Some item) are all = same_Some (shown_by refs x) (shown_row suites key x.0 item) are

stands_are : (refs : List Ref) (suites : List Suite) (key : ShelfKey) (f : Option (ℕ × ItemRow)) (a : Option shelf.Item)
    → Stands refs suites key f a → option_map (shown_by refs) f ≡ option_and_then (λ x. option_map (shown_row suites key x.0) a) f
stands_are refs suites key None None h = refl
stands_are refs suites key None (Some item) h = absurd h
stands_are refs suites key (Some x) None h = absurd h
stands_are refs suites key (Some x) (Some item) h = ap Some h

stands_all : (refs : List Ref) (suites : List Suite) (key : ShelfKey) (f : Option (ℕ × ItemRow)) (a : Option shelf.Item)
    → Stands refs suites key f a → option_map (λ _. true) f ≡ option_map (λ _. true) a
stands_all refs suites key None None h = refl
stands_all refs suites key None (Some item) h = absurd h
stands_all refs suites key (Some x) None h = absurd h
stands_all refs suites key (Some x) (Some item) h = refl

pub shelved : (t : Tables) (suites : List Suite) (shown : ShelvesValue) → AreNumbered t → AreItems t suites shown → Shelved suites t.items (rows_of t.refs) shown
shelved t suites shown numbered h = record {
  stands = λ key lt. stands_from (rows_of t.refs) suites key (find (is_on suites key) t.items) (get shown key) (h.are key lt) (h.all key lt);
  within = h.within;
  rows = recursion_from_All (OnSome suites) t.items h.rows;
  apart = ascending_from_map (λ x y. same_shelf x y ≡ false) (λ (x : ℕ × ItemRow). x.1) t.items (ascending_from_pairs (λ x y. same_shelf x y ≡ false) (rows_of t.items) h.apart);
  owned = recursion_from_All (λ (r : Ref). list_any (λ (x : ℕ × ItemRow). nat_eq x.0 r.item) t.items ≡ true) (rows_of t.refs) h.owned;
  rise = numbered.items;
}

pub items_are : (t : Tables) (suites : List Suite) (shown : ShelvesValue) → Shelved suites t.items (rows_of t.refs) shown → AreItems t suites shown
items_are t suites shown h = record {
  are = λ key lt. stands_are (rows_of t.refs) suites key (find (is_on suites key) t.items) (get shown key) (h.stands key lt);
  all = λ key lt. stands_all (rows_of t.refs) suites key (find (is_on suites key) t.items) (get shown key) (h.stands key lt);
  within = h.within;
  rows = All-from_recursion (OnSome suites) t.items h.rows;
  apart = pairs_from_ascending (λ x y. same_shelf x y ≡ false) (rows_of t.items) (ascending-map (λ x y. same_shelf x y ≡ false) (λ (x : ℕ × ItemRow). x.1) t.items h.apart);
  owned = All-from_recursion (λ (r : Ref). list_any (λ (x : ℕ × ItemRow). nat_eq x.0 r.item) t.items ≡ true) (rows_of t.refs) h.owned;
}

-- ---- shelves are emptied and filled

module _ (suites : List Suite) (differ : AllPairs (λ s r. s.codename ≢ r.codename) suites) where
  abbrev Shows : Tables → ShelvesValue → Type 0
  Shows t shown = Shelved suites t.items (rows_of t.refs) shown

  abbrev IsInside : ShelfKey × shelf.Item → Type 0
  IsInside e = e.0.suite < length suites

  pub emptied_one : (t : Tables) (shown : ShelvesValue) (e : ShelfKey × shelf.Item) → IsInside e → Shows t shown → Shows (without_shown suites e t) (remove shown e.0)
  unfolding without_shown
  emptied_one t shown e inside h = go (find (is_on suites e.0) t.items) refl
    where
      go : (o : Option (ℕ × ItemRow)) → find (is_on suites e.0) t.items ≡ o → Shows (option_map_or (λ x. without_item x.0 (without_refs x.0 t)) o t) (remove shown e.0)
      go None is = drop_none suites differ t.items (rows_of t.refs) shown h e.0 inside is
      go (Some x) is = subst (λ refs. Shelved suites (delete_where (λ (y : ℕ × ItemRow). nat_eq y.0 x.0) t.items) refs (remove shown e.0))
          (filter-map (λ (r : Ref). not (is_ref_of x.0 r)) (λ (y : ℕ × Ref). y.1) t.refs)
          (drop_some suites differ t.items (rows_of t.refs) shown h e.0 x inside is)

  pub filled_one : (t : Tables) (shown : ShelvesValue) (e : ShelfKey × shelf.Item) → IsInside e → get shown e.0 ≡ None → Shows t shown → Shows (with_shown suites e t) (insert shown e.0 e.1)
  unfolding with_shown
  filled_one t shown e inside free h =
      let put = refs_put (refs_for (next_in t.items) e.1) (with_item (item_row suites e) t) in
      subst₂ (λ items refs. Shelved suites items refs (insert shown e.0 e.1)) (sym (ap (λ (u : Tables). u.items) put.is)) (sym put.rows)
      (put_shelf suites differ t.items (rows_of t.refs) shown h e inside free)

  pub emptied : (t : Tables) (shown : ShelvesValue) (es : List (ShelfKey × shelf.Item)) → AllByRecursion IsInside es → Shows t shown
      → Shows (fold (λ now e. without_shown suites e now) t es) (without shown es)
  unfolding without
  emptied t shown es inside h = along_drops key_order_total Shows IsInside (λ now e. without_shown suites e now) emptied_one t shown es inside h

  pub filled : (t : Tables) (shown : ShelvesValue) (put dropped : List (ShelfKey × shelf.Item)) (after : ShelvesValue) → IsChange shown after put dropped → AllByRecursion IsInside put
      → Shows t (without shown dropped) → Shows (fold (λ now e. with_shown suites e now) t put) (with_all (without shown dropped) put)
  unfolding with_all
  filled t shown put dropped after step inside h =
      along_puts key_order_total Shows IsInside (λ now e. with_shown suites e now) filled_one t (without shown dropped) put step.put_in_order inside
      (recursion_from_All (λ (e : ShelfKey × shelf.Item). get (without shown dropped) e.0 ≡ None) put step.absent) h

-- ---- the pool

-- the tables have these bodies, and the rows of files are those of the pool
pub record PoolShows (bodies : Numbered BodyRow) (t : Tables) (held : PoolWith Print) : Type 0 where
  pub same : t.bodies ≡ bodies
  pub pooled : Pooled bodies (rows_of t.files) held

module _ (bodies : Numbered BodyRow) where
  abbrev HasBody : List ℕ × Print → Type 0
  HasBody e = IsTrue (is_some (body_with e.1 bodies))

  abbrev AnyPair : List ℕ × Print → Type 0
  AnyPair e = Unit {0}

  abbrev taken : Tables → List ℕ × Print → Tables
  taken t e = without_file e.0 t

  abbrev put_in : Tables → List ℕ × Print → Tables
  put_in t e = with_pooled (record { path = e.0; print = e.1 }) t

  taken_one : (t : Tables) (held : PoolWith Print) (e : List ℕ × Print) → AnyPair e → PoolShows bodies t held → PoolShows bodies (taken t e) (remove held e.0)
  taken_one t held e any h = record {
    same = h.same;
    pooled = subst (λ files. Pooled bodies files (remove held e.0)) (filter-map (λ (f : File). not (is_file_at e.0 f)) (λ (x : ℕ × File). x.1) t.files)
        (take_file bodies (rows_of t.files) held h.pooled e.0);
  }

  any_pair : (es : List (List ℕ × Print)) → AllByRecursion AnyPair es
  any_pair [] = tt
  any_pair (e ∷ es) = (tt, any_pair es)

  pub taken_all : (t : Tables) (held : PoolWith Print) (removed : List PoolFile) → PoolShows bodies t held
      → PoolShows bodies (fold (λ now f. without_file f.path now) t removed) (without held (map pair_of removed))
  unfolding without
  taken_all t held removed h =
      subst (λ u. PoolShows bodies u (fold (λ n e. remove n e.0) held (map pair_of removed))) (fold-map taken pair_of t removed)
      (along_drops text_order_total (PoolShows bodies) AnyPair taken taken_one t held (map pair_of removed) (any_pair (map pair_of removed)) h)

  module _ (up : Rises bodies) (printed : AllByRecursion (λ x. x.1.print ≢ None) bodies) where
    put_one : (t : Tables) (held : PoolWith Print) (e : List ℕ × Print) → HasBody e → get held e.0 ≡ None → PoolShows bodies t held → PoolShows bodies (put_in t e) (insert held e.0 e.1)
    unfolding with_pooled
    put_one t held e some free h = go (body_with e.1 t.bodies) refl
      where
        stored : Option ℕ → Tables
        stored o = option_map_or (λ body. with_file (record { path = e.0; body = body }) t) o t

        go : (o : Option ℕ) → body_with e.1 t.bodies ≡ o → PoolShows bodies (stored o) (insert held e.0 e.1)
        go None is = absurd (true≢false (sym some ∙ ap is_some (sym (ap (body_with e.1) h.same) ∙ is)))
        go (Some body) is = record {
          same = h.same;
          pooled = subst (λ files. Pooled bodies files (insert held e.0 e.1))
              (sym (map-append (λ (x : ℕ × File). x.1) t.files ((next_in t.files, record { path = e.0; body = body }) ∷ [])))
              (add_file bodies (rows_of t.files) held h.pooled printed (record { path = e.0; body = body }) e.1
              (found_body bodies e.1 body up (sym (ap (body_with e.1) h.same) ∙ is)) free);
        }

    pub put_all : (t : Tables) (old new : PoolWith Print) (added_files removed_files : List PoolFile) → IsChange old new (map pair_of added_files) (map pair_of removed_files)
        → AllByRecursion (λ f. IsTrue (is_some (body_with f.print bodies))) added_files
        → PoolShows bodies t (without old (map pair_of removed_files)) → PoolShows bodies (fold (λ now f. with_pooled f now) t added_files) new
    unfolding with_all
    put_all t old new added_files removed_files step arrived h =
        subst₂ (PoolShows bodies) (fold-map put_in pair_of t added_files) (sym step.made)
        (along_puts text_order_total (PoolShows bodies) HasBody put_in put_one t (without old (map pair_of removed_files)) (map pair_of added_files) step.put_in_order
        (all_map HasBody pair_of added_files arrived)
        (recursion_from_All (λ (e : List ℕ × Print). get (without old (map pair_of removed_files)) e.0 ≡ None) (map pair_of added_files) step.absent) h)

pub pooled : (t : Tables) (shown : ShelvesValue) → AreFiles t shown → Pooled t.bodies (rows_of t.files) (pool shown)
unfolding has_body
pooled t shown h = record {
  are = h.are;
  bodies_there = recursion_from_All (λ (f : File). is_body t.bodies f.body ≡ true) (rows_of t.files) h.bodies;
  apart = ascending_from_pairs (λ (f g : File). f.path ≢ g.path) (rows_of t.files) h.apart;
}

pub files_are : (t : Tables) (shown : ShelvesValue) → Pooled t.bodies (rows_of t.files) (pool shown) → AreFiles t shown
unfolding has_body
files_are t shown h = record {
  are = h.are;
  bodies = All-from_recursion (λ (f : File). is_body t.bodies f.body ≡ true) (rows_of t.files) h.bodies_there;
  apart = pairs_from_ascending (λ (f g : File). f.path ≢ g.path) (rows_of t.files) h.apart;
}

-- each body has a print
pub all_printed : (t : Tables) → AreStored t → AllByRecursion (λ x. x.1.print ≢ None) t.bodies
all_printed t h = recursion_from_All (λ (x : ℕ × BodyRow). x.1.print ≢ None) t.bodies (λ k d lt none. let some = h.whole k d lt in cc)

-- ---- the whole plan

-- only the rows of items, of their files and of the pool differ
pub record OnlyShown (t u : Tables) : Type 0 where
  pub is : u ≡ record t { items = u.items; refs = u.refs; files = u.files }

pub others_kept : (t u : Tables) → OnlyShown t u → KeepsOthers t u
others_kept t u h = record {
  meta = ap (λ (v : Tables). v.meta) h.is;
  bodies = ap (λ (v : Tables). v.bodies) h.is;
  pieces = ap (λ (v : Tables). v.pieces) h.is;
  arrivals = ap (λ (v : Tables). v.arrivals) h.is;
  uploads = ap (λ (v : Tables). v.uploads) h.is;
  wants = ap (λ (v : Tables). v.wants) h.is;
  texts = ap (λ (v : Tables). v.texts) h.is;
  dates = ap (λ (v : Tables). v.dates) h.is;
}

module _ (suites : List Suite) (t : Tables) (plan : Plan) where
  abbrev after_dropped : Tables
  after_dropped = fold (λ now e. without_shown suites e now) t plan.dropped

  abbrev after_put : Tables
  after_put = fold (λ now e. with_shown suites e now) after_dropped plan.put

  abbrev after_removed : Tables
  after_removed = fold (λ now f. without_file f.path now) after_put plan.files_removed

  abbrev after_added : Tables
  after_added = fold (λ now f. with_pooled f now) after_removed plan.files_added

  plan_is : with_plan suites plan t ≡ after_added
  unfolding with_plan
  plan_is = refl

  items_changed : after_put ≡ items_from t after_put
  items_changed =
      part_changed items_from (λ u. refl) (λ u v w. refl) (λ now e. with_shown suites e now) (filled_part suites) plan.put after_dropped
      ∙ ap (λ u. items_from u after_put) (part_changed items_from (λ u. refl) (λ u v w. refl) (λ now e. without_shown suites e now) (emptied_part suites) plan.dropped t)

  files_changed : after_added ≡ files_from after_put after_added
  files_changed =
      part_changed files_from (λ u. refl) (λ u v w. refl) (λ now f. with_pooled f now) pooled_part plan.files_added after_removed
      ∙ ap (λ u. files_from u after_added) (part_changed files_from (λ u. refl) (λ u v w. refl) (λ now f. without_file f.path now) (λ u f. refl) plan.files_removed after_put)

  only_shown : OnlyShown t after_added
  only_shown = record {
    is =
        files_changed
        ∙ ap (λ u. files_from u after_added) items_changed
        ∙ ap (λ items. record t { items = items; refs = after_put.refs; files = after_added.files }) (sym (ap (λ (u : Tables). u.items) files_changed))
        ∙ ap (λ refs. record t { items = after_added.items; refs = refs; files = after_added.files }) (sym (ap (λ (u : Tables). u.refs) files_changed));
  }

-- a plan leaves the other rows, also if it cannot be made
pub plan_changes : (suites : List Suite) (t : Tables) (plan : Plan) → OnlyShown t (with_plan suites plan t)
plan_changes suites t plan = subst (OnlyShown t) (sym (plan_is suites t plan)) (only_shown suites t plan)

pub plan_keeps : (suites : List Suite) (t : Tables) (plan : Plan) → KeepsOthers t (with_plan suites plan t)
plan_keeps suites t plan = others_kept t (with_plan suites plan t) (plan_changes suites t plan)

pub planned_rows : (t : Tables) (suites : List Suite) (shown after : ShelvesValue) (plan : Plan) → MayPlan t suites shown after plan
    → IsPlanned t (with_plan suites plan t) suites (applied shown plan)
planned_rows t suites shown after plan h = subst (λ u. IsPlanned t u suites (applied shown plan)) (sym (plan_is suites t plan)) (record {
  items = items_are new suites (applied shown plan) shows_items;
  files = files_are new (applied shown plan) shows_files;
  numbered = record {
    bodies = subst Rises (sym others.bodies) h.numbered.bodies;
    arrivals = subst Rises (sym others.arrivals) h.numbered.arrivals;
    uploads = subst Rises (sym others.uploads) h.numbered.uploads;
    items = shows_items.rise;
  };
  others = others;
})
  where
    emptied_tables : Tables
    emptied_tables = after_dropped suites t plan

    filled_tables : Tables
    filled_tables = after_put suites t plan

    new : Tables
    new = after_added suites t plan

    others : KeepsOthers t new
    others = others_kept t new (only_shown suites t plan)

    dropped_inside : AllByRecursion (IsInside suites h.codenames) plan.dropped
    dropped_inside = recursion_from_All (IsInside suites h.codenames) plan.dropped (λ k d lt. h.items.within _ _ (h.step.items.gone k d lt).0)

    shows_emptied : Shows suites h.codenames emptied_tables (without shown plan.dropped)
    shows_emptied = emptied suites h.codenames t shown plan.dropped dropped_inside (shelved t suites shown h.numbered h.items)

    shows_filled : Shows suites h.codenames filled_tables (applied shown plan)
    shows_filled = filled suites h.codenames emptied_tables shown plan.put plan.dropped after h.step.items (recursion_from_All (IsInside suites h.codenames) plan.put h.inside) shows_emptied

    shows_items : Shows suites h.codenames new (applied shown plan)
    shows_items = subst₂ (λ items refs. Shelved suites items (rows_of refs) (applied shown plan))
        (sym (ap (λ (u : Tables). u.items) (files_changed suites t plan))) (sym (ap (λ (u : Tables). u.refs) (files_changed suites t plan))) shows_filled

    start : PoolShows t.bodies filled_tables (pool shown)
    start = record {
      same = ap (λ (u : Tables). u.bodies) (items_changed suites t plan);
      pooled = subst (λ files. Pooled t.bodies (rows_of files) (pool shown)) (sym (ap (λ (u : Tables). u.files) (items_changed suites t plan))) (pooled t shown h.files);
    }

    pool_shows : PoolShows t.bodies new (pool after)
    pool_shows = put_all t.bodies h.numbered.bodies (all_printed t h.bodies) (after_removed suites t plan) (pool shown) (pool after) plan.files_added plan.files_removed h.step.files
        (recursion_from_All (λ (f : PoolFile). IsTrue (is_some (body_with f.print t.bodies))) plan.files_added h.arrived)
        (taken_all t.bodies filled_tables (pool shown) plan.files_removed start)

    shows_files : Pooled new.bodies (rows_of new.files) (pool (applied shown plan))
    shows_files = subst₂ (λ bodies held. Pooled bodies (rows_of new.files) held) (sym pool_shows.same) (ap pool h.step.items.made) pool_shows.pooled
