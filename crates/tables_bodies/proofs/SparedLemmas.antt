-- If the body of each file that a change takes away has arrived, each body is still used, and a sweep takes none away.
use Rattle.std.proofs.Common.{◌≡◌, ◌≢◌, ℕ, ◌+◌, ◌<◌, ◌&&◌, Bool, true, false, not, if◌then◌else◌, nat_eq, bytes_eq, List, [], ◌∷◌, find, fold, length, drop, get_or, AllPairs, Contains, Option, Some, None, inl, inr, IsTrue, Result, Ok, Err, IfOk, OnErr, refl, sym, ap, ap₂, subst, ◌∙◌, arith}
use Rattle.std.specs.Prelude.{⊤}
use Rattle.std.proofs.Math.Logic.{∥∥₁_elim}
use Rattle.std.proofs.Props.{props}
use Rattle.std.specs.List.{AllByRecursion, enumerate_from, list_all, list_any}
use Rattle.std.specs.Option.{option_map_or}
use Rattle.std.proofs.lemmas.Bool.{and_parts, both_ways, eq-eqb, eqb-true, or_cases, or_left}
use Rattle.std.proofs.lemmas.List.{drop_more}
use Rattle.std.proofs.lemmas.List.Elements.{recursion_from_All}
use Rattle.std.proofs.lemmas.List.Folds.{list_any-append}
use Rattle.std.proofs.lemmas.Slice.Eq.{bytes_eq-Decides}
use Rattle.sqlite_keyed.proofs.ListLemmas.{all_of, all_weaker, any_from_none, filter_all, none_from_any}
use Rattle.sqlite.specs.Effect.{Database}
use Rattle.sqlite.specs.State.{State, HasCleanDisk, IsUnchanged, Survives}
use Rattle.sqlite.proofs.StateLemmas.{survives_then}
use Rattle.rules.specs.Values.{ConfigValue}
use Rattle.rules.specs.declared.suite.Suite.{Suite}
use Rattle.sums.proofs.Members.{all_true, any_some, by_name, any_true}
use Rattle.sums.proofs.Words.{list_any-map}
use Rattle.suites.specs.Shelves.{ShelvesValue}
use Rattle.suites.specs.declared.item.Item as shelf
use Rattle.suites.specs.declared.item.PoolFile.{PoolFile}
use Rattle.suites.specs.declared.key.ShelfKey.{ShelfKey}
use Rattle.suites.specs.declared.plan.Plan.{Plan}
use Rattle.indices.specs.Stanzas.{file_name}
use Rattle.book.proofs.Finds.{is_some_of_find}
use Rattle.book.specs.Scan.{some_touches}
use Rattle.book.specs.declared.change.Change.{Change}
use Rattle.book.specs.declared.change.IndexText.{IndexText}
use Rattle.book.specs.declared.change.Judgement.{Judgement}
use Rattle.book.specs.declared.change.Step.{Step}
use Rattle.tables.specs.Arrivals.{is_arrival}
use Rattle.tables.specs.Bodies.{body_with}
use Rattle.tables.specs.Dates.{with_new_date}
use Rattle.tables.specs.Files.{is_file_at, without_file}
use Rattle.tables.specs.Items.{without_item}
use Rattle.tables.specs.Pieces.{is_of}
use Rattle.tables.specs.Refs.{without_refs}
use Rattle.tables.specs.Rows.{Holds, IsArchive, Numbered, Tables, added, next_in, rows_of, tables_in, with_file, with_item, with_ref, without}
use Rattle.tables.specs.Texts.{with_new_text}
use Rattle.tables.specs.declared.rows.ArrivalRow.{ArrivalRow}
use Rattle.tables.specs.declared.rows.BodyRow.{BodyRow}
use Rattle.tables.specs.declared.rows.File.{File}
use Rattle.tables.specs.declared.rows.ItemRow.{ItemRow}
use Rattle.tables.specs.declared.rows.Piece.{Piece}
use Rattle.tables.proofs.BookLemmas.{tables_set}
use Rattle.tables_meaning.specs.Archives.{KeepsArchive}
use Rattle.tables_meaning.specs.Coming.{HasComing, with_coming}
use Rattle.tables_meaning.specs.Finished.{finished}
use Rattle.tables_meaning.specs.Kept.{IsBook, is_on, is_used, item_row, refs_for}
use Rattle.tables_meaning.specs.Making.{judged_by, takes_file, with_change, with_judged, with_new_dates, with_new_texts, with_plan, with_pooled, with_shown, with_step, with_steps, with_written, without_shown}
use Rattle.tables_meaning.specs.Reads.{Rests}
use Rattle.tables_meaning.specs.Sweeping.{swept}
use Rattle.tables_meaning.specs.Transactions.{IsUndone}
use Rattle.tables_meaning.proofs.BodyLemmas.{arrival_has, arrived_used, file_has, filed_used, found, none_found, rows_added, used_by}
use Rattle.tables_meaning.proofs.JudgedLemmas.{judged_others}
use Rattle.tables_meaning.proofs.PassingLemmas.{bodies_left, passes_written}
use Rattle.tables_meaning.proofs.ReadCalls.{database_set}
use Rattle.tables_meaning.proofs.ReadsLemmas.{undone_after, undone_if_rested}
use Rattle.tables_meaning.proofs.RowLists.{any_kept}
use Rattle.tables_bodies.specs.Swept.{has_arrived, has_arrived_under, have_all_arrived, have_arrived, needs_sweep, with_made}

-- ---- what is left of a list decides whether all pass

module _ {X : Type 0} (p : X → Bool) (xs : List X) (i : ℕ) (x : X) (within : i < length xs) (at : x ≡ get_or xs i x) (left : list_all p (drop i xs) ≡ list_all p xs) where
  with_next : (b : Bool) → b ≡ p x → (b && list_all p (drop (i + 1) xs)) ≡ list_all p xs
  with_next b is = (λ j. (is ∙ ap p at) j && list_all p (drop (i + 1) xs)) ∙ ap (list_all p) (sym (drop_more xs i x within)) ∙ left

  pub all_next : (b : Bool) → b ≡ p x → b ≡ true → list_all p (drop (i + 1) xs) ≡ list_all p xs
  all_next b is passes = ap (λ c. c && list_all p (drop (i + 1) xs)) (sym passes) ∙ with_next b is

  pub all_fails : (b : Bool) → b ≡ p x → b ≡ false → false ≡ list_all p xs
  all_fails b is fails = ap (λ c. c && list_all p (drop (i + 1) xs)) (sym fails) ∙ with_next b is

-- ---- what a change leaves of arrivals and files

-- What holds of arrivals and files, and stays so if a file comes, or if a file goes whose path is one of these.
module _ (Q : Numbered ArrivalRow → Numbered File → Type 0) (May : List ℕ → Type 0)
    (comes : (arrivals : Numbered ArrivalRow) (files : Numbered File) (f : File) → Q arrivals files → Q arrivals (added files f))
    (goes : (arrivals : Numbered ArrivalRow) (files : Numbered File) (path : List ℕ) → May path → Q arrivals files → Q arrivals (without (λ x. is_file_at path x.1) files)) where
  abbrev Stays : (Tables → Tables) → Type 0
  Stays f = (t : Tables) → Q t.arrivals t.files → Q (f t).arrivals (f t).files

  stays_fold : {X : Type 0} (f : Tables → X → Tables) → ((x : X) → Stays (λ t. f t x)) → (xs : List X) → Stays (λ t. fold f t xs)
  stays_fold f each [] = λ t h. h
  stays_fold f each (x ∷ xs) = λ t h. stays_fold f each xs (f t x) (each x t h)

  stays_dropped : (suites : List Suite) (e : ShelfKey × shelf.Item) → Stays (without_shown suites e)
  unfolding without_shown
  stays_dropped suites e t = go (find (is_on suites e.0) t.items)
    where
      go : (o : Option (ℕ × ItemRow)) → Q t.arrivals t.files
          → Q (option_map_or (λ x. without_item x.0 (without_refs x.0 t)) o t).arrivals (option_map_or (λ x. without_item x.0 (without_refs x.0 t)) o t).files
      go None = λ h. h
      go (Some x) = λ h. h

  stays_put : (suites : List Suite) (e : ShelfKey × shelf.Item) → Stays (with_shown suites e)
  unfolding with_shown
  stays_put suites e t h = stays_fold (λ now r. with_ref r now) (λ r now h. h) (refs_for (next_in t.items) e.1) (with_item (item_row suites e) t) h

  stays_pooled : (f : PoolFile) → Stays (with_pooled f)
  unfolding with_pooled
  stays_pooled f t = go (body_with f.print t.bodies)
    where
      go : (o : Option ℕ) → Q t.arrivals t.files
          → Q (option_map_or (λ body. with_file (record { path = f.path; body = body }) t) o t).arrivals (option_map_or (λ body. with_file (record { path = f.path; body = body }) t) o t).files
      go None = λ h. h
      go (Some body) = comes t.arrivals t.files (record { path = f.path; body = body })

  stays_removed : (fs : List PoolFile) → AllByRecursion (λ f. May f.path) fs → Stays (λ t. fold (λ now f. without_file f.path now) t fs)
  stays_removed [] may = λ t h. h
  stays_removed (f ∷ fs) may = λ t h. stays_removed fs may.1 (without_file f.path t) (goes t.arrivals t.files f.path may.0 h)

  stays_plan : (suites : List Suite) (plan : Plan) → AllByRecursion (λ f. May f.path) plan.files_removed → Stays (with_plan suites plan)
  unfolding with_plan
  stays_plan suites plan may t h =
      let dropped : Tables = fold (λ (now : Tables) (e : ShelfKey × shelf.Item). without_shown suites e now) t plan.dropped in
      let put : Tables = fold (λ (now : Tables) (e : ShelfKey × shelf.Item). with_shown suites e now) dropped plan.put in
      let removed : Tables = fold (λ (now : Tables) (f : PoolFile). without_file f.path now) put plan.files_removed in
      stays_fold (λ now f. with_pooled f now) stays_pooled plan.files_added removed
      (stays_removed plan.files_removed may put
      (stays_fold (λ now e. with_shown suites e now) (stays_put suites) plan.put dropped
      (stays_fold (λ now e. without_shown suites e now) (stays_dropped suites) plan.dropped t h)))

  stays_judged : (place : ℕ) (j : Judgement) → Stays (with_judged place j)
  stays_judged place j t h = let same = judged_others place j t in subst (λ (both : Numbered ArrivalRow × Numbered File). Q both.0 both.1) (λ i. (sym same.arrivals i, sym same.files i)) h

  stays_step : (suites : List Suite) (judged : ℕ) (step : Step) → AllByRecursion (λ f. May f.path) step.plan.files_removed → Stays (with_step suites judged step)
  unfolding with_step
  stays_step suites judged step may t h = stays_plan suites step.plan may (option_map_or (λ j. with_judged (judged + 1) j t) step.judgement t) (before step.judgement)
    where
      before : (o : Option Judgement) → Q (option_map_or (λ j. with_judged (judged + 1) j t) o t).arrivals (option_map_or (λ j. with_judged (judged + 1) j t) o t).files
      before None = h
      before (Some j) = stays_judged (judged + 1) j t h

  stays_steps : (suites : List Suite) (judged : ℕ) (steps : List Step) → AllByRecursion (λ s. AllByRecursion (λ f. May f.path) s.plan.files_removed) steps → Stays (with_steps suites judged steps)
  stays_steps suites judged [] may = λ t h. h
  stays_steps suites judged (step ∷ steps) may = λ t h. stays_steps suites (judged_by judged step) steps may.1 (with_step suites judged step t) (stays_step suites judged step may.0 t h)

  stays_texts : (texts : List IndexText) → Stays (with_new_texts texts)
  stays_texts texts = stays_fold (λ now x. with_new_text x.path x.text now) (λ x t h. h) texts

  stays_dates : (suites : List Suite) (moment : ℕ) (steps : List Step) → Stays (with_new_dates suites moment steps)
  stays_dates suites moment steps =
      stays_fold (λ now (s : ℕ × Suite). if some_touches s.0 steps then with_new_date s.1.codename moment now else now)
      (λ s t. dated s t (some_touches s.0 steps)) (enumerate_from 0 suites)
    where
      dated : (s : ℕ × Suite) (t : Tables) (b : Bool) → Q t.arrivals t.files
          → Q (if b then with_new_date s.1.codename moment t else t).arrivals (if b then with_new_date s.1.codename moment t else t).files
      dated s t true = λ h. h
      dated s t false = λ h. h

  stays_written : (config : ConfigValue) (judged : ℕ) (change : Change) → AllByRecursion (λ s. AllByRecursion (λ f. May f.path) s.plan.files_removed) change.steps → Stays (with_written config judged change)
  unfolding with_written
  stays_written config judged change may t h =
      let stepped : Tables = with_steps config.suites judged change.steps t in
      stays_dates config.suites change.moment change.steps (with_new_texts change.texts stepped)
      (stays_texts change.texts stepped (stays_steps config.suites judged change.steps may t h))

-- ---- a file that no step takes away

module _ (path : List ℕ) (id : ℕ) where
  abbrev is_it : File → Bool
  is_it f = bytes_eq f.path path && nat_eq f.body id

  abbrev Stands : Numbered ArrivalRow → Numbered File → Type 0
  Stands arrivals files = list_any is_it (rows_of files) ≡ true

  stands_beside : (arrivals : Numbered ArrivalRow) (files : Numbered File) (f : File) → Stands arrivals files → Stands arrivals (added files f)
  stands_beside arrivals files f h =
      ap (list_any is_it) (rows_added files f) ∙ list_any-append is_it (rows_of files) (f ∷ []) ∙ or_left (list_any is_it (rows_of files)) (list_any is_it (f ∷ [])) h

  other_path : (other : List ℕ) → bytes_eq other path ≡ false → (f : File) → is_file_at other f ≡ true → is_it f ≡ false
  other_path other apart f at =
      ap (λ b. b && nat_eq f.body id) (ap (λ p. bytes_eq p path) ((bytes_eq-Decides f.path other).0 at) ∙ apart)

  stands_without : (arrivals : Numbered ArrivalRow) (files : Numbered File) (other : List ℕ) → bytes_eq other path ≡ false → Stands arrivals files → Stands arrivals (without (λ x. is_file_at other x.1) files)
  stands_without arrivals files other apart h =
      list_any-map (λ x. x.1) is_it (without (λ x. is_file_at other x.1) files)
      ∙ any_kept (λ x. is_it x.1) (λ x. is_file_at other x.1) files (λ x. other_path other apart x.1) (sym (list_any-map (λ x. x.1) is_it files) ∙ h)

-- the step takes the file at this path away
abbrev takes_path : List ℕ → Step → Bool
takes_path path step = list_any (λ f. bytes_eq f.path path) step.plan.files_removed

-- ---- each body is still used

module _ (config : ConfigValue) (judged : ℕ) (change : Change) (t : Tables) (apart : AllPairs (λ f g. f.path ≢ g.path) (rows_of t.files))
    (arrived : have_all_arrived t change.steps ≡ true) where
  abbrev made : Tables
  made = with_written config judged change t

  arrivals_stay : made.arrivals ≡ t.arrivals
  arrivals_stay =
      stays_written (λ arrivals files. arrivals ≡ t.arrivals) (λ path. ⊤) (λ arrivals files f h. h) (λ arrivals files path may h. h) config judged change
      (all_of (λ s. AllByRecursion (λ f. ⊤) s.plan.files_removed) (λ s. all_of (λ f. ⊤) (λ f. tt) s.plan.files_removed) change.steps) t refl

  arrived_still : (id : ℕ) → arrival_has t id ≡ true → is_used made id ≡ true
  arrived_still id e = arrived_used made id (subst (λ l. list_any (λ (a : ArrivalRow). nat_eq a.body id) (rows_of l) ≡ true) (sym arrivals_stay) e)

  -- a file that stays
  filed_still : (x : File) → Contains (rows_of t.files) x → list_any (takes_path x.path) change.steps ≡ false → is_used made x.body ≡ true
  filed_still x there none =
      let may : AllByRecursion (λ s. AllByRecursion (λ f. bytes_eq f.path x.path ≡ false) s.plan.files_removed) change.steps =
      all_weaker (λ s. takes_path x.path s ≡ false) (λ s. AllByRecursion (λ f. bytes_eq f.path x.path ≡ false) s.plan.files_removed)
      (λ s none. none_from_any (λ f. bytes_eq f.path x.path) s.plan.files_removed none) change.steps (none_from_any (takes_path x.path) change.steps none) in
      let itself : is_it x.path x.body x ≡ true = ap₂ ◌&&◌ ((bytes_eq-Decides x.path x.path).1 refl) (eq-eqb x.body x.body refl) in
      let stands : list_any (is_it x.path x.body) (rows_of made.files) ≡ true =
      stays_written (Stands x.path x.body) (λ path. bytes_eq path x.path ≡ false) (stands_beside x.path x.body) (stands_without x.path x.body) config judged change may t
      (any_true (is_it x.path x.body) (rows_of t.files) x there itself) in
      let row = any_some (is_it x.path x.body) (rows_of made.files) stands in
      filed_used made x.body (any_true (λ f. nat_eq f.body x.body) (rows_of made.files) row.0 row.1 (and_parts (bytes_eq row.0.path x.path) (nat_eq row.0.body x.body) row.2).1)

  -- the arrival that is found is one of this body
  arrival_found : (path : List ℕ) (id : ℕ) → has_arrived_under t path id ≡ true → arrival_has t id ≡ true
  arrival_found path id e =
      let a = any_some (λ x. is_arrival (file_name path) id x.1) t.arrivals (sym (is_some_of_find (λ x. is_arrival (file_name path) id x.1) t.arrivals) ∙ e) in
      list_any-map (λ x. x.1) (λ a. nat_eq a.body id) t.arrivals
      ∙ any_true (λ x. nat_eq x.1.body id) t.arrivals a.0 a.1 (and_parts (bytes_eq a.0.1.name (file_name path)) (nat_eq a.0.1.body id) a.2).1

  -- the body of a file that is found at its path
  found_arrived : (x : File) → Contains (rows_of t.files) x → (o : Option File) → find (is_file_at x.path) (rows_of t.files) ≡ o
      → option_map_or (λ f. has_arrived_under t x.path f.body) o true ≡ true → arrival_has t x.body ≡ true
  found_arrived x there None none e = absurd (both_ways (bytes_eq x.path x.path) (none_found (is_file_at x.path) (rows_of t.files) none x there) ((bytes_eq-Decides x.path x.path).1 refl))
  found_arrived x there (Some f) is e =
      let it = found (is_file_at x.path) (rows_of t.files) f is in
      let same : f ≡ x = by_name (λ (g : File). g.path) (rows_of t.files) f x apart it.within there ((bytes_eq-Decides f.path x.path).0 it.passes) in
      arrival_found x.path x.body (ap (λ (g : File). has_arrived_under t x.path g.body) (sym same) ∙ e)

  -- a file that goes
  gone_still : (x : File) → Contains (rows_of t.files) x → list_any (takes_path x.path) change.steps ≡ true → arrival_has t x.body ≡ true
  unfolding has_arrived
  gone_still x there takes =
      let step = any_some (takes_path x.path) change.steps takes in
      let file = any_some (λ f. bytes_eq f.path x.path) step.0.plan.files_removed step.2 in
      let path : file.0.path ≡ x.path = (bytes_eq-Decides file.0.path x.path).0 file.2 in
      let all : have_arrived t step.0.plan.files_removed ≡ true = all_true (λ s. have_arrived t s.plan.files_removed) change.steps step.0 arrived step.1 in
      let one : has_arrived t file.0.path ≡ true = all_true (λ f. has_arrived t f.path) step.0.plan.files_removed file.0 all file.1 in
      found_arrived x there (find (is_file_at x.path) (rows_of t.files)) refl (ap (has_arrived t) (sym path) ∙ one)

  file_still : (x : File) → Contains (rows_of t.files) x → (b : Bool) → list_any (takes_path x.path) change.steps ≡ b → is_used made x.body ≡ true
  file_still x there true takes = arrived_still x.body (gone_still x there takes)
  file_still x there false none = filed_still x there none

  used_still : (id : ℕ) → is_used t id ≡ true → is_used made id ≡ true
  used_still id used = elim (or_cases (arrival_has t id) (file_has t id) (sym (used_by t id) ∙ used)) [
    | inl e ↦ arrived_still id e
    | inr e ↦
        let x = any_some (λ (f : File). nat_eq f.body id) (rows_of t.files) e in
        subst (λ n. is_used made n ≡ true) (eqb-true x.0.body id x.2) (file_still x.0 x.1 (list_any (takes_path x.0.path) change.steps) refl)
  ]

-- ---- a sweep takes nothing away

module _ (u : Tables) (used : AllByRecursion (λ x. is_used u x.0 ≡ true) u.bodies) where
  none_goes : (p : Piece) → list_any (λ x. not (is_used u x.0) && is_of x.0 p) u.bodies ≡ false
  none_goes p =
      any_from_none (λ x. not (is_used u x.0) && is_of x.0 p) u.bodies
      (all_weaker (λ x. is_used u x.0 ≡ true) (λ x. (not (is_used u x.0) && is_of x.0 p) ≡ false) (λ x is. ap (λ b. not b && is_of x.0 p) is) u.bodies used)

  swept_used : swept u ≡ u
  unfolding swept
  swept_used =
      let bodies = filter_all (λ x. not (not (is_used u x.0))) u.bodies (all_weaker (λ x. is_used u x.0 ≡ true) (λ x. not (not (is_used u x.0)) ≡ true) (λ x is. ap (λ b. not (not b)) is) u.bodies used) in
      let pieces = filter_all (λ p. not (list_any (λ x. not (is_used u x.0) && is_of x.0 p.1) u.bodies)) u.pieces
      (all_of (λ p. not (list_any (λ x. not (is_used u x.0) && is_of x.0 p.1) u.bodies) ≡ true) (λ p. ap not (none_goes p.1)) u.pieces) in
      λ i. record u { bodies = bodies i; pieces = pieces i }

chosen : {X : Type 0} (x y : X) (takes whole arrived : Bool) → (whole ≡ true → arrived ≡ true → x ≡ y) → (if takes && not (whole && arrived) then x else y) ≡ (if takes then x else y)
chosen x y false whole arrived same = refl
chosen x y true false arrived same = refl
chosen x y true true false same = refl
chosen x y true true true same = sym (same refl refl)

-- nothing is coming: the rows are the finished ones
all_finished : (t : Tables) → ∥ HasComing t [] ∥₁ → finished t ≡ t
unfolding with_coming
all_finished t coming = ∥∥₁_elim coming (tables_set _ _) (λ h. sym h.rows)

-- What is made with a sweep if it is needed, and otherwise without one, is the change.
pub made_as_needed : (db : Database) (config : ConfigValue) (prior : List Judgement) (shown : ShelvesValue) (dates : List ℕ) → KeepsArchive db config prior shown dates
    → (whole : Bool) → (whole ≡ true → ∥ HasComing (tables_in db) [] ∥₁) → (judged : ℕ) (change : Change)
    → with_made (needs_sweep (tables_in db) whole change.steps) config judged change (tables_in db) ≡ with_change config judged change (tables_in db)
unfolding with_change
made_as_needed db config prior shown dates keeps whole nothing judged change =
    chosen (swept (with_written config judged change (tables_in db))) (with_written config judged change (tables_in db)) (list_any takes_file change.steps) whole (have_all_arrived (tables_in db) change.steps) stays
  where
    stays : whole ≡ true → have_all_arrived (tables_in db) change.steps ≡ true → swept (with_written config judged change (tables_in db)) ≡ with_written config judged change (tables_in db)
    stays free arrived =
        let t : Tables = tables_in db in
        let after : Tables = with_written config judged change t in
        let kept : IsBook t config prior shown dates = subst (λ u. IsBook u config prior shown dates) (all_finished t (nothing free)) keeps.kept in
        let used : AllByRecursion (λ x. is_used after x.0 ≡ true) t.bodies =
        all_weaker (λ x. is_used t x.0 ≡ true) (λ x. is_used after x.0 ≡ true) (λ x. used_still config judged change t kept.files.apart arrived x.0) t.bodies
        (recursion_from_All (λ x. is_used t x.0 ≡ true) t.bodies kept.bodies.used) in
        swept_used after (subst (λ (bodies : Numbered BodyRow). AllByRecursion (λ x. is_used after x.0 ≡ true) bodies) (sym (bodies_left (with_written config judged change) (passes_written config judged change) t)) used)

-- ---- a look at a database that serves

module _ (a b c : State) (same : HasCleanDisk b → IsUnchanged a b) (settled : IsTrue a.is_open → a.now ≡ a.committed) where
  pub looked_undone : {E : Type 0} (P : Tables → Bool → Type 0) → HasCleanDisk b → (IsTrue a.is_open → ∥ IsArchive a.committed ∥₁) → (r : Result Bool E)
      → ((t : Tables) → Holds b.now t → IfOk r (λ x. P t x × Rests b c)) → ((t : Tables) → Holds b.now t → OnErr r (IsUndone b c)) → IsUndone a c
  looked_undone {E} P clean archive r read failed =
      let s = same clean in
      let from : IsArchive a.committed → IsUndone a c = λ is.
      let held : Holds b.now (tables_in a.committed) = subst (λ db. Holds db (tables_in a.committed)) (sym (s.0.now_is ∙ settled s.0.was_open)) is in
      undone_after a b c s (either (P (tables_in a.committed)) r (read (tables_in a.committed) held) (failed (tables_in a.committed) held)) in
      record {
        was_open = λ up. s.0.was_open;
        committed = λ up. ∥∥₁_elim (archive s.0.was_open) (database_set _ _) (λ is. (from is).committed up);
      }
    where
      either : (Q : Bool → Type 0) (r : Result Bool E) → IfOk r (λ x. Q x × Rests b c) → OnErr r (IsUndone b c) → IsUndone b c
      either Q (Ok x) ok err = undone_if_rested b c ok.1
      either Q (Err e) ok err = err

  pub looked_survives : (HasCleanDisk a → IsTrue a.is_open → ∥ IsArchive a.committed ∥₁) → Survives a b (λ _. ⊥) → Survives b c (λ _. (t : Tables) → ¬ Holds b.now t) → Survives a c (λ _. ⊥)
  looked_survives archive one two =
      survives_then a b c _ _ _ (λ clean db none. none)
      (λ clean db other.
      let early : HasCleanDisk b = omega (arith, two.clean, clean) in
      let first : HasCleanDisk a = omega (arith, one.clean, early) in
      let s = same early in
      ∥∥₁_elim (archive first s.0.was_open) (hlevel props)
      (λ is. other (tables_in a.committed) (subst (λ db. Holds db (tables_in a.committed)) (sym (s.0.now_is ∙ settled s.0.was_open)) is)))
      one two
