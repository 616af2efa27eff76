-- How the parts of a change join inside their transaction.
use Rattle.std.proofs.Common.{◌≡◌, inl, inr, ℕ, ◌+◌, ◌<◌, ◌≤◌, true, false, if◌then◌else◌, List, [], ◌∷◌, ◌++◌, find, take, length, get_or, fold, All, Option, Some, None, is_some, Result, Ok, Err, IfErr, OnErr, OnOk, IsTrue, refl, sym, ap, subst, ◌∙◌, arith}
use Rattle.std.specs.List.{enumerate_from, list_any}
use Rattle.std.specs.Option.{option_map_or}
use Rattle.std.proofs.lemmas.List.{take_all, take_more, get_or-map, length-map}
use Rattle.std.proofs.lemmas.List.FromFn.{get_or-enumerate_from, length-enumerate_from}
use Rattle.std.proofs.lemmas.List.Elements.{All-append, All-cons, All-nil}
use Rattle.std.proofs.lemmas.List.Sums.{fold_more}
use Rattle.sqlite.specs.declared.error.Error.{Error}
use Rattle.sqlite.specs.State.{State, HasCleanDisk, KeepsCommit, IsUnchanged, IsRolledBack, IsNotRun, Shows, Survives}
use Rattle.sqlite.specs.Order.{Row}
use Rattle.sqlite.specs.Steps.{FailsToCommit}
use Rattle.sqlite.specs.Store.{Ghosts}
use Rattle.sqlite.specs.Held.{Held, state}
use Rattle.sqlite.proofs.StateLemmas.{survives_then}
use Rattle.sqlite.proofs.Callers.{survives_begin}
use Rattle.rules.specs.Values.{ConfigValue}
use Rattle.rules.specs.Verdicts.{number_of}
use Rattle.rules.specs.declared.suite.Suite.{Suite}
use Rattle.suites.specs.declared.item.Item as shelf
use Rattle.suites.specs.declared.item.PoolFile.{PoolFile}
use Rattle.suites.specs.declared.key.ShelfKey.{ShelfKey}
use Rattle.suites.specs.declared.plan.Plan.{Plan}
use Rattle.book.specs.declared.change.Change.{Change}
use Rattle.book.specs.declared.change.Judgement.{Judgement}
use Rattle.book.specs.declared.change.Step.{Step}
use Rattle.tables.specs.Bodies.{body_with}
use Rattle.tables.specs.Files.{without_file}
use Rattle.tables.specs.Items.{without_item}
use Rattle.tables.specs.Refs.{without_refs}
use Rattle.tables.specs.Rows.{Tables, Numbered, Holds, Changes, next_in, with_file, with_item, with_ref}
use Rattle.tables.specs.Uploads.{is_upload, with_verdict}
use Rattle.tables.specs.Wants.{without_wants}
use Rattle.tables.specs.declared.rows.BodyRow.{BodyRow}
use Rattle.tables.specs.declared.rows.Ref.{Ref}
use Rattle.tables.specs.declared.rows.UploadRow.{UploadRow}
use Rattle.tables.specs.declared.rows.ItemRow.{ItemRow}
use Rattle.tables.proofs.TransactionLemmas.{keeps_if_changed, keeps_if_undone, keeps_then}
use Rattle.tables_meaning.specs.Kept.{is_on, item_row, refs_for, ref_for}
use Rattle.tables_meaning.specs.Making.{judged_by, takes_file, with_change, with_judged, with_new_dates, with_new_texts, with_plan, with_pooled, with_refs, with_shown, with_step, with_steps, with_written, without_shown}
use Rattle.tables_meaning.specs.Sweeping.{swept}
use Rattle.tables_meaning.specs.Amending.{HasBodies, Makes}
use Rattle.tables_meaning.specs.Transactions.{IsDone, IsUndone, MayCommit}

-- ---- parts

module _ (a b c : State) where
  pub makes_then : (f g : Tables → Tables) → Makes a b f → Makes b c g → Makes a c (λ t. g (f t))
  makes_then f g p q = record { held = λ t was. q.held (f t) (p.held t was); kept = keeps_then a b c p.kept q.kept; mode = q.mode; stays = λ up. q.stays (p.stays up) }

  pub survives_both : Survives a b (λ _. ⊥) → Survives b c (λ _. ⊥) → Survives a c (λ _. ⊥)
  survives_both = survives_then a b c (λ _. ⊥) (λ _. ⊥) (λ _. ⊥) (λ _ db none. none) (λ _ db none. none)

module _ (a b : State) where
  pub makes_if_changed : (f : Tables → Tables) → Changes a b f → Makes a b f
  makes_if_changed f h = record { held = h.held; kept = keeps_if_changed a b f h; mode = h.shown.mode; stays = λ _. h.shown.is_open }

  pub makes_as : (f g : Tables → Tables) → ((t : Tables) → Holds a.now t → f t ≡ g t) → Makes a b f → Makes a b g
  makes_as f g same h = record { held = λ t was. subst (Holds b.now) (same t was) (h.held t was); kept = h.kept; mode = h.mode; stays = h.stays }

  -- a query changes nothing in the rows
  pub makes_by_read : Shows a b b.now a.committed true → ((t : Tables) → Holds a.now t → IsUnchanged a b) → Makes a b (λ t. t)
  makes_by_read shown same = record {
    held = λ t was. subst (λ db. Holds db t) (sym (same t was).0.now_is) was;
    kept = record { was_open = λ _. shown.was_open; committed = λ _. shown.committed_is };
    mode = shown.mode;
    stays = λ _. shown.is_open;
  }

  -- if the connection was open, all is as the transaction shows it
  pub changes_if_made : (f : Tables → Tables) → IsTrue a.is_open → Makes a b f → Changes a b f
  changes_if_made f up h = record {
    held = h.held;
    shown = record { was_open = up; is_open = h.stays up; now_is = refl; committed_is = h.kept.committed (h.stays up); mode = h.mode };
  }

pub whatever_ok : {X E P : Type 0} (r : Result X E) → P → OnOk r P
whatever_ok (Ok x) h = h
whatever_ok (Err e) h = tt

pub err_then : {X E P Q : Type 0} (r : Result X E) → OnErr r P → (P → Q) → OnErr r Q
err_then (Ok x) h f = tt
err_then (Err e) h f = f h

pub keeps_none : (a : State) → KeepsCommit a a
keeps_none a = record { was_open = λ up. up; committed = λ _. refl }

pub makes_none : (a : State) → IsTrue a.in_transaction → Makes a a (λ t. t)
makes_none a inside = record { held = λ t was. was; kept = keeps_none a; mode = inside; stays = λ up. up }

-- ---- loops

module _ {X : Type 0} (f : Tables → X → Tables) (xs : List X) where
  -- the fold over the first elements of the list, of this number
  abbrev pub so_far : ℕ → Tables → Tables
  so_far i t = fold f t (take i xs)

  pub one_more : (i : ℕ) (x : X) (a b c : State) → i < length xs → x ≡ get_or xs i x → Makes a b (so_far i) → Makes b c (λ t. f t x) → Makes a c (so_far (i + 1))
  one_more i x a b c within is p q = makes_as a c (λ t. f (so_far i t) x) (so_far (i + 1)) (λ t _. ap (f (so_far i t)) is ∙ sym (fold_more f t xs i x within)) (makes_then a b c (so_far i) (λ t. f t x) p q)

  pub all_made : (i : ℕ) (a b : State) → length xs ≤ i → Makes a b (so_far i) → Makes a b (λ t. fold f t xs)
  all_made i a b past h = makes_as a b (so_far i) (λ t. fold f t xs) (λ t _. ap (fold f t) (take_all i xs past)) h

pub all_more : {X : Type 0} (P : X → Type 0) (xs : List X) (i : ℕ) (x : X) → i < length xs → x ≡ get_or xs i x → All P (take i xs) → P x → All P (take (i + 1) xs)
all_more P xs i x within is all one = subst (All P) (sym (take_more xs i x within)) (All-append P (take i xs) (get_or xs i x ∷ []) all (subst (λ y. All P (y ∷ [])) is (All-cons P x [] one (All-nil P))))

pub all_of : {X : Type 0} (P : X → Type 0) (xs : List X) (i : ℕ) → length xs ≤ i → All P (take i xs) → All P xs
all_of P xs i past = subst (All P) (take_all i xs past)

-- ---- what was read

-- the rows with a judgement, by what the search for its upload found
pub judged_as : (place : ℕ) (j : Judgement) (t : Tables) (o : Option (ℕ × UploadRow)) → find (λ x. is_upload j.name j.print x.1) t.uploads ≡ o
    → option_map_or (λ x. without_wants x.0 (with_verdict x.0 place (number_of j.verdict) t)) o t ≡ with_judged place j t
unfolding with_judged
judged_as place j t o is = ap (λ o. option_map_or (λ x. without_wants x.0 (with_verdict x.0 place (number_of j.verdict) t)) o t) (sym is)

-- the rows without what stands on a shelf, by what the search for it found
pub taken_down : (suites : List Suite) (e : ShelfKey × shelf.Item) (t : Tables) (o : Option (ℕ × ItemRow)) → find (is_on suites e.0) t.items ≡ o
    → option_map_or (λ x. without_item x.0 (without_refs x.0 t)) o t ≡ without_shown suites e t
unfolding without_shown
taken_down suites e t o is = ap (λ o. option_map_or (λ x. without_item x.0 (without_refs x.0 t)) o t) (sym is)

pub put_as : (suites : List Suite) (e : ShelfKey × shelf.Item) (t : Tables) (id : ℕ) → id ≡ next_in t.items → with_refs (refs_for id e.1) (with_item (item_row suites e) t) ≡ with_shown suites e t
unfolding with_shown
put_as suites e t id is = ap (λ id. with_refs (refs_for id e.1) (with_item (item_row suites e) t)) is

pub pooled_as : (f : PoolFile) (t : Tables) (o : Option ℕ) → body_with f.print t.bodies ≡ o → option_map_or (λ body. with_file (record { path = f.path; body = body }) t) o t ≡ with_pooled f t
unfolding with_pooled
pooled_as f t o is = ap (λ o. option_map_or (λ body. with_file (record { path = f.path; body = body }) t) o t) (sym is)

-- ---- numbered lists

pub length_refs : (id : ℕ) (item : shelf.Item) → length (refs_for id item) ≡ length item.files
unfolding refs_for
length_refs id item = length-map (enumerate_from 1 item.files) (ref_for id) ∙ length-enumerate_from 1 item.files

pub numbered_at : {X : Type 0} (n : ℕ) (xs : List X) (i number : ℕ) (x : X) → i < length xs → x ≡ get_or xs i x → number ≡ n + i → (d : ℕ) → (number, x) ≡ get_or (enumerate_from n xs) i (d, x)
numbered_at n xs i number x within is place d = ap (λ m. (m, x)) place ∙ ap (λ y. (n + i, y)) is ∙ sym (get_or-enumerate_from n xs i (d, x) within)

pub ref_at : (id : ℕ) (item : shelf.Item) (i number : ℕ) (f : PoolFile) (r : Ref) → i < length item.files → f ≡ get_or item.files i f → number ≡ 1 + i → r ≡ ref_for id (number, f) → r ≡ get_or (refs_for id item) i r
unfolding refs_for
ref_at id item i number f r within is place are =
    are ∙ ap (ref_for id) (numbered_at 1 item.files i number f within is place 0)
    ∙ sym (get_or-map (ref_for id) (enumerate_from 1 item.files) i (0, f) r (omega (arith, length-enumerate_from 1 item.files, within)))

-- ---- steps

steps_last : (suites : List Suite) (n : ℕ) (xs : List Step) (s : Step) (t : Tables) → with_steps suites n (xs ++ s ∷ []) t ≡ with_step suites (fold judged_by n xs) s (with_steps suites n xs t)
steps_last suites n [] s t = refl
steps_last suites n (x ∷ xs) s t = steps_last suites (judged_by n x) xs s (with_step suites n x t)

pub steps_more : (suites : List Suite) (n : ℕ) (xs : List Step) (i : ℕ) (x : Step) → i < length xs → x ≡ get_or xs i x → (t : Tables)
    → with_step suites (fold judged_by n (take i xs)) x (with_steps suites n (take i xs) t) ≡ with_steps suites n (take (i + 1) xs) t
steps_more suites n xs i x within is t =
    ap (λ y. with_step suites (fold judged_by n (take i xs)) y (with_steps suites n (take i xs) t)) is ∙ sym (steps_last suites n (take i xs) (get_or xs i x) t)
    ∙ ap (λ ys. with_steps suites n ys t) (sym (take_more xs i x within))

-- ---- bodies stay

fold_keeps : {X Y : Type 0} (get : Tables → Y) (f : Tables → X → Tables) → ((t : Tables) (x : X) → get (f t x) ≡ get t) → (t : Tables) (ys : List X) → get (fold f t ys) ≡ get t
fold_keeps get f same t [] = refl
fold_keeps get f same t (y ∷ ys) = fold_keeps get f same (f t y) ys ∙ same t y

option_keeps : {X Y : Type 0} (get : Tables → Y) (f : X → Tables) (t : Tables) (o : Option X) → ((x : X) → get (f x) ≡ get t) → get (option_map_or f o t) ≡ get t
option_keeps get f t None same = refl
option_keeps get f t (Some x) same = same x

abbrev bodies_in : Tables → Numbered BodyRow
bodies_in t = t.bodies

taken_down_keeps : (suites : List Suite) (e : ShelfKey × shelf.Item) (t : Tables) → bodies_in (without_shown suites e t) ≡ t.bodies
unfolding without_shown
taken_down_keeps suites e t = option_keeps bodies_in (λ x. without_item x.0 (without_refs x.0 t)) t (find (is_on suites e.0) t.items) (λ x. refl)

put_keeps : (suites : List Suite) (e : ShelfKey × shelf.Item) (t : Tables) → bodies_in (with_shown suites e t) ≡ t.bodies
unfolding with_shown
put_keeps suites e t = fold_keeps bodies_in (λ now r. with_ref r now) (λ now r. refl) (with_item (item_row suites e) t) (refs_for (next_in t.items) e.1)

pooled_keeps : (f : PoolFile) (t : Tables) → bodies_in (with_pooled f t) ≡ t.bodies
unfolding with_pooled
pooled_keeps f t = option_keeps bodies_in (λ body. with_file (record { path = f.path; body = body }) t) t (body_with f.print t.bodies) (λ x. refl)

judged_keeps : (place : ℕ) (j : Judgement) (t : Tables) → bodies_in (with_judged place j t) ≡ t.bodies
unfolding with_judged
judged_keeps place j t = option_keeps bodies_in (λ x. without_wants x.0 (with_verdict x.0 place (number_of j.verdict) t)) t (find (λ x. is_upload j.name j.print x.1) t.uploads) (λ x. refl)

pub all_pooled_keep : (fs : List PoolFile) (t : Tables) → bodies_in (fold (λ now f. with_pooled f now) t fs) ≡ t.bodies
all_pooled_keep fs t = fold_keeps bodies_in (λ now f. with_pooled f now) (λ now f. pooled_keeps f now) t fs

pub removed_keep : (fs : List PoolFile) (t : Tables) → bodies_in (fold (λ now f. without_file f.path now) t fs) ≡ t.bodies
removed_keep fs t = fold_keeps bodies_in (λ now f. without_file f.path now) (λ now f. refl) t fs

pub items_keep : (suites : List Suite) (dropped put : List (ShelfKey × shelf.Item)) (t : Tables)
    → bodies_in (fold (λ now e. with_shown suites e now) (fold (λ now e. without_shown suites e now) t dropped) put) ≡ t.bodies
items_keep suites dropped put t =
    fold_keeps bodies_in (λ now e. with_shown suites e now) (λ now e. put_keeps suites e now) (fold (λ now e. without_shown suites e now) t dropped) put
    ∙ fold_keeps bodies_in (λ now e. without_shown suites e now) (λ now e. taken_down_keeps suites e now) t dropped

plan_keeps : (suites : List Suite) (plan : Plan) (t : Tables) → bodies_in (with_plan suites plan t) ≡ t.bodies
unfolding with_plan
plan_keeps suites plan t =
    let items = fold (λ now e. with_shown suites e now) (fold (λ now e. without_shown suites e now) t plan.dropped) plan.put in
    all_pooled_keep plan.files_added (fold (λ now f. without_file f.path now) items plan.files_removed) ∙ removed_keep plan.files_removed items ∙ items_keep suites plan.dropped plan.put t

pub judgement_keeps : (n : ℕ) (o : Option Judgement) (t : Tables) → bodies_in (option_map_or (λ j. with_judged (n + 1) j t) o t) ≡ t.bodies
judgement_keeps n o t = option_keeps bodies_in (λ j. with_judged (n + 1) j t) t o (λ j. judged_keeps (n + 1) j t)

step_keeps : (suites : List Suite) (n : ℕ) (s : Step) (t : Tables) → bodies_in (with_step suites n s t) ≡ t.bodies
unfolding with_step
step_keeps suites n s t = plan_keeps suites s.plan (option_map_or (λ j. with_judged (n + 1) j t) s.judgement t) ∙ judgement_keeps n s.judgement t

pub steps_keep : (suites : List Suite) (n : ℕ) (xs : List Step) (t : Tables) → bodies_in (with_steps suites n xs t) ≡ t.bodies
steps_keep suites n [] t = refl
steps_keep suites n (x ∷ xs) t = steps_keep suites (judged_by n x) xs (with_step suites n x t) ∙ step_keeps suites n x t

-- bodies that are there are there in tables of the same bodies
pub has_bodies : (t s : Tables) (fs : List PoolFile) → s.bodies ≡ t.bodies → HasBodies s fs → HasBodies t fs
has_bodies t s fs same = subst (λ (bodies : Numbered BodyRow). All (λ f. IsTrue (is_some (body_with f.print bodies))) fs) same

pub plan_as : (suites : List Suite) (plan : Plan) (t : Tables)
    → fold (λ now f. with_pooled f now) (fold (λ now f. without_file f.path now) (fold (λ now e. with_shown suites e now) (fold (λ now e. without_shown suites e now) t plan.dropped) plan.put) plan.files_removed) plan.files_added
    ≡ with_plan suites plan t
unfolding with_plan
plan_as suites plan t = refl

pub step_as : (suites : List Suite) (n : ℕ) (s : Step) (t : Tables) → with_plan suites s.plan (option_map_or (λ j. with_judged (n + 1) j t) s.judgement t) ≡ with_step suites n s t
unfolding with_step
step_as suites n s t = refl

-- ---- the whole change

pub written_as : (config : ConfigValue) (n : ℕ) (change : Change) (t : Tables)
    → with_new_dates config.suites change.moment change.steps (with_new_texts change.texts (with_steps config.suites n change.steps t)) ≡ with_written config n change t
unfolding with_written
written_as config n change t = refl

-- if it takes a file away the bodies that nothing uses go, and else that is all
pub swept_as : (config : ConfigValue) (n : ℕ) (change : Change) (t : Tables) → list_any takes_file change.steps ≡ true
    → swept (with_written config n change t) ≡ with_change config n change t
unfolding with_change
swept_as config n change t takes = ap (λ b. if b then swept (with_written config n change t) else with_written config n change t) (sym takes)

pub unswept_as : (config : ConfigValue) (n : ℕ) (change : Change) (t : Tables) → list_any takes_file change.steps ≡ false
    → with_written config n change t ≡ with_change config n change t
unfolding with_change
unswept_as config n change t none = ap (λ b. if b then swept (with_written config n change t) else with_written config n change t) (sym none)

-- a statement that only reads changes nothing
pub makes_unchanged : (a b : State) → IsTrue a.in_transaction → IsUnchanged a b → Makes a b (λ t. t)
makes_unchanged a b inside h = record {
  held = λ t was. subst (λ db. Holds db t) (sym h.0.now_is) was;
  kept = record { was_open = λ _. h.0.was_open; committed = λ _. h.0.committed_is };
  mode = h.0.mode ∙ inside;
  stays = λ _. h.0.is_open;
}

pub keeps_not_run : (a b : State) (sql : List ℕ) (params : Row) (e : Error) → IsNotRun a b sql params e → KeepsCommit a b
unfolding IsNotRun
keeps_not_run a b sql params e (inl h) = record { was_open = λ _. h.1.0.was_open; committed = λ _. h.1.0.committed_is }
keeps_not_run a b sql params e (inr h) = keeps_if_undone a b h.3

-- ---- the transaction

pub undone_by : (begun mid last : State) → KeepsCommit begun mid → IsRolledBack mid last → IsUndone begun last
undone_by begun mid last kept back = record {
  was_open = λ up. kept.was_open (back.was_open up);
  committed = λ up. (back.undone up).1 ∙ kept.committed (back.was_open up);
}

pub commit_undone : {X : Type 0} (begun mid last : State) (r : Result X Error) → KeepsCommit begun mid → mid.in_transaction ≡ true → IfErr r (FailsToCommit mid last) → OnErr r (IsUndone begun last)
commit_undone begun mid last (Ok x) kept inside h = tt
commit_undone begun mid last (Err e) kept inside (inl failed) = undone_by begun mid last kept failed.3
commit_undone begun mid last (Err e) kept inside (inr late) = absurd (let both = sym inside ∙ late.1 in cc)

module _ {S : Type 0} (g : Ghosts S) (old begun mid last : Held S) (is : begun ≡ record old { in_transaction = true }) where
  pub begun_inside : IsTrue begun.in_transaction
  begun_inside = subst (λ (h : Held S). IsTrue h.in_transaction) (sym is) refl

  was_held : (t : Tables) → Holds (state g old).now t → Holds (state g begun).now t
  was_held t was = subst (λ (h : Held S). Holds (state g h).now t) (sym is) was

  was_open : IsTrue (state g begun).is_open → IsTrue (state g old).is_open
  was_open up = subst (λ (h : Held S). IsTrue (state g h).is_open) is up

  pub undone_from : IsUndone (state g begun) (state g last) → IsUndone (state g old) (state g last)
  undone_from h = record {
    was_open = λ up. was_open (h.was_open up);
    committed = λ up. h.committed up ∙ ap (λ (h : Held S). (state g h).committed) is;
  }

  pub undone_from_if_err : {X E : Type 0} (r : Result X E) → OnErr r (IsUndone (state g begun) (state g last)) → OnErr r (IsUndone (state g old) (state g last))
  undone_from_if_err (Ok x) h = tt
  undone_from_if_err (Err e) h = undone_from h

  pub done_from : (change : Tables → Tables) → Changes (state g begun) (state g mid) change → Shows (state g mid) (state g last) (state g mid).now (state g mid).now false → IsDone (state g old) (state g last) change
  done_from change h shows = record {
    was_open = was_open h.shown.was_open;
    is_open = shows.is_open;
    held = λ t was. subst (λ db. Holds db (change t)) (sym shows.committed_is) (h.held t (was_held t was));
  }

  pub held_from : (P : Tables → Type 0) → ((t : Tables) → Holds (state g begun).now t → P t) → (t : Tables) → Holds (state g old).now t → P t
  held_from P h t was = h t (was_held t was)

  -- a crash leaves what was committed before, or what the commit writes; then the rows before were such
  pub crash_from : (change : Tables → Tables) (P : Tables → Type 0) → (HasCleanDisk (state g mid) → Changes (state g begun) (state g mid) change)
      → (HasCleanDisk (state g mid) → (t : Tables) → Holds (state g begun).now t → P t) → Survives (state g begun) (state g mid) (λ _. ⊥)
      → Survives (state g mid) (state g last) (λ db. db ≡ (state g mid).now.trees)
      → Survives (state g old) (state g last) (λ trees. MayCommit (state g old) change trees × ((t : Tables) → Holds (state g old).now t → P t))
  crash_from change P made were within whole = survives_then (state g old) (state g mid) (state g last) (λ _. ⊥) (λ db. db ≡ (state g mid).now.trees)
      (λ trees. MayCommit (state g old) change trees × ((t : Tables) → Holds (state g old).now t → P t)) (λ _ db none. absurd none)
      (λ clean db same.
      let early : HasCleanDisk (state g mid) = omega (arith, whole.clean, clean) in
      let h = made early in
      (((state g mid).now, same, was_open h.shown.was_open, λ t was. h.held t (was_held t was)), held_from P (were early)))
      (survives_begin g old (state g mid) (λ _. ⊥) (subst (λ (h : Held S). Survives (state g h) (state g mid) (λ _. ⊥)) is within)) whole
