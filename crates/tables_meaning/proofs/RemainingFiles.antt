-- If no step of a change takes a file of the pool away, each file stays, and its body is still used.
use Rattle.std.proofs.Common.{◌≡◌, ℕ, ◌+◌, Bool, true, false, not, if◌then◌else◌, nat_eq, List, [], ◌∷◌, find, fold, Option, Some, None, refl, sym, ap, subst, ◌∙◌, true≢false}
use Rattle.std.specs.List.{enumerate_from, list_any}
use Rattle.std.specs.Option.{option_map_or}
use Rattle.std.proofs.lemmas.Bool.{or_left, or_parts}
use Rattle.std.proofs.lemmas.List.Folds.{list_any-append}
use Rattle.para.specs.Bytes.{is_nil}
use Rattle.rules.specs.Values.{ConfigValue}
use Rattle.rules.specs.declared.suite.Suite.{Suite}
use Rattle.suites.specs.declared.item.Item as shelf
use Rattle.suites.specs.declared.item.PoolFile.{PoolFile}
use Rattle.suites.specs.declared.key.ShelfKey.{ShelfKey}
use Rattle.suites.specs.declared.plan.Plan.{Plan}
use Rattle.book.specs.Scan.{some_touches}
use Rattle.book.specs.declared.change.Change.{Change}
use Rattle.book.specs.declared.change.IndexText.{IndexText}
use Rattle.book.specs.declared.change.Judgement.{Judgement}
use Rattle.book.specs.declared.change.Step.{Step}
use Rattle.tables.specs.Bodies.{body_with}
use Rattle.tables.specs.Dates.{with_new_date}
use Rattle.tables.specs.Files.{without_file}
use Rattle.tables.specs.Items.{without_item}
use Rattle.tables.specs.Refs.{without_refs}
use Rattle.tables.specs.Rows.{Tables, next_in, rows_of, with_file, with_item, with_ref}
use Rattle.tables.specs.Texts.{with_new_text}
use Rattle.tables.specs.declared.rows.File.{File}
use Rattle.tables.specs.declared.rows.ItemRow.{ItemRow}
use Rattle.tables_meaning.specs.Kept.{is_on, item_row, refs_for}
use Rattle.tables_meaning.specs.Making.{judged_by, takes_file, with_judged, with_new_dates, with_new_texts, with_plan, with_pooled, with_shown, with_step, with_steps, with_written, without_shown}
use Rattle.tables_meaning.proofs.BodyLemmas.{file_has, rows_added}
use Rattle.tables_meaning.proofs.JudgedLemmas.{judged_others}

-- a body that a file has is still one that a file has
abbrev pub Remains : (Tables → Tables) → Type 0
Remains f = (t : Tables) (id : ℕ) → file_has t id ≡ true → file_has (f t) id ≡ true

remains_fold : {X : Type 0} (f : Tables → X → Tables) → ((x : X) → Remains (λ t. f t x)) → (xs : List X) → Remains (λ t. fold f t xs)
remains_fold f each [] = λ t id h. h
remains_fold f each (x ∷ xs) = λ t id h. remains_fold f each xs (f t x) id (each x t id h)

-- ---- a plan

remains_dropped : (suites : List Suite) (e : ShelfKey × shelf.Item) → Remains (without_shown suites e)
unfolding without_shown
remains_dropped suites e t = go (find (is_on suites e.0) t.items)
  where
    go : (o : Option (ℕ × ItemRow)) → (id : ℕ) → file_has t id ≡ true → file_has (option_map_or (λ x. without_item x.0 (without_refs x.0 t)) o t) id ≡ true
    go None = λ id h. h
    go (Some x) = λ id h. h

remains_put : (suites : List Suite) (e : ShelfKey × shelf.Item) → Remains (with_shown suites e)
unfolding with_shown
remains_put suites e t id h =
    remains_fold (λ now r. with_ref r now) (λ r now n h. h) (refs_for (next_in t.items) e.1) (with_item (item_row suites e) t) id h

remains_pooled : (f : PoolFile) → Remains (with_pooled f)
unfolding with_pooled
remains_pooled f t = go (body_with f.print t.bodies)
  where
    go : (o : Option ℕ) → (id : ℕ) → file_has t id ≡ true → file_has (option_map_or (λ body. with_file (record { path = f.path; body = body }) t) o t) id ≡ true
    go None = λ id h. h
    go (Some body) = λ id h.
        let new : File = record { path = f.path; body = body } in
        ap (list_any (λ (g : File). nat_eq g.body id)) (rows_added t.files new)
        ∙ list_any-append (λ (g : File). nat_eq g.body id) (rows_of t.files) (new ∷ [])
        ∙ or_left (file_has t id) (list_any (λ (g : File). nat_eq g.body id) (new ∷ [])) h

no_files : (fs : List PoolFile) → not (is_nil fs) ≡ false → fs ≡ []
no_files [] e = refl
no_files (f ∷ fs) e = absurd (true≢false e)

remains_plan : (suites : List Suite) (plan : Plan) → plan.files_removed ≡ [] → Remains (with_plan suites plan)
unfolding with_plan
remains_plan suites plan none t id h =
    let dropped : Tables = fold (λ (now : Tables) (e : ShelfKey × shelf.Item). without_shown suites e now) t plan.dropped in
    let put : Tables = fold (λ (now : Tables) (e : ShelfKey × shelf.Item). with_shown suites e now) dropped plan.put in
    let removed : Tables = fold (λ (now : Tables) (f : PoolFile). without_file f.path now) put plan.files_removed in
    let kept : file_has put id ≡ true =
    remains_fold (λ now e. with_shown suites e now) (remains_put suites) plan.put dropped id
    (remains_fold (λ now e. without_shown suites e now) (remains_dropped suites) plan.dropped t id h) in
    let same : put ≡ removed = ap (λ (fs : List PoolFile). fold (λ (now : Tables) (f : PoolFile). without_file f.path now) put fs) (sym none) in
    remains_fold (λ now f. with_pooled f now) remains_pooled plan.files_added removed id (subst (λ (s : Tables). file_has s id ≡ true) same kept)

-- ---- steps, texts and dates

remains_judged : (place : ℕ) (j : Judgement) → Remains (with_judged place j)
remains_judged place j t id h = subst (λ l. list_any (λ (f : File). nat_eq f.body id) (rows_of l) ≡ true) (sym (judged_others place j t).files) h

remains_step : (suites : List Suite) (judged : ℕ) (step : Step) → takes_file step ≡ false → Remains (with_step suites judged step)
unfolding with_step
remains_step suites judged step none t id h =
    remains_plan suites step.plan (no_files step.plan.files_removed none) (option_map_or (λ j. with_judged (judged + 1) j t) step.judgement t) id (before step.judgement)
  where
    before : (o : Option Judgement) → file_has (option_map_or (λ j. with_judged (judged + 1) j t) o t) id ≡ true
    before None = h
    before (Some j) = remains_judged (judged + 1) j t id h

remains_steps : (suites : List Suite) (judged : ℕ) (steps : List Step) → list_any takes_file steps ≡ false → Remains (with_steps suites judged steps)
remains_steps suites judged [] none = λ t id h. h
remains_steps suites judged (step ∷ steps) none = λ t id h.
    let parts = or_parts (takes_file step) (list_any takes_file steps) none in
    remains_steps suites (judged_by judged step) steps parts.1 (with_step suites judged step t) id (remains_step suites judged step parts.0 t id h)

remains_texts : (texts : List IndexText) → Remains (with_new_texts texts)
remains_texts texts = remains_fold (λ now x. with_new_text x.path x.text now) (λ x t id h. h) texts

remains_dates : (suites : List Suite) (moment : ℕ) (steps : List Step) → Remains (with_new_dates suites moment steps)
remains_dates suites moment steps =
    remains_fold (λ now (s : ℕ × Suite). if some_touches s.0 steps then with_new_date s.1.codename moment now else now)
    (λ s t id h. dated s t id h (some_touches s.0 steps)) (enumerate_from 0 suites)
  where
    dated : (s : ℕ × Suite) (t : Tables) (id : ℕ) → file_has t id ≡ true → (b : Bool) → file_has (if b then with_new_date s.1.codename moment t else t) id ≡ true
    dated s t id h true = h
    dated s t id h false = h

pub remains_written : (config : ConfigValue) (judged : ℕ) (change : Change) → list_any takes_file change.steps ≡ false → Remains (with_written config judged change)
unfolding with_written
remains_written config judged change none t id h =
    let stepped : Tables = with_steps config.suites judged change.steps t in
    remains_dates config.suites change.moment change.steps (with_new_texts change.texts stepped) id
    (remains_texts change.texts stepped id (remains_steps config.suites judged change.steps none t id h))
