-- A change writes no body and no piece, and it looks for bodies by their prints alone: it passes over a body that is not whole.
use Rattle.std.proofs.Common.{◌≡◌, ℕ, ◌+◌, Bool, true, false, if◌then◌else◌, List, [], ◌∷◌, find, fold, Option, Some, None, refl, sym, ap, ◌∙◌}
use Rattle.std.specs.List.{enumerate_from, list_any}
use Rattle.std.specs.Option.{option_map_or}
use Rattle.std.specs.Prelude.{◌&&◌}
use Rattle.rules.specs.Values.{ConfigValue}
use Rattle.rules.specs.Verdicts.{number_of}
use Rattle.rules.specs.declared.suite.Suite.{Suite}
use Rattle.sums.specs.declared.print.Print.{Print}
use Rattle.suites.specs.declared.item.Item as shelf
use Rattle.suites.specs.declared.item.PoolFile.{PoolFile}
use Rattle.suites.specs.declared.key.ShelfKey.{ShelfKey}
use Rattle.suites.specs.declared.plan.Plan.{Plan}
use Rattle.book.specs.Scan.{some_touches}
use Rattle.book.specs.declared.change.Change.{Change}
use Rattle.book.specs.declared.change.IndexText.{IndexText}
use Rattle.book.specs.declared.change.Judgement.{Judgement}
use Rattle.book.specs.declared.change.Step.{Step}
use Rattle.tables.specs.Bodies.{body_with}
use Rattle.tables.specs.Dates.{with_new_date}
use Rattle.tables.specs.Files.{without_file}
use Rattle.tables.specs.Items.{without_item}
use Rattle.tables.specs.Pieces.{is_of}
use Rattle.tables.specs.Refs.{without_refs}
use Rattle.tables.specs.Rows.{Numbered, Tables, next_in, with_file, with_item, with_ref, without}
use Rattle.tables.specs.Texts.{with_new_text}
use Rattle.tables.specs.Uploads.{is_upload, with_verdict}
use Rattle.tables.specs.Wants.{without_wants}
use Rattle.tables.specs.declared.rows.BodyRow.{BodyRow}
use Rattle.tables.specs.declared.rows.ItemRow.{ItemRow}
use Rattle.tables.specs.declared.rows.Piece.{Piece}
use Rattle.tables.specs.declared.rows.Ref.{Ref}
use Rattle.tables.specs.declared.rows.UploadRow.{UploadRow}
use Rattle.tables_meaning.specs.Finished.{finished, is_unfinished}
use Rattle.tables_meaning.specs.Kept.{is_on, item_row, refs_for}
use Rattle.tables_meaning.specs.Making.{judged_by, with_judged, with_new_dates, with_new_texts, with_plan, with_pooled, with_refs, with_shown, with_step, with_steps, with_written, without_shown}
use Rattle.tables_meaning.proofs.FinishedLemmas.{body_finished}

-- the rows with these bodies and pieces instead of theirs
abbrev pub beside : Tables → Numbered BodyRow → Numbered Piece → Tables
beside t bodies pieces = record t { bodies = bodies; pieces = pieces }

-- The function makes the same of any bodies and pieces, if each print is that of the same number, and leaves them.
abbrev pub Passes : (Tables → Tables) → Type 0
Passes f = (t : Tables) (bodies : Numbered BodyRow) (pieces : Numbered Piece) → ((p : Print) → body_with p bodies ≡ body_with p t.bodies) → f (beside t bodies pieces) ≡ beside (f t) bodies pieces

module _ (f : Tables → Tables) (passes : Passes f) where
  pub bodies_left : (t : Tables) → (f t).bodies ≡ t.bodies
  bodies_left t = ap (λ (u : Tables). u.bodies) (passes t t.bodies t.pieces (λ p. refl))

  pub pieces_left : (t : Tables) → (f t).pieces ≡ t.pieces
  pieces_left t = ap (λ (u : Tables). u.pieces) (passes t t.bodies t.pieces (λ p. refl))

  -- the finished rows become the finished ones
  pub finished_passes : (t : Tables) → finished (f t) ≡ f (finished t)
  unfolding finished
  finished_passes t =
      (λ i. beside (f t) (without is_unfinished (bodies_left t i)) (without (λ (p : ℕ × Piece). list_any (λ x. is_of x.0 p.1 && is_unfinished x) (bodies_left t i)) (pieces_left t i)))
      ∙ sym (passes t (finished t).bodies (finished t).pieces (λ p. body_finished p t))

passes_then : (f g : Tables → Tables) → Passes f → Passes g → Passes (λ t. g (f t))
passes_then f g one two t bodies pieces same =
    ap g (one t bodies pieces same) ∙ two (f t) bodies pieces (λ p. same p ∙ ap (body_with p) (sym (bodies_left f one t)))

passes_fold : {X : Type 0} (f : Tables → X → Tables) → ((x : X) → Passes (λ t. f t x)) → (xs : List X) → Passes (λ t. fold f t xs)
passes_fold f each [] = λ t bodies pieces same. refl
passes_fold f each (x ∷ xs) = passes_then (λ t. f t x) (λ t. fold f t xs) (each x) (passes_fold f each xs)

passes_if_some : {X : Type 0} (f : X → Tables → Tables) → ((x : X) → Passes (f x)) → (o : Option X) → Passes (λ t. option_map_or (λ x. f x t) o t)
passes_if_some f each None = λ t bodies pieces same. refl
passes_if_some f each (Some x) = each x

passes_if : (f : Tables → Tables) → Passes f → (b : Bool) → Passes (λ t. if b then f t else t)
passes_if f passes true = passes
passes_if f passes false = λ t bodies pieces same. refl

-- ---- a judgement

passes_judged : (place : ℕ) (j : Judgement) → Passes (with_judged place j)
unfolding with_judged
passes_judged place j t =
    passes_if_some (λ (x : ℕ × UploadRow) s. without_wants x.0 (with_verdict x.0 place (number_of j.verdict) s)) (λ x s bodies pieces same. refl) (find (λ x. is_upload j.name j.print x.1) t.uploads) t

-- ---- a plan

passes_without : (suites : List Suite) (e : ShelfKey × shelf.Item) → Passes (without_shown suites e)
unfolding without_shown
passes_without suites e t = passes_if_some (λ (x : ℕ × ItemRow) s. without_item x.0 (without_refs x.0 s)) (λ x s bodies pieces same. refl) (find (is_on suites e.0) t.items) t

passes_refs : (refs : List Ref) → Passes (with_refs refs)
passes_refs refs = passes_fold (λ now r. with_ref r now) (λ r t bodies pieces same. refl) refs

passes_shown : (suites : List Suite) (e : ShelfKey × shelf.Item) → Passes (with_shown suites e)
unfolding with_shown
passes_shown suites e t bodies pieces same = passes_refs (refs_for (next_in t.items) e.1) (with_item (item_row suites e) t) bodies pieces same

passes_pooled : (f : PoolFile) → Passes (with_pooled f)
unfolding with_pooled
passes_pooled f t bodies pieces same =
    ap (λ o. option_map_or (λ body. with_file (record { path = f.path; body = body }) (beside t bodies pieces)) o (beside t bodies pieces)) (same f.print)
    ∙ passes_if_some (λ (body : ℕ) s. with_file (record { path = f.path; body = body }) s) (λ body s bodies pieces same. refl) (body_with f.print t.bodies) t bodies pieces same

abbrev dropped_all : List Suite → List (ShelfKey × shelf.Item) → Tables → Tables
dropped_all suites es t = fold (λ now e. without_shown suites e now) t es

abbrev put_all : List Suite → List (ShelfKey × shelf.Item) → Tables → Tables
put_all suites es t = fold (λ now e. with_shown suites e now) t es

passes_plan : (suites : List Suite) (plan : Plan) → Passes (with_plan suites plan)
unfolding with_plan
passes_plan suites plan =
    let drops : Passes (dropped_all suites plan.dropped) = passes_fold (λ now e. without_shown suites e now) (passes_without suites) plan.dropped in
    let puts : Passes (put_all suites plan.put) = passes_fold (λ now e. with_shown suites e now) (passes_shown suites) plan.put in
    let removes : Passes (λ t. fold (λ now (f : PoolFile). without_file f.path now) t plan.files_removed) = passes_fold (λ now f. without_file f.path now) (λ f t bodies pieces same. refl) plan.files_removed in
    let adds : Passes (λ t. fold (λ now f. with_pooled f now) t plan.files_added) = passes_fold (λ now f. with_pooled f now) passes_pooled plan.files_added in
    passes_then (λ t. fold (λ now f. without_file f.path now) (put_all suites plan.put (dropped_all suites plan.dropped t)) plan.files_removed) (λ t. fold (λ now f. with_pooled f now) t plan.files_added)
    (passes_then (λ t. put_all suites plan.put (dropped_all suites plan.dropped t)) (λ t. fold (λ now f. without_file f.path now) t plan.files_removed)
    (passes_then (dropped_all suites plan.dropped) (put_all suites plan.put) drops puts) removes) adds

-- ---- steps, texts and dates

passes_step : (suites : List Suite) (judged : ℕ) (step : Step) → Passes (with_step suites judged step)
unfolding with_step
passes_step suites judged step =
    passes_then (λ t. option_map_or (λ j. with_judged (judged + 1) j t) step.judgement t) (with_plan suites step.plan)
    (passes_if_some (λ j. with_judged (judged + 1) j) (passes_judged (judged + 1)) step.judgement) (passes_plan suites step.plan)

passes_steps : (suites : List Suite) (judged : ℕ) (steps : List Step) → Passes (with_steps suites judged steps)
passes_steps suites judged [] = λ t bodies pieces same. refl
passes_steps suites judged (step ∷ steps) =
    passes_then (with_step suites judged step) (with_steps suites (judged_by judged step) steps) (passes_step suites judged step) (passes_steps suites (judged_by judged step) steps)

passes_texts : (texts : List IndexText) → Passes (with_new_texts texts)
passes_texts texts = passes_fold (λ now x. with_new_text x.path x.text now) (λ x t bodies pieces same. refl) texts

passes_dates : (suites : List Suite) (moment : ℕ) (steps : List Step) → Passes (with_new_dates suites moment steps)
passes_dates suites moment steps =
    passes_fold (λ now (s : ℕ × Suite). if some_touches s.0 steps then with_new_date s.1.codename moment now else now)
    (λ s. passes_if (with_new_date s.1.codename moment) (λ t bodies pieces same. refl) (some_touches s.0 steps)) (enumerate_from 0 suites)

pub passes_written : (config : ConfigValue) (judged : ℕ) (change : Change) → Passes (with_written config judged change)
unfolding with_written
passes_written config judged change =
    passes_then (λ t. with_new_texts change.texts (with_steps config.suites judged change.steps t)) (with_new_dates config.suites change.moment change.steps)
    (passes_then (with_steps config.suites judged change.steps) (with_new_texts change.texts) (passes_steps config.suites judged change.steps) (passes_texts change.texts))
    (passes_dates config.suites change.moment change.steps)
