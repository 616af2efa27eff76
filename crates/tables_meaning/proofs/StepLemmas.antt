-- What the steps of a change make of the rows of items and files, one after the other.
use Rattle.std.proofs.Common.{◌≡◌, ℕ, ◌+◌, ◌<◌, Bool, true, false, if◌then◌else◌, List, [], ◌∷◌, find, length, refl, sym, ap, subst, ◌∙◌, All, AllPairs, ◌≢◌, Option, Some, None, is_some, IsTrue, nat_eq}
use Rattle.std.specs.List.{AllByRecursion}
use Rattle.std.specs.Option.{option_map_or}
use Rattle.std.proofs.lemmas.List.Elements.{recursion_from_All}
use Rattle.rules.specs.Verdicts.{number_of}
use Rattle.rules.specs.declared.suite.Suite.{Suite}
use Rattle.suites.specs.Plan.{applied}
use Rattle.suites.specs.Shelves.{AreSound, ShelvesValue}
use Rattle.tables.specs.Bodies.{body_with}
use Rattle.tables.specs.Rows.{Tables, Numbered, Rises, changed}
use Rattle.tables.specs.Uploads.{is_upload, with_verdict}
use Rattle.tables.specs.Wants.{without_wants}
use Rattle.tables.specs.declared.rows.BodyRow.{BodyRow}
use Rattle.tables.specs.declared.rows.UploadRow.{UploadRow}
use Rattle.book.specs.Book.{shown_past}
use Rattle.book.specs.Keeping.{AreSteps}
use Rattle.book.specs.declared.change.Judgement.{Judgement}
use Rattle.book.specs.declared.change.Step.{Step}
use Rattle.tables_meaning.specs.Kept.{AreFiles, AreItems, AreNumbered, AreStored}
use Rattle.tables_meaning.specs.Making.{judged_by, with_judged, with_plan, with_step, with_steps}
use Rattle.tables_meaning.specs.Planned.{IsStepped, IsPlanned, MayStep, MayPlan}
use Rattle.tables_meaning.proofs.LikeLemmas.{files_like, items_like, stored_like}
use Rattle.tables_meaning.proofs.PlanLemmas.{planned_rows}

-- ---- a judgement

-- only the rows of uploads and of what they want differ
abbrev uploads_from : Tables → Tables → Tables
uploads_from t u = record t { uploads = u.uploads; wants = u.wants }

keeps_number : {X : Type 0} (b : Bool) (x : ℕ × X) (y : X) → (if b then (x.0, y) else x).0 ≡ x.0
keeps_number true x y = refl
keeps_number false x y = refl

above_changed : {X : Type 0} (p : ℕ × X → Bool) (f : X → X) (n : ℕ) (xs : Numbered X) → AllByRecursion (λ x. n < x.0) xs → AllByRecursion (λ x. n < x.0) (changed p f xs)
above_changed p f n [] h = tt
above_changed p f n (x ∷ xs) h = (subst (λ m. n < m) (sym (keeps_number (p x) x (f x.1))) h.0, above_changed p f n xs h.1)

-- changed rows keep their numbers
pub rises_changed : {X : Type 0} (p : ℕ × X → Bool) (f : X → X) (xs : Numbered X) → Rises xs → Rises (changed p f xs)
rises_changed p f [] up = tt
rises_changed p f (x ∷ xs) up = (
  subst (λ m. AllByRecursion (λ y. m < y.0) (changed p f xs)) (sym (keeps_number (p x) x (f x.1))) (above_changed p f x.0 xs up.0),
  rises_changed p f xs up.1,
)

-- the tables as a step's judgement leaves them
abbrev judged_tables : ℕ → Option Judgement → Tables → Tables
judged_tables judged o t = option_map_or (λ j. with_judged (judged + 1) j t) o t

judged_part : (place : ℕ) (j : Judgement) (t : Tables) → with_judged place j t ≡ uploads_from t (with_judged place j t)
unfolding with_judged
judged_part place j t = go (find (λ x. is_upload j.name j.print x.1) t.uploads)
  where
    go : (o : Option (ℕ × UploadRow)) → option_map_or (λ x. without_wants x.0 (with_verdict x.0 place (number_of j.verdict) t)) o t
        ≡ uploads_from t (option_map_or (λ x. without_wants x.0 (with_verdict x.0 place (number_of j.verdict) t)) o t)
    go None = refl
    go (Some x) = refl

judged_rises : (place : ℕ) (j : Judgement) (t : Tables) → Rises t.uploads → Rises (with_judged place j t).uploads
unfolding with_judged
judged_rises place j t up = go (find (λ x. is_upload j.name j.print x.1) t.uploads)
  where
    go : (o : Option (ℕ × UploadRow)) → Rises (option_map_or (λ x. without_wants x.0 (with_verdict x.0 place (number_of j.verdict) t)) o t).uploads
    go None = up
    go (Some x) = rises_changed (λ (y : ℕ × UploadRow). nat_eq y.0 x.0) (λ u. record u { place = Some place; verdict = Some (number_of j.verdict) }) t.uploads up

-- what a judgement leaves
record IsJudged (t u : Tables) : Type 0 where
  is : u ≡ uploads_from t u
  rise : Rises t.uploads → Rises u.uploads

judged_leaves : (judged : ℕ) (o : Option Judgement) (t : Tables) → IsJudged t (judged_tables judged o t)
judged_leaves judged None t = record { is = refl; rise = λ up. up }
judged_leaves judged (Some j) t = record { is = judged_part (judged + 1) j t; rise = judged_rises (judged + 1) j t }

-- ---- steps

abbrev IsArrived : Numbered BodyRow → Step → Type 0
IsArrived bodies s = All (λ f. IsTrue (is_some (body_with f.print bodies))) s.plan.files_added

abbrev IsInside : List Suite → Step → Type 0
IsInside suites s = All (λ e. e.0.suite < length suites) s.plan.put

stepped : (suites : List Suite) (judged : ℕ) (step : Step) (t : Tables) → with_step suites judged step t ≡ with_plan suites step.plan (judged_tables judged step.judgement t)
unfolding with_step
stepped suites judged step t = refl

one_step : (suites : List Suite) (judged : ℕ) (step : Step) (t : Tables) (shown after : ShelvesValue) → MayPlan t suites shown after step.plan
    → IsStepped t (with_step suites judged step t) suites (applied shown step.plan)
one_step suites judged step t shown after h = subst (λ u. IsStepped t u suites (applied shown step.plan)) (sym (stepped suites judged step t)) (record {
  items = done.items;
  files = done.files;
  numbered = done.numbered;
  meta = done.others.meta ∙ ap (λ (u : Tables). u.meta) left.is;
  bodies = done.others.bodies ∙ ap (λ (u : Tables). u.bodies) left.is;
  pieces = done.others.pieces ∙ ap (λ (u : Tables). u.pieces) left.is;
  arrivals = done.others.arrivals ∙ ap (λ (u : Tables). u.arrivals) left.is;
  texts = done.others.texts ∙ ap (λ (u : Tables). u.texts) left.is;
  dates = done.others.dates ∙ ap (λ (u : Tables). u.dates) left.is;
})
  where
    u : Tables
    u = judged_tables judged step.judgement t

    left : IsJudged t u
    left = judged_leaves judged step.judgement t

    may : MayPlan u suites shown after step.plan
    may = record {
      numbered = record {
        bodies = subst Rises (sym (ap (λ (v : Tables). v.bodies) left.is)) h.numbered.bodies;
        arrivals = subst Rises (sym (ap (λ (v : Tables). v.arrivals) left.is)) h.numbered.arrivals;
        uploads = left.rise h.numbered.uploads;
        items = subst Rises (sym (ap (λ (v : Tables). v.items) left.is)) h.numbered.items;
      };
      bodies = stored_like t u (ap (λ (v : Tables). v.pieces) left.is) (ap (λ (v : Tables). v.bodies) left.is) h.bodies;
      items = items_like t u suites shown (ap (λ (v : Tables). v.items) left.is) (ap (λ (v : Tables). v.refs) left.is) h.items;
      files = files_like t u suites shown (ap (λ (v : Tables). v.bodies) left.is) (ap (λ (v : Tables). v.files) left.is) h.files;
      step = h.step;
      inside = h.inside;
      codenames = h.codenames;
      arrived = subst (λ bodies. IsArrived bodies step) (sym (ap (λ (v : Tables). v.bodies) left.is)) h.arrived;
    }

    done : IsPlanned u (with_plan suites step.plan u) suites (applied shown step.plan)
    done = planned_rows u suites shown after step.plan may

-- the facts of `MayStep`, step by step
record May (t : Tables) (suites : List Suite) (shown : ShelvesValue) (steps : List Step) : Type 0 where
  numbered : AreNumbered t
  bodies : AreStored t
  items : AreItems t suites shown
  files : AreFiles t shown
  plans : AreSteps shown steps
  inside : AllByRecursion (IsInside suites) steps
  arrived : AllByRecursion (IsArrived t.bodies) steps

module _ (suites : List Suite) (codenames : AllPairs (λ s r. s.codename ≢ r.codename) suites) where
  steps_made : (steps : List Step) (judged : ℕ) (t : Tables) (shown : ShelvesValue) → May t suites shown steps → IsStepped t (with_steps suites judged steps t) suites (shown_past shown steps)
  steps_made [] judged t shown h = record { items = h.items; files = h.files; numbered = h.numbered; meta = refl; bodies = refl; pieces = refl; arrivals = refl; texts = refl; dates = refl }
  steps_made (step ∷ steps) judged t shown h =
      let one : IsStepped t (with_step suites judged step t) suites (applied shown step.plan) = one_step suites judged step t shown h.plans.0.0 (record {
        numbered = h.numbered;
        bodies = h.bodies;
        items = h.items;
        files = h.files;
        step = h.plans.0.1;
        inside = h.inside.0;
        codenames = codenames;
        arrived = h.arrived.0;
      }) in
      let rest : IsStepped (with_step suites judged step t) (with_steps suites (judged_by judged step) steps (with_step suites judged step t)) suites (shown_past (applied shown step.plan) steps) =
      steps_made steps (judged_by judged step) (with_step suites judged step t) (applied shown step.plan) (record {
        numbered = one.numbered;
        bodies = stored_like t (with_step suites judged step t) one.pieces one.bodies h.bodies;
        items = one.items;
        files = one.files;
        plans = h.plans.1;
        inside = h.inside.1;
        arrived = subst (λ bodies. AllByRecursion (IsArrived bodies) steps) (sym one.bodies) h.arrived.1;
      }) in
      record {
        items = rest.items;
        files = rest.files;
        numbered = rest.numbered;
        meta = rest.meta ∙ one.meta;
        bodies = rest.bodies ∙ one.bodies;
        pieces = rest.pieces ∙ one.pieces;
        arrivals = rest.arrivals ∙ one.arrivals;
        texts = rest.texts ∙ one.texts;
        dates = rest.dates ∙ one.dates;
      }

-- ---- all steps

-- The rows after the steps of a change: those of items and files are as the steps leave what is shown, and what has arrived is as before.
pub stepped_rows : (t : Tables) (suites : List Suite) (judged : ℕ) (shown : ShelvesValue) (steps : List Step) → MayStep t suites shown steps
    → IsStepped t (with_steps suites judged steps t) suites (shown_past shown steps)
stepped_rows t suites judged shown steps h = steps_made suites h.codenames steps judged t shown (record {
  numbered = h.numbered;
  bodies = h.bodies;
  items = h.items;
  files = h.files;
  plans = h.plans;
  inside = recursion_from_All (IsInside suites) steps h.inside;
  arrived = recursion_from_All (IsArrived t.bodies) steps h.arrived;
})

-- each item shown stands on its shelf, after steps as before
pub sound_past : (shown : ShelvesValue) (steps : List Step) → AreSound shown → AreSteps shown steps → AreSound (shown_past shown steps)
sound_past shown [] sound plans = sound
sound_past shown (step ∷ steps) sound plans = sound_past (applied shown step.plan) steps (subst AreSound plans.0.1.items.made plans.0.1.sound) plans.1
