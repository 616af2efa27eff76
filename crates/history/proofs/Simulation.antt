-- Uploads judged by prints on what the book shows equal uploads handed whole to the plain archive.
use Rattle.std.proofs.Common.{◌≡◌, ℕ, List, [], ◌∷◌, ◌++◌, map, fold, Option, Some, refl, sym, ap, ◌∙◌, subst, append_assoc, append-nil}
use Rattle.std.specs.Prelude.{⊤}
use Rattle.book.specs.Book.{dates_after, dates_past, judgements, shown_past}
use Rattle.book.specs.Keeping.{AreSteps, NoCollision}
use Rattle.book.specs.declared.change.Judgement.{Judgement}
use Rattle.book.specs.declared.change.Step.{Step}
use Rattle.rules.specs.Values.{ConfigValue}
use Rattle.suites.specs.Items.{Admitted}
use Rattle.suites.specs.Plan.{IsStep, admitted_if, after_upload, applied}
use Rattle.std.specs.FinMap.{get}
use Rattle.std.specs.List.{cons_option}
use Rattle.rules.specs.declared.verdict.Verdict.{Verdict}
use Rattle.suites.specs.Shelves.{ShelvesValue, shown, shown_after, version_of}
use Rattle.suites.specs.declared.plan.Plan.{Plan}
use Rattle.history.specs.Archives.{PlainArchive, Whole, WholeUpload, acted, items_given, printed, shown_by_print, shown_in, version_with, whole, with_admitted, with_items}
use Rattle.history.specs.Judging.{AreJudged, IsJudged, judgement_on}
use Rattle.history.proofs.Contents.{AreBrought, AreMadeOf, are_known, whole_known}
use Rattle.history.proofs.ContentsListed.{HasItsBodies}
use Rattle.history.proofs.Dates.{dates-after, shown_grows}
use Rattle.history.proofs.ItemPrints.{admitted-printed, verdict_in}
use Rattle.history.proofs.ShownPrints.{get-printed, get-shown_by_print, shown_by_print-append}
use Rattle.history.proofs.VerdictPrints.{AreKnown, verdict-printed}

-- ---- items that are given

-- the archive with more items, by prints
pub shown-with_items : (moment : ℕ) (items : List (Admitted (List ℕ))) (a : PlainArchive)
    → shown_by_print (with_items moment items a) ≡ shown_after version_of (shown_by_print a) (map printed items)
unfolding with_admitted shown_by_print
shown-with_items moment items a = shown_by_print-append a items

-- the dates of the archive with these items are those after a plan for that step
pub dates-with_items : (moment : ℕ) (items : List (Admitted (List ℕ))) (a : PlainArchive) (after : ShelvesValue) (plan : Plan)
    → shown_by_print (with_items moment items a) ≡ after → IsStep (shown_by_print a) after plan
    → (with_items moment items a).dates ≡ dates_after moment a.dates plan
unfolding with_admitted shown_by_print
dates-with_items moment items a after plan is step =
    dates-after moment a.dates (shown_in a) (shown version_with (a.admitted ++ items)) (shown_by_print a) after plan
    (get-shown_by_print a)
    (λ q. ap (λ (m : ShelvesValue). get m q) (sym is) ∙ get-printed (a.admitted ++ items) q)
    (shown_grows version_with a.admitted items) step.items

-- ---- one upload

pub shown-whole : (bodies : List (List ℕ)) (config : ConfigValue) (moment : ℕ) (a : PlainArchive) (w : WholeUpload) → AreKnown bodies a w → HasItsBodies w
    → shown_by_print (whole config moment a w) ≡ after_upload config (shown_by_print a) w.upload
unfolding whole shown_by_print
shown-whole bodies config moment a w known its =
    shown-with_items moment (admitted_if (verdict_in config a w) (items_given config a w)) a
    ∙ ap (shown_after version_of (shown_by_print a)) (sym (admitted-printed bodies config a w known its))

pub judged-whole : (bodies : List (List ℕ)) (config : ConfigValue) (moment : ℕ) (a : PlainArchive) (w : WholeUpload) → AreKnown bodies a w → HasItsBodies w
    → (whole config moment a w).judged ≡ a.judged ++ judgement_on config (shown_by_print a) w.upload ∷ []
unfolding whole with_admitted
judged-whole bodies config moment a w known its =
    let judgement : Verdict → Judgement = λ v. record { name = w.upload.name; print = w.upload.print; verdict = v } in
    ap (λ v. a.judged ++ judgement v ∷ []) (sym (verdict-printed bodies config a w known its))

pub dates-whole : (bodies : List (List ℕ)) (config : ConfigValue) (moment : ℕ) (a : PlainArchive) (w : WholeUpload) (plan : Plan) → AreKnown bodies a w → HasItsBodies w
    → IsStep (shown_by_print a) (after_upload config (shown_by_print a) w.upload) plan
    → (whole config moment a w).dates ≡ dates_after moment a.dates plan
unfolding whole
dates-whole bodies config moment a w plan known its step =
    let items = admitted_if (verdict_in config a w) (items_given config a w) in
    dates-with_items moment items a (after_upload config (shown_by_print a) w.upload) plan
    (shown-with_items moment items a ∙ ap (shown_after version_of (shown_by_print a)) (sym (admitted-printed bodies config a w known its)))
    step

-- ---- uploads one after another

-- the plain archive to which the uploads were handed
abbrev pub handed : ConfigValue → ℕ → PlainArchive → List WholeUpload → PlainArchive
handed config moment a ws = fold (whole config moment) a ws

pub acted-wholes : {X : Type 0} (config : ConfigValue) (moment : ℕ) (f : X → WholeUpload) (xs : List X) (a : PlainArchive)
    → fold (acted config) a (map (λ x. Whole (f x) moment) xs) ≡ handed config moment a (map f xs)
acted-wholes config moment f [] a = refl
acted-wholes config moment f (x ∷ xs) a = acted-wholes config moment f xs (whole config moment a (f x))

-- an upload with its bodies, which are known
pub record IsHanded (bodies : List (List ℕ)) (w : WholeUpload) : Type 0 where
  pub its : HasItsBodies w
  pub brought : AreBrought bodies w

abbrev pub AreHanded : List (List ℕ) → List WholeUpload → Type 0
AreHanded bodies [] = ⊤
AreHanded bodies (w ∷ ws) = IsHanded bodies w × AreHanded bodies ws

-- What the steps make of the book is the book of the plain archive to which the uploads were handed.
pub record AreSimulated (moment : ℕ) (a : PlainArchive) (steps : List Step) (b : PlainArchive) : Type 0 where
  pub shown : shown_past (shown_by_print a) steps ≡ shown_by_print b
  pub judged : a.judged ++ judgements steps ≡ b.judged
  pub dates : dates_past moment a.dates steps ≡ b.dates
  pub sound : AreSteps (shown_by_print a) steps

module _ (bodies : List (List ℕ)) (apart : NoCollision bodies) (config : ConfigValue) (moment : ℕ) where
  first_judged : (step : Step) (steps : List Step) (j : Judgement) → step.judgement ≡ Some j → judgements (step ∷ steps) ≡ j ∷ judgements steps
  first_judged step steps j h = ap (λ (o : Option Judgement). cons_option o (judgements steps)) h

  simulated_step : (a : PlainArchive) (w : WholeUpload) (ws : List WholeUpload) (step : Step) (steps : List Step) → AreMadeOf bodies a.admitted → IsHanded bodies w
      → IsJudged config (shown_by_print a) w.upload step
      → AreSimulated moment (whole config moment a w) steps (handed config moment (whole config moment a w) ws)
      → AreSimulated moment a (step ∷ steps) (handed config moment a (w ∷ ws))
  simulated_step a w ws step steps made h on rest =
      let known = are_known bodies a w apart made h.brought in
      let next = whole config moment a w in
      let shown_next : applied (shown_by_print a) step.plan ≡ shown_by_print next = sym (on.plan.items.made) ∙ sym (shown-whole bodies config moment a w known h.its) in
      record {
        shown = ap (λ shown. shown_past shown steps) shown_next ∙ rest.shown;
        judged = ap (λ js. a.judged ++ js) (first_judged step steps (judgement_on config (shown_by_print a) w.upload) on.judgement)
            ∙ sym (append_assoc a.judged (judgement_on config (shown_by_print a) w.upload ∷ []) (judgements steps))
            ∙ ap (λ js. js ++ judgements steps) (sym (judged-whole bodies config moment a w known h.its))
            ∙ rest.judged;
        dates = ap (λ dates. dates_past moment dates steps) (sym (dates-whole bodies config moment a w step.plan known h.its on.plan)) ∙ rest.dates;
        sound = ((after_upload config (shown_by_print a) w.upload, on.plan), subst (λ shown. AreSteps shown steps) (sym shown_next) rest.sound);
      }

  pub simulated : (a : PlainArchive) (ws : List WholeUpload) (steps : List Step) → AreMadeOf bodies a.admitted → AreHanded bodies ws
      → AreJudged config (shown_by_print a) (map (λ w. w.upload) ws) steps
      → AreSimulated moment a steps (handed config moment a ws)
  simulated a [] [] made h on = record { shown = refl; judged = append-nil a.judged; dates = refl; sound = tt }
  simulated a [] (step ∷ steps) made h on = absurd on
  simulated a (w ∷ ws) [] made h on = absurd on
  simulated a (w ∷ ws) (step ∷ steps) made h on =
      let known = are_known bodies a w apart made h.0.brought in
      simulated_step a w ws step steps made h.0 on.0
      (simulated (whole config moment a w) ws steps (whole_known bodies config moment a w made h.0.brought h.0.its) h.1
      (subst (λ shown. AreJudged config shown (map (λ w. w.upload) ws) steps) (sym (shown-whole bodies config moment a w known h.0.its)) on.1))

  pub handed_known : (a : PlainArchive) (ws : List WholeUpload) → AreMadeOf bodies a.admitted → AreHanded bodies ws → AreMadeOf bodies (handed config moment a ws).admitted
  handed_known a [] made h = made
  handed_known a (w ∷ ws) made h = handed_known (whole config moment a w) ws (whole_known bodies config moment a w made h.0.brought h.0.its) h.1
