-- The dates after the steps, suite by suite.
use Rattle.std.proofs.Common.{◌≡◌, ℕ, ◌+◌, ◌++◌, Bool, true, false, ◌||◌, drop, length, ◌<◌, get_or, List, [], ◌∷◌, map, refl, ap, ◌∙◌, sym, if◌then◌else◌}
use Rattle.std.proofs.lemmas.List.{at_drop_more, append_assoc}
use Rattle.std.specs.List.{enumerate_from}
use Rattle.book.specs.Book.{dates_after, dates_past, touches}
use Rattle.book.specs.Scan.{some_touches}
use Rattle.book.specs.declared.change.Step.{Step}

-- the dates of the suites from a position on: the moment for each that a step touches
abbrev pub dated : ℕ → List Step → ℕ → List ℕ → List ℕ
dated moment steps from dates = map (λ d. if some_touches d.0 steps then moment else d.1) (enumerate_from from dates)

-- without a step no date changes
untouched : (moment from : ℕ) (dates : List ℕ) → dated moment [] from dates ≡ dates
untouched moment from [] = refl
untouched moment from (d ∷ ds) = ap (λ xs. d ∷ xs) (untouched moment (from + 1) ds)

first_step : (a b : Bool) (moment d : ℕ) → (if b then moment else (if a then moment else d)) ≡ (if (a || b) then moment else d)
first_step true true moment d = refl
first_step true false moment d = refl
first_step false true moment d = refl
first_step false false moment d = refl

stepped : (moment from : ℕ) (step : Step) (steps : List Step) (dates : List ℕ)
    → dated moment steps from (map (λ d. if touches d.0 step.plan then moment else d.1) (enumerate_from from dates)) ≡ dated moment (step ∷ steps) from dates
stepped moment from step steps [] = refl
stepped moment from step steps (d ∷ ds) =
    ap (λ x. x ∷ dated moment steps (from + 1) (map (λ d. if touches d.0 step.plan then moment else d.1) (enumerate_from (from + 1) ds)))
    (first_step (touches from step.plan) (some_touches from steps) moment d)
    ∙ ap (λ xs. (if some_touches from (step ∷ steps) then moment else d) ∷ xs) (stepped moment (from + 1) step steps ds)

pub dates_past-dated : (moment : ℕ) (steps : List Step) (dates : List ℕ) → dates_past moment dates steps ≡ dated moment steps 0 dates
unfolding dates_after
dates_past-dated moment [] dates = sym (untouched moment 0 dates)
dates_past-dated moment (step ∷ steps) dates = dates_past-dated moment steps (dates_after moment dates step.plan) ∙ stepped moment 0 step steps dates

-- the date of the suite at a position, and those after it
pub dated_more : (moment : ℕ) (steps : List Step) (dates : List ℕ) (i : ℕ) → i < length dates
    → dated moment steps i (drop i dates) ≡ (if some_touches i steps then moment else get_or dates i 0) ∷ dated moment steps (i + 1) (drop (i + 1) dates)
dated_more moment steps dates i h = at_drop_more (dated moment steps i) dates i 0 h

-- one more date, if those so far and those to come are all
pub dated_step : (moment : ℕ) (steps : List Step) (dates : List ℕ) (i : ℕ) (xs : List ℕ) {whole : List ℕ} {date : ℕ} → i < length dates
    → date ≡ (if some_touches i steps then moment else get_or dates i 0)
    → xs ++ dated moment steps i (drop i dates) ≡ whole
    → (xs ++ date ∷ []) ++ dated moment steps (i + 1) (drop (i + 1) dates) ≡ whole
dated_step moment steps dates i xs {whole} {date} h is so_far =
    append_assoc xs (date ∷ []) _
    ∙ ap (λ d. xs ++ d ∷ dated moment steps (i + 1) (drop (i + 1) dates)) is
    ∙ ap (λ ds. xs ++ ds) (sym (dated_more moment steps dates i h)) ∙ so_far
