-- What the steps of judged uploads are: sound, signed as the uploads, and the way to the shelves after them.
use Rattle.std.proofs.Common.{◌≡◌, ℕ, List, [], ◌∷◌, ◌++◌, map, take, length, Some, refl, sym, ap, subst, ◌∙◌}
use Rattle.std.specs.List.{cons_option}
use Rattle.std.proofs.lemmas.List.{length-map}
use Rattle.rules.specs.Values.{ConfigValue}
use Rattle.suites.specs.Plan.{after_upload}
use Rattle.suites.specs.Shelves.{ShelvesValue}
use Rattle.suites.specs.Told.{AreTold}
use Rattle.suites.specs.Upload.{UploadValue}
use Rattle.sums.specs.declared.print.Print.{Print}
use Rattle.book.specs.Book.{Book, Candidate, at_moment, due, judgements, shown_past}
use Rattle.book.specs.Keeping.{AreSteps, sign_of, sign_on}
use Rattle.book.specs.declared.change.Judgement.{Judgement}
use Rattle.book.specs.declared.change.Step.{Step}
use Rattle.history.specs.Amending.{IsPlanned}
use Rattle.history.specs.Judging.{AreJudged, IsJudged, after_uploads, judgement_on}

-- one more upload is judged on what the others leave
pub judged-push : (config : ConfigValue) (shelves : ShelvesValue) (us : List UploadValue) (steps : List Step) (u : UploadValue) (step : Step)
    → AreJudged config shelves us steps → IsJudged config (after_uploads config shelves us) u step → AreJudged config shelves (us ++ u ∷ []) (steps ++ step ∷ [])
judged-push config shelves [] [] u step are is = (is, tt)
judged-push config shelves [] (s ∷ ss) u step are is = absurd are
judged-push config shelves (v ∷ vs) [] u step are is = absurd are
judged-push config shelves (v ∷ vs) (s ∷ ss) u step are is = (are.0, judged-push config (after_upload config shelves v) vs ss u step are.1 is)

-- the name and the print of an upload
abbrev pub sign_in : UploadValue → List ℕ × Print
sign_in u = (u.name, u.print)

-- the judgements of the steps, if the first is that of an upload
first_judged : (step : Step) (steps : List Step) (j : Judgement) → step.judgement ≡ Some j → judgements (step ∷ steps) ≡ j ∷ judgements steps
first_judged step steps j is = ap (λ o. cons_option o (judgements steps)) is

steps_are : (config : ConfigValue) (shelves : ShelvesValue) (us : List UploadValue) (steps : List Step) → AreJudged config shelves us steps → AreSteps shelves steps
steps_are config shelves [] [] are = tt
steps_are config shelves [] (s ∷ ss) are = absurd are
steps_are config shelves (u ∷ us) [] are = absurd are
steps_are config shelves (u ∷ us) (s ∷ ss) are =
    ((after_upload config shelves u, are.0.plan), subst (λ now. AreSteps now ss) are.0.plan.items.made (steps_are config (after_upload config shelves u) us ss are.1))

pub signs_are : (config : ConfigValue) (shelves : ShelvesValue) (us : List UploadValue) (steps : List Step) → AreJudged config shelves us steps → map sign_on (judgements steps) ≡ map sign_in us
signs_are config shelves [] [] are = refl
signs_are config shelves [] (s ∷ ss) are = absurd are
signs_are config shelves (u ∷ us) [] are = absurd are
signs_are config shelves (u ∷ us) (s ∷ ss) are =
    ap (map sign_on) (first_judged s ss (judgement_on config shelves u) are.0.judgement)
    ∙ ap (λ rest. sign_in u ∷ rest) (signs_are config (after_upload config shelves u) us ss are.1)

take_all : {X : Type 0} (xs : List X) → take (length xs) xs ≡ xs
take_all [] = refl
take_all (x ∷ xs) = ap (λ rest. x ∷ rest) (take_all xs)

-- what the steps leave shown is what the uploads leave
past_uploads : (config : ConfigValue) (shelves : ShelvesValue) (us : List UploadValue) (steps : List Step) → AreJudged config shelves us steps → after_uploads config shelves us ≡ shown_past shelves steps
past_uploads config shelves [] [] are = refl
past_uploads config shelves [] (s ∷ ss) are = absurd are
past_uploads config shelves (u ∷ us) [] are = absurd are
past_uploads config shelves (u ∷ us) (s ∷ ss) are =
    past_uploads config (after_upload config shelves u) us ss are.1 ∙ ap (λ (m : ShelvesValue). shown_past m ss) are.0.plan.items.made

-- if records describe what is shown, they still do so through these uploads
abbrev pub StaysTold : ConfigValue → ShelvesValue → List UploadValue → Type 0
StaysTold config shelves us = AreTold config.suites shelves → AreTold config.suites (after_uploads config shelves us)

-- steps that judge all uploads that are due at a moment are planned
pub is_planned : (book : Book) (moment : ℕ) (us : List UploadValue) (steps : List Step) (shelves : ShelvesValue) → AreJudged book.config book.shown us steps
    → map sign_in us ≡ map sign_of (due (at_moment moment book)) → shelves ≡ after_uploads book.config book.shown us
    → StaysTold book.config book.shown us
    → IsPlanned book moment steps shelves
is_planned book moment us steps shelves are signs is stays =
    let cs : List Candidate = due (at_moment moment book) in
    let all : map sign_on (judgements steps) ≡ map sign_of cs = signs_are book.config book.shown us steps are ∙ signs in
    let count : length (judgements steps) ≡ length cs = sym (length-map (judgements steps) sign_on) ∙ ap length all ∙ length-map cs sign_of in
    record {
      plans = steps_are book.config book.shown us steps are;
      judged = all ∙ ap (map sign_of) (sym (ap (λ n. take n cs) count ∙ take_all cs));
      told = λ told. subst (AreTold book.config.suites) (past_uploads book.config book.shown us steps are) (stays told);
      shown = is ∙ past_uploads book.config book.shown us steps are;
    }
