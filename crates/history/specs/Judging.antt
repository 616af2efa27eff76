-- The steps of a run: each upload is judged on what those before it leave.
use Rattle.std.specs.Prelude.{◌≡◌, List, [], ◌∷◌, Some, ⊤}
use Rattle.std.specs.List.{fold}
use Rattle.rules.specs.Values.{ConfigValue}
use Rattle.suites.specs.Plan.{IsStep, after_upload}
use Rattle.suites.specs.Shelves.{ShelvesValue}
use Rattle.suites.specs.Upload.{UploadValue}
use Rattle.suites.specs.Verdict.{verdict_on}
use Rattle.book.specs.declared.change.Judgement.{Judgement}
use Rattle.book.specs.declared.change.Step.{Step}

-- the judgement of an upload on these shelves
abbrev pub judgement_on : ConfigValue → ShelvesValue → UploadValue → Judgement
judgement_on config shelves u = record { name = u.name; print = u.print; verdict = verdict_on config shelves u }

-- The step is that of the upload: its judgement, and the plan of what it changes.
pub record IsJudged (config : ConfigValue) (shelves : ShelvesValue) (u : UploadValue) (step : Step) : Type 0 where
  pub judgement : step.judgement ≡ Some (judgement_on config shelves u)
  pub plan : IsStep shelves (after_upload config shelves u) step.plan

-- the shelves after uploads, in order
abbrev pub after_uploads : ConfigValue → ShelvesValue → List UploadValue → ShelvesValue
after_uploads config shelves uploads = fold (after_upload config) shelves uploads

-- a step for each of the uploads, on what those before it leave
abbrev pub AreJudged : ConfigValue → ShelvesValue → List UploadValue → List Step → Type 0
AreJudged config shelves [] [] = ⊤
AreJudged config shelves (u ∷ us) (step ∷ steps) = IsJudged config shelves u step × AreJudged config (after_upload config shelves u) us steps
AreJudged config shelves [] (step ∷ steps) = ⊥
AreJudged config shelves (u ∷ us) [] = ⊥
