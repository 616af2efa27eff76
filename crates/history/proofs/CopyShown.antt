-- Items that are shown one after another, and tests of them.
use Rattle.std.proofs.Common.{◌≡◌, ◌||◌, Bool, true, false, List, [], ◌∷◌, ◌++◌, map, refl, sym, ap, ◌∙◌, append-nil}
use Rattle.std.specs.List.{list_any}
use Rattle.std.proofs.lemmas.List.{map-append}
use Rattle.suites.proofs.HeldLemmas.{any-append}
use Rattle.std.proofs.lemmas.Bool.{or_right, or_left, or_from}

module _ {A X : Type 0} (shows : A → X) (test : X → Bool) where
  -- if none passes, and one more fails the test, still none passes
  pub none_more : (before : List A) (x : A) → list_any test (map shows before) ≡ false → test (shows x) ≡ false → list_any test (map shows (before ++ x ∷ [])) ≡ false
  none_more before x none failed =
      ap (list_any test) (map-append shows before (x ∷ []))
      ∙ any-append test (map shows before) (shows x ∷ [])
      ∙ or_from (list_any test (map shows before)) (test (shows x) || false) none (or_from (test (shows x)) false failed refl)

  -- if one passes, one of all passes
  pub some_shown : (before : List A) (x : A) (rest behind all : List X) → rest ≡ shows x ∷ behind → map shows before ++ rest ≡ all
      → test (shows x) ≡ true → list_any test all ≡ true
  some_shown before x rest behind all e h passed =
      ap (list_any test) (sym h ∙ ap (λ xs. map shows before ++ xs) e)
      ∙ any-append test (map shows before) (shows x ∷ behind)
      ∙ or_right (list_any test (map shows before)) (test (shows x) || list_any test behind) (or_left (test (shows x)) (list_any test behind) passed)

  -- all have been shown, and none of them passes
  pub none_shown : (before : List A) (rest all : List X) → rest ≡ [] → map shows before ++ rest ≡ all → list_any test (map shows before) ≡ false → list_any test all ≡ false
  none_shown before rest all e h none =
      ap (list_any test) (sym h ∙ ap (λ xs. map shows before ++ xs) e ∙ append-nil (map shows before)) ∙ none
