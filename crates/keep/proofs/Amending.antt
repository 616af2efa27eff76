-- A book whose parts are those after a change.
use Rattle.std.proofs.Common.{◌≡◌, ℕ, List, ◌++◌, Option, ap, ◌∙◌}
use Rattle.suites.specs.Shelves.{ShelvesValue}
use Rattle.book.specs.Book.{Book, amended, dates_past, files_showing, judgements, shown_past}
use Rattle.book.specs.declared.change.Change.{Change}
use Rattle.book.specs.declared.change.Judgement.{Judgement}

pub amended_of : (book : Book) (change : Change) (judged : List Judgement) (shown : ShelvesValue) (files : List ℕ → Option (List ℕ)) (dates : List ℕ)
    → judged ≡ book.judged ++ judgements change.steps
    → shown ≡ shown_past book.shown change.steps
    → files ≡ files_showing book shown
    → dates ≡ dates_past change.moment book.dates change.steps
    → record book { judged = judged; shown = shown; files = files; dates = dates } ≡ amended book change
unfolding amended
amended_of book change judged shown files dates is_judged is_shown is_files is_dates =
    let f : List Judgement → ShelvesValue → (List ℕ → Option (List ℕ)) → List ℕ → Book = λ j s p d. record book { judged = j; shown = s; files = p; dates = d } in
    ap (λ j. f j shown files dates) is_judged
    ∙ ap (λ p. f (book.judged ++ judgements change.steps) shown p dates) is_files
    ∙ ap (λ s. f (book.judged ++ judgements change.steps) s (files_showing book s) dates) is_shown
    ∙ ap (f (book.judged ++ judgements change.steps) (shown_past book.shown change.steps) (files_showing book (shown_past book.shown change.steps))) is_dates
