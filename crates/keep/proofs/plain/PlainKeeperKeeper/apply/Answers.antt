use Rattle.std.proofs.Common.{◌≤◌, ◌++◌, All, List, ap, ◌∙◌, sym, subst}
use Rattle.std.proofs.Props.{props}
use Rattle.std.proofs.Math.Logic.{∥∥₁_elim}
use Rattle.suites.specs.Pool.{files_of}
use Rattle.std.specs.FinMap.{values}
use Rattle.book.specs.Book.{Book, dates_past, judgements, latest, shown_past}
use Rattle.book.specs.Keeping.{AreSteps}
use Rattle.keep.specs.Plain.{plain_book}
use Rattle.keep.specs.Scan.{PoolHas}
use Rattle.book.specs.declared.change.Judgement.{Judgement}
use Rattle.keep.proofs.Amending.{amended_of}
use Rattle.keep.proofs.Files.{files_kept}
use Rattle.book.proofs.Staying.{on_err}
use Rattle.keep.proofs.plain.PlainKeeperKeeper.apply.Goals as goal

pub shelves_after-requires : goal.shelves_after-requires
unfolding plain_book
shelves_after-requires c = subst (AreSteps c.args.self.now.shelves) (sym c.as_slice-steps.ensures) (c.requires.sound tt tt).plans

pub dates_after-requires-clause-dates : goal.dates_after-requires-clause-dates
dates_after-requires-clause-dates c = subst (All (λ date. date ≤ latest)) (sym c.deref.ensures.value) (λ k d h. ∥∥₁_elim c.args.self.now.in_range (search props) (λ all. all k d h))

pub returns-in_err-judged-clause-err : goal.returns-in_err-judged-clause-err
unfolding plain_book
returns-in_err-judged-clause-err c =
    let with : List Judgement → Book = λ js. record (plain_book c.args.self.now) { judged = js } in
    λ clean up. on_err c.from_residual-in_err-judged.result (ap with c.in_err-judged.ensures.same)

pub returns-clause-ok : goal.returns-clause-ok
unfolding plain_book
returns-clause-ok c = λ clean bodies apart has each.
    let self = c.args.self.now in
    let change = c.args.change.now in
    let steps = c.as_slice-steps.ensures in
    amended_of (plain_book self) change c.append_judgements.new.judged.items c.in_ok-shelves.shelves _ c.in_ok-dates.dates.items
    (c.append_judgements.ensures ∙ ap (λ old. old ++ c.in_ok-judged.judged.items) c.in_ok-judged.ensures.same
    ∙ ap (λ more. self.judged.items ++ more) (c.in_ok-judged.ensures.more ∙ ap judgements steps))
    (c.in_ok-shelves.ensures ∙ ap (shown_past self.shelves) steps)
    (files_kept self c.in_ok-files.files.items c.in_ok-shelves.shelves
    (subst (λ arrivals. PoolHas arrivals self.files.items c.in_ok-files.files.items (files_of (values c.in_ok-shelves.shelves))) c.deref-2.ensures.value
    (subst (λ files. PoolHas c.deref-2.result.now files c.in_ok-files.files.items (files_of (values c.in_ok-shelves.shelves))) c.deref-3.ensures.value c.in_ok-files.ensures)))
    (c.in_ok-dates.ensures.after ∙ ap (λ old. dates_past change.moment old c.as_slice-steps.result.now) c.deref.ensures.value ∙ ap (dates_past change.moment self.dates.items) steps)

pub returns-clause-shown : goal.returns-clause-shown
unfolding plain_book
returns-clause-shown c = λ clean. c.in_ok-shelves.ensures ∙ ap (shown_past c.args.self.now.shelves) c.as_slice-steps.ensures
