-- Commands after the making or the opening of an archive.
use Rattle.std.proofs.Common.{◌≡◌, ◌⊎◌, ◌≤◌, ℕ, Bool, List, map, Option, Result, IfOk, Contains, inl, inr, sym, ap, subst, ◌∙◌}
use Rattle.std.specs.declared.alloc.AllocError.{AllocError}
use Rattle.std.specs.declared.alloc.Global.{Global}
use Rattle.std.specs.declared.vec.Vec.{Vec}
use Rattle.rules.specs.Values.{ConfigValue}
use Rattle.book.specs.Book.{Book, HasItsFiles}
use Rattle.book.specs.Keeping.{HasBodies, Lasts, MoreFaults, NoCollision}
use Rattle.book.specs.Book.{fresh_book}
use Rattle.tables_meaning.proofs.ReadCalls.{if_then}
use Rattle.queue.specs.Answers.{IsFaithful, IsKept, IsRun}
use Rattle.queue.specs.Archives.{Stands}
use Rattle.queue.specs.Commands.{call_of, outcome_of}
use Rattle.queue.specs.Histories.{Call, History, bodies_of, opened_with}
use Rattle.queue.specs.Steps.{IsLeftAlong}
use Rattle.history.specs.declared.command.Command.{Command}
use Rattle.history.specs.declared.command.Outcome.{Outcome}
use Rattle.history.proofs.Kept.{stands_kept}
use Rattle.history.proofs.Openings.{faithful_anew, fresh_stands}
use Rattle.book.proofs.Staying.{more_before}
use Rattle.history.proofs.Reopening.{opens_itself}
use Rattle.promise.proofs.Refusals.{both_then}

-- calls after a book that has its files, if no two bodies of these and of the book have one print
pub faithful_opened : (b : Book) (calls : List Call) (bodies : List (List ℕ)) → HasItsFiles b → NoCollision bodies → HasBodies bodies b
    → ((body : List ℕ) → Contains (bodies_of calls) body → Contains bodies body) → IsFaithful (opened_with b) calls
faithful_opened b calls bodies files apart have there = record { bodies = bodies; apart = apart; opened = record { known = have; whole = opens_itself b files }; delivered = there }

-- `made` is the keeper as it was made or opened, `old` the one of the archive, and `new` the one after the
-- commands.
module _ {K : Type 0} {is_clean is_open : K → Type 0} {faults : K → ℕ} {book : K → Book} (may_fail : Bool) (made old new : K) (same : old ≡ made)
    (lasts : Lasts is_clean is_open faults book old new) where
  -- what was clean after the commands was so before
  pub clean_made : is_clean new → is_clean made
  clean_made clean = subst is_clean same (lasts.clean clean)

  -- what `drive` says
  abbrev pub Drives : List Command → Result (Vec Outcome Global) AllocError → Type 0
  Drives commands r = IfOk r (λ outcomes. (h : History) → IsKept (is_open old) (book old) h → IsFaithful h (map call_of commands) → is_clean new
      → IsRun may_fail h (map call_of commands) (map outcome_of outcomes.items) (is_open new) (book new))

  pub once_made : (config : ConfigValue) (moment : ℕ) (commands : List Command) (r : Result (Vec Outcome Global) AllocError)
      → (is_clean made → is_open made × (book made ≡ fresh_book config moment)) → Drives commands r → is_clean new
      → IfOk r (λ outcomes. NoCollision (bodies_of (map call_of commands))
      → IsRun may_fail (opened_with (fresh_book config moment)) (map call_of commands) (map outcome_of outcomes.items) (is_open new) (book new))
  once_made config moment commands r fresh drives clean =
      let opening : History = opened_with (fresh_book config moment) in
      let stands : Stands (book old) opening = ap book same ∙ (fresh (clean_made clean)).1 ∙ fresh_stands config moment in
      if_then r drives (λ outcomes run apart. run opening (stands_kept (is_open old) (book old) opening stands) (faithful_anew config moment (map call_of commands) apart) clean)

  pub once_opened : (commands : List Command) (r : Result (Vec Outcome Global) AllocError) → HasItsFiles (book made) → Drives commands r → is_clean new
      → IfOk r (λ outcomes. (bodies : List (List ℕ)) → NoCollision bodies → HasBodies bodies (book made) → ((x : List ℕ) → Contains (bodies_of (map call_of commands)) x → Contains bodies x)
      → IsRun may_fail (opened_with (book made)) (map call_of commands) (map outcome_of outcomes.items) (is_open new) (book new))
  once_opened commands r files drives clean =
      let opening : History = opened_with (book made) in
      let whole : Stands (book made) opening = opens_itself (book made) files in
      if_then r drives (λ outcomes run bodies apart have there.
      run opening (stands_kept (is_open old) (book old) opening (ap book same ∙ whole))
      (faithful_opened (book made) (map call_of commands) bodies files apart have there) clean)

  -- before the commands the keeper is clean and open, and keeps what a history leaves
  abbrev pub IsReady : History → Type 0
  IsReady h = is_clean old × is_open old × IsKept (is_open old) (book old) h

  ready : (h : History) → is_open made → Stands (book old) h → is_clean new → IsReady h
  ready h up stands clean = (lasts.clean clean, subst is_open (sym same) up, stands_kept (is_open old) (book old) h stands)

  pub ready_made : (config : ConfigValue) (moment : ℕ) → (is_clean made → is_open made × (book made ≡ fresh_book config moment)) → is_clean new → IsReady (opened_with (fresh_book config moment))
  ready_made config moment fresh clean =
      let made_is = fresh (clean_made clean) in
      ready (opened_with (fresh_book config moment)) made_is.0 (ap book same ∙ made_is.1 ∙ fresh_stands config moment) clean

  pub ready_opened : HasItsFiles (book made) → is_open made → is_clean new → IsReady (opened_with (book made))
  ready_opened files up clean = ready (opened_with (book made)) up (ap book same ∙ opens_itself (book made) files) clean

  -- the commands go on after the book, also over a crash
  pub go_on : (may_leave : Option Book → Type 0) (commands : List Command) (r : Result (Vec Outcome Global) AllocError) → HasItsFiles (book made) → is_open made → Drives commands r
      → IfOk r (λ outcomes. (h : History) → IsReady h → IsFaithful h (map call_of commands) → (left : Option Book) → may_leave left → IsLeftAlong h (map call_of commands) (map outcome_of outcomes.items) left)
      → is_clean new
      → IfOk r (λ outcomes. (bodies : List (List ℕ)) → NoCollision bodies → HasBodies bodies (book made) → ((x : List ℕ) → Contains (bodies_of (map call_of commands)) x → Contains bodies x)
      → IsRun may_fail (opened_with (book made)) (map call_of commands) (map outcome_of outcomes.items) (is_open new) (book new)
      × ((left : Option Book) → may_leave left → IsLeftAlong (opened_with (book made)) (map call_of commands) (map outcome_of outcomes.items) left))
  go_on may_leave commands r files up drives stops clean =
      both_then r (once_opened commands r files drives clean) stops (λ outcomes run leaves bodies apart have there. (
        run bodies apart have there,
        leaves (opened_with (book made)) (ready_opened files up clean) (faithful_opened (book made) (map call_of commands) bodies files apart have there),
      ))

  pub open_or_failed : (first : ℕ) → (is_clean made → is_open made) → first ≤ faults made → is_clean new → is_open new ⊎ MoreFaults first (faults new)
  open_or_failed first up counts clean = elim (lasts.stays clean (subst is_open (sym same) (up (clean_made clean)))) [
    | inl still ↦ inl still
    | inr more ↦ inr (more_before first (faults old) (faults new) (subst (λ n. first ≤ n) (ap faults (sym same)) counts) more)
  ]

  pub config_stays : (book new).config ≡ (book made).config
  config_stays = lasts.config ∙ ap (λ (b : Book). b.config) (ap book same)

  pub config_made : (config : ConfigValue) (moment : ℕ) → (is_clean made → is_open made × (book made ≡ fresh_book config moment)) → is_clean new → (book new).config ≡ config
  unfolding fresh_book
  config_made config moment fresh clean = config_stays ∙ ap (λ (b : Book). b.config) (fresh (clean_made clean)).1
