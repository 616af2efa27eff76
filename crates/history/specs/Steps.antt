-- What a call of the archive leaves of its keeper.
use Rattle.std.specs.Prelude.{◌≡◌, ◌⊎◌, ⊤, ℕ, List, [], ◌∷◌, map, Option, Some, Result, Ok, Err}
use Rattle.std.specs.declared.alloc.Global.{Global}
use Rattle.std.specs.declared.vec.Vec.{Vec}
use Rattle.book.specs.Book.{Book}
use Rattle.book.specs.Keeping as keeping
use Rattle.book.specs.declared.keeper.Keeper.{Ghosts}
use Rattle.history.specs.Answers.{IsFaithful, IsKept, IsRun, IsStep, answer}
use Rattle.history.specs.Archives.{book_of}
use Rattle.history.specs.Commands.{outcome_of}
use Rattle.history.specs.Histories.{Call, Delivery, Reply, History, followed}
use Rattle.history.specs.declared.command.Outcome.{Outcome}
use Rattle.history.specs.declared.fault.Fault.{Fault}

-- What was left is the book that the history leaves after none, some or all of these calls, or also after the whole of the next call.
abbrev pub IsLeftAlong : History → List Call → List (Result Reply Fault) → Option Book → Type 0
IsLeftAlong h (call ∷ calls) (outcome ∷ outcomes) left =
    (left ≡ Some (book_of h)) ⊎ ((left ≡ Some (book_of (followed h call (answer h call)))) ⊎ IsLeftAlong (followed h call outcome) calls outcomes left)
IsLeftAlong h calls outcomes left = left ≡ Some (book_of h)

module _ {K : Type 0} (g : Ghosts K) (old : K) where
  -- what each call leaves of the archive's keeper; `Reads`: a call that changes nothing; `Stays`: a call that writes nothing that
  -- counts
  abbrev pub Lasts : K → Type 0
  Lasts new = keeping.Lasts g.is_clean g.is_open g.faults g.book old new

  abbrev pub Reads : K → Type 0
  Reads new = keeping.Reads g.is_clean g.is_open g.faults g.book g.may_leave old new

  abbrev pub Stays : K → Type 0
  Stays new = keeping.Stays g.is_clean g.is_open g.faults g.book g.may_leave old new

  -- A crash leaves what it would have left before, or all that a call that writes does.
  abbrev pub Leaves : K → (Option Book → Type 0) → Type 0
  Leaves new Whole = keeping.Leaves g.is_clean g.is_open g.may_leave old new Whole

  -- The call, with this outcome, is a step after each history whose book is kept: the outcome is the answer of its plain archive, and
  -- what the longer history leaves is then kept.
  abbrev pub Does : Call → Result Reply Fault → K → Type 0
  Does call outcome new = (h : History) → IsKept (g.is_open old) (g.book old) h → IsFaithful h (call ∷ []) → g.is_clean new
      → IsStep g.may_fail h call outcome (g.is_open new) (g.book new)

  -- A crash leaves what it would have left before, or all that the call does.
  abbrev pub LeavesStep : Call → K → Type 0
  LeavesStep call new = (h : History) → IsKept (g.is_open old) (g.book old) h → IsFaithful h (call ∷ []) → g.is_clean new
      → (left : Option Book) → g.may_leave new left → g.may_leave old left ⊎ (left ≡ Some (book_of (followed h call (answer h call))))

  -- A crash in a delivery, which is stored piece by piece, leaves what it would have left before, what the history left, or all that
  -- the delivery does. Only the last requires that no two bodies have one print.
  abbrev pub LeavesDelivery : (name body : List ℕ) (moment : ℕ) → K → Type 0
  LeavesDelivery name body moment new = (h : History) → IsKept (g.is_open old) (g.book old) h → g.is_clean new → (left : Option Book) → g.may_leave new left
      → g.may_leave old left ⊎ ((left ≡ Some (book_of h))
      ⊎ (IsFaithful h (Delivery name body moment ∷ []) → left ≡ Some (book_of (followed h (Delivery name body moment) (answer h (Delivery name body moment))))))

  -- What a crash leaves of a call: it follows from `LeavesStep` and from `LeavesDelivery`.
  abbrev pub LeavesCall : Call → K → Type 0
  LeavesCall call new = (h : History) → IsKept (g.is_open old) (g.book old) h → IsFaithful h (call ∷ []) → g.is_clean new
      → (left : Option Book) → g.may_leave new left
      → g.may_leave old left ⊎ ((left ≡ Some (book_of h)) ⊎ (left ≡ Some (book_of (followed h call (answer h call)))))

  -- The calls, with these outcomes, are a run after each history whose book is kept: each outcome is the answer of its plain archive
  -- at its place, and what the longer history leaves is then kept.
  abbrev pub DoesAll : List Call → List (Result Reply Fault) → K → Type 0
  DoesAll calls outcomes new = (h : History) → IsKept (g.is_open old) (g.book old) h → IsFaithful h calls → g.is_clean new
      → IsRun g.may_fail h calls outcomes (g.is_open new) (g.book new)

  -- A crash during or after these calls, one after the other, leaves what it would have left before, or what the history leaves after
  -- none, some or all of them, or also after the whole of the next call.
  abbrev pub LeavesRun : List Call → List (Result Reply Fault) → K → Type 0
  LeavesRun calls outcomes new = (h : History) → IsKept (g.is_open old) (g.book old) h → IsFaithful h calls → g.is_clean new
      → (left : Option Book) → g.may_leave new left → g.may_leave old left ⊎ IsLeftAlong h calls outcomes left

  -- A keeper that is open has the book that it had.
  abbrev pub IsUndone : K → Type 0
  IsUndone new = g.is_clean new → g.is_open new → g.book new ≡ g.book old

module _ {K : Type 0} (g : Ghosts K) (new : K) where
  -- If the call is done the keeper is open.
  abbrev pub IsServed : Result Reply Fault → Type 0
  IsServed (Ok reply) = g.is_clean new → g.is_open new
  IsServed (Err fault) = ⊤

  -- if the last of these outcomes is done the keeper is open
  abbrev pub IsServedLast : List (Result Reply Fault) → Type 0
  IsServedLast [] = ⊤
  IsServedLast (outcome ∷ []) = IsServed outcome
  IsServedLast (outcome ∷ next ∷ rest) = IsServedLast (next ∷ rest)

  -- if the last outcome of these commands is done the keeper is open
  abbrev pub IsOpenBehind : Vec Outcome Global → Type 0
  IsOpenBehind outcomes = IsServedLast (map outcome_of outcomes.items)
