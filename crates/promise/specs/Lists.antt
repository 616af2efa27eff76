-- Commands after a book that a database keeps, and what the contracts say of them: a name for each clause.
use Rattle.std.specs.Prelude.{ℕ, List, map, Option, Result, IfOk, IsTrue, Contains, true}
use Rattle.std.specs.declared.alloc.AllocError.{AllocError}
use Rattle.std.specs.declared.alloc.Global.{Global}
use Rattle.std.specs.declared.vec.Vec.{Vec}
use Rattle.sqlite.specs.State.{HasCleanDisk}
use Rattle.sqlite.specs.Store.{Ghosts}
use Rattle.sqlite.specs.Tree.{Trees}
use Rattle.book.specs.Book.{Book}
use Rattle.book.specs.Keeping.{HasBodies, NoCollision}
use Rattle.tables_meaning.specs.Archives.{KeepsLeft}
use Rattle.keep_tables.specs.Keepers.{connection_of, table_book}
use Rattle.keep_tables.specs.declared.keeper.TableKeeper.{TableKeeper}
use Rattle.queue.specs.Answers.{IsRun}
use Rattle.queue.specs.Commands.{call_of, outcome_of}
use Rattle.queue.specs.Histories.{Call, Reply, bodies_of, opened_with}
use Rattle.queue.specs.Steps.{IsLeftAlong}
use Rattle.history.specs.declared.command.Command.{Command}
use Rattle.history.specs.declared.command.Outcome.{Outcome}
use Rattle.history.specs.declared.fault.Fault.{Fault}

-- an opening of the keeper's database may find this after a crash at this moment: a book, or no archive
abbrev pub MayFind : {S : Type 0} {g : Ghosts S} → TableKeeper S g → Option Book → Type 0
MayFind k left = (trees : Trees) × (connection_of k).may_leave trees × KeepsLeft trees left

-- If no two bodies of a book and of the deliveries among these calls have one print, each outcome is the answer of the plain archive
-- after that book, or want of memory or a failure of the disk. While the connection is open its tables keep the book that these calls
-- leave. A crash during or after the list leaves what that book and none, some or all of the calls leave, or also the whole of the next
-- call.
abbrev pub GoOn : {S : Type 0} {g : Ghosts S} → Book → List Call → List (Result Reply Fault) → TableKeeper S g → Type 0
GoOn book calls outcomes k = (bodies : List (List ℕ)) → NoCollision bodies → HasBodies bodies book → ((x : List ℕ) → Contains (bodies_of calls) x → Contains bodies x)
    → IsRun true (opened_with book) calls outcomes (IsTrue (connection_of k).is_open) (table_book k)
    × ((left : Option Book) → MayFind k left → IsLeftAlong (opened_with book) calls outcomes left)

module _ {S : Type 0} {g : Ghosts S} (k : TableKeeper S g) (book : Book) (commands : List Command) where
  -- commands with these outcomes go on as `GoOn` says
  abbrev pub GoesOn : Vec Outcome Global → Type 0
  GoesOn outcomes = GoOn book (map call_of commands) (map outcome_of outcomes.items) k

  -- This is said of a book without any body. If the disk returned what was written, and no two of the delivered bodies have one print,
  -- each outcome is the answer of the plain archive at its place, or want of memory or a failure of the disk. While the connection is
  -- open its tables keep the book that these commands leave.
  abbrev pub RunsFrom : Result (Vec Outcome Global) AllocError → Type 0
  RunsFrom made = HasCleanDisk (connection_of k) → IfOk made (λ outcomes. NoCollision (bodies_of (map call_of commands))
      → IsRun true (opened_with book) (map call_of commands) (map outcome_of outcomes.items) (IsTrue (connection_of k).is_open) (table_book k))

  -- A crash during or after the list leaves what the book and none, some or all of the commands leave, or also the whole of the next
  -- command.
  abbrev pub IsCutAlong : Result (Vec Outcome Global) AllocError → Type 0
  IsCutAlong made = HasCleanDisk (connection_of k) → IfOk made (λ outcomes. NoCollision (bodies_of (map call_of commands))
      → (left : Option Book) → MayFind k left → IsLeftAlong (opened_with book) (map call_of commands) (map outcome_of outcomes.items) left)
