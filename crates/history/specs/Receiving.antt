-- A delivery whose body a reader gives: what was read of it, and what becomes of it.
use Rattle.std.specs.Prelude.{◌≡◌, ◌≤◌, ◌<◌, ◌%◌, ◌⊎◌, ◌++◌, [], ◌∷◌, ℕ, Bool, IsTrue, List, length, Option, Some, None, Result, Ok, Err}
use Rattle.std.specs.Io.KnownBytes.{Consumes, IsAtEnd, Keeps}
use Rattle.book.specs.Book.{Book}
use Rattle.book.specs.Keeping.{IsDeliverable, IsLeftDelivered, TakesDelivery, TellsNew}
use Rattle.book.specs.declared.keeper.Keeper.{Ghosts}
use Rattle.history.specs.Answers.{IsFaithful, IsKept, answer}
use Rattle.history.specs.Archives.{book_of}
use Rattle.history.specs.Commands.{stored}
use Rattle.rules.specs.Values.{ConfigValue}
use Rattle.history.specs.Deliveries.{IsOfDisk, delivery_fault, most_named}
use Rattle.history.specs.Histories.{Delivery, History, followed}
use Rattle.history.specs.Steps.{Does, Leaves}
use Rattle.history.specs.declared.command.Arrived.{Arrived}
use Rattle.history.specs.declared.fault.Fault.{Fault}
use Rattle.history.specs.declared.fault.Fault.TheVariants.{OutOfMemory, Keeper, Ended, ReaderFailed}

-- ---- what a reader gave

-- the reader gave a body of this size
abbrev pub Gave : Option (List ℕ) → Option (List ℕ) → ℕ → List ℕ → Type 0
Gave old new n body = Consumes old new body × (length body ≡ n)

-- the reader gave at most `n` bytes
pub record GaveUpTo (old new : Option (List ℕ)) (n : ℕ) : Type 0 where
  pub front : List ℕ
  pub read : Consumes old new front
  pub short : length front ≤ n

-- the reader gave fewer than `n` bytes, and failed
pub record GaveFewer (old new : Option (List ℕ)) (n : ℕ) : Type 0 where
  pub front : List ℕ
  pub read : Consumes old new front
  pub short : length front < n

-- the reader gave fewer than `n` bytes, and these were all that it had
pub record HeldFewer (old new : Option (List ℕ)) (n : ℕ) : Type 0 where
  pub front : List ℕ
  pub read : Consumes old new front
  pub short : length front < n
  pub end : IsAtEnd new

-- What was read of a body of this size, by why it is not stored.
abbrev pub HasRead : Bool → Option (List ℕ) → Option (List ℕ) → ℕ → Fault → Type 0
HasRead may_fail old new n OutOfMemory = GaveUpTo old new n
HasRead may_fail old new n (Keeper fault) = IsTrue may_fail × IsOfDisk fault × GaveUpTo old new n
HasRead may_fail old new n Ended = HeldFewer old new n
HasRead may_fail old new n ReaderFailed = GaveFewer old new n
HasRead may_fail old new n fault = ⊥

-- Why `n` bytes can't be read on, and what was read.
abbrev pub WasShort : Option (List ℕ) → Option (List ℕ) → ℕ → Fault → Type 0
WasShort old new n Ended = HeldFewer old new n
WasShort old new n ReaderFailed = GaveFewer old new n
WasShort old new n fault = ⊥

-- ---- what is stored

-- A body was begun. It has whole pieces so far, and may get a piece of this size.
pub record MayTake (coming : Option (List ℕ)) (size : ℕ) : Type 0 where
  pub body : List ℕ
  pub begun : coming ≡ Some body
  pub whole : length body % 65536 ≡ 0
  pub some : 0 < size
  pub small : size ≤ 65536

-- Any body of this size may be kept under the name.
abbrev pub MayBeKept : List ℕ → ℕ → Type 0
MayBeKept name n = (body : List ℕ) → length body ≡ n → IsDeliverable name body

-- The body that the reader gave has arrived. It is new if no arrival of this name and body counts at the moment.
pub record HasArrived (gave gives : Option (List ℕ)) (n : ℕ) (is_clean : Type 0) (old after : Book) (name : List ℕ) (moment : ℕ) (new : Bool) : Type 0 where
  pub body : List ℕ
  pub gave_it : Gave gave gives n body
  pub arrives : is_clean → TakesDelivery old name moment after body
  pub is_new : is_clean → TellsNew old name moment new body

-- What a crash left is the book with the body that the reader gave.
pub record IsLeft (gave gives : Option (List ℕ)) (n : ℕ) (old : Book) (left : Option Book) (name : List ℕ) (moment : ℕ) : Type 0 where
  pub body : List ℕ
  pub gave_it : Gave gave gives n body
  pub arrives : IsLeftDelivered old name moment left body

module _ {K : Type 0} (g : Ghosts K) (before after : K) (gave gives : Option (List ℕ)) (n : ℕ) (name : List ℕ) (moment : ℕ) where
  -- The keeper then has the body that the reader gave, and it is new or not.
  abbrev pub Arrives : Bool → Type 0
  Arrives new = HasArrived gave gives n (g.is_clean after) (g.book before) (g.book after) name moment new

  -- A crash leaves what it would have left before, the book, or that with the body that the reader gave.
  abbrev pub LeavesArrived : Type 0
  LeavesArrived = Leaves g before after (λ left. (left ≡ Some (g.book before)) ⊎ IsLeft gave gives n (g.book before) left name moment)

-- ---- the delivery

-- The fault is that of the delivery. The whole body was read; or the body is too large, and nothing was read.
abbrev pub IsRefusedFor : ConfigValue → Option (List ℕ) → Option (List ℕ) → List ℕ → ℕ → ℕ → Fault → Type 0
IsRefusedFor config old new name n moment fault =
    ((body : List ℕ) × Gave old new n body × (n ≤ most_named config name) × (delivery_fault config name body moment ≡ Some fault))
    ⊎ ((most_named config name < n) × Keeps old new × ((body : List ℕ) → length body ≡ n → delivery_fault config name body moment ≡ Some fault))

-- The call was cut off by a fault of the keeper. It comes only if no body that begins with what was read is refused by itself.
pub record IsCutOff (config : ConfigValue) (old new : Option (List ℕ)) (name : List ℕ) (n moment : ℕ) : Type 0 where
  pub gave : GaveUpTo old new n
  pub free : (body : List ℕ) → length body ≡ n → ((rest : List ℕ) × (body ≡ gave.front ++ rest)) → delivery_fault config name body moment ≡ None

-- A crash left the book that the history leaves after the delivery of the body that the reader gave.
pub record IsLeftBy (h : History) (old new : Option (List ℕ)) (name : List ℕ) (n moment : ℕ) (left : Option Book) : Type 0 where
  pub body : List ℕ
  pub gave_it : Gave old new n body
  pub stands : IsFaithful h (Delivery name body moment ∷ []) → left ≡ Some (book_of (followed h (Delivery name body moment) (answer h (Delivery name body moment))))

module _ {K : Type 0} (g : Ghosts K) where
  -- what a history left is still kept
  abbrev pub IsAsBefore : K → K → Type 0
  IsAsBefore before after = (h : History) → IsKept (g.is_open before) (g.book before) h → g.is_clean after → IsKept (g.is_open after) (g.book after) h

  -- What came of the delivery: the step of the body that the reader gave, or a refusal. A refusal says what was read, and
  -- after it what was kept is still kept.
  abbrev pub IsReceived : (old new : Option (List ℕ)) → (name : List ℕ) → (n moment : ℕ) → (before after : K) → Result Arrived Fault → Type 0
  IsReceived old new name n moment before after (Ok arrived) =
      (body : List ℕ) × Gave old new n body × Does g before (Delivery name body moment) (stored (Ok arrived)) after
  IsReceived old new name n moment before after (Err OutOfMemory) = GaveUpTo old new n × IsAsBefore before after
  IsReceived old new name n moment before after (Err (Keeper fault)) = IsTrue g.may_fail × IsOfDisk fault × IsCutOff (g.book before).config old new name n moment × IsAsBefore before after
  IsReceived old new name n moment before after (Err Ended) = HeldFewer old new n × IsAsBefore before after
  IsReceived old new name n moment before after (Err ReaderFailed) = GaveFewer old new n × IsAsBefore before after
  IsReceived old new name n moment before after (Err fault) = IsRefusedFor (g.book before).config old new name n moment fault × IsAsBefore before after

  -- A crash leaves what it would have left before, what the history left, or that with the body that the reader gave.
  abbrev pub LeavesReceived : (old new : Option (List ℕ)) → (name : List ℕ) → (n moment : ℕ) → (before after : K) → Type 0
  LeavesReceived old new name n moment before after = (h : History) → IsKept (g.is_open before) (g.book before) h → g.is_clean after
      → (left : Option Book) → g.may_leave after left → g.may_leave before left ⊎ ((left ≡ Some (book_of h)) ⊎ IsLeftBy h old new name n moment left)
