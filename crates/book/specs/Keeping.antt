-- What the calls of a keeper ask and answer.
use Rattle.std.specs.Prelude.{◌≡◌, ◌≢◌, ◌≤◌, ◌<◌, ◌%◌, ◌+◌, ◌-◌, ◌^◌, min, Option, All, AllPairs, ℕ, Bool, true, IsTrue, not, List, [], ◌∷◌, map, take, length, Ok, Contains, ⊤, ◌⊎◌, Some, is_some}
use Rattle.std.specs.FinMap.{get}
use Rattle.records.specs.Values.{ChangesValue}
use Rattle.records.specs.Records.{changes_in}
use Rattle.sums.specs.FileNames.{is_changes_name, is_file_name}
use Rattle.sums.specs.Lines.{greatest_size}
use Rattle.sums.specs.Prints.{print as print_of}
use Rattle.sums.specs.declared.print.Print.{Print}
use Rattle.suites.specs.Plan.{IsStep, applied}
use Rattle.suites.specs.Shelves.{ShelvesValue, pool}
use Rattle.suites.specs.Told.{AreTold}
use Rattle.book.specs.Book.{Book, Candidate, amended, at_moment, delivery, due, has_delivery, judgements, shown_past, stored_body, text_at, with_delivery}
use Rattle.book.specs.declared.arrival.Arrival.{Arrival}
use Rattle.book.specs.declared.change.Step.{Step}
use Rattle.book.specs.declared.change.Change.{Change}
use Rattle.book.specs.declared.change.IndexText.{IndexText}
use Rattle.book.specs.declared.change.Judgement.{Judgement}
use Rattle.book.specs.declared.fault.KeepFault.{KeepFault}
use Rattle.book.specs.declared.fault.KeepFault.TheVariants.{OutOfMemory, Disk, Size, NoArchive, Configuration}

-- No two of these bodies have the same print.
abbrev pub NoCollision : List (List ℕ) → Type 0
NoCollision bodies = (a b : List ℕ) → Contains bodies a → Contains bodies b → print_of a ≡ print_of b → a ≡ b

-- the bodies are those of the book, of its arrivals and its files, and perhaps others
pub record HasBodies (bodies : List (List ℕ)) (book : Book) : Type 0 where
  pub arrivals : (a : Arrival) → Contains book.arrivals a → Contains bodies a.body
  pub files : (path body : List ℕ) → book.files path ≡ Some body → Contains bodies body

-- A delivery that may be kept: a file name, a body of at most 1 GiB, and a record if the name is that of a .changes.
pub record IsDeliverable (name body : List ℕ) : Type 0 where
  pub file_name : is_file_name name ≡ true
  pub small : length body ≤ greatest_size
  pub a_record : is_changes_name name ≡ true → (c : ChangesValue) × changes_in body ≡ Ok c

-- each plan is a step from what those before it leave
abbrev pub AreSteps : ShelvesValue → List Step → Type 0
AreSteps shown [] = ⊤
AreSteps shown (step ∷ steps) = ((after : ShelvesValue) × IsStep shown after step.plan) × AreSteps (applied shown step.plan) steps

-- an upload by the name and the print of its .changes
abbrev pub sign_of : Candidate → List ℕ × Print
sign_of c = (c.name, print_of c.body)

abbrev pub sign_on : Judgement → List ℕ × Print
sign_on j = (j.name, j.print)

-- The texts are those after a change of a book, each path once, and are exactly those that differ.
pub record AreRenewed (old new : Book) (texts : List IndexText) : Type 0 where
  pub apart : AllPairs (λ t u. t.path ≢ u.path) texts
  pub named : All (λ t. (text_at new t.path ≡ Some t.text) × (text_at old t.path ≢ Some t.text)) texts
  pub rest : (path : List ℕ) → Contains (map (λ t. t.path) texts) path ⊎ (text_at old path ≡ text_at new path)

-- Each plan is made for what those before it leave. The judged uploads are the first of those that are due at the moment of
-- the change. The texts are those that differ after it. If the records of all that the suites show before the change say
-- what is shown (`AreTold`), they also do after it.
pub record IsSound (book : Book) (change : Change) : Type 0 where
  pub plans : AreSteps book.shown change.steps
  pub judged : map sign_on (judgements change.steps) ≡ map sign_of (take (length (judgements change.steps)) (due (at_moment change.moment book)))
  pub texts : AreRenewed book (amended book change) change.texts
  pub told : AreTold book.config.suites book.shown → AreTold book.config.suites (shown_past book.shown change.steps)

-- The book has a body for each file that the pool has after the change: at the file's path, or an arrival with its print.
abbrev pub HasEachBody : Book → Change → Type 0
HasEachBody book change = (path : List ℕ) (print : Print) → get (pool (shown_past book.shown change.steps)) path ≡ Some print
    → IsTrue (is_some (stored_body book path print))

-- The disk failed meanwhile: the count of its failures rose, unless it is at the top of a `u64`.
abbrev pub MoreFaults : ℕ → ℕ → Type 0
MoreFaults before after = min (before + 1) (2 ^ 64 - 1) ≤ after

-- What each call leaves of a keeper: one that is clean was clean, one that is open was open, and only a failure of the disk shuts
-- it. The configuration stays.
pub record Lasts {K : Type 0} (is_clean is_open : K → Type 0) (faults : K → ℕ) (book : K → Book) (old new : K) : Type 0 where
  pub clean : is_clean new → is_clean old
  pub counts : faults old ≤ faults new
  pub was_open : is_clean new → is_open new → is_open old
  pub stays : is_clean new → is_open old → is_open new ⊎ MoreFaults (faults old) (faults new)
  pub config : (book new).config ≡ (book old).config

-- What a call leaves of a keeper if the configuration may be another after it: all that `Lasts` says but for the
-- configuration.
pub record Endures {K : Type 0} (is_clean is_open : K → Type 0) (faults : K → ℕ) (old new : K) : Type 0 where
  pub clean : is_clean new → is_clean old
  pub counts : faults old ≤ faults new
  pub was_open : is_clean new → is_open new → is_open old
  pub stays : is_clean new → is_open old → is_open new ⊎ MoreFaults (faults old) (faults new)

-- What a read leaves: the book of a keeper that is open, and nothing that a crash would not have left before.
pub record Reads {K : Type 0} (is_clean is_open : K → Type 0) (faults : K → ℕ) (book : K → Book) (may_leave : K → Option Book → Type 0) (old new : K) : Type 0 where
  pub lasts : Lasts is_clean is_open faults book old new
  pub same : is_clean new → is_open new → book new ≡ book old
  pub crash : is_clean new → (left : Option Book) → may_leave new left → may_leave old left

-- What a call leaves of a keeper if it makes nothing arrive and changes nothing: a keeper that is open has the same book,
-- and a crash leaves what it would have left before, or that book.
pub record Stays {K : Type 0} (is_clean is_open : K → Type 0) (faults : K → ℕ) (book : K → Book) (may_leave : K → Option Book → Type 0) (old new : K) : Type 0 where
  pub lasts : Lasts is_clean is_open faults book old new
  pub same : is_clean new → is_open new → book new ≡ book old
  pub crash : is_clean new → (left : Option Book) → may_leave new left → may_leave old left ⊎ (is_open old × (left ≡ Some (book old)))

-- What a crash may leave after a call that writes: what it would have left before, or all that the call does.
abbrev pub Leaves : {K : Type 0} → (is_clean is_open : K → Type 0) → (may_leave : K → Option Book → Type 0) → K → K → (Option Book → Type 0) → Type 0
Leaves is_clean is_open may_leave old new Whole = is_clean new → (left : Option Book) → may_leave new left → may_leave old left ⊎ (is_open old × Whole left)

-- P holds if no two of some bodies have one print. These are the bodies of the book and perhaps others.
abbrev pub Apart : Book → Type 0 → Type 0
Apart book P = (bodies : List (List ℕ)) → NoCollision bodies → HasBodies bodies book → P

-- P holds if no two of some bodies have one print. These are the bodies of the book, this body and perhaps others.
abbrev pub ApartWith : Book → List ℕ → Type 0 → Type 0
ApartWith book body P = (bodies : List (List ℕ)) → NoCollision bodies → HasBodies bodies book → Contains bodies body → P

-- P holds of whatever body is coming
abbrev pub OverComing : Option (List ℕ) → (List ℕ → Type 0) → Type 0
OverComing coming P = (body : List ℕ) → coming ≡ Some body → P body

module _ (book : Book) (name : List ℕ) (moment : ℕ) where
  -- the answer says whether a delivery of this body is new: whether no arrival of its name and body counts at the moment
  abbrev pub TellsNew : Bool → List ℕ → Type 0
  TellsNew new body = ApartWith book body (new ≡ not (has_delivery book (delivery name body moment)))

  -- the other book is this one with the delivery of this body
  abbrev pub TakesDelivery : Book → List ℕ → Type 0
  TakesDelivery after body = ApartWith book body (after ≡ with_delivery book (delivery name body moment))

  -- what a crash left is this book with the delivery of this body
  abbrev pub IsLeftDelivered : Option Book → List ℕ → Type 0
  IsLeftDelivered left body = ApartWith book body (left ≡ Some (with_delivery book (delivery name body moment)))

-- A keeper may always answer want of memory. Only a keeper that can fail may answer a fault of the disk or of size. No
-- call of a keeper answers the other two faults.
abbrev pub MayAnswer : Bool → KeepFault → Type 0
MayAnswer may_fail OutOfMemory = ⊤
MayAnswer may_fail Disk = IsTrue may_fail
MayAnswer may_fail Size = IsTrue may_fail
MayAnswer may_fail NoArchive = ⊥
MayAnswer may_fail Configuration = ⊥

-- A body was begun, of whole pieces so far, and these bytes can be its next piece.
pub record TakesPiece (coming : Option (List ℕ)) (bytes : List ℕ) : Type 0 where
  pub body : List ℕ
  pub begun : coming ≡ Some body
  pub whole : length body % 65536 ≡ 0
  pub some : 0 < length bytes
  pub small : length bytes ≤ 65536

-- A body was begun that may be kept under this name.
pub record IsWholeFor (coming : Option (List ℕ)) (name : List ℕ) : Type 0 where
  pub body : List ℕ
  pub begun : coming ≡ Some body
  pub deliverable : IsDeliverable name body
