-- Connections, served one after the other.
use Rattle.std.specs.Prelude.{◌≡◌, ◌≤◌, ◌⊎◌, ℕ, Bool, List, [], ◌∷◌, length, All, Option, Some, None, Result, Ok, Err, ⊤}
use Rattle.std.specs.List.{AllPairs, flat_map}
use Rattle.book.specs.Book.{Book}
use Rattle.book.specs.declared.keeper.Keeper.{Ghosts}
use Rattle.queue.specs.Answers.{IsFaithful, IsKept, IsRun, answer}
use Rattle.queue.specs.Archives.{book_of}
use Rattle.queue.specs.Histories.{Call, Reply, History, followed}
use Rattle.queue.specs.Steps.{Lasts}
use Rattle.history.specs.declared.fault.Fault.{Fault}
use Rattle.rules.specs.Values.{ConfigValue}
use Rattle.desk.specs.Calls.{call_wanted}
use Rattle.desk.specs.Exchange.{Course, Called, Told, TooLong, HasRead, HasWritten, IsAnswered, IsLeftBy, IsTooLong, KeepsLimit, MayHaveCome}
use Rattle.desk.specs.Want.{Want}
use Rattle.telling.specs.Told.{IsTold}
use Rattle.desk.specs.declared.connection.Connection.{Connection}
use Rattle.desk.specs.declared.exchange.DeskFault.{DeskFault}
use Rattle.desk.specs.declared.exchange.Served.{Served}
use Rattle.desk.specs.declared.routes.Rules.{Rules}

-- A connection as it was served: the rules that the desk goes by, the bytes that its reader gives before and after, those that its writer
-- holds before and after, the moment, and how it ended.
pub record Visit : Type 0 where
  pub rules : Rules
  pub gave : Option (List ℕ)
  pub gives : Option (List ℕ)
  pub held : Option (List ℕ)
  pub holds : Option (List ℕ)
  pub moment : ℕ
  pub end : Option (Result Served DeskFault)

module _ (rules : Rules) {R W : Type 0} (remaining : R → Option (List ℕ)) (contents : W → Option (List ℕ)) where
  -- a connection before and after
  abbrev pub visit : Connection R W → Connection R W → Visit
  visit old new = record {
    rules = rules;
    gave = remaining old.reader;
    gives = remaining new.reader;
    held = contents old.writer;
    holds = contents new.writer;
    moment = old.moment;
    end = new.end;
  }

  -- a visit for each connection, as it was before and after
  abbrev pub visits : List (Connection R W) → List (Connection R W) → List Visit
  visits [] news = []
  visits (old ∷ olds) [] = []
  visits (old ∷ olds) (new ∷ news) = visit old new ∷ visits olds news

-- The connection was answered at a moment from the first of these to the last, by a desk that goes by these rules. It comes from outside: none
-- of its bytes is known before it is read.
pub record IsClientsWithin (rules : Rules) (first last : ℕ) (v : Visit) : Type 0 where
  pub desk : v.rules ≡ rules
  pub from_first : first ≤ v.moment
  pub to_last : v.moment ≤ last
  pub foreign : v.gave ≡ None

-- The connection was answered, and ended with this result.
pub record IsServed {K : Type 0} (g : Ghosts K) (v : Visit) (before after : K) : Type 0 where
  pub result : Result Served DeskFault
  pub end_is : v.end ≡ Some result
  pub answered : IsAnswered v.rules g v.gave v.gives before after v.held v.holds v.moment result

-- what a connection asked of the archive, if the archive was called
abbrev pub calls_of_course : Course → List Call
calls_of_course (Called want body moment outcome) = call_wanted want body moment ∷ []
calls_of_course course = []

abbrev pub outcomes_of_course : Course → List (Result Reply Fault)
outcomes_of_course (Called want body moment outcome) = outcome ∷ []
outcomes_of_course course = []

abbrev pub calls_in : List Course → List Call
calls_in courses = flat_map calls_of_course courses

abbrev pub outcomes_in : List Course → List (Result Reply Fault)
outcomes_in courses = flat_map outcomes_of_course courses

-- A call of this course was made at the moment.
abbrev pub IsAt : ℕ → Course → Type 0
IsAt moment (Called want body at outcome) = at ≡ moment
IsAt moment (Told question at told) = at ≡ moment
IsAt moment course = ⊤

-- What came of the connection: the part of its bytes that the request uses was read, and the reply was written.
pub record Went (v : Visit) (course : Course) : Type 0 where
  pub read : HasRead v.rules v.gave v.gives course
  pub at : IsAt v.moment course
  pub result : Result Served DeskFault
  pub end_is : v.end ≡ Some result
  pub written : HasWritten v.held v.holds course result

-- The course is by the limit of this configuration: a body that was turned away for its size is above the limit, and one that came to the
-- archive is within it.
abbrev pub IsByLimit : ConfigValue → Course → Type 0
IsByLimit config (TooLong want) = IsTooLong config want
IsByLimit config (Called want body moment outcome) = KeepsLimit config want
IsByLimit config course = ⊤

-- one course for each connection, in order
abbrev pub AllWent : List Visit → List Course → Type 0
AllWent [] [] = ⊤
AllWent (v ∷ vs) (course ∷ courses) = Went v course × AllWent vs courses
AllWent [] (course ∷ courses) = ⊥
AllWent (v ∷ vs) [] = ⊥

-- the history after what the connection asked of the archive
abbrev pub behind : History → Course → History
behind h (Called want body moment outcome) = followed h (call_wanted want body moment) outcome
behind h course = h

-- A crash left the book that the history leaves after the whole call of this connection. If the call was refused, it is the call by a
-- body that the reader gave. If no call is known, it is the delivery of a body that may have reached the archive.
abbrev pub IsLeftIn : History → Visit → Course → Option Book → Type 0
IsLeftIn h v (Called want body at (Ok reply)) left = left ≡ Some (book_of (followed h (call_wanted want body at) (answer h (call_wanted want body at))))
IsLeftIn h v (Called want body at (Err fault)) left = IsLeftBy v.rules h v.gave v.gives want at left
IsLeftIn h v course left = MayHaveCome v.gave course × ((want : Want) × IsLeftBy v.rules h v.gave v.gives want v.moment left)

-- What was left is the book that the history leaves after the calls of none, some or all of these connections, or also after the whole
-- call of the next.
abbrev pub IsLeftAmong : History → List Visit → List Course → Option Book → Type 0
IsLeftAmong h (v ∷ vs) (course ∷ courses) left = (left ≡ Some (book_of h)) ⊎ (IsLeftIn h v course left ⊎ IsLeftAmong (behind h course) vs courses left)
IsLeftAmong h vs courses left = left ≡ Some (book_of h)

-- The answer of a question is what is so of the book that the history leaves.
abbrev pub IsToldOf : Bool → History → Course → Type 0
IsToldOf may_fail h (Told question at told) = IsTold may_fail (book_of h) question at told
IsToldOf may_fail h course = ⊤

-- The answer of each question is what is so of the book that the history leaves after the calls of the connections before it.
abbrev pub AreToldOf : Bool → History → List Course → Type 0
AreToldOf may_fail h [] = ⊤
AreToldOf may_fail h (course ∷ courses) = IsToldOf may_fail h course × AreToldOf may_fail (behind h course) courses

-- The connections were served in order, and each got the answer that its course says. The configuration is as before, and its limit is the
-- one by which a body was turned away or taken. If a history was kept before, and is faithful to what they asked, the outcomes are the
-- answers of its plain archive, each at its place, and what the longer history leaves is then kept. A question is answered by what is so
-- of the book that the history leaves at that place.
-- A crash during these connections, between two of them or after them leaves what it would have left before, or what the history leaves
-- after the calls of the first of them, and perhaps also of the next.
pub record AreServed {K : Type 0} (g : Ghosts K) (before after : K) (vs : List Visit) : Type 0 where
  pub courses : List Course
  pub went : AllWent vs courses
  pub config : (g.book after).config ≡ (g.book before).config
  pub limit : All (IsByLimit (g.book before).config) courses
  pub run : (h : History) → IsKept (g.is_open before) (g.book before) h → IsFaithful h (calls_in courses) → g.is_clean after
      → IsRun g.may_fail h (calls_in courses) (outcomes_in courses) (g.is_open after) (g.book after)
  pub told : (h : History) → IsKept (g.is_open before) (g.book before) h → IsFaithful h (calls_in courses) → g.is_clean after → g.is_open after
      → AreToldOf g.may_fail h courses
  pub crash : (h : History) → IsKept (g.is_open before) (g.book before) h → IsFaithful h (calls_in courses) → g.is_clean after
      → (left : Option Book) → g.may_leave after left → g.may_leave before left ⊎ IsLeftAmong h vs courses left

-- the second connection is at the moment of the first or later
abbrev pub IsNoLater : Visit → Visit → Type 0
IsNoLater v w = v.moment ≤ w.moment

-- The moments of connections in this order never fall: no connection is before an earlier one.
abbrev pub NeverFall : List Visit → Type 0
NeverFall vs = AllPairs IsNoLater vs

-- At most `most` connections were served, at moments that never fall, and each of them fits. All other uses of the archive were reads.
pub record HasServed {K : Type 0} (g : Ghosts K) (most : ℕ) (Fits : Visit → Type 0) (before after : K) : Type 0 where
  pub visits : List Visit
  pub number : length visits ≤ most
  pub fit : All Fits visits
  pub rise : NeverFall visits
  pub lasts : Lasts g before after
  pub served : AreServed g before after visits
