-- One connection: what its bytes ask for, what becomes of the archive, and what is written.
use Rattle.std.specs.Prelude.{◌≡◌, ◌<◌, ◌≤◌, ◌⊎◌, ⊤, ℕ, List, [], ◌∷◌, cond, length, Option, Some, None, Result, Ok, Err}
use Rattle.std.specs.Io.KnownBytes.{Appends, Consumes, IsAtEnd, Keeps}
use Rattle.book.specs.Book.{Book}
use Rattle.book.specs.declared.keeper.Keeper.{Ghosts}
use Rattle.queue.specs.Answers.{IsFaithful, IsKept, answer}
use Rattle.queue.specs.Archives.{book_of}
use Rattle.queue.specs.Histories.{Call, Reply, History, followed}
use Rattle.queue.specs.Receiving.{IsAsBefore}
use Rattle.queue.specs.Steps.{Does, LeavesCall, Reads}
use Rattle.history.specs.Deliveries.{most_named}
use Rattle.history.specs.declared.fault.Fault.{Fault}
use Rattle.rules.specs.Values.{ConfigValue}
use Rattle.desk.specs.Answer.{refusal_message}
use Rattle.desk.specs.Calls.{call_wanted, is_call, outcome_message, told_message}
use Rattle.desk.specs.Incoming.{HasHead, ReadsBeginning, ReadsUpTo}
use Rattle.desk.specs.Reply.{Message, message_text}
use Rattle.desk.specs.Request.{Received, asks, body_length, nothing, refused}
use Rattle.desk.specs.Transfer.{AppendsBeginning}
use Rattle.desk.specs.Want.{Want, asking, delivery}
use Rattle.telling.specs.Told.{Asking, IsTold}
use Rattle.telling.specs.declared.fault.TellFault.{TellFault}
use Rattle.desk.specs.declared.exchange.DeskFault.{DeskFault}
use Rattle.desk.specs.declared.exchange.DeskFault.TheVariants.{ReaderFailed, WriterFailed, ArchiveFailed}
use Rattle.desk.specs.declared.exchange.Served.{Served}
use Rattle.desk.specs.declared.exchange.Served.TheVariants.{Nothing, Status}
use Rattle.desk.specs.declared.head.Refusal.{Refusal}
use Rattle.desk.specs.declared.head.Refusal.TheVariants.{BadRequest, OutOfMemory, PayloadTooLarge}
use Rattle.desk.specs.declared.routes.Rules.{Rules}

-- What came of a connection. In the first five courses no command was made, and the archive is as before: no byte came; the bytes were
-- refused, or ended early; a body is too large, and no byte of it was read; memory was short, or the keeper failed while a body came; the
-- reader failed. In the next the archive was called, at a moment, with an outcome. In the last a question was asked, which changes nothing,
-- and had this answer.
pub data Course : Type 0 where
  Silent : Course
  TurnedAway : (refusal : Refusal) → Course
  TooLong : (want : Want) → Course
  Short : Course
  Broken : Course
  Called : (want : Want) → (body : List ℕ) → (moment : ℕ) → (outcome : Result Reply Fault) → Course
  Told : (question : Asking) → (moment : ℕ) → (told : Result (Option (List ℕ)) TellFault) → Course

-- The body of what is wanted is larger than an archive with this configuration takes under its name.
abbrev pub IsTooLong : ConfigValue → Want → Type 0
IsTooLong config (delivery name n) = most_named config name < n
IsTooLong config want = ⊥

-- The body of what is wanted, if it has one, is no larger than an archive with this configuration takes under its name.
abbrev pub KeepsLimit : ConfigValue → Want → Type 0
KeepsLimit config (delivery name n) = n ≤ most_named config name
KeepsLimit config want = ⊤

-- The reply, if there is one. A question is answered by the text that answers it, and never as a call is.
abbrev pub reply_of : Course → Option Message
reply_of Silent = None
reply_of (TurnedAway refusal) = Some (refusal_message refusal)
reply_of (TooLong want) = Some (refusal_message PayloadTooLarge)
reply_of Short = Some (refusal_message OutOfMemory)
reply_of Broken = None
reply_of (Called want body moment outcome) = cond (is_call want) (Some (outcome_message want outcome)) None
reply_of (Told question moment told) = Some (told_message question told)

-- the whole reply was written, and this is its status
pub record IsReplied (held holds : Option (List ℕ)) (course : Course) (status : ℕ) : Type 0 where
  pub message : Message
  pub reply : reply_of course ≡ Some message
  pub status_is : status ≡ message.status
  pub written : Appends held holds (message_text message)

-- a beginning of the reply was written
pub record IsCutOff (held holds : Option (List ℕ)) (course : Course) : Type 0 where
  pub message : Message
  pub reply : reply_of course ≡ Some message
  pub written : AppendsBeginning held holds (message_text message)

-- a beginning of a reply was written whose body has more than 4 MiB
pub record IsCutInFile (held holds : Option (List ℕ)) (course : Course) : Type 0 where
  pub message : Message
  pub reply : reply_of course ≡ Some message
  pub large : 4194304 < length message.body
  pub written : AppendsBeginning held holds (message_text message)

-- what was written, for each answer to the caller
abbrev pub HasWritten : Option (List ℕ) → Option (List ℕ) → Course → Result Served DeskFault → Type 0
HasWritten held holds course (Ok Nothing) = (course ≡ Silent) × Keeps held holds
HasWritten held holds course (Ok (Status status)) = IsReplied held holds course status
HasWritten held holds course (Err ReaderFailed) = (course ≡ Broken) × Keeps held holds
HasWritten held holds course (Err WriterFailed) = IsCutOff held holds course
HasWritten held holds course (Err ArchiveFailed) = IsCutInFile held holds course

-- What was read after the head of what is wanted: its body, or a part of it.
abbrev pub HasReadBehind : Option (List ℕ) → Option (List ℕ) → Want → Course → Type 0
HasReadBehind old new want (TooLong other) = (other ≡ want) × Keeps old new
HasReadBehind old new want Short = ReadsUpTo old new (body_length want)
HasReadBehind old new want Broken = ReadsUpTo old new (body_length want)
HasReadBehind old new want (TurnedAway BadRequest) = (front : List ℕ) × Consumes old new front × (length front < body_length want) × IsAtEnd new
HasReadBehind old new want (Called other body moment outcome) = (other ≡ want) × (length body ≡ body_length want) × Consumes old new body
HasReadBehind old new want (Told question moment told) = (asking question ≡ want) × Consumes old new []
HasReadBehind old new want course = ⊥

-- Whether a body may have reached the archive although no call is known. A reader whose bytes are known, and which fails or ends early,
-- has not given a whole body.
abbrev pub MayHaveCome : Option (List ℕ) → Course → Type 0
MayHaveCome gave Short = ⊤
MayHaveCome gave Broken = gave ≡ None
MayHaveCome gave (TooLong want) = gave ≡ None
MayHaveCome gave (TurnedAway BadRequest) = gave ≡ None
MayHaveCome gave course = ⊥

-- A crash left the book that the history leaves after the call that is wanted, by a body that the reader gave after the head.
pub record IsLeftBehind (h : History) (gave gives : Option (List ℕ)) (want : Want) (moment : ℕ) (left : Option Book) : Type 0 where
  pub body : List ℕ
  pub size : length body ≡ body_length want
  pub read : Consumes gave gives body
  pub stands : IsFaithful h (call_wanted want body moment ∷ []) → left ≡ Some (book_of (followed h (call_wanted want body moment) (answer h (call_wanted want body moment))))

module _ {K : Type 0} (g : Ghosts K) where
  -- A crash during these calls leaves what it would have left before, what the history left, or what `Else` says.
  abbrev pub LeavesOr : K → K → List Call → (History → Option Book → Type 0) → Type 0
  LeavesOr before after calls Else = (h : History) → IsKept (g.is_open before) (g.book before) h → IsFaithful h calls → g.is_clean after
      → (left : Option Book) → g.may_leave after left → g.may_leave before left ⊎ ((left ≡ Some (book_of h)) ⊎ Else h left)

  -- What a crash leaves during or after what follows a head, as `LeavesCourse` says.
  abbrev pub LeavesBehind : (gave gives : Option (List ℕ)) → Want → ℕ → K → K → Course → Type 0
  LeavesBehind gave gives want moment before after (Called other body at (Ok reply)) = LeavesCall g before (call_wanted other body moment) after
  LeavesBehind gave gives want moment before after (Called other body at (Err fault)) = LeavesOr before after (call_wanted other body moment ∷ []) (λ h left. IsLeftBehind h gave gives other moment left)
  LeavesBehind gave gives want moment before after course = LeavesOr before after [] (λ h left. MayHaveCome gave course × IsLeftBehind h gave gives want moment left)

  -- The archive was read, and this is the answer of the question on its book.
  pub record IsAsked (before after : K) (question : Asking) (moment : ℕ) (told : Result (Option (List ℕ)) TellFault) : Type 0 where
    pub reads : Reads g before after
    pub is : g.is_clean after → IsTold g.may_fail (g.book before) question moment told

  -- If no byte came nothing happened. If the archive was called, the call was made at the moment that is handed in, and its body is within
  -- the limit of the archive's configuration. The answer of a question is what is so at that moment. Else what was kept is still kept. A body is too large if
  -- it is above that limit.
  abbrev pub Leaves : ℕ → K → K → Course → Type 0
  Leaves moment before after Silent = after ≡ before
  Leaves moment before after (TooLong want) = IsTooLong (g.book before).config want × IsAsBefore g before after
  Leaves moment before after (Called want body at outcome) =
      (at ≡ moment) × KeepsLimit (g.book before).config want × Does g before (call_wanted want body moment) outcome after
  Leaves moment before after (Told question at told) = (at ≡ moment) × IsAsked before after question moment told
  Leaves moment before after course = IsAsBefore g before after

  -- The archive was called, and this is the reply to its outcome.
  pub record IsCalled (before after : K) (want : Want) (body : List ℕ) (moment : ℕ) (message : Message) : Type 0 where
    pub outcome : Result Reply Fault
    pub done : Does g before (call_wanted want body moment) outcome after
    pub crash : LeavesCall g before (call_wanted want body moment) after
    pub message_is : message ≡ outcome_message want outcome

  -- What a head asks for was carried out, or refused: what was read after the head, and the reply, if there is one.
  pub record IsCarriedOut (old new : Option (List ℕ)) (before after : K) (want : Want) (moment : ℕ) (message : Option Message) : Type 0 where
    pub course : Course
    pub read : HasReadBehind old new want course
    pub leaves : Leaves moment before after course
    pub crash : LeavesBehind old new want moment before after course
    pub reply : reply_of course ≡ message

module _ (rules : Rules) where
  -- What was read: the part that the request uses, and no more. If a body is too large, it is the head alone. If memory was short or the
  -- reader failed, it is a beginning of the part that the request uses.
  abbrev pub HasRead : Option (List ℕ) → Option (List ℕ) → Course → Type 0
  HasRead old new Silent = Received rules old new nothing
  HasRead old new (TurnedAway refusal) = Received rules old new (refused refusal)
  HasRead old new (TooLong want) = HasHead rules old new want
  HasRead old new Short = ReadsBeginning rules old new
  HasRead old new Broken = ReadsBeginning rules old new
  HasRead old new (Called want body moment outcome) = Received rules old new (asks want body)
  HasRead old new (Told question moment told) = Received rules old new (asks (asking question) [])

  -- A crash left the book that the history leaves after the call that is wanted, by a body that the reader gave.
  pub record IsLeftBy (h : History) (gave gives : Option (List ℕ)) (want : Want) (moment : ℕ) (left : Option Book) : Type 0 where
    pub body : List ℕ
    pub read : Received rules gave gives (asks want body)
    pub stands : IsFaithful h (call_wanted want body moment ∷ []) → left ≡ Some (book_of (followed h (call_wanted want body moment) (answer h (call_wanted want body moment))))

  module _ {K : Type 0} (g : Ghosts K) where
    -- What a crash during or after the connection leaves. If the call was done, it is what a crash leaves of a call. If the call was
    -- refused, it is what a crash leaves of the call by a body that the reader gave. If no call is known, it is what it would have left
    -- before, or what the history left; and if a body may have reached the archive, perhaps all that its delivery does.
    abbrev pub LeavesCourse : (gave gives : Option (List ℕ)) → ℕ → K → K → Course → Type 0
    LeavesCourse gave gives moment before after (Called want body at (Ok reply)) = LeavesCall g before (call_wanted want body moment) after
    LeavesCourse gave gives moment before after (Called want body at (Err fault)) = LeavesOr g before after (call_wanted want body moment ∷ []) (λ h left. IsLeftBy h gave gives want moment left)
    LeavesCourse gave gives moment before after course = LeavesOr g before after [] (λ h left. MayHaveCome gave course × ((want : Want) × IsLeftBy h gave gives want moment left))

    -- A request was read and carried out, and the reply is at hand.
    pub record IsHandledWith (old new : Option (List ℕ)) (before after : K) (moment : ℕ) (message : Message) : Type 0 where
      pub course : Course
      pub read : HasRead old new course
      pub leaves : Leaves g moment before after course
      pub crash : LeavesCourse old new moment before after course
      pub reply : reply_of course ≡ Some message

    -- A request was read and carried out, and the reply is at hand; or no byte came, and there is no reply.
    abbrev pub IsHandled : Option (List ℕ) → Option (List ℕ) → K → K → ℕ → Option Message → Type 0
    IsHandled old new before after moment None = Received rules old new nothing × (after ≡ before)
    IsHandled old new before after moment (Some message) = IsHandledWith old new before after moment message

    -- One connection was answered: a reader's bytes before and after, the archive before and after, a writer's bytes before and after, the
    -- moment and the answer to the caller.
    pub record IsAnswered (old new : Option (List ℕ)) (before after : K) (held holds : Option (List ℕ)) (moment : ℕ)
        (result : Result Served DeskFault) : Type 0 where
      pub course : Course
      pub read : HasRead old new course
      pub leaves : Leaves g moment before after course
      pub crash : LeavesCourse old new moment before after course
      pub written : HasWritten held holds course result
