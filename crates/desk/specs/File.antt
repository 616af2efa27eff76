-- A large file of the pool, sent piece by piece.
use Rattle.std.specs.Prelude.{◌≡◌, ◌<◌, ◌≤◌, ℕ, List, length, Option, Some, None, Result, Ok, Err, true}
use Rattle.std.specs.Io.KnownBytes.{Appends}
use Rattle.book.specs.Pieces.{PieceValue}
use Rattle.book.specs.declared.keeper.Keeper.{Ghosts}
use Rattle.queue.specs.Histories.{Found}
use Rattle.desk.specs.Calls.{done_message}
use Rattle.desk.specs.Reply.{Message, message_text}
use Rattle.desk.specs.Transfer.{AppendsBeginning, IsBeginning}
use Rattle.desk.specs.declared.exchange.DeskFault.{DeskFault}
use Rattle.desk.specs.declared.exchange.DeskFault.TheVariants.{ReaderFailed, WriterFailed, ArchiveFailed}
use Rattle.desk.specs.declared.exchange.Served.{Served}
use Rattle.desk.specs.declared.exchange.Served.TheVariants.{Nothing, Status}

-- the reply that has a file of the pool
abbrev pub file_message : List ℕ → Message
file_message body = done_message true (Found (Some body))

-- The first piece of a file that is not read whole: of one of more than 4 MiB.
pub record IsFirst (first : PieceValue) : Type 0 where
  pub whole : length first.bytes ≡ 65536
  pub within : 4194304 < first.size

-- What was written of the reply that has this body: all of it, or a beginning. The archive fails only while one of more than 4 MiB is written.
abbrev pub HasWrittenFile : (held holds : Option (List ℕ)) → List ℕ → Result Served DeskFault → Type 0
HasWrittenFile held holds body (Ok Nothing) = ⊥
HasWrittenFile held holds body (Ok (Status status)) = (status ≡ 200) × Appends held holds (message_text (file_message body))
HasWrittenFile held holds body (Err ReaderFailed) = ⊥
HasWrittenFile held holds body (Err WriterFailed) = AppendsBeginning held holds (message_text (file_message body))
HasWrittenFile held holds body (Err ArchiveFailed) = (4194304 < length body) × AppendsBeginning held holds (message_text (file_message body))

-- What was written of these bytes of the pieces of a file of a size: all of them, and they are the whole file; or a beginning.
abbrev pub HasWrittenPieces : (size : ℕ) → (held holds : Option (List ℕ)) → List ℕ → Result (Unit {0}) DeskFault → Type 0
HasWrittenPieces size held holds bytes (Ok done) = (length bytes ≡ size) × Appends held holds bytes
HasWrittenPieces size held holds bytes (Err ReaderFailed) = ⊥
HasWrittenPieces size held holds bytes (Err WriterFailed) = AppendsBeginning held holds bytes
HasWrittenPieces size held holds bytes (Err ArchiveFailed) = AppendsBeginning held holds bytes

module _ {K : Type 0} (g : Ghosts K) where
  -- The bytes are no more than the size. If the store returns what was written to it, the file of the pool at the path has that size and
  -- begins with them.
  pub record IsFront (before : K) (path : List ℕ) (after : K) (size : ℕ) (bytes : List ℕ) : Type 0 where
    pub fits : length bytes ≤ size
    pub filed : g.is_clean after → (body : List ℕ) × ((g.book before).files path ≡ Some body) × (length body ≡ size) × IsBeginning bytes body

  -- The pieces of a file of a size were sent, or some of them.
  pub record AreSent (before : K) (path : List ℕ) (after : K) (size : ℕ) (held holds : Option (List ℕ)) (result : Result (Unit {0}) DeskFault) : Type 0 where
    pub bytes : List ℕ
    pub front : IsFront before path after size bytes
    pub written : HasWrittenPieces size held holds bytes result

  -- A file was sent, or a beginning of its reply. If the store returns what was written to it, the body of the reply is the file of the
  -- pool at the path.
  pub record IsSent (before : K) (path : List ℕ) (after : K) (held holds : Option (List ℕ)) (result : Result Served DeskFault) : Type 0 where
    pub body : List ℕ
    pub filed : g.is_clean after → (g.book before).files path ≡ Some body
    pub written : HasWrittenFile held holds body result
