-- What a request is answered with: a reply that is at hand, or a large file of the pool.
use Rattle.std.specs.Prelude.{◌≡◌, ℕ, List, [], Option, Some, None, string_bytes, true}
use Rattle.book.specs.Pieces.{piece_value}
use Rattle.book.specs.declared.keeper.Keeper.{Ghosts}
use Rattle.queue.specs.Pieces.{HasFirst}
use Rattle.queue.specs.Steps.{Reads}
use Rattle.desk.specs.Exchange.{IsCalled, IsHandled}
use Rattle.desk.specs.File.{IsFirst}
use Rattle.desk.specs.Message.{message_of}
use Rattle.desk.specs.Request.{Received, asks}
use Rattle.desk.specs.Want.{fetching}
use Rattle.desk.specs.declared.exchange.Outgoing.{Outgoing}
use Rattle.desk.specs.declared.exchange.Outgoing.TheVariants.{Whole, Pieces}
use Rattle.desk.specs.declared.file.LargeFile.{LargeFile}
use Rattle.desk.specs.declared.routes.Rules.{Rules}

module _ {K : Type 0} (g : Ghosts K) where
  -- The first piece of a large file was read, and nothing of the archive changed.
  pub record IsFound (before after : K) (path : List ℕ) (file : LargeFile) : Type 0 where
    pub path_is : string_bytes file.path ≡ path
    pub reads : Reads g before after
    pub first : HasFirst g after path (piece_value file.first)
    pub size : IsFirst (piece_value file.first)

  -- The file of the pool at a path was looked up, at whatever moment: its reply is at hand, or its first piece.
  abbrev pub IsFoundAs : K → K → List ℕ → Outgoing → Type 0
  IsFoundAs before after path (Whole reply) = (moment : ℕ) → IsCalled g before after (fetching path true) [] moment (message_of reply)
  IsFoundAs before after path (Pieces file) = IsFound before after path file

module _ (rules : Rules) {K : Type 0} (g : Ghosts K) where
  -- The request was for a file of the pool, and its first piece was read.
  pub record IsAskedFor (old new : Option (List ℕ)) (before after : K) (file : LargeFile) : Type 0 where
    pub read : Received rules old new (asks (fetching (string_bytes file.path) true) [])
    pub found : IsFound g before after (string_bytes file.path) file

  -- A request was read and carried out, and the reply is at hand, or the first piece of the file that it asks for; or no byte came.
  abbrev pub IsOutgoing : Option (List ℕ) → Option (List ℕ) → K → K → ℕ → Option Outgoing → Type 0
  IsOutgoing old new before after moment None = IsHandled rules g old new before after moment None
  IsOutgoing old new before after moment (Some (Whole reply)) = IsHandled rules g old new before after moment (Some (message_of reply))
  IsOutgoing old new before after moment (Some (Pieces file)) = IsAskedFor old new before after file
