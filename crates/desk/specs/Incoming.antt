-- What was read of a connection.
use Rattle.std.specs.Prelude.{ℕ, ◌≤◌, List, length, Option, Ok}
use Rattle.std.specs.Io.KnownBytes.{Consumes}
use Rattle.desk.specs.declared.head.Refusal.{Refusal}
use Rattle.desk.specs.declared.head.Refusal.TheVariants.{BadRequest, NotFound, MethodNotAllowed, Forbidden, LengthRequired, PayloadTooLarge, HeadTooLarge, NotImplemented, OutOfMemory}
use Rattle.desk.specs.declared.request.Request.{Request}
use Rattle.desk.specs.declared.request.Request.TheVariants as r
use Rattle.desk.specs.Request.{HeadAsks, IsFirstHead, IsPartOfUsed, Received, nothing, refused, want_of}
use Rattle.desk.specs.Want.{Want}
use Rattle.desk.specs.declared.routes.Rules.{Rules}

-- at most `most` bytes were read
pub record ReadsUpTo (old new : Option (List ℕ)) (most : ℕ) : Type 0 where
  pub front : List ℕ
  pub read : Consumes old new front
  pub short : length front ≤ most

module _ (rules : Rules) where
  -- no more was read than a beginning of the part that the request uses
  pub record ReadsBeginning (old new : Option (List ℕ)) : Type 0 where
    pub front : List ℕ
    pub read : Consumes old new front
    pub used : IsPartOfUsed rules front

  -- a refusal follows from what was read, unless memory ran out
  abbrev pub IsRefused : Option (List ℕ) → Option (List ℕ) → Refusal → Type 0
  IsRefused old new OutOfMemory = ReadsBeginning old new
  IsRefused old new BadRequest = Received rules old new (refused BadRequest)
  IsRefused old new NotFound = Received rules old new (refused NotFound)
  IsRefused old new (MethodNotAllowed m) = Received rules old new (refused (MethodNotAllowed m))
  IsRefused old new Forbidden = Received rules old new (refused Forbidden)
  IsRefused old new LengthRequired = Received rules old new (refused LengthRequired)
  IsRefused old new PayloadTooLarge = Received rules old new (refused PayloadTooLarge)
  IsRefused old new HeadTooLarge = Received rules old new (refused HeadTooLarge)
  IsRefused old new NotImplemented = Received rules old new (refused NotImplemented)

  -- A head was read, and it asks for this. No byte after it was read.
  pub record HasHead (old new : Option (List ℕ)) (want : Want) : Type 0 where
    pub head : List ℕ
    pub read : Consumes old new head
    pub first : IsFirstHead head
    pub asked : HeadAsks rules head (Ok want)

  -- a request was read as far as its head
  abbrev pub IsIncoming : Option (List ℕ) → Option (List ℕ) → Request → Type 0
  IsIncoming old new r.Nothing = Received rules old new nothing
  IsIncoming old new (r.Refused e) = IsRefused old new e
  IsIncoming old new (r.Asks wanted) = HasHead old new (want_of wanted)
