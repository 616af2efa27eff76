-- What a connection's bytes ask for, and which of them are used for that.
use Rattle.std.specs.Prelude.{◌≡◌, ◌⊎◌, ℕ, ◌<◌, ◌≤◌, true, false, List, [], ◌++◌, length, Result, Ok, Err, Option, Some, None, string_bytes, ⊤}
use Rattle.std.specs.Io.KnownBytes.{Consumes}
use Rattle.httparse.specs.Grammar.{RequestHead, ReadsRequest}
use Rattle.desk.specs.declared.head.Refusal.{Refusal}
use Rattle.desk.specs.declared.head.Refusal.TheVariants.{BadRequest, NotFound, MethodNotAllowed, Forbidden, LengthRequired, PayloadTooLarge, HeadTooLarge, NotImplemented, OutOfMemory}
use Rattle.desk.specs.declared.routes.Route.{Route}
use Rattle.desk.specs.declared.head.Ask.{Ask}
use Rattle.desk.specs.declared.head.Ask.TheVariants as w
use Rattle.desk.specs.Transfer.{IsBeginning, ends_head, NotEarlier}
use Rattle.desk.specs.Want.{Want, wanted, delivery, queue_run, copying, fetching, waiting_list, cleaning, verdict_list, removing, promoting, asking}
use Rattle.telling.specs.Told.{question_of}
use Rattle.desk.specs.declared.routes.Rules.{Rules}

-- an `Ask` without where it lies in memory
abbrev pub want_of : Ask → Want
want_of (w.Deliver name n) = delivery (string_bytes name) n
want_of w.Run = queue_run
want_of (w.Copy from to source) = copying (string_bytes from) (string_bytes to) (string_bytes source)
want_of (w.Fetch path is_pool) = fetching (string_bytes path) is_pool
want_of w.Waiting = waiting_list
want_of w.Clean = cleaning
want_of w.Verdicts = verdict_list
want_of (w.Remove suite name) = removing (string_bytes suite) (string_bytes name)
want_of (w.Promote from to) = promoting (string_bytes from) (string_bytes to)
want_of (w.Question question) = asking (question_of question)

-- a route with its `Ask`, without where that lies in memory
abbrev pub found_want : Route × Ask → Route × Want
found_want (route, wanted) = (route, want_of wanted)

-- all of the text is one request head of the grammar, with at most 32 fields
abbrev pub IsHead : List ℕ → RequestHead → Type 0
IsHead text h = ReadsRequest text h [] × (length h.fields ≤ 32)

-- What the text of a head asks for, at a desk that goes by these rules: what its checks give, or a refusal if it is no head.
abbrev pub HeadAsks : Rules → List ℕ → Result Want Refusal → Type 0
HeadAsks rules text asked =
    ((h : RequestHead) × IsHead text h × (asked ≡ wanted rules h))
    ⊎ (((h : RequestHead) → IsHead text h → ⊥) × (asked ≡ Err BadRequest))

-- what a function returned, seen by view, is as P says, unless memory ran out
abbrev pub Gives : {X Y : Type 0} → (X → Y) → Result X Refusal → (Result Y Refusal → Type 0) → Type 0
Gives view (Ok x) P = P (Ok (view x))
Gives view (Err OutOfMemory) P = ⊤
Gives view (Err BadRequest) P = P (Err BadRequest)
Gives view (Err NotFound) P = P (Err NotFound)
Gives view (Err (MethodNotAllowed m)) P = P (Err (MethodNotAllowed m))
Gives view (Err Forbidden) P = P (Err Forbidden)
Gives view (Err LengthRequired) P = P (Err LengthRequired)
Gives view (Err PayloadTooLarge) P = P (Err PayloadTooLarge)
Gives view (Err HeadTooLarge) P = P (Err HeadTooLarge)
Gives view (Err NotImplemented) P = P (Err NotImplemented)

-- the text ends with the first empty line in it, within the limit of a head
pub record IsFirstHead (text : List ℕ) : Type 0 where
  pub ends : ends_head text ≡ true
  pub first : NotEarlier text
  pub limit : length text ≤ 8192

-- no beginning of the text, nor all of it, ends with an empty line
abbrev pub HasNoEnd : List ℕ → Type 0
HasNoEnd text = NotEarlier text × (ends_head text ≡ false)

-- how many bytes of body belong to what is wanted
abbrev pub body_length : Want → ℕ
body_length (delivery name n) = n
body_length queue_run = 0
body_length (copying a b c) = 0
body_length (fetching p k) = 0
body_length waiting_list = 0
body_length cleaning = 0
body_length verdict_list = 0
body_length (removing a b) = 0
body_length (promoting a b) = 0
body_length (asking question) = 0

-- what a connection asks for
pub data Asked : Type 0 where
  nothing : Asked
  refused : Refusal → Asked
  asks : (want : Want) → (body : List ℕ) → Asked

-- the input ends within the head
pub record IsCutHead (bytes used : List ℕ) (e : Refusal) : Type 0 where
  pub some : 0 < length bytes
  pub short : length bytes < 8192
  pub unended : HasNoEnd bytes
  pub used_is : used ≡ bytes
  pub refusal : e ≡ BadRequest

-- the head does not end within its limit
pub record IsLongHead (bytes used : List ℕ) (e : Refusal) : Type 0 where
  pub rest : List ℕ
  pub split : bytes ≡ used ++ rest
  pub limit : length used ≡ 8192
  pub unended : HasNoEnd used
  pub refusal : e ≡ HeadTooLarge

-- the reader gives these bytes in all, if its bytes are known
abbrev pub IsGiven : Option (List ℕ) → List ℕ → Type 0
IsGiven None bytes = ⊤
IsGiven (Some xs) bytes = xs ≡ bytes

module _ (rules : Rules) where
  -- the head is refused
  pub record IsRefusedHead (bytes used : List ℕ) (e : Refusal) : Type 0 where
    pub rest : List ℕ
    pub split : bytes ≡ used ++ rest
    pub head : IsFirstHead used
    pub refusal : HeadAsks rules used (Err e)

  -- the input ends within the body
  pub record IsCutBody (bytes used : List ℕ) (e : Refusal) : Type 0 where
    pub head : List ℕ
    pub body : List ℕ
    pub want : Want
    pub split : bytes ≡ head ++ body
    pub first : IsFirstHead head
    pub asked : HeadAsks rules head (Ok want)
    pub short : length body < body_length want
    pub used_is : used ≡ bytes
    pub refusal : e ≡ BadRequest

  -- a head that passes its checks, and its body
  pub record IsWhole (bytes used : List ℕ) (want : Want) (body : List ℕ) : Type 0 where
    pub head : List ℕ
    pub rest : List ℕ
    pub split : bytes ≡ used ++ rest
    pub used_is : used ≡ head ++ body
    pub first : IsFirstHead head
    pub asked : HeadAsks rules head (Ok want)
    pub size : length body ≡ body_length want

  -- this part of the bytes that a connection gives is used, and it asks for this
  abbrev pub IsRequest : List ℕ → List ℕ → Asked → Type 0
  IsRequest bytes used nothing = (bytes ≡ []) × (used ≡ [])
  IsRequest bytes used (refused e) = IsCutHead bytes used e ⊎ (IsLongHead bytes used e ⊎ (IsRefusedHead bytes used e ⊎ IsCutBody bytes used e))
  IsRequest bytes used (asks want body) = IsWhole bytes used want body

  -- whatever bytes begin with these, the part of them that a request uses does so too
  abbrev pub IsPartOfUsed : List ℕ → Type 0
  IsPartOfUsed front = (bytes used : List ℕ) (asked : Asked) → IsBeginning front bytes → IsRequest bytes used asked → IsBeginning front used

  -- what a reader gave was used for this, and the rest is unread
  pub record Received (old new : Option (List ℕ)) (asked : Asked) : Type 0 where
    pub bytes : List ℕ
    pub used : List ℕ
    pub given : IsGiven old bytes
    pub is : IsRequest bytes used asked
    pub read : Consumes old new used
