-- A large file of the pool that is sent piece by piece.
use Rattle.std.proofs.Common.{◌≡◌, ℕ, ◌+◌, ◌*◌, ◌-◌, ◌≤◌, ◌<◌, List, [], ◌++◌, Option, Some, None, Result, Ok, Err, Bool, true, false, refl, sym, ap, ◌∙◌, subst, take, drop, length, unwrap_or, string_bytes, replicate, arith, append_assoc, append-nil, length-append, take-append-drop}
use Rattle.std.specs.Prelude.{⊤, ◌&&◌, min, nat_eq, nat_lt}
use Rattle.std.specs.Option.{option_map, option_or}
use Rattle.std.specs.Io.KnownBytes.{Appends, Keeps}
use Rattle.std.proofs.Math.Seq.{take-add}
use Rattle.std.proofs.lemmas.List.{drop_at, length-replicate, length-take, nil_from_length, take_all, take_at}
use Rattle.std.proofs.lemmas.Bool.Decides.{nat_tests}
use Rattle.std.proofs.KnownBytes.{Appends-trans, Appends-kept, Consumes-nil}
use Rattle.book.specs.Book.{Book, text_at}
use Rattle.book.specs.Pieces.{PieceValue, piece_of_body, piece_value}
use Rattle.book.specs.declared.keeper.Keeper.{Ghosts}
use Rattle.book.specs.declared.piece.FilePiece.{FilePiece}
use Rattle.book.proofs.ReadLemmas.{reads_more}
use Rattle.book.proofs.Pieces.{is_piece_of}
use Rattle.history.proofs.Kept.{same_by}
use Rattle.history.proofs.Runs.{leaves_read}
use Rattle.history.proofs.StepAnswers.{found_step, free_lookup, refused_step}
use Rattle.history.specs.Answers.{IsAnswer, is_refused}
use Rattle.history.specs.Deliveries.{IsKeepers}
use Rattle.history.specs.Histories.{Call, Found, History, Lookup, Reply}
use Rattle.history.specs.declared.fault.Fault.{Fault}
use Rattle.history.specs.declared.fault.Fault.TheVariants as fault
use Rattle.queue.specs.Pieces.{HasFirst}
use Rattle.queue.specs.Steps.{Does, Reads}
use Rattle.desk.specs.Calls.{outcome_message}
use Rattle.desk.specs.Exchange.{Called, HasWritten, IsAnswered, IsCalled}
use Rattle.desk.specs.File.{AreSent, HasWrittenFile, HasWrittenPieces, IsFirst, IsFront, IsSent, file_message}
use Rattle.desk.specs.Incoming.{HasHead}
use Rattle.desk.specs.Message.{message_of}
use Rattle.desk.specs.Outgoing.{IsAskedFor, IsFound, IsFoundAs, IsOutgoing}
use Rattle.desk.specs.Reply.{Message, head_text, message_text}
use Rattle.desk.specs.Request.{Received, asks}
use Rattle.desk.specs.Transfer.{AppendsBeginning, IsBeginning}
use Rattle.desk.specs.Want.{fetching}
use Rattle.desk.specs.declared.exchange.DeskFault.{DeskFault}
use Rattle.desk.specs.declared.exchange.DeskFault.TheVariants.{ReaderFailed, WriterFailed, ArchiveFailed}
use Rattle.desk.specs.declared.exchange.Served.{Served}
use Rattle.desk.specs.declared.exchange.Served.TheVariants.{Nothing, Status}
use Rattle.desk.specs.declared.exchange.Outgoing.{Outgoing}
use Rattle.desk.specs.declared.exchange.Outgoing.TheVariants.{Whole, Pieces}
use Rattle.desk.specs.declared.file.LargeFile.{LargeFile}
use Rattle.desk.proofs.ExchangeLemmas.{handled_asked, without_body}
use Rattle.desk.proofs.RequestLemmas.{read_behind}
use Rattle.desk.proofs.TransferLemmas.{AppendsBeginning-all, AppendsBeginning-behind, AppendsBeginning-front}
use Rattle.desk.specs.declared.routes.Rules.{Rules}

-- ---- a body for what was sent

-- The bytes, and after them what the file has behind as many bytes, filled up with zeros to the size or cut to it.
abbrev filled : ℕ → List ℕ → List ℕ → List ℕ
filled size bytes file = bytes ++ take (size - length bytes) (drop (length bytes) file ++ replicate size 0)

length_filled : (size : ℕ) (bytes file : List ℕ) → length bytes ≤ size → length (filled size bytes file) ≡ size
length_filled size bytes file fits =
    let zeros : List ℕ = replicate size 0 in
    let rest = drop (length bytes) file ++ zeros in
    omega (
      arith,
      fits,
      length-append bytes (take (size - length bytes) rest),
      length-take (size - length bytes) rest,
      length-append (drop (length bytes) file) zeros,
      length-replicate {A = ℕ} size 0,
    )

-- if the file has this size and begins with the bytes, it is the file
filled_file : (size : ℕ) (bytes rest : List ℕ) → length (bytes ++ rest) ≡ size → filled size bytes (bytes ++ rest) ≡ bytes ++ rest
filled_file size bytes rest sized =
    ap (λ l. bytes ++ take (size - length bytes) (l ++ replicate size 0)) (drop_at bytes rest (length bytes) refl)
    ∙ ap (λ l. bytes ++ l) (take_at rest (replicate size 0) (size - length bytes) (omega (arith, sized, length-append bytes rest)))

-- a body of this size that begins with the bytes, and is the file if the store returns what was written to it
pub record HasBody {K : Type 0} (g : Ghosts K) (before : K) (path : List ℕ) (after : K) (size : ℕ) (bytes : List ℕ) : Type 0 where
  pub body : List ℕ
  pub sized : length body ≡ size
  pub begins : IsBeginning bytes body
  pub filed : g.is_clean after → (g.book before).files path ≡ Some body

pub body_of : {K : Type 0} (g : Ghosts K) (before : K) (path : List ℕ) (after : K) (size : ℕ) (bytes : List ℕ) → IsFront g before path after size bytes → HasBody g before path after size bytes
body_of g before path after size bytes front =
    let file = unwrap_or ((g.book before).files path) [] in
    record {
      body = filled size bytes file;
      sized = length_filled size bytes file front.fits;
      begins = (take (size - length bytes) (drop (length bytes) file ++ replicate size 0), refl);
      filed = λ clean.
          let it = front.filed clean in
          let rest = it.3.0 in
          let split : it.0 ≡ bytes ++ rest = it.3.1 in
          let file_is : file ≡ bytes ++ rest = ap (λ o. unwrap_or o []) it.1 ∙ split in
          it.1 ∙ ap Some (split ∙ sym (filled_file size bytes rest (ap length (sym split) ∙ it.2)) ∙ ap (filled size bytes) (sym file_is));
    }

-- ---- the pieces before a place

module _ {K : Type 0} (g : Ghosts K) (before : K) (path : List ℕ) where
  -- the file of the pool at the path, or nothing
  abbrev pub file_at : List ℕ
  file_at = unwrap_or ((g.book before).files path) []

  -- These bytes are those of all pieces before this place of a file of a size, if the store returns what was written to it.
  pub record IsSofar (after : K) (size number : ℕ) (bytes : List ℕ) : Type 0 where
    pub sized : length bytes ≡ min size (65536 * number)
    pub filed : g.is_clean after → bytes ≡ take (65536 * number) file_at

  pub sofar_first : (first : PieceValue) → HasFirst g before path first → IsFirst first → IsSofar before first.size 1 first.bytes
  sofar_first first has is = record {
    sized = omega (arith, is.whole, is.within);
    filed = λ clean. ap (λ p. p.bytes) (is_piece_of ((g.book before).files path) 0 first (has clean).1).is;
  }

  sofar_next : (mid after : K) (size number : ℕ) (bytes piece : List ℕ) → IsSofar mid size number bytes → 65536 * number < size
      → length piece ≡ min (size - 65536 * number) 65536 → (g.is_clean after → g.is_clean mid) → (g.is_clean after → piece ≡ take 65536 (drop (65536 * number) file_at))
      → IsSofar after size (number + 1) (bytes ++ piece)
  sofar_next mid after size number bytes piece sofar more sized clean_mid is = record {
    sized = omega (arith, length-append bytes piece, sofar.sized, sized, more);
    filed = λ clean.
        let end : 65536 * (number + 1) ≡ 65536 * number + 65536 = omega arith in
        ap (λ l. l ++ piece) (sofar.filed (clean_mid clean)) ∙ ap (λ l. take (65536 * number) file_at ++ l) (is clean)
        ∙ sym (ap (λ n. take n file_at) end ∙ take-add (65536 * number) 65536 file_at);
  }

  -- the next piece was read
  pub sofar_read : (mid after : K) (size number : ℕ) (bytes : List ℕ) (piece : PieceValue) → Reads g before mid → (g.is_clean mid → g.is_open mid) → IsSofar mid size number bytes
      → 65536 * number < size → length piece.bytes ≡ min (size - 65536 * number) 65536 → (g.is_clean after → g.is_clean mid)
      → (g.is_clean after → option_map (piece_of_body number) ((g.book mid).files path) ≡ Some piece) → IsSofar after size (number + 1) (bytes ++ piece.bytes)
  sofar_read mid after size number bytes piece reads up sofar more sized clean_mid is =
      sofar_next mid after size number bytes piece.bytes sofar more sized clean_mid (λ clean.
      let then = clean_mid clean in
      let same = ap (λ (book : Book). option_map (piece_of_body number) (book.files path)) (reads.same then (up then)) in
      ap (λ p. p.bytes) (is_piece_of ((g.book before).files path) number piece (sym same ∙ is clean)).is)

  pub sofar_same : (mid after : K) (size number : ℕ) (bytes : List ℕ) → (g.is_clean after → g.is_clean mid) → IsSofar mid size number bytes → IsSofar after size number bytes
  sofar_same mid after size number bytes clean_mid sofar = record { sized = sofar.sized; filed = λ clean. sofar.filed (clean_mid clean) }

  -- they are a beginning of the file
  pub sofar_front : (first : PieceValue) (after : K) (number : ℕ) (bytes : List ℕ) → HasFirst g before path first → (g.is_clean after → g.is_clean before)
      → IsSofar after first.size number bytes → IsFront g before path after first.size bytes
  sofar_front first after number bytes has clean_before sofar = record {
    fits = omega (arith, sofar.sized);
    filed = λ clean.
        let piece = is_piece_of ((g.book before).files path) 0 first (has (clean_before clean)).1 in
        let n = 65536 * number in
        (file_at, piece.some, sym (ap (λ p. p.size) piece.is), (drop n file_at, sym (take-append-drop n file_at) ∙ ap (λ l. l ++ drop n file_at) (sym (sofar.filed clean))));
  }

-- ---- the reply

-- a beginning of the reply that has a body
pub begins_message : (held mid holds : Option (List ℕ)) (bytes body : List ℕ) → Appends held mid (head_text (file_message body)) → AppendsBeginning mid holds bytes → IsBeginning bytes body
    → AppendsBeginning held holds (message_text (file_message body))
begins_message held mid holds bytes body head taken begins =
    let whole : message_text (file_message body) ≡ (head_text (file_message body) ++ bytes) ++ begins.0 =
    ap (λ l. head_text (file_message body) ++ l) begins.1 ∙ sym (append_assoc (head_text (file_message body)) bytes begins.0) in
    AppendsBeginning-front held holds (head_text (file_message body) ++ bytes) begins.0 (message_text (file_message body)) (AppendsBeginning-behind held mid holds (head_text (file_message body)) bytes head taken) whole

written_file : (held holds : Option (List ℕ)) (path body : List ℕ) (moment : ℕ) (result : Result Served DeskFault) → HasWrittenFile held holds body result
    → HasWritten held holds (Called (fetching path true) [] moment (Ok (Found (Some body)))) result
written_file held holds path body moment (Ok Nothing) written = absurd written
written_file held holds path body moment (Ok (Status status)) written = record { message = file_message body; reply = refl; status_is = written.0; written = written.1 }
written_file held holds path body moment (Err ReaderFailed) written = absurd written
written_file held holds path body moment (Err WriterFailed) written = record { message = file_message body; reply = refl; written = written }
written_file held holds path body moment (Err ArchiveFailed) written = record { message = file_message body; reply = refl; large = written.0; written = written.1 }

-- a body of as many bytes that begins with these is these bytes
pub begins_whole : (bytes body : List ℕ) → length body ≡ length bytes → IsBeginning bytes body → body ≡ bytes
begins_whole bytes body same begins =
    let none : length begins.0 ≡ 0 = omega (arith, same, ap length begins.1, length-append bytes begins.0) in
    begins.1 ∙ ap (λ l. bytes ++ l) (nil_from_length begins.0 none) ∙ append-nil bytes

-- what was written of the pieces, if the writer failed, or the archive
pub cut_by_writer : (size : ℕ) (held holds : Option (List ℕ)) (bytes : List ℕ) (result : Result (Unit {0}) DeskFault) (e : DeskFault) → result ≡ Err e → e ≡ WriterFailed → AppendsBeginning held holds bytes
    → HasWrittenPieces size held holds bytes result
cut_by_writer size held holds bytes result e is which taken = rw (is, which) taken

pub cut_by_archive : (size : ℕ) (held holds : Option (List ℕ)) (bytes : List ℕ) (result : Result (Unit {0}) DeskFault) (e : DeskFault) → result ≡ Err e → e ≡ ArchiveFailed → Appends held holds bytes
    → HasWrittenPieces size held holds bytes result
cut_by_archive size held holds bytes result e is which taken = rw (is, which) (AppendsBeginning-all held holds bytes taken)

cut_file : (held mid holds : Option (List ℕ)) (size : ℕ) (bytes body : List ℕ) (e : DeskFault) → 4194304 < length body → Appends held mid (head_text (file_message body))
    → HasWrittenPieces size mid holds bytes (Err e) → IsBeginning bytes body → HasWrittenFile held holds body (Err e)
cut_file held mid holds size bytes body ReaderFailed large head written begins = absurd written
cut_file held mid holds size bytes body WriterFailed large head written begins = begins_message held mid holds bytes body head written begins
cut_file held mid holds size bytes body ArchiveFailed large head written begins = (large, begins_message held mid holds bytes body head written begins)

module _ {K : Type 0} (g : Ghosts K) (before : K) (path : List ℕ) where
  -- a head that was not written in whole
  pub sent_none : (first : PieceValue) (held holds : Option (List ℕ)) (result : Result Served DeskFault) (e : DeskFault) → HasFirst g before path first → result ≡ Err e → e ≡ WriterFailed
      → ((body : List ℕ) → length body ≡ first.size → AppendsBeginning held holds (head_text (file_message body))) → IsSent g before path before held holds result
  sent_none first held holds result e has is which taken =
      let front : IsFront g before path before first.size [] = record {
        fits = omega arith;
        filed = λ clean.
            let piece = is_piece_of ((g.book before).files path) 0 first (has clean).1 in
            (file_at g before path, piece.some, sym (ap (λ p. p.size) piece.is), (file_at g before path, refl));
      } in
      let b = body_of g before path before first.size [] front in
      record {
        body = b.body;
        filed = b.filed;
        written = rw (is, which) (AppendsBeginning-front held holds (head_text (file_message b.body)) b.body (message_text (file_message b.body)) (taken b.body b.sized) refl);
      }

  module _ (after : K) (size : ℕ) (held mid : Option (List ℕ)) (head : (body : List ℕ) → length body ≡ size → Appends held mid (head_text (file_message body))) where
    -- the pieces were cut off
    pub sent_cut : (holds : Option (List ℕ)) (result : Result Served DeskFault) (e : DeskFault) → result ≡ Err e → 4194304 < size → AreSent g before path after size mid holds (Err e)
        → IsSent g before path after held holds result
    sent_cut holds result e is large sent =
        let b = body_of g before path after size sent.bytes sent.front in
        record { body = b.body; filed = b.filed; written = rw is (cut_file held mid holds size sent.bytes b.body e (omega (arith, large, b.sized)) (head b.body b.sized) sent.written b.begins) }

    written_whole : (end holds : Option (List ℕ)) (bytes body : List ℕ) → length body ≡ size → IsBeginning bytes body → (length bytes ≡ size) × Appends mid end bytes → Keeps end holds
        → Appends held holds (message_text (file_message body))
    written_whole end holds bytes body sized begins written kept =
        let same : bytes ≡ body = sym (begins_whole bytes body (sized ∙ sym written.0) begins) in
        let start = head_text (file_message body) in
        subst (λ (t : List ℕ). Appends held holds (start ++ t)) same
        (Appends-kept held end holds (start ++ bytes) (Appends-trans held mid end start bytes (head body sized) written.1) kept)

    -- all pieces were sent
    pub sent_whole : (end holds : Option (List ℕ)) (done : Unit {0}) → AreSent g before path after size mid end (Ok done) → Keeps end holds → IsSent g before path after held holds (Ok (Status 200))
    sent_whole end holds done sent kept =
        let b = body_of g before path after size sent.bytes sent.front in
        record { body = b.body; filed = b.filed; written = (refl, written_whole end holds sent.bytes b.body b.sized b.begins sent.written kept) }

    -- all pieces were sent, and the writer failed then
    pub sent_unflushed : (end holds : Option (List ℕ)) (done : Unit {0}) (result : Result Served DeskFault) (e : DeskFault) → result ≡ Err e → e ≡ WriterFailed
        → AreSent g before path after size mid end (Ok done) → Keeps end holds → IsSent g before path after held holds result
    sent_unflushed end holds done result e is which sent kept =
        let b = body_of g before path after size sent.bytes sent.front in
        record {
          body = b.body;
          filed = b.filed;
          written = rw (is, which) (AppendsBeginning-all held holds (message_text (file_message b.body)) (written_whole end holds sent.bytes b.body b.sized b.begins sent.written kept));
        }

module _ {K : Type 0} (g : Ghosts K) where
  -- a look-up that found a file, by reads after which the keeper may be shut
  pub found_does : (before mid after : K) (path body : List ℕ) → Reads g before after → Reads g before mid → (g.is_clean after → g.is_clean mid) → (g.is_clean mid → g.is_open mid)
      → (g.is_clean after → (g.book before).files path ≡ Some body) → Does g before (Lookup path) (Ok (Found (Some body))) after
  found_does before mid after path body reads one clean_mid up filed h kept faithful clean =
      let was_open = one.lasts.was_open (clean_mid clean) (up (clean_mid clean)) in
      let told : Some body ≡ option_or ((g.book before).files path) (text_at (g.book before) path) = ap (λ f. option_or f (text_at (g.book before) path)) (sym (filed clean)) in
      let step = found_step g.may_fail h path ⊤ (g.book before) (g.book before) (Some body) (kept.stands was_open) told refl in
      record {
        answered = step.answered;
        kept = record { config = reads.lasts.config ∙ step.kept.config; stands = λ still. reads.same clean still ∙ step.kept.stands tt };
      }

  -- a large file that was sent answers the connection
  pub answered_file : {desk_rules : Rules} (old new : Option (List ℕ)) (before mid after : K) (held holds : Option (List ℕ)) (moment : ℕ) (file : LargeFile) (result : Result Served DeskFault)
      → IsAskedFor desk_rules g old new before mid file → Reads g mid after → IsSent g mid (string_bytes file.path) after held holds result → IsAnswered desk_rules g old new before after held holds moment result
  answered_file old new before mid after held holds moment file result asked reads sent =
      let path = string_bytes file.path in
      let all = reads_more asked.found.reads reads in
      let same : g.is_clean after → (g.book mid).files path ≡ (g.book before).files path = λ clean. ap (λ (book : Book). book.files path) (asked.found.reads.same (reads.lasts.clean clean) (asked.found.first (reads.lasts.clean clean)).0) in
      record {
        course = Called (fetching path true) [] moment (Ok (Found (Some sent.body)));
        read = asked.read;
        leaves = (refl, tt, found_does before mid after path sent.body all asked.found.reads reads.lasts.clean (λ clean. (asked.found.first clean).0) (λ clean. sym (same clean) ∙ sent.filed clean));
        crash = leaves_read g before after (Lookup path) all;
        written = written_file held holds path sent.body moment result sent.written;
      }

  -- a fault of the keeper's own is an answer to a look-up
  keepers_answer : (may_fail : Bool) (h : History) (call : Call) (e : Fault) → IsKeepers may_fail ⊤ e → is_refused h call ≡ false → IsAnswer may_fail h call (Err e)
  keepers_answer may_fail h call fault.OutOfMemory own free = tt
  keepers_answer may_fail h call (fault.Keeper cause) own free = (own.0, own.1, free)
  keepers_answer may_fail h call fault.BadName own free = absurd own
  keepers_answer may_fail h call fault.TooLarge own free = absurd own
  keepers_answer may_fail h call (fault.Record cause) own free = absurd own
  keepers_answer may_fail h call fault.Moment own free = absurd own
  keepers_answer may_fail h call fault.UnknownSuite own free = absurd own
  keepers_answer may_fail h call fault.SameSuite own free = absurd own
  keepers_answer may_fail h call fault.NothingToCopy own free = absurd own
  keepers_answer may_fail h call fault.Ended own free = absurd own
  keepers_answer may_fail h call fault.ReaderFailed own free = absurd own
  keepers_answer may_fail h call fault.NothingToRemove own free = absurd own

  pub fault_does : (before after : K) (path : List ℕ) (e : Fault) → Reads g before after → IsKeepers g.may_fail ⊤ e → Does g before (Lookup path) (Err e) after
  fault_does before after path e reads own h kept faithful clean =
      refused_step g.may_fail h (Lookup path) e (g.is_open before) (g.is_open after) (g.book before) (g.book after) kept (same_by reads.lasts clean reads.same)
      (keepers_answer g.may_fail h (Lookup path) e own (free_lookup h path))

  -- a call after a read
  pub does_behind : (before mid after : K) (call : Call) (outcome : Result Reply Fault) → Reads g before mid → Reads g mid after → Does g mid call outcome after → Does g before call outcome after
  does_behind before mid after call outcome one two does h kept faithful clean =
      let clean_mid = two.lasts.clean clean in
      does h (record { config = one.lasts.config ∙ kept.config; stands = λ up. one.same clean_mid up ∙ kept.stands (one.lasts.was_open clean_mid up) }) faithful clean

  -- a look-up and its reply
  pub called_look_up : (before after : K) (path : List ℕ) (outcome : Result Reply Fault) (message : Message) → Reads g before after → Does g before (Lookup path) outcome after
      → message ≡ outcome_message (fetching path true) outcome → (moment : ℕ) → IsCalled g before after (fetching path true) [] moment message
  called_look_up before after path outcome message reads does is moment = record { outcome = outcome; done = does; crash = leaves_read g before after (Lookup path) reads; message_is = is }

  module _ {desk_rules : Rules} where
    -- what was found of a file that a head asks for
    pub outgoing_found : (old mid : Option (List ℕ)) (before after : K) (path : List ℕ) (moment : ℕ) (outgoing : Outgoing) → HasHead desk_rules old mid (fetching path true) → IsFoundAs g before after path outgoing
        → IsOutgoing desk_rules g old mid before after moment (Some outgoing)
    outgoing_found old mid before after path moment (Whole reply) head called =
        handled_asked g old mid mid before after (fetching path true) moment (message_of reply) head (without_body g mid before after (fetching path true) moment (message_of reply) refl refl (called moment))
    outgoing_found old mid before after path moment (Pieces file) head found = record {
      read = subst (λ (p : List ℕ). Received desk_rules old mid (asks (fetching p true) [])) (sym found.path_is)
          (read_behind old mid mid (fetching path true) (Called (fetching path true) [] moment (Ok (Found None))) head (refl, refl, Consumes-nil mid));
      found = subst (λ (p : List ℕ). IsFound g before after p file) (sym found.path_is) found;
    }

-- ---- the first piece

-- a piece that is as long as its file is all of it
pub all_filed : (file : Option (List ℕ)) (piece : PieceValue) → option_map (piece_of_body 0) file ≡ Some piece → length piece.bytes ≡ piece.size → file ≡ Some piece.bytes
all_filed file piece is whole =
    let p = is_piece_of file 0 piece is in
    let body = unwrap_or file [] in
    let bytes : piece.bytes ≡ take 65536 body = ap (λ q. q.bytes) p.is in
    let size : piece.size ≡ length body = ap (λ q. q.size) p.is in
    let small : length body ≤ 65536 = omega (arith, whole, size, ap length bytes, length-take 65536 body) in
    p.some ∙ ap Some (sym (bytes ∙ take_all 65536 body small))

-- a file that is all of its first piece
pub all_found : (file : Option (List ℕ)) (first : FilePiece) → Some (piece_value first) ≡ option_map (piece_of_body 0) file → nat_eq (length first.bytes.items) first.size ≡ true → file ≡ Some first.bytes.items
all_found file first is whole = all_filed file (piece_value first) (sym is) (grind (arith, nat_tests, whole))

-- the first piece of a large file
pub large_first : (piece : PieceValue) → (nat_lt 4194304 piece.size && nat_eq (length piece.bytes) 65536) ≡ true → IsFirst piece
large_first piece is = record { whole = grind (arith, nat_tests, is); within = grind (arith, nat_tests, is) }
