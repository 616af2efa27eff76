-- The answers of single calls.
use Rattle.std.specs.Prelude.{◌≡◌, ℕ, ◌≤◌, ◌<◌, List, [], ◌∷◌, ◌++◌, map, Option, Some, None, is_some, Result, Ok, Err, not, Bool, true, false, ⊤, ◌⊎◌, Contains, nat_lt, length, if◌then◌else◌, refl}
use Rattle.std.specs.Option.{option_or}
use Rattle.std.proofs.Common.{ap, sym, subst, ◌∙◌, inl, inr, arith}
use Rattle.std.proofs.lemmas.Simd.{map-map}
use Rattle.std.proofs.lemmas.Bool.{lt-ltb, le-ltb, ltb-false}
use Rattle.std.proofs.lemmas.Grind.{flat_map-append}
use Rattle.std.proofs.lemmas.List.Elements.{Contains-append_right}
use Rattle.records.specs.Records.{changes_in, changes_within}
use Rattle.records.specs.Values.{ChangesValue}
use Rattle.records.specs.declared.fault.RecordFault.{RecordFault}
use mathlib.Core.Path.{fun_ext}
use Rattle.records.proofs.RecordRead.{read_more_changes}
use Rattle.rules.specs.Sizes.{largest}
use Rattle.rules.specs.Values.{ConfigValue}
use Rattle.book.specs.Book.{Book, Candidate, at_moment, ended, has_arrival, latest, missing, span, text_at, unjudged, waiting_list, waiting_of, with_delivery}
use Rattle.book.proofs.Lacks.{lacks_count}
use Rattle.book.specs.Keeping.{HasBodies, IsDeliverable, MayAnswer, NoCollision}
use Rattle.book.specs.declared.arrival.Arrival.{Arrival}
use Rattle.book.specs.declared.change.Judgement.{Judgement}
use Rattle.book.specs.declared.change.Waiting.{Waiting}
use Rattle.book.specs.declared.fault.KeepFault.{KeepFault}
use Rattle.book.specs.declared.fault.KeepFault.TheVariants as keep_faults
use Rattle.history.specs.Answers.{IsAnswer, IsFaithful, IsKept, IsStep, answer, delivery_answer, found_at, is_refused, line_on_missing, line_on_waiting, report_line, waiting_line}
use Rattle.history.specs.Archives.{Stands, book_of, book_from}
use Rattle.history.specs.Deliveries.{IsKeepers, delivery_fault, fault_of_read, most_named, or_else, record_fault}
use Rattle.history.specs.Fault.{of_keeper}
use Rattle.history.specs.Histories.{Call, Delivery, QueueRun, Lookup, WaitingList, Cleaning, VerdictList, Reply, Stored, Lines, Count, Found, History, arrived, bodies_of, bodies_of_call, calls_of, counting, followed, waiting_after}
use Rattle.history.specs.declared.fault.Fault.{Fault}
use Rattle.history.specs.declared.fault.Fault.TheVariants.{OutOfMemory, BadName, TooLarge, Record, Keeper, Moment, UnknownSuite, SameSuite, NothingToCopy, Ended, ReaderFailed, NothingToRemove}
use Rattle.history.proofs.Judged.{unjudged_faithful}
use Rattle.history.proofs.Kept.{IsSame, stands_config, stands_kept}
use Rattle.history.proofs.Known.{known, apart_with_empty}
use Rattle.history.proofs.Limits.{named_greatest}
use Rattle.history.proofs.Lists.{contains_later}
use Rattle.history.proofs.Steps.{book_of-refused, book_of-cleaned, book_of-delivered, book_of-looked_up, book_of-waited, book_of-listed}
use Rattle.sums.specs.FileNames.{is_changes_name, is_file_name}
use Rattle.sums.specs.Lines.{greatest_size}

-- ---- refusals

-- a call that is refused and changes nothing leaves what the history has kept
pub refused_step : (may_fail : Bool) (h : History) (call : Call) (fault : Fault) (was_open is_open : Type 0) (old new : Book) → IsKept was_open old h → IsSame was_open is_open old new
    → IsAnswer may_fail h call (Err fault) → IsStep may_fail h call (Err fault) is_open new
refused_step may_fail h call fault was_open is_open old new kept same allowed =
    record {
      answered = allowed;
      kept = record {
        config = same.config ∙ kept.config;
        stands = λ up. same.book up ∙ kept.stands (same.was_open up) ∙ sym (book_of-refused h call fault);
      };
    }

allowed : (may_fail : Bool) (h : History) (call : Call) (fault : KeepFault) → MayAnswer may_fail fault → is_refused h call ≡ false → IsAnswer may_fail h call (Err (of_keeper fault))
allowed may_fail h call keep_faults.OutOfMemory may free = tt
allowed may_fail h call keep_faults.Disk may free = (may, tt, free)
allowed may_fail h call keep_faults.Size may free = (may, tt, free)
allowed may_fail h call keep_faults.NoArchive may free = absurd may
allowed may_fail h call keep_faults.Configuration may free = absurd may

-- if a keeper refuses, the archive's fault may replace the answer
pub keeper_step : (may_fail : Bool) (h : History) (call : Call) (fault : KeepFault) (told : Fault) (was_open is_open : Type 0) (old new : Book) → told ≡ of_keeper fault → IsKept was_open old h → IsSame was_open is_open old new
    → MayAnswer may_fail fault → is_refused h call ≡ false → IsStep may_fail h call (Err told) is_open new
keeper_step may_fail h call fault told was_open is_open old new is kept same may free =
    refused_step may_fail h call told was_open is_open old new kept same (subst (λ (f : Fault). IsAnswer may_fail h call (Err f)) (sym is) (allowed may_fail h call fault may free))

-- want of memory may always be answered
pub memory_step : (may_fail : Bool) (h : History) (call : Call) (told : Fault) (was_open is_open : Type 0) (old new : Book) → told ≡ OutOfMemory → IsKept was_open old h → IsSame was_open is_open old new
    → IsStep may_fail h call (Err told) is_open new
memory_step may_fail h call told was_open is_open old new is kept same =
    refused_step may_fail h call told was_open is_open old new kept same (subst (λ (f : Fault). IsAnswer may_fail h call (Err f)) (sym is) tt)

keepers_of : (may_fail : Bool) (free : Type 0) (fault : KeepFault) → MayAnswer may_fail fault → free → IsKeepers may_fail free (of_keeper fault)
keepers_of may_fail free keep_faults.OutOfMemory may here = tt
keepers_of may_fail free keep_faults.Disk may here = (may, tt, here)
keepers_of may_fail free keep_faults.Size may here = (may, tt, here)
keepers_of may_fail free keep_faults.NoArchive may here = absurd may
keepers_of may_fail free keep_faults.Configuration may here = absurd may

-- a refusal by a keeper is the keeper's own, and so is want of memory
pub keepers_own : (may_fail : Bool) (free : Type 0) (fault : KeepFault) (told : Fault) → told ≡ of_keeper fault → MayAnswer may_fail fault → free → IsKeepers may_fail free told
keepers_own may_fail free fault told is may here = subst (λ (f : Fault). IsKeepers may_fail free f) (sym is) (keepers_of may_fail free fault may here)

pub memory_own : (may_fail : Bool) (free : Type 0) (told : Fault) → told ≡ OutOfMemory → IsKeepers may_fail free told
memory_own may_fail free told is = subst (λ (f : Fault). IsKeepers may_fail free f) (sym is) tt

-- a fault that is the answer, whichever it is
answered_fault : (may_fail : Bool) (h : History) (call : Call) (fault : Fault) → answer h call ≡ Err fault → ((own : KeepFault) → fault ≡ Keeper own → ⊥) → IsAnswer may_fail h call (Err fault)
answered_fault may_fail h call OutOfMemory is none = tt
answered_fault may_fail h call BadName is none = sym is
answered_fault may_fail h call TooLarge is none = sym is
answered_fault may_fail h call (Record own) is none = sym is
answered_fault may_fail h call (Keeper own) is none = absurd (none own refl)
answered_fault may_fail h call Moment is none = sym is
answered_fault may_fail h call UnknownSuite is none = sym is
answered_fault may_fail h call SameSuite is none = sym is
answered_fault may_fail h call NothingToCopy is none = sym is
answered_fault may_fail h call Ended is none = sym is
answered_fault may_fail h call ReaderFailed is none = sym is
answered_fault may_fail h call NothingToRemove is none = sym is

-- ---- deliveries

-- no delivery is refused by the configuration, its name, body and moment with a fault of the keeper
faults_apart : (own : KeepFault) (named large late : Bool) (read : Option Fault) → (read ≡ Some (Keeper own) → ⊥)
    → (if not named then Some BadName else (if large then Some TooLarge else or_else read (if late then Some Moment else None))) ≡ Some (Keeper own) → ⊥
faults_apart own false large late read apart is = absurd (cc)
faults_apart own true true late read apart is = absurd (cc)
faults_apart own true false late (Some fault) apart is = apart is
faults_apart own true false true None apart is = absurd (cc)
faults_apart own true false false None apart is = absurd (cc)

record_apart : (own : KeepFault) (named : Bool) (read : Result ChangesValue RecordFault) → (if named then fault_of_read read else None) ≡ Some (Keeper own) → ⊥
record_apart own true (Ok changes) is = absurd (cc)
record_apart own true (Err fault) is = absurd (cc)
record_apart own false read is = absurd (cc)

delivery_apart : (config : ConfigValue) (name body : List ℕ) (moment : ℕ) (own : KeepFault) → delivery_fault config name body moment ≡ Some (Keeper own) → ⊥
unfolding delivery_fault record_fault
delivery_apart config name body moment own is =
    faults_apart own (is_file_name name) (nat_lt (most_named config name) (length body)) (nat_lt latest moment) (record_fault config name body)
    (record_apart own (is_changes_name name) (changes_within (largest config) body)) is

-- the fault is that of an equal configuration
pub fault_under : (config other : ConfigValue) (name body : List ℕ) (moment : ℕ) (fault : Option Fault) → config ≡ other → delivery_fault config name body moment ≡ fault
    → delivery_fault other name body moment ≡ fault
fault_under config other name body moment fault same is = sym (ap (λ (c : ConfigValue). delivery_fault c name body moment) same) ∙ is

-- the fault of a delivery is the answer
pub refused_delivery : (may_fail : Bool) (h : History) (config : ConfigValue) (name body : List ℕ) (moment : ℕ) (fault : Fault) → config ≡ h.opening.config
    → (fault ≡ OutOfMemory) ⊎ (delivery_fault config name body moment ≡ Some fault) → IsAnswer may_fail h (Delivery name body moment) (Err fault)
unfolding answer
refused_delivery may_fail h config name body moment fault same (inl is) = subst (λ (f : Fault). IsAnswer may_fail h (Delivery name body moment) (Err f)) (sym is) tt
refused_delivery may_fail h config name body moment fault same (inr is) =
    answered_fault may_fail h (Delivery name body moment) fault
    (ap (λ f. delivery_answer f (not (has_arrival (counting h.opening h.steps moment) (record { name = name; body = body; moment = moment })))) (fault_under config h.opening.config name body moment (Some fault) same is))
    (λ own own_is. delivery_apart config name body moment own (is ∙ ap (λ (f : Fault). Some f) own_is))

-- a delivery without a fault is not refused
pub free_delivery : (h : History) (config : ConfigValue) (name body : List ℕ) (moment : ℕ) → config ≡ h.opening.config → delivery_fault config name body moment ≡ None
    → is_refused h (Delivery name body moment) ≡ false
unfolding is_refused
free_delivery h config name body moment same none = ap (λ (f : Option Fault). is_some f) (fault_under config h.opening.config name body moment None same none)

none_of : (named large late : Bool) (read : Option Fault)
    → (if not named then Some BadName else (if large then Some TooLarge else or_else read (if late then Some Moment else None))) ≡ None
    → (named ≡ true) × (large ≡ false) × (read ≡ None)
none_of false large late read is = absurd (cc)
none_of true true late read is = absurd (cc)
none_of true false late (Some fault) is = absurd (cc)
none_of true false late None is = (refl, refl, refl)

read_of : (named : Bool) (read : Result ChangesValue RecordFault) → (if named then fault_of_read read else None) ≡ None → named ≡ true → (c : ChangesValue) × read ≡ Ok c
read_of true (Ok changes) is named = (changes, refl)
read_of true (Err fault) is named = absurd (cc)
read_of false read is named = absurd (cc)

-- what is read within the limit of an archive is read within that of any archive
record_of : (most : ℕ) (body : List ℕ) → ((c : ChangesValue) × changes_within most body ≡ Ok c) → (c : ChangesValue) × changes_in body ≡ Ok c
record_of most body read = (read.0, read_more_changes most greatest_size body read.0 (omega arith) read.1)

-- a delivery that is not refused may be kept
pub deliverable : (config : ConfigValue) (name body : List ℕ) (moment : ℕ) → delivery_fault config name body moment ≡ None → IsDeliverable name body
unfolding delivery_fault record_fault
deliverable config name body moment none =
    let parts = none_of (is_file_name name) (nat_lt (most_named config name) (length body)) (nat_lt latest moment) (record_fault config name body) none in
    let within : length body ≤ most_named config name = ltb-false (most_named config name) (length body) parts.1 in
    record {
      file_name = parts.0;
      small = omega (arith, within, named_greatest config name);
      a_record = λ named. record_of (largest config) body (read_of (is_changes_name name) (changes_within (largest config) body) parts.2 named);
    }

delivered_last : (h : History) (name body : List ℕ) (moment : ℕ) → Contains (bodies_of (calls_of h.steps ++ Delivery name body moment ∷ [])) body
unfolding bodies_of_call
delivered_last h name body moment =
    subst (λ bodies. Contains bodies body) (sym (flat_map-append bodies_of_call (calls_of h.steps) (Delivery name body moment ∷ [])))
    (Contains-append_right (bodies_of (calls_of h.steps)) (body ∷ []) body (0, omega arith, refl))

-- a delivery that is done, if what the keeper says holds for all bodies without collision
pub delivered_step : (may_fail : Bool) (h : History) (name body : List ℕ) (moment : ℕ) (is_open : Type 0) (old new : Book) (fresh : Bool)
    → Stands old h → IsFaithful h (Delivery name body moment ∷ []) → delivery_fault old.config name body moment ≡ None
    → ((bodies : List (List ℕ)) → NoCollision bodies → HasBodies bodies old → Contains bodies body
    → fresh ≡ not (has_arrival (at_moment moment old).arrivals (record { name = name; body = body; moment = moment })))
    → ((bodies : List (List ℕ)) → NoCollision bodies → HasBodies bodies old → Contains bodies body → new ≡ with_delivery old (record { name = name; body = body; moment = moment }))
    → IsStep may_fail h (Delivery name body moment) (Ok (Stored fresh)) is_open new
unfolding answer book_of book_from at_moment counting
delivered_step may_fail h name body moment is_open old new fresh stands faithful none told is =
    let a : Arrival = record { name = name; body = body; moment = moment } in
    let bodies = [] ∷ faithful.bodies in
    let apart = apart_with_empty faithful.bodies faithful.apart in
    let have : HasBodies bodies old = subst (HasBodies bodies) (sym stands) (known h (Delivery name body moment ∷ []) faithful) in
    let there : Contains bodies body = contains_later [] faithful.bodies body (faithful.delivered body (delivered_last h name body moment)) in
    record {
      answered = sym (ap (λ f. delivery_answer f (not (has_arrival (counting h.opening h.steps moment) a))) (fault_under old.config h.opening.config name body moment None (stands_config old h stands) none)
          ∙ ap (λ b. Ok (Stored b)) (sym (told bodies apart have there ∙ ap (λ (b : Book). not (has_arrival (at_moment moment b).arrivals a)) stands)));
      kept = stands_kept is_open new (followed h (Delivery name body moment) (Ok (Stored fresh))) (is bodies apart have there ∙ ap (λ b. with_delivery b a) stands ∙ sym (book_of-delivered h name body moment (Stored fresh)));
    }

-- what a crash leaves that has all of a call that is done
pub stands_answered : (may_fail : Bool) (h : History) (call : Call) (reply : Reply) (left : Book) → IsStep may_fail h call (Ok reply) ⊤ left → Stands left (followed h call (answer h call))
stands_answered may_fail h call reply left step = subst (λ (o : Result Reply Fault). Stands left (followed h call o)) step.answered (step.kept.stands tt)

pub delivered_left : (may_fail : Bool) (h : History) (name body : List ℕ) (moment : ℕ) (old : Book) (left : Option Book)
    → Stands old h → IsFaithful h (Delivery name body moment ∷ []) → delivery_fault old.config name body moment ≡ None
    → ((bodies : List (List ℕ)) → NoCollision bodies → HasBodies bodies old → Contains bodies body → left ≡ Some (with_delivery old (record { name = name; body = body; moment = moment })))
    → left ≡ Some (book_of (followed h (Delivery name body moment) (answer h (Delivery name body moment))))
delivered_left may_fail h name body moment old left stands faithful none is =
    let a : Arrival = record { name = name; body = body; moment = moment } in
    let fresh = not (has_arrival (at_moment moment old).arrivals a) in
    let bodies = [] ∷ faithful.bodies in
    let have : HasBodies bodies old = subst (HasBodies bodies) (sym stands) (known h (Delivery name body moment ∷ []) faithful) in
    let there : Contains bodies body = contains_later [] faithful.bodies body (faithful.delivered body (delivered_last h name body moment)) in
    is bodies (apart_with_empty faithful.bodies faithful.apart) have there
    ∙ ap Some (stands_answered may_fail h (Delivery name body moment) (Stored fresh) (with_delivery old a)
    (delivered_step may_fail h name body moment ⊤ old (with_delivery old a) fresh stands faithful none (λ bodies apart have there. refl) (λ bodies apart have there. refl)))

-- what a crash leaves of a delivery that may be kept: what the history left, or that with the delivery
pub left_delivered : (may_fail : Bool) (h : History) (name body : List ℕ) (moment : ℕ) (was_open : Type 0) (old : Book) (left : Option Book)
    → IsKept was_open old h → delivery_fault old.config name body moment ≡ None
    → was_open × ((left ≡ Some old)
    ⊎ ((bodies : List (List ℕ)) → NoCollision bodies → HasBodies bodies old → Contains bodies body → left ≡ Some (with_delivery old (record { name = name; body = body; moment = moment }))))
    → (left ≡ Some (book_of h))
    ⊎ (IsFaithful h (Delivery name body moment ∷ []) → left ≡ Some (book_of (followed h (Delivery name body moment) (answer h (Delivery name body moment)))))
left_delivered may_fail h name body moment was_open old left kept none made = elim made.1 [
  | inl is ↦ inl (is ∙ ap Some (kept.stands made.0))
  | inr whole ↦ inr (λ faithful. delivered_left may_fail h name body moment old left (kept.stands made.0) faithful none whole)
]

-- ---- look-ups

pub free_lookup : (h : History) (path : List ℕ) → is_refused h (Lookup path) ≡ false
unfolding is_refused
free_lookup h path = refl

-- a look-up that is done
pub found_step : (may_fail : Bool) (h : History) (path : List ℕ) (is_open : Type 0) (old new : Book) (file : Option (List ℕ)) → Stands old h → file ≡ option_or (old.files path) (text_at old path) → new ≡ old
    → IsStep may_fail h (Lookup path) (Ok (Found file)) is_open new
unfolding answer found_at book_of book_from
found_step may_fail h path is_open old new file stands told same =
    record {
      answered = ap (λ f. Ok (Found f)) (told ∙ ap (λ b. option_or (b.files path) (text_at b path)) stands);
      kept = stands_kept is_open new (followed h (Lookup path) (Ok (Found file))) (same ∙ stands ∙ sym (book_of-looked_up h path (Ok (Found file))));
    }

-- ---- lists

pub late_waiting : (may_fail : Bool) (h : History) (moment : ℕ) → latest < moment → IsAnswer may_fail h (WaitingList moment) (Err Moment)
unfolding answer
late_waiting may_fail h moment late = rw (lt-ltb latest moment late) refl

pub free_waiting : (h : History) (moment : ℕ) → moment ≤ latest → is_refused h (WaitingList moment) ≡ false
unfolding is_refused
free_waiting h moment in_time = le-ltb latest moment in_time

-- the line on an upload that waits is that of its missing files
line_is : (all now : List Arrival) (c : Candidate) → line_on_waiting (waiting_of all now c) ≡ waiting_line now c
unfolding waiting_line missing
line_is all now c = ap (λ count. line_on_missing count c.name) (lacks_count all now c.changes.entries)

waiting_lines : (moment : ℕ) (book : Book)
    → map line_on_waiting (waiting_list moment book) ≡ map (waiting_line (at_moment moment book).arrivals) (unjudged (at_moment moment book))
unfolding waiting_list
waiting_lines moment book =
    map-map _ _ (unjudged (at_moment moment book))
    ∙ ap (λ line. map line (unjudged (at_moment moment book))) (fun_ext (line_is book.arrivals (at_moment moment book).arrivals))

-- the waiting uploads, if what the keeper says holds for all bodies without collision
pub waiting_step : (may_fail : Bool) (h : History) (moment : ℕ) (is_open : Type 0) (old new : Book) (waiting : List Waiting) (lines : List (List ℕ))
    → Stands old h → IsFaithful h (WaitingList moment ∷ []) → moment ≤ latest
    → ((bodies : List (List ℕ)) → NoCollision bodies → HasBodies bodies old → waiting ≡ waiting_list moment old)
    → lines ≡ map line_on_waiting waiting → new ≡ old
    → IsStep may_fail h (WaitingList moment) (Ok (Lines lines)) is_open new
unfolding answer book_of book_from at_moment counting
waiting_step may_fail h moment is_open old new waiting lines stands faithful in_time told are same =
    let calls = WaitingList moment ∷ [] in
    let bodies = [] ∷ faithful.bodies in
    let have : HasBodies bodies old = subst (HasBodies bodies) (sym stands) (known h calls faithful) in
    let told_lines : lines ≡ map (waiting_line (counting h.opening h.steps moment)) (waiting_after h.opening h.steps moment) =
    are ∙ ap (map line_on_waiting) (told bodies (apart_with_empty faithful.bodies faithful.apart) have ∙ ap (waiting_list moment) stands)
    ∙ waiting_lines moment (book_of h) ∙ ap (map (waiting_line (counting h.opening h.steps moment))) (unjudged_faithful h calls faithful moment) in
    record {
      answered = ap (λ ls. Ok (Lines ls)) told_lines
          ∙ sym (ap (λ b. if b then Err Moment else Ok (Lines (map (waiting_line (counting h.opening h.steps moment)) (waiting_after h.opening h.steps moment)))) (le-ltb latest moment in_time));
      kept = stands_kept is_open new (followed h (WaitingList moment) (Ok (Lines lines))) (same ∙ stands ∙ sym (book_of-waited h moment (Ok (Lines lines))));
    }

pub free_verdicts : (h : History) → is_refused h VerdictList ≡ false
unfolding is_refused
free_verdicts h = refl

pub verdicts_step : (may_fail : Bool) (h : History) (is_open : Type 0) (old new : Book) (judged : List Judgement) (lines : List (List ℕ))
    → Stands old h → judged ≡ old.judged → lines ≡ map report_line judged → new ≡ old → IsStep may_fail h VerdictList (Ok (Lines lines)) is_open new
unfolding answer book_of book_from
verdicts_step may_fail h is_open old new judged lines stands told are same =
    record {
      answered = ap (λ ls. Ok (Lines ls)) (are ∙ ap (map report_line) (told ∙ ap (λ (b : Book). b.judged) stands));
      kept = stands_kept is_open new (followed h VerdictList (Ok (Lines lines))) (same ∙ stands ∙ sym (book_of-listed h (Ok (Lines lines))));
    }

-- ---- cleanings

pub late_cleaning : (may_fail : Bool) (h : History) (moment : ℕ) → latest < moment → IsAnswer may_fail h (Cleaning moment) (Err Moment)
unfolding answer
late_cleaning may_fail h moment late = rw (lt-ltb latest moment late) refl

pub free_cleaning : (h : History) (moment : ℕ) → moment ≤ latest → is_refused h (Cleaning moment) ≡ false
unfolding is_refused
free_cleaning h moment in_time = le-ltb latest moment in_time

-- how many arrivals of the book end by the moment
abbrev count_in : ℕ → Book → ℕ
count_in moment book = length (ended (span book.config) moment book.arrivals)

-- a cleaning that is done
pub cleaned_step : (may_fail : Bool) (h : History) (moment : ℕ) (is_open : Type 0) (old new : Book) (count : ℕ) → Stands old h → moment ≤ latest
    → count ≡ length (ended (span old.config) moment old.arrivals) → new ≡ at_moment moment old
    → IsStep may_fail h (Cleaning moment) (Ok (Count count)) is_open new
unfolding answer book_of book_from
cleaned_step may_fail h moment is_open old new count stands in_time told is =
    record {
      answered = ap (λ n. Ok (Count n)) (told ∙ ap (count_in moment) stands)
          ∙ sym (ap (λ b. if b then Err Moment else Ok (Count (length (ended (span h.opening.config) moment (arrived h.opening h.steps))))) (le-ltb latest moment in_time));
      kept = stands_kept is_open new (followed h (Cleaning moment) (Ok (Count count))) (is ∙ ap (at_moment moment) stands ∙ sym (book_of-cleaned h moment (Count count)));
    }

-- what a crash leaves that has all of it
pub cleaned_left : (may_fail : Bool) (h : History) (moment : ℕ) (was_open : Type 0) (old : Book) (left : Option Book) → IsKept was_open old h → moment ≤ latest
    → was_open × (left ≡ Some (at_moment moment old))
    → left ≡ Some (book_of (followed h (Cleaning moment) (answer h (Cleaning moment))))
cleaned_left may_fail h moment was_open old left kept in_time made =
    made.1
    ∙ ap Some (stands_answered may_fail h (Cleaning moment) (Count (count_in moment old)) (at_moment moment old)
    (cleaned_step may_fail h moment ⊤ old (at_moment moment old) (count_in moment old) (kept.stands made.0) in_time refl refl))

-- ---- runs

pub late_run : (may_fail : Bool) (h : History) (moment : ℕ) → latest < moment → IsAnswer may_fail h (QueueRun moment) (Err Moment)
unfolding answer
late_run may_fail h moment late = rw (lt-ltb latest moment late) refl

pub free_run : (h : History) (moment : ℕ) → moment ≤ latest → is_refused h (QueueRun moment) ≡ false
unfolding is_refused
free_run h moment in_time = le-ltb latest moment in_time
