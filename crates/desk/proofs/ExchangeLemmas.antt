-- From what was read and what the archive answered to the reply.
use Rattle.std.proofs.Common.{◌≡◌, ◌≤◌, ◌<◌, ◌++◌, ◌∙◌, ℕ, List, [], ◌∷◌, Option, None, Some, Result, Ok, Err, IfOk, OnErr, Bool, true, false, length, replicate, refl, sym, ap, subst, inl, inr, arith, length-append}
use Rattle.std.specs.Prelude.{MatchResult, ⊤, cond, ◌||◌, nat_le, nat_lt}
use Rattle.std.specs.Io.KnownBytes.{Consumes}
use Rattle.std.proofs.KnownBytes.{Consumes-kept, Consumes-nil}
use Rattle.std.proofs.lemmas.Bool.{ltb-false, ltb-true}
use Rattle.std.proofs.lemmas.Bool.Decides.{nat_tests}
use Rattle.std.proofs.lemmas.List.{length-replicate}
use Rattle.std.proofs.lemmas.Option.{same_Some}
use Rattle.book.specs.Book.{Book}
use Rattle.book.specs.declared.keeper.Keeper.{Ghosts}
use Rattle.queue.specs.Archives.{book_of}
use Rattle.queue.specs.Commands.{is_new, stored}
use Rattle.queue.specs.Histories.{Call, Delivery, History, Reply as Answered, Stored, followed}
use Rattle.queue.specs.Receiving.{Gave, IsAsBefore, IsReceived, IsRefusedFor, LeavesReceived}
use Rattle.queue.specs.Steps.{Does, IsServed, LeavesCall, Reads}
use Rattle.history.specs.Deliveries.{delivery_fault, most_named}
use Rattle.history.specs.declared.command.Arrived.{Arrived}
use Rattle.history.specs.declared.fault.Fault.{Fault}
use Rattle.history.specs.declared.fault.Fault.TheVariants as fault
use Rattle.queue.specs.declared.reading.ReaderFailed.{ReaderFailed}
use Rattle.history.proofs.Limits.{named_least}
use Rattle.history.proofs.Received.{refused_does}
use Rattle.desk.specs.Answer.{refusal_message}
use Rattle.desk.specs.Calls.{call_wanted, done_message, fault_message, is_call, outcome_message, reception_message, told_message}
use Rattle.desk.specs.Exchange.{Course, HasReadBehind, IsCalled, IsCarriedOut, IsHandledWith, IsLeftBehind, IsLeftBy, KeepsLimit, Leaves, LeavesBehind, LeavesCourse, LeavesOr, MayHaveCome, Silent, TurnedAway, TooLong, Short, Broken, Called, Told, reply_of}
use Rattle.desk.specs.Incoming.{HasHead, IsRefused, ReadsBeginning, ReadsUpTo}
use Rattle.desk.specs.Message.{message_of}
use Rattle.desk.specs.Reply.{Message}
use Rattle.desk.specs.Request.{Received, body_length, refused}
use Rattle.desk.specs.Want.{Want, asking, may_ask, delivery, queue_run, copying, fetching, waiting_list, cleaning, verdict_list, removing, promoting}
use Rattle.desk.specs.declared.head.Refusal.{Refusal}
use Rattle.desk.specs.declared.head.Refusal.TheVariants.{BadRequest, NotFound, MethodNotAllowed, Forbidden, LengthRequired, PayloadTooLarge, HeadTooLarge, NotImplemented, OutOfMemory}
use Rattle.desk.specs.declared.reply.Reply.{Reply}
use Rattle.desk.proofs.RequestLemmas.{read_behind, reads_behind, received_whole}
use Rattle.rules.specs.Values.{ConfigValue}
use Rattle.telling.specs.Told.{Asking, IsTold}
use Rattle.telling.specs.declared.fault.TellFault.{TellFault}
use Rattle.sums.specs.FileNames.{is_file_name}
use Rattle.sums.specs.Lines.{most_size}
use Rattle.desk.specs.declared.routes.Rules.{Rules}

none_within : (n most : ℕ) → n ≡ 0 → n ≤ most
none_within n most none = omega (arith, none)

-- what has no body is within the limit
keeps_limit : (config : ConfigValue) (want : Want) → body_length want ≡ 0 → KeepsLimit config want
keeps_limit config (delivery name n) none = none_within n (most_named config name) none
keeps_limit config queue_run none = tt
keeps_limit config (copying a b c) none = tt
keeps_limit config (fetching p k) none = tt
keeps_limit config waiting_list none = tt
keeps_limit config cleaning none = tt
keeps_limit config verdict_list none = tt
keeps_limit config (removing a b) none = tt
keeps_limit config (promoting a b) none = tt
keeps_limit config (asking question) none = tt

-- a number is within a limit if it can not be above it
pub within_limit : (most n : ℕ) → (most < n → ⊥) → n ≤ most
within_limit most n above = by_test (nat_lt most n) refl
  where
    by_test : (b : Bool) → nat_lt most n ≡ b → n ≤ most
    by_test true is = absurd (above (ltb-true most n is))
    by_test false is = ltb-false most n is

-- a body above the limit comes under the name of a file, and is refused for its size
too_large : (config : ConfigValue) (name : List ℕ) (n moment : ℕ) (e : Fault) → (is_file_name name || nat_le n most_size) ≡ true → most_named config name < n
    → ((body : List ℕ) → length body ≡ n → delivery_fault config name body moment ≡ Some e) → e ≡ fault.TooLarge
unfolding delivery_fault
too_large config name n moment e asked large is = named (is_file_name name) refl
  where
    none : ℕ
    none = 0

    zeros : List ℕ
    zeros = replicate n none

    sized : length zeros ≡ n
    sized = length-replicate n none

    over : nat_lt (most_named config name) (length zeros) ≡ true
    over = grind (arith, nat_tests, sized, large)

    least : most_size ≤ most_named config name
    least = named_least config name

    under : nat_le n most_size ≡ false
    under = grind (arith, nat_tests, large, least)

    told : is_file_name name ≡ true → delivery_fault config name zeros moment ≡ Some fault.TooLarge
    told good = rw (good, over) refl

    named : (b : Bool) → is_file_name name ≡ b → e ≡ fault.TooLarge
    named true good = same_Some e fault.TooLarge (sym (is zeros sized) ∙ told good)
    named false bad = let none : (false || false) ≡ true = rw (bad, under) at asked in absurd (cc)

-- if the bytes of a reader are unknown after some bytes, they were unknown before them
unknown_before : (old mid : Option (List ℕ)) (front : List ℕ) → Consumes old mid front → mid ≡ None → old ≡ None
unknown_before None mid front read is = refl
unknown_before (Some xs) None front read is = absurd read
unknown_before (Some xs) (Some ys) front read is = absurd (cc)

come_before : (old mid : Option (List ℕ)) (front : List ℕ) (course : Course) → Consumes old mid front → MayHaveCome mid course → MayHaveCome old course
come_before old mid front Short read may = tt
come_before old mid front Broken read may = unknown_before old mid front read may
come_before old mid front (TurnedAway BadRequest) read may = unknown_before old mid front read may
come_before old mid front (TurnedAway NotFound) read may = absurd may
come_before old mid front (TurnedAway (MethodNotAllowed m)) read may = absurd may
come_before old mid front (TurnedAway Forbidden) read may = absurd may
come_before old mid front (TurnedAway LengthRequired) read may = absurd may
come_before old mid front (TurnedAway PayloadTooLarge) read may = absurd may
come_before old mid front (TurnedAway HeadTooLarge) read may = absurd may
come_before old mid front (TurnedAway NotImplemented) read may = absurd may
come_before old mid front (TurnedAway OutOfMemory) read may = absurd may
come_before old mid front (TooLong want) read may = unknown_before old mid front read may
come_before old mid front Silent read may = absurd may
come_before old mid front (Called want body at outcome) read may = absurd may
come_before old mid front (Told question at told) read may = absurd may

-- a reader that gave `n` bytes, and fewer as well, has unknown bytes
unknown_of : (old new : Option (List ℕ)) (n : ℕ) (body front : List ℕ) → Consumes old new body → length body ≡ n → Consumes old new front → length front < n → old ≡ None
unknown_of None new n body front one size other short = refl
unknown_of (Some xs) None n body front one size other short = absurd one
unknown_of (Some xs) (Some ys) n body front one size other short =
    let sizes : length (body ++ ys) ≡ length (front ++ ys) = ap length (sym one ∙ other) in
    absurd (omega (arith, sizes, size, short, length-append body ys, length-append front ys))

-- what was left by a body after a head was left by the whole
left_by : {desk_rules : Rules} (h : History) (old mid new : Option (List ℕ)) (want : Want) (moment : ℕ) (left : Option Book) → HasHead desk_rules old mid want → IsLeftBehind h mid new want moment left → IsLeftBy desk_rules h old new want moment left
left_by h old mid new want moment left head it = record {
  body = it.body;
  read = received_whole old mid new head.head it.body want head.read head.first head.asked it.read it.size;
  stands = it.stands;
}

module _ {K : Type 0} (g : Ghosts K) where
  -- if nothing was done, a crash leaves what it would have left before
  pub leaves_nothing : (before : K) (calls : List Call) (Else : History → Option Book → Type 0) → LeavesOr g before before calls Else
  leaves_nothing before calls Else h kept faithful clean left may = inl may

  leaves_more : (before after : K) (calls : List Call) (One Else : History → Option Book → Type 0) → ((h : History) (left : Option Book) → One h left → Else h left)
      → LeavesOr g before after calls One → LeavesOr g before after calls Else
  leaves_more before after calls One Else more leaves h kept faithful clean left may = elim (leaves h kept faithful clean left may) [
    | inl was ↦ inl was
    | inr made ↦ inr (elim made [ inl same ↦ inl same | inr one ↦ inr (more h left one) ])
  ]

  module _ {desk_rules : Rules} (old mid new : Option (List ℕ)) (before after : K) (want : Want) (moment : ℕ) (head : HasHead desk_rules old mid want) where
    none_told : (course : Course) → LeavesOr g before after [] (λ h left. MayHaveCome mid course × IsLeftBehind h mid new want moment left)
        → LeavesOr g before after [] (λ h left. MayHaveCome old course × ((want : Want) × IsLeftBy desk_rules h old new want moment left))
    none_told course leaves = leaves_more before after [] (λ h left. MayHaveCome mid course × IsLeftBehind h mid new want moment left) (λ h left. MayHaveCome old course × ((want : Want) × IsLeftBy desk_rules h old new want moment left))
        (λ h left one. (come_before old mid head.head course head.read one.0, (want, left_by h old mid new want moment left head one.1))) leaves

    -- what a crash leaves after a head it leaves of the whole
    pub crash_behind : (course : Course) → HasReadBehind mid new want course → LeavesBehind g mid new want moment before after course → LeavesCourse desk_rules g old new moment before after course
    crash_behind Silent read leaves = none_told Silent leaves
    crash_behind (TurnedAway e) read leaves = none_told (TurnedAway e) leaves
    crash_behind (TooLong other) read leaves = none_told (TooLong other) leaves
    crash_behind Short read leaves = none_told Short leaves
    crash_behind Broken read leaves = none_told Broken leaves
    crash_behind (Told question at told) read leaves = none_told (Told question at told) leaves
    crash_behind (Called other body at (Ok reply)) read leaves = leaves
    crash_behind (Called other body at (Err fault)) read leaves =
        leaves_more before after (call_wanted other body moment ∷ []) (λ h left. IsLeftBehind h mid new other moment left) (λ h left. IsLeftBy desk_rules h old new other moment left)
        (λ h left one. left_by h old mid new other moment left (subst (λ (w : Want). HasHead desk_rules old mid w) (sym read.0) head) one) leaves

  -- what a crash leaves of a call that was done, if the keeper is open after it
  done_leaves : (before after : K) (call : Call) (reply : Answered) → ((k : K) (left : Option Book) → g.is_clean k → g.is_open k → g.may_leave k left → left ≡ Some (g.book k))
      → Does g before call (Ok reply) after → IsServed g after (Ok reply) → LeavesCall g before call after
  done_leaves before after call reply settled does served h kept faithful clean left may =
      let step = does h kept faithful clean in
      let up = served clean in
      inr (inr (settled after left clean up may ∙ ap Some (step.kept.stands up) ∙ ap (λ o. Some (book_of (followed h call o))) step.answered))

  -- what it leaves of one that has no body
  called_leaves : (old : Option (List ℕ)) (before after : K) (want : Want) (moment : ℕ) (outcome : Result Answered Fault) → body_length want ≡ 0 → LeavesCall g before (call_wanted want [] moment) after
      → LeavesBehind g old old want moment before after (Called want [] moment outcome)
  called_leaves old before after want moment (Ok reply) none leaves = leaves
  called_leaves old before after want moment (Err fault) none leaves = λ h kept faithful clean left may. elim (leaves h kept faithful clean left may) [
    | inl was ↦ inl was
    | inr made ↦ inr (elim made [
      | inl same ↦ inl same
      | inr whole ↦ inr (record { body = []; size = sym none; read = Consumes-nil old; stands = λ holds. whole })
    ])
  ]

  turned_away : {desk_rules : Rules} (old new : Option (List ℕ)) (before : K) (moment : ℕ) (e : Refusal) (m : Message) → Received desk_rules old new (refused e) → m ≡ refusal_message e
      → IsHandledWith desk_rules g old new before before moment m
  turned_away old new before moment e m h is = record { course = TurnedAway e; read = h; leaves = λ past kept clean. kept; crash = λ past kept faithful clean left may. inl may; reply = ap Some (sym is) }

  -- what is refused before the archive heard of it
  pub handled_refused : {desk_rules : Rules} (old new : Option (List ℕ)) (before : K) (moment : ℕ) (e : Refusal) (m : Message) → IsRefused desk_rules old new e → m ≡ refusal_message e
      → IsHandledWith desk_rules g old new before before moment m
  handled_refused old new before moment OutOfMemory m h is = record { course = Short; read = h; leaves = λ past kept clean. kept; crash = λ past kept faithful clean left may. inl may; reply = ap Some (sym is) }
  handled_refused old new before moment BadRequest m h is = turned_away old new before moment BadRequest m h is
  handled_refused old new before moment NotFound m h is = turned_away old new before moment NotFound m h is
  handled_refused old new before moment (MethodNotAllowed a) m h is = turned_away old new before moment (MethodNotAllowed a) m h is
  handled_refused old new before moment Forbidden m h is = turned_away old new before moment Forbidden m h is
  handled_refused old new before moment LengthRequired m h is = turned_away old new before moment LengthRequired m h is
  handled_refused old new before moment PayloadTooLarge m h is = turned_away old new before moment PayloadTooLarge m h is
  handled_refused old new before moment HeadTooLarge m h is = turned_away old new before moment HeadTooLarge m h is
  handled_refused old new before moment NotImplemented m h is = turned_away old new before moment NotImplemented m h is

  -- what a head asked for that was carried out
  pub handled_asked : {desk_rules : Rules} (old mid new : Option (List ℕ)) (before after : K) (want : Want) (moment : ℕ) (m : Message) → HasHead desk_rules old mid want
      → IsCarriedOut g mid new before after want moment (Some m) → IsHandledWith desk_rules g old new before after moment m
  handled_asked old mid new before after want moment m head carried = record {
    course = carried.course;
    read = read_behind old mid new want carried.course head carried.read;
    leaves = carried.leaves;
    crash = crash_behind old mid new before after want moment head carried.course carried.read carried.crash;
    reply = carried.reply;
  }

  -- a reader that failed after a head
  pub broken_behind : {desk_rules : Rules} (old mid new : Option (List ℕ)) (before after : K) (want : Want) (moment : ℕ) → HasHead desk_rules old mid want
      → ReadsUpTo mid new (body_length want) × IsAsBefore g before after × LeavesBehind g mid new want moment before after Broken
      → ReadsBeginning desk_rules old new × IsAsBefore g before after × LeavesCourse desk_rules g old new moment before after Broken
  broken_behind old mid new before after want moment head cut =
      (reads_behind old mid new head.head want head.read head.first head.asked cut.0, cut.1, none_told old mid new before after want moment head Broken cut.2)

  -- a call that has no body after its head
  pub without_body : (old : Option (List ℕ)) (before after : K) (want : Want) (moment : ℕ) (m : Message) → body_length want ≡ 0 → is_call want ≡ true → IsCalled g before after want [] moment m
      → IsCarriedOut g old old before after want moment (Some m)
  without_body old before after want moment m none is_one called = record {
    course = Called want [] moment called.outcome;
    read = (refl, sym none, Consumes-nil old);
    leaves = (refl, keeps_limit (g.book before).config want none, called.done);
    crash = called_leaves old before after want moment called.outcome none called.crash;
    reply = ap (λ b. cond b (Some (outcome_message want called.outcome)) None) is_one ∙ ap Some (sym called.message_is);
  }

  -- a question, to which this was told
  pub was_told : (old : Option (List ℕ)) (before after : K) (question : Asking) (moment : ℕ) (told : Result (Option (List ℕ)) TellFault) (m : Message) → m ≡ told_message question told
      → Reads g before after → (g.is_clean after → IsTold g.may_fail (g.book before) question moment told) → IsCarriedOut g old old before after (asking question) moment (Some m)
  was_told old before after question moment told m message_is reads is = record {
    course = Told question moment told;
    read = (refl, Consumes-nil old);
    leaves = (refl, record { reads = reads; is = is });
    crash = λ h kept faithful clean left may. inl (reads.crash clean left may);
    reply = ap Some (sym message_is);
  }

  module _ (old new : Option (List ℕ)) (before after : K) (name : List ℕ) (n moment : ℕ) where
    -- a delivery that was done
    pub received_done : (arrived : Arrived) (m : Message) → ((k : K) (left : Option Book) → g.is_clean k → g.is_open k → g.may_leave k left → left ≡ Some (g.book k))
        → IsServed g after (stored (Ok arrived)) → IsReceived g old new name n moment before after (Ok arrived) → n ≤ most_named (g.book before).config name
        → m ≡ done_message false (Stored (is_new arrived)) → IsCarriedOut g old new before after (delivery name n) moment (Some m)
    received_done arrived m settled served h within told = record {
      course = Called (delivery name n) h.0 moment (Ok (Stored (is_new arrived)));
      read = (refl, h.1.1, h.1.0);
      leaves = (refl, within, h.2);
      crash = done_leaves before after (Delivery name h.0 moment) (Stored (is_new arrived)) settled h.2 served;
      reply = ap Some (sym told);
    }

    -- what a crash leaves of a delivery, as of a body after a head
    module _ (leaves : LeavesReceived g old new name n moment before after) where
      left_behind : (calls : List Call) (P : Type 0) → ((body : List ℕ) → Gave old new n body → P)
          → LeavesOr g before after calls (λ h left. P × IsLeftBehind h old new (delivery name n) moment left)
      left_behind calls P come h kept faithful clean left may = elim (leaves h kept clean left may) [
        | inl was ↦ inl was
        | inr made ↦ inr (elim made [
          | inl same ↦ inl same
          | inr it ↦ inr (come it.body it.gave_it, record { body = it.body; size = it.gave_it.1; read = it.gave_it.0; stands = it.stands })
        ])
      ]

      left_refused : (body : List ℕ) → LeavesOr g before after (Delivery name body moment ∷ []) (λ h left. IsLeftBehind h old new (delivery name n) moment left)
      left_refused body h kept faithful clean left may = elim (leaves h kept clean left may) [
        | inl was ↦ inl was
        | inr made ↦ inr (elim made [
          | inl same ↦ inl same
          | inr it ↦ inr (record { body = it.body; size = it.gave_it.1; read = it.gave_it.0; stands = it.stands })
        ])
      ]

    -- a delivery that is refused by its name, its body or its moment: its whole body was read, or it is too large
    refused_whole : (e : Fault) → LeavesReceived g old new name n moment before after → may_ask (delivery name n) ≡ true → IsRefusedFor (g.book before).config old new name n moment e × IsAsBefore g before after
        → IsCarriedOut g old new before after (delivery name n) moment (Some (fault_message e))
    refused_whole e leaves asked h = elim h.0 [
      | inl whole ↦ record {
        course = Called (delivery name n) whole.0 moment (Err e);
        read = (refl, whole.1.1, whole.1.0);
        leaves = (refl, whole.2, refused_does g old new name n moment before after whole.0 e whole.3 h.1);
        crash = left_refused leaves whole.0;
        reply = refl;
      }
      | inr large ↦ record {
        course = TooLong (delivery name n);
        read = (refl, large.1);
        leaves = (large.0, h.1);
        crash = left_behind leaves [] (old ≡ None) (λ body gave. unknown_of old new n body [] gave.0 gave.1 (Consumes-kept old old new [] (Consumes-nil old) large.1) (omega (arith, large.0)));
        reply = ap (λ f. Some (fault_message f)) (sym (too_large (g.book before).config name n moment e asked large.0 large.2));
      }
    ]

    -- a delivery that was refused
    pub received_not : (e : Fault) → LeavesReceived g old new name n moment before after → may_ask (delivery name n) ≡ true → IsReceived g old new name n moment before after (Err e) → IsCarriedOut g old new before after (delivery name n) moment (reception_message e)
    received_not fault.OutOfMemory leaves asked h = record {
      course = Short;
      read = record { front = h.0.front; read = h.0.read; short = h.0.short };
      leaves = h.1;
      crash = left_behind leaves [] ⊤ (λ body gave. tt);
      reply = refl;
    }
    received_not (fault.Keeper own) leaves asked h = record {
      course = Short;
      read = record { front = h.2.gave.front; read = h.2.gave.read; short = h.2.gave.short };
      leaves = h.3;
      crash = left_behind leaves [] ⊤ (λ body gave. tt);
      reply = refl;
    }
    received_not fault.Ended leaves asked h = record {
      course = TurnedAway BadRequest;
      read = (h.0.front, h.0.read, h.0.short, h.0.end);
      leaves = h.1;
      crash = left_behind leaves [] (old ≡ None) (λ body gave. unknown_of old new n body h.0.front gave.0 gave.1 h.0.read h.0.short);
      reply = refl;
    }
    received_not fault.ReaderFailed leaves asked h = record {
      course = Broken;
      read = record { front = h.0.front; read = h.0.read; short = omega (arith, h.0.short) };
      leaves = h.1;
      crash = left_behind leaves [] (old ≡ None) (λ body gave. unknown_of old new n body h.0.front gave.0 gave.1 h.0.read h.0.short);
      reply = refl;
    }
    received_not fault.BadName leaves asked h = refused_whole fault.BadName leaves asked h
    received_not fault.TooLarge leaves asked h = refused_whole fault.TooLarge leaves asked h
    received_not (fault.Record own) leaves asked h = refused_whole (fault.Record own) leaves asked h
    received_not fault.Moment leaves asked h = refused_whole fault.Moment leaves asked h
    received_not fault.UnknownSuite leaves asked h = refused_whole fault.UnknownSuite leaves asked h
    received_not fault.SameSuite leaves asked h = refused_whole fault.SameSuite leaves asked h
    received_not fault.NothingToCopy leaves asked h = refused_whole fault.NothingToCopy leaves asked h
    received_not fault.NothingToRemove leaves asked h = refused_whole fault.NothingToRemove leaves asked h

  module _ (old new : Option (List ℕ)) (before after : K) (want : Want) (moment : ℕ) where
    -- the reply to it
    pub reply_told : (r : Result Reply ReaderFailed) (m : Option Message) → MatchResult r (λ reply. Some (message_of reply) ≡ m) (λ _. m ≡ None) → IsCarriedOut g old new before after want moment m
        → IfOk r (λ reply. IsCarriedOut g old new before after want moment (Some (message_of reply)))
    reply_told (Ok reply) m is carried = subst (λ (o : Option Message). IsCarriedOut g old new before after want moment o) (sym is) carried
    reply_told (Err e) m is carried = tt

    -- if there is no reply, the reader failed
    broken : is_call want ≡ true → (course : Course) → reply_of course ≡ None → HasReadBehind old new want course → Leaves g moment before after course → LeavesBehind g old new want moment before after course
        → ReadsUpTo old new (body_length want) × IsAsBefore g before after × LeavesBehind g old new want moment before after Broken
    broken is_one Silent none read leaves crash = absurd read
    broken is_one (TurnedAway e) none read leaves crash = absurd (cc)
    broken is_one (TooLong other) none read leaves crash = absurd (cc)
    broken is_one Short none read leaves crash = absurd (cc)
    broken is_one Broken none read leaves crash = (read, leaves, crash)
    broken is_one (Called other body at outcome) none read leaves crash =
        let told : Some (outcome_message other outcome) ≡ None = sym (ap (λ b. cond b (Some (outcome_message other outcome)) None) (ap is_call read.0 ∙ is_one)) ∙ none in
        absurd (cc)
    broken is_one (Told question at told) none read leaves crash = absurd (cc)

    pub reply_missing : is_call want ≡ true → (r : Result Reply ReaderFailed) (m : Option Message) → MatchResult r (λ reply. Some (message_of reply) ≡ m) (λ _. m ≡ None) → IsCarriedOut g old new before after want moment m
        → OnErr r (ReadsUpTo old new (body_length want) × IsAsBefore g before after × LeavesBehind g old new want moment before after Broken)
    reply_missing is_one (Ok reply) m is carried = tt
    reply_missing is_one (Err e) m is carried = broken is_one carried.course (subst (λ (o : Option Message). reply_of carried.course ≡ o) is carried.reply) carried.read carried.leaves carried.crash
