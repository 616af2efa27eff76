-- From what was read and stored to what came of a delivery from a reader.
use Rattle.std.proofs.Common.{◌≡◌, ◌≤◌, ◌<◌, ◌+◌, ◌⊎◌, ◌++◌, ◌∙◌, ℕ, Bool, true, false, not, List, [], ◌∷◌, Option, Some, None, Result, Ok, Err, IfErr, OnErr, length, take, take_at, if◌then◌else◌, refl, ap, sym, subst, inl, inr, arith, append-nil}
use Rattle.std.specs.Prelude.{⊤, nat_lt}
use Rattle.std.proofs.lemmas.Bool.{lt-ltb, le-ltb}
use Rattle.std.proofs.lemmas.List.{length-append, nil_from_length}
use Rattle.std.proofs.lemmas.Option.{same_Some}
use Rattle.para.specs.Fault.{many_fault, one_fault}
use Rattle.para.specs.Fields.{fields_in}
use Rattle.para.specs.declared.fault.ParaFault.TheVariants as para_faults
use Rattle.records.specs.Records.{changes_limit, changes_within}
use Rattle.records.specs.Values.{ChangesValue}
use Rattle.records.specs.declared.fault.RecordFault.{RecordFault}
use Rattle.records.specs.declared.fault.RecordFault.TheVariants as record_faults
use Rattle.rules.specs.Sizes.{largest}
use Rattle.rules.specs.Values.{ConfigValue}
use Rattle.book.specs.Book.{Book, latest}
use Rattle.book.specs.declared.keeper.Keeper.{Ghosts}
use Rattle.history.specs.Answers.{IsFaithful, IsKept, IsStep, answer}
use Rattle.history.specs.Archives.{book_of}
use Rattle.history.specs.Commands.{is_new, stored}
use Rattle.history.specs.Deliveries.{IsKeepers, delivery_fault, fault_of_read, most_named, or_else, record_fault}
use Rattle.history.specs.Histories.{Delivery, History, Stored, followed}
use Rattle.history.specs.Receiving.{Gave, GaveUpTo, HasArrived, HasRead, IsAsBefore, IsCutOff, IsLeft, IsLeftBy, IsReceived, MayBeKept, WasShort}
use Rattle.history.specs.Steps.{Does, IsUndone, Lasts}
use Rattle.history.specs.declared.command.Arrived.{Arrived}
use Rattle.history.specs.declared.fault.Fault.{Fault}
use Rattle.history.specs.declared.fault.Fault.TheVariants.{OutOfMemory, BadName, TooLarge, Record, Keeper, Moment, UnknownSuite, SameSuite, NothingToCopy, Ended, ReaderFailed, NothingToRemove}
use Rattle.history.proofs.Limits.{named_greatest}
use Rattle.history.proofs.StepAnswers.{delivered_left, delivered_step, refused_delivery}
use Rattle.history.proofs.Steps.{book_of-refused}
use Rattle.sums.specs.FileNames.{is_changes_name, is_file_name}
use Rattle.sums.specs.Lines.{greatest_size}

-- ---- the fault of a delivery

pub bad_name : (config : ConfigValue) (name body : List ℕ) (moment : ℕ) → is_file_name name ≡ false → delivery_fault config name body moment ≡ Some BadName
unfolding delivery_fault
bad_name config name body moment is = rw is refl

pub too_large : (config : ConfigValue) (name body : List ℕ) (moment : ℕ) → is_file_name name ≡ true → most_named config name < length body
    → delivery_fault config name body moment ≡ Some TooLarge
unfolding delivery_fault
too_large config name body moment is large = rw (is, lt-ltb (most_named config name) (length body) large) refl

pub too_late : (config : ConfigValue) (name body : List ℕ) (moment : ℕ) → is_file_name name ≡ true → is_changes_name name ≡ false → length body ≤ most_named config name → latest < moment
    → delivery_fault config name body moment ≡ Some Moment
unfolding delivery_fault record_fault
too_late config name body moment is plain small late = rw (is, le-ltb (most_named config name) (length body) small, plain, lt-ltb latest moment late) refl

pub no_fault : (config : ConfigValue) (name body : List ℕ) (moment : ℕ) → is_file_name name ≡ true → is_changes_name name ≡ false → length body ≤ most_named config name → moment ≤ latest
    → delivery_fault config name body moment ≡ None
unfolding delivery_fault record_fault
no_fault config name body moment is plain small in_time = rw (is, le-ltb (most_named config name) (length body) small, plain, le-ltb latest moment in_time) refl

-- a text that is too long for a record
long_record : (most : ℕ) (body : List ℕ) → changes_limit < length body → changes_within most body ≡ Err (record_faults.Paragraph para_faults.TooLong)
unfolding changes_within fields_in one_fault many_fault
long_record most body long = rw (lt-ltb changes_limit (length body) long) refl

pub too_long : (config : ConfigValue) (name body : List ℕ) (moment : ℕ) → is_file_name name ≡ true → is_changes_name name ≡ true → length body ≤ most_named config name → changes_limit < length body
    → delivery_fault config name body moment ≡ Some (Record (record_faults.Paragraph para_faults.TooLong))
unfolding delivery_fault record_fault
too_long config name body moment is changes small long = rw (is, le-ltb (most_named config name) (length body) small, changes, long_record (largest config) body long) refl

-- any body of this size may be kept under a name that is not that of a .changes
pub may_be_kept : (config : ConfigValue) (name : List ℕ) (n : ℕ) → is_file_name name ≡ true → is_changes_name name ≡ false → n ≤ most_named config name → MayBeKept name n
may_be_kept config name n is plain small body size = record { file_name = is; small = omega (arith, size, small, named_greatest config name); a_record = λ changes. absurd (no_both (is_changes_name name) changes plain) }
  where
    no_both : (b : Bool) → b ≡ true → b ≡ false → ⊥
    no_both b one other = absurd (cc)

-- the faults of deliveries by configuration, name, body and moment
abbrev IsOfDelivery : Fault → Type 0
IsOfDelivery BadName = ⊤
IsOfDelivery TooLarge = ⊤
IsOfDelivery (Record fault) = ⊤
IsOfDelivery Moment = ⊤
IsOfDelivery fault = ⊥

kind_of : (named large late : Bool) (read : Option Fault) (e : Fault) → ((f : Fault) → read ≡ Some f → IsOfDelivery f)
    → (if not named then Some BadName else (if large then Some TooLarge else or_else read (if late then Some Moment else None))) ≡ Some e → IsOfDelivery e
kind_of false large late read e told is = subst (λ (f : Fault). IsOfDelivery f) (same_Some BadName e is) tt
kind_of true true late read e told is = subst (λ (f : Fault). IsOfDelivery f) (same_Some TooLarge e is) tt
kind_of true false late (Some fault) e told is = told e is
kind_of true false true None e told is = subst (λ (f : Fault). IsOfDelivery f) (same_Some Moment e is) tt
kind_of true false false None e told is = absurd (cc)

record_kind : (named : Bool) (read : Result ChangesValue RecordFault) (e : Fault) → (if named then fault_of_read read else None) ≡ Some e → IsOfDelivery e
record_kind true (Ok changes) e is = absurd (cc)
record_kind true (Err fault) e is = subst (λ (f : Fault). IsOfDelivery f) (same_Some (Record fault) e is) tt
record_kind false read e is = absurd (cc)

delivery_kind : (config : ConfigValue) (name body : List ℕ) (moment : ℕ) (e : Fault) → delivery_fault config name body moment ≡ Some e → IsOfDelivery e
unfolding delivery_fault record_fault
delivery_kind config name body moment e is =
    kind_of (is_file_name name) (nat_lt (most_named config name) (length body)) (nat_lt latest moment) (record_fault config name body) e
    (λ f read. record_kind (is_changes_name name) (changes_within (largest config) body) f read) is

-- a front of all the bytes is all of them
whole_front : (other front rest : List ℕ) (n : ℕ) → length other ≡ n → length front ≡ n → other ≡ front ++ rest → other ≡ front
whole_front other front rest n size front_size is =
    let sizes : length other ≡ length front + length rest = ap length is ∙ length-append front rest in
    is ∙ ap (λ l. front ++ l) (nil_from_length rest (omega (arith, sizes, size, front_size))) ∙ append-nil front

-- a body that was given is what there was to give first
given_first : (body rest given : List ℕ) (gives : Option (List ℕ)) → Gave (Some (body ++ rest)) gives (length body) given → given ≡ body
given_first body rest given None gave = absurd gave.0
given_first body rest given (Some more) gave =
    sym (take_at given more (length body) gave.1) ∙ ap (take (length body)) (sym gave.0) ∙ take_at body rest (length body) refl

-- no body was given if there were too few bytes
pub none_given : (given : List ℕ) (gives : Option (List ℕ)) (n : ℕ) (body : List ℕ) → length given < n → Gave (Some given) gives n body → ⊥
none_given given None n body few gave = gave.0
none_given given (Some more) n body few gave =
    let sizes : length given ≡ length body + length more = ap length gave.0 ∙ length-append body more in
    omega (arith, sizes, gave.1, few)

-- a crash left the book that the history leaves after the delivery of a body that was given
pub left_given : (h : History) (name body rest : List ℕ) (gives : Option (List ℕ)) (moment : ℕ) (left : Option Book)
    → IsLeftBy h (Some (body ++ rest)) gives name (length body) moment left → IsFaithful h (Delivery name body moment ∷ [])
    → left ≡ Some (book_of (followed h (Delivery name body moment) (answer h (Delivery name body moment))))
left_given h name body rest gives moment left it faithful =
    subst (λ (b : List ℕ). IsFaithful h (Delivery name b moment ∷ []) → left ≡ Some (book_of (followed h (Delivery name b moment) (answer h (Delivery name b moment)))))
    (given_first body rest it.body gives it.gave_it) it.stands faithful

-- what is not so has every consequence
never : {X : Type 0} → false ≡ true → X
never h = cc

module _ {K : Type 0} (g : Ghosts K) (old new : Option (List ℕ)) (name : List ℕ) (n moment : ℕ) where
  pub as_it_was : (k : K) → IsAsBefore g k k
  as_it_was k h kept clean = kept

  -- a refused delivery is a step of its own, if what was kept is still kept
  pub refused_does : (before after : K) (body : List ℕ) (fault : Fault) → delivery_fault (g.book before).config name body moment ≡ Some fault → IsAsBefore g before after
      → Does g before (Delivery name body moment) (Err fault) after
  refused_does before after body fault is same h kept faithful clean =
      let still = same h kept clean in
      record {
        answered = refused_delivery g.may_fail h (g.book before).config name body moment fault kept.config (inr is);
        kept = record { config = still.config; stands = λ up. still.stands up ∙ sym (book_of-refused h (Delivery name body moment) fault) };
      }

  -- what was read on and was short
  pub received_short : (k : K) (e : Fault) → WasShort old new n e → IsReceived g old new name n moment k k (Err e)
  received_short k OutOfMemory h = absurd h
  received_short k BadName h = absurd h
  received_short k TooLarge h = absurd h
  received_short k (Record fault) h = absurd h
  received_short k (Keeper fault) h = absurd h
  received_short k Moment h = absurd h
  received_short k UnknownSuite h = absurd h
  received_short k SameSuite h = absurd h
  received_short k NothingToCopy h = absurd h
  received_short k NothingToRemove h = absurd h
  received_short k Ended h = (h, as_it_was k)
  received_short k ReaderFailed h = (h, as_it_was k)

  -- what could not be collected
  pub received_none : (k : K) (e : Fault) → HasRead false old new n e → IsReceived g old new name n moment k k (Err e)
  received_none k OutOfMemory h = (h, as_it_was k)
  received_none k BadName h = absurd h
  received_none k TooLarge h = absurd h
  received_none k (Record fault) h = absurd h
  received_none k (Keeper fault) h = never h.0
  received_none k Moment h = absurd h
  received_none k UnknownSuite h = absurd h
  received_none k SameSuite h = absurd h
  received_none k NothingToCopy h = absurd h
  received_none k NothingToRemove h = absurd h
  received_none k Ended h = (h, as_it_was k)
  received_none k ReaderFailed h = (h, as_it_was k)

  module _ (before after : K) (lasts : Lasts g before after) where
    pub as_before : IsUndone g before after → IsAsBefore g before after
    as_before same h kept clean = record {
      config = lasts.config ∙ kept.config;
      stands = λ up. same clean up ∙ kept.stands (lasts.was_open clean up);
    }

    -- a body that was read and stored
    pub received_new : (fresh : Bool) (told : Arrived) → is_new told ≡ fresh → is_file_name name ≡ true → is_changes_name name ≡ false → n ≤ most_named (g.book before).config name → moment ≤ latest
        → (g.is_clean after → g.is_open after) → HasArrived old new n (g.is_clean after) (g.book before) (g.book after) name moment fresh
        → IsReceived g old new name n moment before after (Ok told)
    received_new fresh told is named plain small in_time served here = (
      here.body,
      here.gave_it,
      λ h kept faithful clean.
          subst (λ (b : Bool). IsStep g.may_fail h (Delivery name here.body moment) (Ok (Stored b)) (g.is_open after) (g.book after)) (sym is)
          (delivered_step g.may_fail h name here.body moment (g.is_open after) (g.book before) (g.book after) fresh (kept.stands (lasts.was_open clean (served clean))) faithful
          (no_fault (g.book before).config name here.body moment named plain (omega (arith, here.gave_it.1, small)) in_time) (here.is_new clean) (here.arrives clean)),
    )

    -- a body that was not stored
    pub received_not : (e : Fault) → is_file_name name ≡ true → is_changes_name name ≡ false → n ≤ most_named (g.book before).config name → moment ≤ latest → HasRead g.may_fail old new n e
        → IsUndone g before after → IsReceived g old new name n moment before after (Err e)
    received_not OutOfMemory named plain small in_time h same = (h, as_before same)
    received_not (Keeper fault) named plain small in_time h same = (
      h.0,
      h.1,
      record { gave = h.2; free = λ body size rest. no_fault (g.book before).config name body moment named plain (omega (arith, size, small)) in_time },
      as_before same,
    )
    received_not Ended named plain small in_time h same = (h, as_before same)
    received_not ReaderFailed named plain small in_time h same = (h, as_before same)
    received_not BadName named plain small in_time h same = absurd h
    received_not TooLarge named plain small in_time h same = absurd h
    received_not (Record fault) named plain small in_time h same = absurd h
    received_not Moment named plain small in_time h same = absurd h
    received_not UnknownSuite named plain small in_time h same = absurd h
    received_not SameSuite named plain small in_time h same = absurd h
    received_not NothingToCopy named plain small in_time h same = absurd h
    received_not NothingToRemove named plain small in_time h same = absurd h

    -- a body that was read whole, and then delivered
    module _ (body : List ℕ) (gave : Gave old new n body) (small : n ≤ most_named (g.book before).config name) where
      all_of_it : GaveUpTo old new n
      all_of_it = record { front = body; read = gave.0; short = omega (arith, gave.1) }

      refused_for : (e : Fault) → IsUndone g before after → (delivery_fault (g.book before).config name body moment ≡ Some e) ⊎ ⊥
          → ((other : List ℕ) × Gave old new n other × (n ≤ most_named (g.book before).config name) × (delivery_fault (g.book before).config name other moment ≡ Some e)) × IsAsBefore g before after
      refused_for e same told = elim told [ inl is ↦ ((body, gave, small, is), as_before same) | inr none ↦ absurd none ]

      free_of : delivery_fault (g.book before).config name body moment ≡ None → IsCutOff (g.book before).config old new name n moment
      unfolding all_of_it
      free_of none = record {
        gave = all_of_it;
        free = λ other size rest. ap (λ (b : List ℕ). delivery_fault (g.book before).config name b moment) (whole_front other body rest.0 n size gave.1 rest.1) ∙ none;
      }

      pub received_refused : (e : Fault) → IsUndone g before after
          → (delivery_fault (g.book before).config name body moment ≡ Some e) ⊎ IsKeepers g.may_fail (delivery_fault (g.book before).config name body moment ≡ None) e
          → IsReceived g old new name n moment before after (Err e)
      received_refused OutOfMemory same told = (all_of_it, as_before same)
      received_refused (Keeper fault) same told = elim told [
        | inl is ↦ absurd (delivery_kind (g.book before).config name body moment (Keeper fault) is)
        | inr own ↦ (own.0, own.1, free_of own.2, as_before same)
      ]
      received_refused Ended same told = elim told [ inl is ↦ absurd (delivery_kind (g.book before).config name body moment Ended is) | inr own ↦ absurd own ]
      received_refused ReaderFailed same told = elim told [ inl is ↦ absurd (delivery_kind (g.book before).config name body moment ReaderFailed is) | inr own ↦ absurd own ]
      received_refused BadName same told = let it = refused_for BadName same told in (inl it.0, it.1)
      received_refused TooLarge same told = let it = refused_for TooLarge same told in (inl it.0, it.1)
      received_refused (Record fault) same told = let it = refused_for (Record fault) same told in (inl it.0, it.1)
      received_refused Moment same told = let it = refused_for Moment same told in (inl it.0, it.1)
      received_refused UnknownSuite same told = let it = refused_for UnknownSuite same told in (inl it.0, it.1)
      received_refused SameSuite same told = let it = refused_for SameSuite same told in (inl it.0, it.1)
      received_refused NothingToCopy same told = let it = refused_for NothingToCopy same told in (inl it.0, it.1)
      received_refused NothingToRemove same told = let it = refused_for NothingToRemove same told in (inl it.0, it.1)

      pub received_delivered : (r : Result Arrived Fault) → Does g before (Delivery name body moment) (stored r) after → OnErr r (IsUndone g before after)
          → IfErr r (λ e. (delivery_fault (g.book before).config name body moment ≡ Some e) ⊎ IsKeepers g.may_fail (delivery_fault (g.book before).config name body moment ≡ None) e)
          → IsReceived g old new name n moment before after r
      received_delivered (Ok told) step same refused = (body, gave, step)
      received_delivered (Err e) step same refused = received_refused e same refused

  -- what a crash leaves of a body that was being stored
  pub left_stored : (h : History) (was_open : Type 0) (book : Book) (left : Option Book) → IsKept was_open book h → is_file_name name ≡ true → is_changes_name name ≡ false
      → n ≤ most_named book.config name → moment ≤ latest → was_open × ((left ≡ Some book) ⊎ IsLeft old new n book left name moment)
      → (left ≡ Some (book_of h)) ⊎ IsLeftBy h old new name n moment left
  left_stored h was_open book left kept named plain small in_time made = elim made.1 [
    | inl is ↦ inl (is ∙ ap Some (kept.stands made.0))
    | inr it ↦ inr (record {
      body = it.body;
      gave_it = it.gave_it;
      stands = λ faithful. delivered_left g.may_fail h name it.body moment book left (kept.stands made.0) faithful
          (no_fault book.config name it.body moment named plain (omega (arith, it.gave_it.1, small)) in_time) it.arrives;
    })
  ]
