-- Connections that were served, and others after them.
use Rattle.std.proofs.Common.{◌≡◌, ◌≤◌, ◌+◌, ℕ, List, [], ◌∷◌, ◌++◌, Option, Some, Result, Ok, Err, refl, sym, ap, subst, ◌⊎◌, inl, inr, ◌∙◌, append-nil, length-append, arith}
use Rattle.std.proofs.lemmas.Grind.{flat_map-append}
use Rattle.std.proofs.lemmas.List.Elements.{All-append, All-cons, All-contains, All-nil, All-weaker}
use Rattle.std.specs.Prelude.{All, Contains, length}
use Rattle.book.specs.Book.{Book, HasItsFiles}
use Rattle.book.specs.Keeping.{HasBodies, NoCollision}
use Rattle.book.specs.declared.keeper.Keeper.{Ghosts}
use Rattle.queue.specs.Answers.{IsFaithful, IsKept, IsRun}
use Rattle.queue.specs.Archives.{Stands, book_of}
use Rattle.queue.specs.Histories.{Call, Reply, History, followed, bodies_of, opened_with}
use Rattle.queue.specs.Steps.{Does, Lasts, Reads}
use Rattle.history.specs.declared.fault.Fault.{Fault}
use Rattle.history.proofs.Kept.{stands_kept}
use Rattle.book.proofs.ReadLemmas.{lasts_itself, lasts_more, reads_none}
use Rattle.rules.specs.Values.{ConfigValue}
use Rattle.history.proofs.Reopening.{opens_itself}
use Rattle.history.proofs.Runs.{IsFaithful-front, IsFaithful-rest, IsRun-append}
use Rattle.indices.proofs.Pairs.{pairs_append, pairs_none}
use Rattle.desk.specs.Calls.{call_wanted}
use Rattle.desk.specs.Connections.{Visit, visit, visits, AllWent, AreServed, AreToldOf, HasServed, IsByLimit, IsLeftAmong, IsLeftIn, IsServed, IsToldOf, IsAt, IsNoLater, NeverFall, behind, calls_in, calls_of_course, outcomes_in, outcomes_of_course}
use Rattle.desk.specs.Exchange.{Course, Silent, TurnedAway, TooLong, Short, Broken, Called, Told, Leaves, LeavesCourse}
use Rattle.desk.specs.Want.{Want}
use Rattle.telling.specs.Told.{IsTold}
use Rattle.desk.specs.declared.connection.Connection.{Connection}
use Rattle.desk.specs.declared.routes.Rules.{Rules}

-- courses of connections, and of others after them
AllWent-append : (vs : List Visit) (courses : List Course) (ws : List Visit) (others : List Course) → AllWent vs courses → AllWent ws others → AllWent (vs ++ ws) (courses ++ others)
AllWent-append [] [] ws others all more = more
AllWent-append (v ∷ vs) (course ∷ courses) ws others (first, all) more = (first, AllWent-append vs courses ws others all more)
AllWent-append [] (course ∷ courses) ws others all more = absurd all
AllWent-append (v ∷ vs) [] ws others all more = absurd all

module _ (desk_rules : Rules) {R W : Type 0} (remaining : R → Option (List ℕ)) (contents : W → Option (List ℕ)) where
  pub visits-snoc : (olds news : List (Connection R W)) (old new : Connection R W) → length olds ≡ length news
      → visits desk_rules remaining contents (olds ++ old ∷ []) (news ++ new ∷ []) ≡ visits desk_rules remaining contents olds news ++ visit desk_rules remaining contents old new ∷ []
  visits-snoc [] [] old new same = refl
  visits-snoc (o ∷ os) (n ∷ ns) old new same = ap (λ vs. visit desk_rules remaining contents o n ∷ vs) (visits-snoc os ns old new (omega (arith, same)))
  visits-snoc [] (n ∷ ns) old new same = absurd (omega (arith, same))
  visits-snoc (o ∷ os) [] old new same = absurd (omega (arith, same))

module _ {K : Type 0} (g : Ghosts K) where
  pub at_of : (moment : ℕ) (before after : K) (course : Course) → Leaves g moment before after course → IsAt moment course
  at_of moment before after Silent leaves = tt
  at_of moment before after (TurnedAway e) leaves = tt
  at_of moment before after (TooLong want) leaves = tt
  at_of moment before after Short leaves = tt
  at_of moment before after Broken leaves = tt
  at_of moment before after (Called want body at outcome) leaves = leaves.0
  at_of moment before after (Told question at told) leaves = leaves.0

  limit_of : (moment : ℕ) (before after : K) (course : Course) → Leaves g moment before after course → IsByLimit (g.book before).config course
  limit_of moment before after Silent leaves = tt
  limit_of moment before after (TurnedAway e) leaves = tt
  limit_of moment before after (TooLong want) leaves = leaves.0
  limit_of moment before after Short leaves = tt
  limit_of moment before after Broken leaves = tt
  limit_of moment before after (Called want body at outcome) leaves = leaves.1
  limit_of moment before after (Told question at told) leaves = tt

  -- if nothing happened, what was kept is kept
  still_kept : (h : History) (before after : K) → after ≡ before → IsKept (g.is_open before) (g.book before) h → IsKept (g.is_open after) (g.book after) h
  still_kept h before after same kept = subst (λ (k : K). IsKept (g.is_open k) (g.book k) h) (sym same) kept

  -- what was kept is kept after a read
  read_kept : (h : History) (before after : K) → Reads g before after → IsKept (g.is_open before) (g.book before) h → g.is_clean after → IsKept (g.is_open after) (g.book after) h
  read_kept h before after reads kept clean =
      record { config = reads.lasts.config ∙ kept.config; stands = λ up. reads.same clean up ∙ kept.stands (reads.lasts.was_open clean up) }

  -- what the one connection asked is a run
  one_run : (h : History) (moment : ℕ) (before after : K) (course : Course) → Leaves g moment before after course → IsKept (g.is_open before) (g.book before) h
      → IsFaithful h (calls_in (course ∷ [])) → g.is_clean after → IsRun g.may_fail h (calls_in (course ∷ [])) (outcomes_in (course ∷ [])) (g.is_open after) (g.book after)
  one_run h moment before after Silent same kept faithful clean = still_kept h before after same kept
  one_run h moment before after (TurnedAway e) same kept faithful clean = same h kept clean
  one_run h moment before after (TooLong want) same kept faithful clean = same.1 h kept clean
  one_run h moment before after Short same kept faithful clean = same h kept clean
  one_run h moment before after Broken same kept faithful clean = same h kept clean
  one_run h moment before after (Called want body at outcome) (at_is, within, done) kept faithful clean =
      let does = subst (λ (m : ℕ). Does g before (call_wanted want body m) outcome after) (sym at_is) done in
      let step = does h kept faithful clean in
      (step.answered, step.kept)
  one_run h moment before after (Told question at told) (at_is, asked) kept faithful clean = read_kept h before after asked.reads kept clean

  -- the answer of a question on the book of the history
  one_told : (h : History) (moment : ℕ) (before after : K) (course : Course) → Leaves g moment before after course → IsKept (g.is_open before) (g.book before) h
      → g.is_clean after → g.is_open after → IsToldOf g.may_fail h course
  one_told h moment before after Silent leaves kept clean up = tt
  one_told h moment before after (TurnedAway e) leaves kept clean up = tt
  one_told h moment before after (TooLong want) leaves kept clean up = tt
  one_told h moment before after Short leaves kept clean up = tt
  one_told h moment before after Broken leaves kept clean up = tt
  one_told h moment before after (Called want body at outcome) leaves kept clean up = tt
  one_told h moment before after (Told question at told) (at_is, asked) kept clean up =
      let book = kept.stands (asked.reads.lasts.was_open clean up) in
      subst (λ (b : Book). IsTold g.may_fail b question at told) book (subst (λ (m : ℕ). IsTold g.may_fail (g.book before) question m told) (sym at_is) (asked.is clean))

  -- the answers of connections, and of others after them
  told-append : (h : History) (courses others : List Course) (mid after : K) → AreToldOf g.may_fail h courses
      → IsRun g.may_fail h (calls_in courses) (outcomes_in courses) (g.is_open mid) (g.book mid)
      → ((later : History) → IsKept (g.is_open mid) (g.book mid) later → IsFaithful later (calls_in others) → AreToldOf g.may_fail later others)
      → IsFaithful h (calls_in courses ++ calls_in others) → AreToldOf g.may_fail h (courses ++ others)
  told-append h [] others mid after told kept more faithful = more h kept faithful
  told-append h (Called want body at outcome ∷ courses) others mid after (one, told) (answered, run) more faithful =
      (one, told-append (followed h (call_wanted want body at) outcome) courses others mid after told run more (IsFaithful-rest h (call_wanted want body at) outcome (calls_in courses ++ calls_in others) faithful))
  told-append h (Silent ∷ courses) others mid after (one, told) run more faithful = (one, told-append h courses others mid after told run more faithful)
  told-append h (TurnedAway e ∷ courses) others mid after (one, told) run more faithful = (one, told-append h courses others mid after told run more faithful)
  told-append h (TooLong want ∷ courses) others mid after (one, told) run more faithful = (one, told-append h courses others mid after told run more faithful)
  told-append h (Short ∷ courses) others mid after (one, told) run more faithful = (one, told-append h courses others mid after told run more faithful)
  told-append h (Broken ∷ courses) others mid after (one, told) run more faithful = (one, told-append h courses others mid after told run more faithful)
  told-append h (Told question at words ∷ courses) others mid after (one, told) run more faithful = (one, told-append h courses others mid after told run more faithful)

  -- what a crash leaves of the one connection
  one_crash : (h : History) (v : Visit) (before after : K) (course : Course) → Leaves g v.moment before after course → LeavesCourse v.rules g v.gave v.gives v.moment before after course
      → IsKept (g.is_open before) (g.book before) h → IsFaithful h (calls_in (course ∷ [])) → g.is_clean after → (left : Option Book) → g.may_leave after left
      → g.may_leave before left ⊎ ((left ≡ Some (book_of h)) ⊎ IsLeftIn h v course left)
  one_crash h v before after Silent leaves crash kept faithful clean left may = crash h kept faithful clean left may
  one_crash h v before after (TurnedAway e) leaves crash kept faithful clean left may = crash h kept faithful clean left may
  one_crash h v before after (TooLong want) leaves crash kept faithful clean left may = crash h kept faithful clean left may
  one_crash h v before after Short leaves crash kept faithful clean left may = crash h kept faithful clean left may
  one_crash h v before after Broken leaves crash kept faithful clean left may = crash h kept faithful clean left may
  one_crash h v before after (Told question at told) leaves crash kept faithful clean left may = crash h kept faithful clean left may
  one_crash h v before after (Called want body at outcome) leaves crash kept faithful clean left may =
      subst (λ (m : ℕ). IsFaithful h (call_wanted want body m ∷ []) → g.may_leave before left ⊎ ((left ≡ Some (book_of h)) ⊎ IsLeftIn h v (Called want body m outcome) left)) (sym leaves.0)
      (called_crash h v before after want body outcome crash kept clean left may) faithful
    where
      called_crash : (h : History) (v : Visit) (before after : K) (want : Want) (body : List ℕ) (outcome : Result Reply Fault) → LeavesCourse v.rules g v.gave v.gives v.moment before after (Called want body v.moment outcome)
          → IsKept (g.is_open before) (g.book before) h → g.is_clean after → (left : Option Book) → g.may_leave after left → IsFaithful h (call_wanted want body v.moment ∷ [])
          → g.may_leave before left ⊎ ((left ≡ Some (book_of h)) ⊎ IsLeftIn h v (Called want body v.moment outcome) left)
      called_crash h v before after want body (Ok reply) crash kept clean left may faithful = crash h kept faithful clean left may
      called_crash h v before after want body (Err fault) crash kept clean left may faithful = crash h kept faithful clean left may

  -- what was left is the book of the history itself
  pub among_none : (h : History) (vs : List Visit) (courses : List Course) (left : Option Book) → left ≡ Some (book_of h) → IsLeftAmong h vs courses left
  among_none h [] [] left is = is
  among_none h (v ∷ vs) (course ∷ courses) left is = inl is
  among_none h [] (course ∷ courses) left is = is
  among_none h (v ∷ vs) [] left is = is

  -- what may be left among some connections may be left among more
  among_front : (h : History) (vs ws : List Visit) (courses others : List Course) (left : Option Book) → AllWent vs courses → IsLeftAmong h vs courses left
      → IsLeftAmong h (vs ++ ws) (courses ++ others) left
  among_front h [] ws [] others left went is = among_none h ws others left is
  among_front h (v ∷ vs) ws (course ∷ courses) others left (first, went) is = elim is [
    | inl same ↦ inl same
    | inr made ↦ inr (elim made [
      | inl whole ↦ inl whole
      | inr later ↦ inr (among_front (behind h course) vs ws courses others left went later)
    ])
  ]
  among_front h [] ws (course ∷ courses) others left went is = absurd went
  among_front h (v ∷ vs) ws [] others left went is = absurd went

  -- what is left among connections after others, if it was not left by these
  among_behind : (h : History) (vs ws : List Visit) (courses others : List Course) (left : Option Book) (mid : K) (P : Type 0) → AllWent vs courses
      → IsRun g.may_fail h (calls_in courses) (outcomes_in courses) (g.is_open mid) (g.book mid)
      → ((later : History) → IsKept (g.is_open mid) (g.book mid) later → IsFaithful later (calls_in others) → P ⊎ IsLeftAmong later ws others left)
      → IsFaithful h (calls_in courses ++ calls_in others) → P ⊎ IsLeftAmong h (vs ++ ws) (courses ++ others) left
  among_behind h [] ws [] others left mid P went kept leaves faithful = leaves h kept faithful
  among_behind h (v ∷ vs) ws (Called want body at outcome ∷ courses) others left mid P (first, went) (answered, run) leaves faithful =
      elim (among_behind (followed h (call_wanted want body at) outcome) vs ws courses others left mid P went run leaves
      (IsFaithful-rest h (call_wanted want body at) outcome (calls_in courses ++ calls_in others) faithful)) [ inl p ↦ inl p | inr is ↦ inr (inr (inr is)) ]
  among_behind h (v ∷ vs) ws (Silent ∷ courses) others left mid P (first, went) run leaves faithful =
      elim (among_behind h vs ws courses others left mid P went run leaves faithful) [ inl p ↦ inl p | inr is ↦ inr (inr (inr is)) ]
  among_behind h (v ∷ vs) ws (TurnedAway e ∷ courses) others left mid P (first, went) run leaves faithful =
      elim (among_behind h vs ws courses others left mid P went run leaves faithful) [ inl p ↦ inl p | inr is ↦ inr (inr (inr is)) ]
  among_behind h (v ∷ vs) ws (TooLong want ∷ courses) others left mid P (first, went) run leaves faithful =
      elim (among_behind h vs ws courses others left mid P went run leaves faithful) [ inl p ↦ inl p | inr is ↦ inr (inr (inr is)) ]
  among_behind h (v ∷ vs) ws (Short ∷ courses) others left mid P (first, went) run leaves faithful =
      elim (among_behind h vs ws courses others left mid P went run leaves faithful) [ inl p ↦ inl p | inr is ↦ inr (inr (inr is)) ]
  among_behind h (v ∷ vs) ws (Broken ∷ courses) others left mid P (first, went) run leaves faithful =
      elim (among_behind h vs ws courses others left mid P went run leaves faithful) [ inl p ↦ inl p | inr is ↦ inr (inr (inr is)) ]
  among_behind h (v ∷ vs) ws (Told question at told ∷ courses) others left mid P (first, went) run leaves faithful =
      elim (among_behind h vs ws courses others left mid P went run leaves faithful) [ inl p ↦ inl p | inr is ↦ inr (inr (inr is)) ]
  among_behind h [] ws (course ∷ courses) others left mid P went run leaves faithful = absurd went
  among_behind h (v ∷ vs) ws [] others left mid P went run leaves faithful = absurd went

  pub served_one : (before after : K) (v : Visit) → Lasts g before after → IsServed g v before after → AreServed g before after (v ∷ [])
  served_one before after v lasts served =
      let answered = served.answered in
      let course = answered.course in
      record {
        courses = course ∷ [];
        went = (record { read = answered.read; at = at_of v.moment before after course answered.leaves; result = served.result; end_is = served.end_is; written = answered.written }, tt);
        config = lasts.config;
        limit = All-cons (IsByLimit (g.book before).config) course [] (limit_of v.moment before after course answered.leaves) (All-nil (IsByLimit (g.book before).config));
        run = λ h kept faithful clean. one_run h v.moment before after course answered.leaves kept faithful clean;
        told = λ h kept faithful clean up. (one_told h v.moment before after course answered.leaves kept clean up, tt);
        crash = λ h kept faithful clean left may. elim (one_crash h v before after course answered.leaves answered.crash kept faithful clean left may) [
          | inl was ↦ inl was
          | inr made ↦ inr (elim made [ inl same ↦ inl same | inr whole ↦ inr (inl whole) ])
        ];
      }

  -- no connection was answered, and reads at most were made
  pub served_none : (before after : K) → Reads g before after → AreServed g before after []
  served_none before after reads = record {
    courses = [];
    went = tt;
    config = reads.lasts.config;
    limit = All-nil (IsByLimit (g.book before).config);
    crash = λ h kept faithful clean left may. inl (reads.crash clean left may);
    run = λ h kept faithful clean. read_kept h before after reads kept clean;
    told = λ h kept faithful clean up. tt;
  }

  -- connections were answered, and others after them
  pub served_joined : (before mid after : K) (vs ws : List Visit) → Lasts g mid after → AreServed g before mid vs → AreServed g mid after ws
      → AreServed g before after (vs ++ ws)
  served_joined before mid after vs ws lasts first rest =
      let clean_before = lasts.clean in
      let cs = first.courses in
      let ds = rest.courses in
      let calls : calls_in (cs ++ ds) ≡ calls_in cs ++ calls_in ds = flat_map-append calls_of_course cs ds in
      let outcomes : outcomes_in (cs ++ ds) ≡ outcomes_in cs ++ outcomes_in ds = flat_map-append outcomes_of_course cs ds in
      record {
        courses = cs ++ ds;
        went = AllWent-append vs cs ws ds first.went rest.went;
        config = rest.config ∙ first.config;
        limit = All-append (IsByLimit (g.book before).config) cs ds first.limit (subst (λ (c : ConfigValue). All (IsByLimit c) ds) first.config rest.limit);
        run = λ h kept faithful clean.
            let parts = subst (λ (xs : List Call). IsFaithful h xs) calls faithful in
            let run = first.run h kept (IsFaithful-front h (calls_in cs) (calls_in ds) parts) (clean_before clean) in
            subst (λ (xs : List Call). IsRun g.may_fail h xs (outcomes_in (cs ++ ds)) (g.is_open after) (g.book after)) (sym calls)
            (subst (λ (os : List (Result Reply Fault)). IsRun g.may_fail h (calls_in cs ++ calls_in ds) os (g.is_open after) (g.book after)) (sym outcomes)
            (IsRun-append g h (calls_in cs) (calls_in ds) (outcomes_in cs) (outcomes_in ds) mid after run (λ later stays holds. rest.run later stays holds clean) parts));
        told = λ h kept faithful clean up.
            let parts = subst (λ (xs : List Call). IsFaithful h xs) calls faithful in
            let front = IsFaithful-front h (calls_in cs) (calls_in ds) parts in
            told-append h cs ds mid after (first.told h kept front (clean_before clean) (lasts.was_open clean up)) (first.run h kept front (clean_before clean))
            (λ later stays holds. rest.told later stays holds clean up) parts;
        crash = λ h kept faithful clean left may.
            let parts = subst (λ (xs : List Call). IsFaithful h xs) calls faithful in
            let front = IsFaithful-front h (calls_in cs) (calls_in ds) parts in
            let run = first.run h kept front (clean_before clean) in
            elim (among_behind h vs ws cs ds left mid (g.may_leave mid left) first.went run (λ later stays holds. rest.crash later stays holds clean left may) parts) [
              | inl was ↦ elim (first.crash h kept front (clean_before clean) left was) [ inl before_it ↦ inl before_it | inr is ↦ inr (among_front h vs ws cs ds left first.went is) ]
              | inr is ↦ inr is
            ];
      }

  -- the answers begin after the book that is kept before, if it has its files
  pub served_behind : (before after : K) (vs : List Visit) (served : AreServed g before after vs) (bodies : List (List ℕ)) → HasItsFiles (g.book before) → NoCollision bodies → HasBodies bodies (g.book before)
      → ((body : List ℕ) → Contains (bodies_of (calls_in served.courses)) body → Contains bodies body) → g.is_clean after
      → IsRun g.may_fail (opened_with (g.book before)) (calls_in served.courses) (outcomes_in served.courses) (g.is_open after) (g.book after)
  served_behind before after vs served bodies files apart have there clean =
      let whole : Stands (g.book before) (opened_with (g.book before)) = opens_itself (g.book before) files in
      served.run (opened_with (g.book before)) (stands_kept (g.is_open before) (g.book before) (opened_with (g.book before)) whole)
      (record { bodies = bodies; apart = apart; opened = record { known = have; whole = whole }; delivered = there }) clean

  -- one turn of connections, and a read between two turns
  pub a_turn : (most : ℕ) (Fits : Visit → Type 0) (before after : K) (vs : List Visit) → length vs ≤ most → All Fits vs → NeverFall vs → Lasts g before after
      → AreServed g before after vs → HasServed g most Fits before after
  a_turn most Fits before after vs number fit rise lasts served = record { visits = vs; number = number; fit = fit; rise = rise; lasts = lasts; served = served }

  pub no_turn : (most : ℕ) (Fits : Visit → Type 0) (k : K) → HasServed g most Fits k k
  no_turn most Fits k = a_turn most Fits k k [] (omega arith) (All-nil Fits) (pairs_none IsNoLater) (lasts_itself k) (served_none k k (reads_none k))

  pub turn_and_read : (most : ℕ) (Fits : Visit → Type 0) (before mid after : K) → HasServed g most Fits before mid → Reads g mid after → HasServed g most Fits before after
  turn_and_read most Fits before mid after turn reads = record {
    visits = turn.visits;
    number = turn.number;
    fit = turn.fit;
    rise = turn.rise;
    lasts = lasts_more turn.lasts reads.lasts;
    served = subst (AreServed g before after) (append-nil turn.visits) (served_joined before mid after turn.visits [] reads.lasts turn.served (served_none mid after reads));
  }

  -- others after the first, at no earlier moment, all of which are as this says
  pub two_turns : (most more whole : ℕ) (One Other Fits : Visit → Type 0) (before mid after : K) → most + more ≤ whole → ((v : Visit) → One v → Fits v) → ((v : Visit) → Other v → Fits v)
      → ((v w : Visit) → One v → Other w → IsNoLater v w) → HasServed g most One before mid → HasServed g more Other mid after → HasServed g whole Fits before after
  two_turns most more whole One Other Fits before mid after within one_fits other_fits later first others = record {
    visits = first.visits ++ others.visits;
    number = omega (arith, first.number, others.number, within, length-append first.visits others.visits);
    fit = All-append Fits first.visits others.visits (All-weaker One Fits one_fits first.visits first.fit) (All-weaker Other Fits other_fits others.visits others.fit);
    rise = pairs_append IsNoLater first.visits others.visits first.rise others.rise
        (λ v w here there. later v w (All-contains One first.visits v first.fit here) (All-contains Other others.visits w others.fit there));
    lasts = lasts_more first.lasts others.lasts;
    served = served_joined before mid after first.visits others.visits others.lasts first.served others.served;
  }
