-- A removal by prints on what the book shows equals one in the plain archive.
use Rattle.std.proofs.Common.{◌≡◌, ℕ, Bool, true, false, cond, not, ◌&&◌, ◌||◌, List, [], ◌∷◌, map, filter, length, Option, Some, None, fold, nat_eq, nat_lt, Ok, refl, sym, ap, ◌∙◌, subst, append-nil}
use Rattle.std.specs.Prelude.{Contains}
use Rattle.std.specs.FinMap.{entries, get, values}
use Rattle.std.specs.List.{enumerate_from, list_any}
use mathlib.Core.Path.{fun_ext}
use Rattle.std.proofs.lemmas.List.{length-map}
use Rattle.std.proofs.lemmas.Slice.Eq.{bytes_eq-Decides}
use Rattle.book.specs.Book.{Book, amended, dates_after, latest, touches}
use Rattle.book.specs.Keeping.{HasEachBody, NoCollision}
use Rattle.book.specs.declared.arrival.Arrival.{Arrival}
use Rattle.book.specs.declared.change.Step.{Step}
use Rattle.rules.specs.Values.{ConfigValue}
use Rattle.suites.specs.Items.{Admitted}
use Rattle.suites.specs.KeyLemmas.{key_order_total, key_order-IsAntisymmetric}
use Rattle.suites.specs.Plan as plans
use Rattle.suites.specs.Plan.{is_removed}
use Rattle.suites.specs.Pool.{AreAgreed, files_of}
use Rattle.suites.specs.Shelves.{AreSound, ShelvesWith, shown, version_of}
use Rattle.suites.specs.declared.item.Item.{Item}
use Rattle.suites.specs.declared.key.ShelfKey.{ShelfKey}
use Rattle.suites.specs.declared.plan.Plan.{Plan}
use Rattle.suites.proofs.RemovalLemmas as removals
use Rattle.suites.proofs.RemovalLemmas.{is_left}
use Rattle.suites.proofs.FileMembers.{get_member, member_get}
use Rattle.suites.proofs.ListTests.{list_any-filter}
use Rattle.sums.proofs.Words.{list_any-map}
use Rattle.history.specs.Amending.{steps_at}
use Rattle.history.specs.Answers.{IsFaithful, IsStep, answer, count_of_shown}
use Rattle.history.specs.Archives.{BodyItem, PlainArchive, Stands, acted, acts_of, archive, book_from, book_of, has_more, is_changed, printed, removed, shown_by_print, shown_in, suite_named, version_with, with_admitted}
use Rattle.history.specs.Histories.{Removing, Count, History, arrivals_after, arrived, followed}
use Rattle.history.proofs.Contents.{AreMadeOf}
use Rattle.history.proofs.Dates.{has_version, no_more}
use Rattle.history.proofs.Judged.{any_agree_on}
use Rattle.history.proofs.Kept.{stands_kept}
use Rattle.history.proofs.Known.{archive_has, faithful_knows, has_empty, known, with_empty}
use Rattle.history.proofs.Lists.{all_from_contained}
use Rattle.history.proofs.ShownPrints.{entries-shown_by_print}
use Rattle.history.proofs.Simulation.{AreSimulated}
use Rattle.history.proofs.SimulationFiles.{AreFrom, AreStored, amended-simulated, bodies-simulated, shown_stored}
use Rattle.history.proofs.SimulationRun.{made_of}
use Rattle.history.proofs.Steps.{book_of-followed}

-- ---- the items

-- a filter of images, by a test of what they are images of
pub filter-map : {X Y : Type 0} (f : X → Y) (p : Y → Bool) (q : X → Bool) → ((x : X) → p (f x) ≡ q x) → (xs : List X) → filter p (map f xs) ≡ map f (filter q xs)
filter-map f p q same [] = refl
filter-map f p q same (x ∷ xs) =
    ap (λ b. cond b (f x ∷ filter p (map f xs)) (filter p (map f xs))) (same x) ∙ kept (q x) (filter-map f p q same xs)
  where
    kept : (b : Bool) → filter p (map f xs) ≡ map f (filter q xs) → cond b (f x ∷ filter p (map f xs)) (filter p (map f xs)) ≡ map f (cond b (x ∷ filter q xs) (filter q xs))
    kept true rest = ap (λ ys. f x ∷ ys) rest
    kept false rest = rest

-- what is left of all items, by prints
left-printed : (suite : ℕ) (name : List ℕ) (xs : List (Admitted (List ℕ)))
    → map printed (filter (λ (e : Admitted (List ℕ)). not (is_removed suite name e)) xs) ≡ filter (λ (e : ShelfKey × Item). is_left suite name e.0) (map printed xs)
unfolding is_removed
left-printed suite name xs =
    sym (filter-map printed (λ (e : ShelfKey × Item). is_left suite name e.0) (λ (e : Admitted (List ℕ)). not (is_removed suite name e)) (λ e. refl) xs)

-- what a removal takes of what is shown, by prints
pub taken-printed : (a : PlainArchive) (suite : ℕ) (name : List ℕ) → plans.removed (shown_by_print a) suite name ≡ map printed (filter (is_removed suite name) (entries (shown_in a)))
unfolding plans.removed is_removed
taken-printed a suite name =
    ap (filter (λ (e : ShelfKey × Item). is_removed suite name e)) (entries-shown_by_print a)
    ∙ filter-map printed (λ (e : ShelfKey × Item). is_removed suite name e) (λ (e : ShelfKey × BodyItem). is_removed suite name e) (λ e. refl) (entries (shown_in a))

-- whether a suite shows an item of the package, by prints
pub shows-printed : (a : PlainArchive) (suite : ℕ) (name : List ℕ) → list_any (is_removed suite name) (entries (shown_by_print a)) ≡ list_any (is_removed suite name) (entries (shown_in a))
unfolding is_removed
shows-printed a suite name =
    ap (list_any (λ (e : ShelfKey × Item). is_removed suite name e)) (entries-shown_by_print a)
    ∙ list_any-map printed (λ (e : ShelfKey × Item). is_removed suite name e) (entries (shown_in a))

-- ---- what is shown then

pub shown-removed : (moment : ℕ) (a : PlainArchive) (suite : ℕ) (name : List ℕ) → shown_by_print (removed moment a suite name) ≡ plans.after_removal (shown_by_print a) suite name
unfolding removed with_admitted shown_by_print
shown-removed moment a suite name =
    ap (shown version_of) (left-printed suite name a.admitted)
    ∙ removals.after_removal-shown suite name (map printed a.admitted)

-- on each shelf what was shown there, but for those of the package in the suite
get-removed : (moment : ℕ) (a : PlainArchive) (suite : ℕ) (name : List ℕ) (q : ShelfKey)
    → get (shown_in (removed moment a suite name)) q ≡ cond (is_left suite name q) (get (shown_in a) q) None
unfolding removed with_admitted is_removed
get-removed moment a suite name q = removals.shown-removed version_with suite name a.admitted q

was_there : (b : Bool) (o : Option BodyItem) (x : BodyItem) → cond b o None ≡ Some x → o ≡ Some x
was_there true o x h = h
was_there false o x h = cc

-- what is shown then was shown before
left_shown : (moment : ℕ) (a : PlainArchive) (suite : ℕ) (name : List ℕ) (e : Admitted (List ℕ)) → Contains (entries (shown_in (removed moment a suite name))) e → Contains (entries (shown_in a)) e
left_shown moment a suite name e at =
    let found : get (shown_in (removed moment a suite name)) e.0 ≡ Some e.1 = member_get key_order_total (shown_in (removed moment a suite name)) e at in
    get_member key_order-IsAntisymmetric (shown_in a) e.0 e.1 (was_there (is_left suite name e.0) (get (shown_in a) e.0) e.1 (sym (get-removed moment a suite name e.0) ∙ found))

pub removed_stored : (arrivals : List Arrival) (moment : ℕ) (a : PlainArchive) (suite : ℕ) (name : List ℕ) → AreStored arrivals a (entries (shown_in a))
    → AreStored arrivals a (entries (shown_in (removed moment a suite name)))
removed_stored arrivals moment a suite name stored e at = stored e (left_shown moment a suite name e at)

-- ---- the dates

module _ (s suite : ℕ) (name : List ℕ) (old new : ShelvesWith BodyItem) (left : (q : ShelfKey) → get new q ≡ cond (is_left suite name q) (get old q) None) where
  itself : (x : BodyItem) → has_version (Some x) x ≡ true
  itself x = (bytes_eq-Decides x.version x.version).1 refl

  nothing_more : has_more s old new ≡ false
  nothing_more = no_more s old new (λ q y now at. ap (λ o. has_version o y) (was_there (is_left suite name q) (get old q) y (sym (left q) ∙ now)) ∙ itself y)

  -- an item that was shown is no longer shown exactly if a removal takes it
  at_entry : (n r : Bool) (x : BodyItem) → (n && not (has_version (cond (not r) (Some x) None) x)) ≡ (r && n)
  at_entry true true x = refl
  at_entry false true x = refl
  at_entry true false x = ap not (itself x)
  at_entry false false x = refl

  gone : has_more s new old ≡ list_any (λ (e : ShelfKey × BodyItem). nat_eq e.0.suite s) (filter (λ (e : ShelfKey × BodyItem). is_removed suite name e) (entries old))
  unfolding has_more is_removed
  gone =
      any_agree_on (λ (e : ShelfKey × BodyItem). nat_eq e.0.suite s && not (has_version (get new e.0) e.1)) (λ (e : ShelfKey × BodyItem). is_removed suite name e && nat_eq e.0.suite s) (entries old)
      (all_from_contained (λ (e : ShelfKey × BodyItem). (nat_eq e.0.suite s && not (has_version (get new e.0) e.1)) ≡ (is_removed suite name e && nat_eq e.0.suite s)) (entries old)
      (λ e at.
      ap (λ o. nat_eq e.0.suite s && not (has_version o e.1))
      (left e.0 ∙ ap (λ o. cond (is_left suite name e.0) o None) (member_get key_order_total old e at))
      ∙ at_entry (nat_eq e.0.suite s) (is_removed suite name e) e.1))
      ∙ sym (list_any-filter (λ (e : ShelfKey × BodyItem). nat_eq e.0.suite s) (λ (e : ShelfKey × BodyItem). is_removed suite name e) (entries old))

  -- THE SUITE shows something else exactly if an item of it is taken.
  changed-removed : is_changed s old new ≡ list_any (λ (e : ShelfKey × BodyItem). nat_eq e.0.suite s) (filter (λ (e : ShelfKey × BodyItem). is_removed suite name e) (entries old))
  unfolding is_changed
  changed-removed = ap (λ b. b || has_more s new old) nothing_more ∙ gone

touches-removed : (s : ℕ) (a : PlainArchive) (suite : ℕ) (name : List ℕ) (plan : Plan) → plan.put ≡ [] → plan.dropped ≡ plans.removed (shown_by_print a) suite name
    → touches s plan ≡ list_any (λ (e : ShelfKey × BodyItem). nat_eq e.0.suite s) (filter (λ (e : ShelfKey × BodyItem). is_removed suite name e) (entries (shown_in a)))
unfolding touches
touches-removed s a suite name plan put dropped =
    ap (λ (es : List (ShelfKey × Item)). list_any (λ (e : ShelfKey × Item). nat_eq e.0.suite s) es || list_any (λ (e : ShelfKey × Item). nat_eq e.0.suite s) plan.dropped) put
    ∙ ap (list_any (λ (e : ShelfKey × Item). nat_eq e.0.suite s)) (dropped ∙ taken-printed a suite name)
    ∙ list_any-map printed (λ (e : ShelfKey × Item). nat_eq e.0.suite s) (filter (λ (e : ShelfKey × BodyItem). is_removed suite name e) (entries (shown_in a)))

-- the dates of all suites
dates-removed : (moment : ℕ) (a : PlainArchive) (suite : ℕ) (name : List ℕ) (plan : Plan) → plan.put ≡ [] → plan.dropped ≡ plans.removed (shown_by_print a) suite name
    → (removed moment a suite name).dates ≡ dates_after moment a.dates plan
unfolding removed with_admitted dates_after
dates-removed moment a suite name plan put dropped =
    ap (λ (test : ℕ → Bool). map (λ (d : ℕ × ℕ). cond (test d.0) moment d.1) (enumerate_from 0 a.dates))
    (fun_ext (λ s.
    changed-removed s suite name (shown_in a) (shown_in (removed moment a suite name)) (get-removed moment a suite name)
    ∙ sym (touches-removed s a suite name plan put dropped)))

-- ---- the archive

-- the step of a removal
abbrev pub removal_step_of : Plan → Step
removal_step_of plan = record { judgement = None; plan = plan }

module _ (config : ConfigValue) (moment : ℕ) (a : PlainArchive) (suite : ℕ) (name : List ℕ) (plan : Plan)
    (step : plans.IsStep (shown_by_print a) (plans.after_removal (shown_by_print a) suite name) plan)
    (put : plan.put ≡ []) (dropped : plan.dropped ≡ plans.removed (shown_by_print a) suite name) where
  removed_judged : (removed moment a suite name).judged ≡ a.judged
  unfolding removed with_admitted
  removed_judged = refl

  pub removed-simulated : AreSimulated moment a (removal_step_of plan ∷ []) (removed moment a suite name)
  removed-simulated = record {
    shown = sym step.items.made ∙ sym (shown-removed moment a suite name);
    judged = append-nil a.judged ∙ sym removed_judged;
    dates = sym (dates-removed moment a suite name plan put dropped);
    sound = ((plans.after_removal (shown_by_print a) suite name, step), tt);
  }

  -- THE BOOK after the removal is that of the plain archive with it.
  pub removed-amended : (bodies : List (List ℕ)) (arrivals : List Arrival) → NoCollision bodies → AreFrom bodies arrivals → AreMadeOf bodies a.admitted → AreAgreed (files_of (values (shown_by_print a)))
      → amended (book_from config arrivals a) (record { moment = moment; steps = removal_step_of plan ∷ []; texts = [] }) ≡ book_from config arrivals (removed moment a suite name)
  removed-amended bodies arrivals apart known_from made agreed =
      amended-simulated bodies config arrivals a (removed moment a suite name) (record { moment = moment; steps = removal_step_of plan ∷ []; texts = [] }) apart known_from made
      (removed_stored arrivals moment a suite name (shown_stored bodies arrivals a apart made agreed)) removed-simulated

  -- the book after the removal has a body for each file
  pub removed-bodies : (bodies : List (List ℕ)) (arrivals : List Arrival) → NoCollision bodies → AreFrom bodies arrivals → AreMadeOf bodies a.admitted → AreAgreed (files_of (values (shown_by_print a)))
      → HasEachBody (book_from config arrivals a) (steps_at moment (removal_step_of plan ∷ []))
  removed-bodies bodies arrivals apart known_from made agreed =
      bodies-simulated bodies config arrivals a (removed moment a suite name) (steps_at moment (removal_step_of plan ∷ [])) apart known_from made
      (removed_stored arrivals moment a suite name (shown_stored bodies arrivals a apart made agreed)) removed-simulated

  -- the number of items that were shown is the number that the plan drops
  pub removed-count : count_of_shown suite name a ≡ length plan.dropped
  unfolding count_of_shown
  removed-count =
      sym (ap length (dropped ∙ taken-printed a suite name) ∙ length-map (filter (λ (e : ShelfKey × BodyItem). is_removed suite name e) (entries (shown_in a))) printed)

-- ---- the step of a history

answer_removed : (h : History) (suite name : List ℕ) (moment place : ℕ) → nat_lt latest moment ≡ false → suite_named h.opening.config suite ≡ Some place
    → list_any (is_removed place name) (entries (shown_in (archive h))) ≡ true
    → answer h (Removing suite name moment) ≡ Ok (Count (count_of_shown place name (archive h)))
unfolding answer
answer_removed h suite name moment place in_time named shows = rw (in_time, named, shows) refl

-- the book has a body for each file that the pool then has
pub removal_has : (h : History) (suite name : List ℕ) (moment place : ℕ) (old : Book) (plan : Plan) → Stands old h → IsFaithful h (Removing suite name moment ∷ []) → AreSound old.shown
    → plans.IsStep old.shown (plans.after_removal old.shown place name) plan
    → plan.put ≡ [] → plan.dropped ≡ plans.removed old.shown place name
    → HasEachBody old (steps_at moment (removal_step_of plan ∷ []))
unfolding book_of book_from
removal_has h suite name moment place old plan stands faithful sound step put dropped =
    let calls = Removing suite name moment ∷ [] in
    let all = with_empty h calls faithful in
    let arrivals = arrived h.opening h.steps in
    let a = archive h in
    let known_from : AreFrom all.bodies arrivals = (known h calls faithful).arrivals in
    let made : AreMadeOf all.bodies a.admitted = made_of all.bodies a.admitted (archive_has (Contains all.bodies) h (faithful_knows h calls all (has_empty faithful.bodies))) in
    let sound_here : AreSound (shown_by_print a) = subst (λ (b : Book). AreSound b.shown) stands sound in
    let step_here : plans.IsStep (shown_by_print a) (plans.after_removal (shown_by_print a) place name) plan =
    subst (λ (b : Book). plans.IsStep b.shown (plans.after_removal b.shown place name) plan) stands step in
    let dropped_here : plan.dropped ≡ plans.removed (shown_by_print a) place name = subst (λ (b : Book). plan.dropped ≡ plans.removed b.shown place name) stands dropped in
    subst (λ (b : Book). HasEachBody b (steps_at moment (removal_step_of plan ∷ []))) (sym stands)
    (removed-bodies h.opening.config moment a place name plan step_here put dropped_here all.bodies arrivals all.apart known_from made sound_here.agreed)

-- A removal that is done: its plan is made for what the book shows, and the book is then the old one with it.
pub removal_step : (may_fail : Bool) (h : History) (suite name : List ℕ) (moment place : ℕ) (is_open : Type 0) (old new : Book) (plan : Plan)
    → Stands old h → IsFaithful h (Removing suite name moment ∷ []) → nat_lt latest moment ≡ false → AreSound old.shown
    → suite_named old.config suite ≡ Some place
    → list_any (is_removed place name) (entries old.shown) ≡ true
    → plans.IsStep old.shown (plans.after_removal old.shown place name) plan
    → plan.put ≡ [] → plan.dropped ≡ plans.removed old.shown place name
    → new ≡ amended old (record { moment = moment; steps = removal_step_of plan ∷ []; texts = [] })
    → IsStep may_fail h (Removing suite name moment) (Ok (Count (length plan.dropped))) is_open new
unfolding book_of book_from acts_of arrivals_after
removal_step may_fail h suite name moment place is_open old new plan stands faithful in_time sound named shows step put dropped is_new =
    let calls = Removing suite name moment ∷ [] in
    let all = with_empty h calls faithful in
    let knows = faithful_knows h calls all (has_empty faithful.bodies) in
    let config = h.opening.config in
    let arrivals = arrived h.opening h.steps in
    let a = archive h in
    let known_from : AreFrom all.bodies arrivals = (known h calls faithful).arrivals in
    let made : AreMadeOf all.bodies a.admitted = made_of all.bodies a.admitted (archive_has (Contains all.bodies) h knows) in
    let sound_here : AreSound (shown_by_print a) = subst (λ (b : Book). AreSound b.shown) stands sound in
    let named_here : suite_named config suite ≡ Some place = subst (λ (b : Book). suite_named b.config suite ≡ Some place) stands named in
    let shows_here : list_any (is_removed place name) (entries (shown_in a)) ≡ true =
    sym (shows-printed a place name) ∙ subst (λ (b : Book). list_any (is_removed place name) (entries b.shown) ≡ true) stands shows in
    let step_here : plans.IsStep (shown_by_print a) (plans.after_removal (shown_by_print a) place name) plan =
    subst (λ (b : Book). plans.IsStep b.shown (plans.after_removal b.shown place name) plan) stands step in
    let dropped_here : plan.dropped ≡ plans.removed (shown_by_print a) place name = subst (λ (b : Book). plan.dropped ≡ plans.removed b.shown place name) stands dropped in
    let acts : fold (acted config) a (acts_of h.opening h.steps (Removing suite name moment) (Ok (Count (length plan.dropped)))) ≡ removed moment a place name =
    rw named_here refl in
    record {
      answered = ap (λ n. Ok (Count n)) (sym (removed-count config moment a place name plan step_here put dropped_here)) ∙ sym (answer_removed h suite name moment place in_time named_here shows_here);
      kept = stands_kept is_open new (followed h (Removing suite name moment) (Ok (Count (length plan.dropped))))
          (is_new ∙ ap (λ (b : Book). amended b (record { moment = moment; steps = removal_step_of plan ∷ []; texts = [] })) stands
          ∙ removed-amended config moment a place name plan step_here put dropped_here all.bodies arrivals all.apart known_from made sound_here.agreed
          ∙ ap (book_from config arrivals) (sym acts)
          ∙ sym (book_of-followed h (Removing suite name moment) (Ok (Count (length plan.dropped)))));
    }
