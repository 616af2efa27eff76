-- A copy by prints on what the book shows equals one in the plain archive.
use Rattle.std.proofs.Common.{◌≡◌, ℕ, Bool, true, false, cond, ◌&&◌, ◌||◌, List, [], ◌∷◌, ◌++◌, map, filter, flat_map, length, Option, Some, None, option_map, option_to_list, slice_get, fold, nat_eq, nat_lt, Ok, refl, sym, ap, ◌∙◌, subst, append-nil}
use Rattle.std.specs.Prelude.{Contains, bytes_eq}
use Rattle.std.specs.FinMap.{entries, get, values}
use Rattle.std.specs.List.{list_any}
use Rattle.book.specs.Book.{Book, amended, latest}
use Rattle.book.specs.Keeping.{HasEachBody, NoCollision}
use Rattle.book.specs.declared.arrival.Arrival.{Arrival}
use Rattle.book.specs.declared.change.Step.{Step}
use Rattle.rules.specs.Suites.{keeps_architecture, keeps_component}
use Rattle.rules.specs.Values.{ConfigValue}
use Rattle.rules.specs.declared.suite.Suite.{Suite}
use Rattle.sums.proofs.Members.{from_map}
use Rattle.suites.proofs.ListMembers.{from_flat_map, from_filter}
use Rattle.suites.specs.Items.{Admitted, on_shelf, standing}
use Rattle.suites.specs.Plan as plans
use Rattle.suites.specs.Pool.{AreAgreed, files_of}
use Rattle.suites.specs.Shelves.{AreSound, ShelvesValue, shown, shown_after, version_of}
use Rattle.suites.specs.declared.item.Item.{Item}
use Rattle.suites.specs.declared.key.ShelfKey.{ShelfKey}
use Rattle.suites.specs.declared.plan.Plan.{Plan}
use Rattle.history.specs.Amending.{steps_at}
use Rattle.history.specs.Answers.{IsFaithful, IsStep, answer, count_of_new}
use Rattle.history.specs.Archives.{BodyItem, PlainArchive, Stands, acted, acts_of, archive, book_from, book_of, copied, is_kept_by, is_shown_of, items_copied, printed, shown_by_print, shown_in, suite_named, version_with, with_admitted}
use Rattle.history.specs.Histories.{Copying, Count, History, arrivals_after, arrived, followed}
use Rattle.history.proofs.Contents.{AreMadeOf, both_known, shown_member}
use Rattle.history.proofs.Dates.{shown_grows}
use Rattle.history.proofs.DatesCounts.{count-put, shown_elsewhere}
use Rattle.history.proofs.Kept.{stands_kept}
use Rattle.history.proofs.Known.{archive_has, faithful_knows, has_empty, known, with_empty}
use Rattle.history.proofs.ShownPrints.{entries-shown_by_print, get-shown_by_print, printed_item}
use Rattle.history.proofs.Simulation.{AreSimulated, dates-with_items, shown-with_items}
use Rattle.history.proofs.SimulationFiles.{AreFrom, AreStored, amended-simulated, bodies-simulated, more_stored, shown_stored}
use Rattle.history.proofs.SimulationRun.{made_of}
use Rattle.history.proofs.Steps.{book_of-followed}

-- ---- the items

and_assoc : (a b c : Bool) → ((a && b) && c) ≡ (a && (b && c))
and_assoc true b c = refl
and_assoc false b c = refl

abbrev is_moved : ℕ → List ℕ → Suite → ShelfKey × BodyItem → Bool
is_moved from source target e = is_shown_of from source e && is_kept_by target e

moved-printed : (from : ℕ) (source : List ℕ) (target : Suite) (e : ShelfKey × BodyItem) → plans.is_copied from source target (printed e) ≡ is_moved from source target e
unfolding plans.is_copied is_shown_of is_kept_by
moved-printed from source target e =
    and_assoc (nat_eq e.0.suite from && bytes_eq e.1.source source) (keeps_component target e.1.component) (keeps_architecture target e.1.architecture)

kept_item : (to : ℕ) (e : ShelfKey × BodyItem) (es : List (ShelfKey × BodyItem)) (rest : List (ShelfKey × Item)) (b : Bool)
    → map (λ (a : ShelfKey × Item). standing to a.1) rest ≡ map printed (map (λ (e : ShelfKey × BodyItem). on_shelf to e.1) es)
    → map (λ (a : ShelfKey × Item). standing to a.1) (cond b (printed e ∷ rest) rest) ≡ map printed (map (λ (e : ShelfKey × BodyItem). on_shelf to e.1) (cond b (e ∷ es) es))
kept_item to e es rest true h = ap (λ xs. standing to (printed e).1 ∷ xs) h
kept_item to e es rest false h = h

moved_items : (from to : ℕ) (source : List ℕ) (target : Suite) (es : List (ShelfKey × BodyItem))
    → map (λ (a : ShelfKey × Item). standing to a.1) (filter (plans.is_copied from source target) (map printed es))
    ≡ map printed (map (λ (e : ShelfKey × BodyItem). on_shelf to e.1) (filter (is_moved from source target) es))
moved_items from to source target [] = refl
moved_items from to source target (e ∷ es) =
    ap (λ b. map (λ (a : ShelfKey × Item). standing to a.1) (cond b (printed e ∷ filter (plans.is_copied from source target) (map printed es)) (filter (plans.is_copied from source target) (map printed es))))
    (moved-printed from source target e)
    ∙ kept_item to e (filter (is_moved from source target) es) (filter (plans.is_copied from source target) (map printed es)) (is_moved from source target e) (moved_items from to source target es)

copied_to : (target : Option Suite) (from to : ℕ) (source : List ℕ) (es : List (ShelfKey × BodyItem))
    → flat_map (λ target. map (λ (a : ShelfKey × Item). standing to a.1) (filter (plans.is_copied from source target) (map printed es))) (option_to_list target)
    ≡ map printed (flat_map (λ target. map (λ (e : ShelfKey × BodyItem). on_shelf to e.1) (filter (is_moved from source target) es)) (option_to_list target))
copied_to None from to source es = refl
copied_to (Some target) from to source es =
    append-nil (map (λ (a : ShelfKey × Item). standing to a.1) (filter (plans.is_copied from source target) (map printed es)))
    ∙ moved_items from to source target es
    ∙ ap (map printed) (sym (append-nil (map (λ (e : ShelfKey × BodyItem). on_shelf to e.1) (filter (is_moved from source target) es))))

-- what a copy admits by prints is what it gives the plain archive, by prints
pub copied-printed : (config : ConfigValue) (a : PlainArchive) (from to : ℕ) (source : List ℕ) → plans.copied config (shown_by_print a) from to source ≡ map printed (items_copied config a from to source)
unfolding plans.copied items_copied
copied-printed config a from to source =
    ap (λ (es : List (ShelfKey × Item)). flat_map (λ target. map (λ (a : ShelfKey × Item). standing to a.1) (filter (plans.is_copied from source target) es)) (option_to_list (slice_get config.suites to)))
    (entries-shown_by_print a)
    ∙ copied_to (slice_get config.suites to) from to source (entries (shown_in a))

-- whether a suite shows an item of the source, by prints
pub shown_of-printed : (a : PlainArchive) (from : ℕ) (source : List ℕ)
    → list_any (λ e. nat_eq e.0.suite from && bytes_eq e.1.source source) (entries (shown_by_print a)) ≡ list_any (is_shown_of from source) (entries (shown_in a))
unfolding is_shown_of
shown_of-printed a from source =
    ap (list_any (λ (e : ShelfKey × Item). nat_eq e.0.suite from && bytes_eq e.1.source source)) (entries-shown_by_print a) ∙ any_printed (entries (shown_in a))
  where
    any_printed : (es : List (ShelfKey × BodyItem)) → list_any (λ (e : ShelfKey × Item). nat_eq e.0.suite from && bytes_eq e.1.source source) (map printed es) ≡ list_any (λ (e : ShelfKey × BodyItem). nat_eq e.0.suite from && bytes_eq e.1.source source) es
    any_printed [] = refl
    any_printed (e ∷ es) = ap (λ b. (nat_eq e.0.suite from && bytes_eq e.1.source source) || b) (any_printed es)

-- each copied item is one that is shown, on a shelf of the target
pub copied_member : (config : ConfigValue) (a : PlainArchive) (from to : ℕ) (source : List ℕ) (e : Admitted (List ℕ)) → Contains (items_copied config a from to source) e
    → (x : Admitted (List ℕ)) × Contains (entries (shown_in a)) x × (on_shelf to x.1 ≡ e)
unfolding items_copied
copied_member config a from to source e at =
    let m = from_flat_map (λ target. map (λ (e : ShelfKey × BodyItem). on_shelf to e.1) (filter (is_moved from source target) (entries (shown_in a)))) e (option_to_list (slice_get config.suites to)) at in
    let x = from_map (λ (e : ShelfKey × BodyItem). on_shelf to e.1) e (filter (is_moved from source m.0) (entries (shown_in a))) m.2 in
    (x.0, (from_filter (is_moved from source m.0) x.0 (entries (shown_in a)) x.1).0, x.2)

-- ---- the archive

pub shown-copied : (config : ConfigValue) (moment : ℕ) (a : PlainArchive) (from to : ℕ) (source : List ℕ)
    → shown_by_print (copied config moment a from to source) ≡ plans.after_copy config (shown_by_print a) from to source
shown-copied config moment a from to source =
    shown-with_items moment (items_copied config a from to source) a
    ∙ ap (shown_after version_of (shown_by_print a)) (sym (copied-printed config a from to source))

pub copied_known : (bodies : List (List ℕ)) (config : ConfigValue) (moment : ℕ) (a : PlainArchive) (from to : ℕ) (source : List ℕ) → AreMadeOf bodies a.admitted
    → AreMadeOf bodies (copied config moment a from to source).admitted
unfolding with_admitted
copied_known bodies config moment a from to source made =
    both_known bodies a.admitted (items_copied config a from to source) made
    (λ e at file within.
    let x = copied_member config a from to source e at in
    made x.0 (shown_member a.admitted x.0 x.1) file (subst (λ (y : Admitted (List ℕ)). Contains y.1.files file) (sym x.2) within))

pub copied_stored : (arrivals : List Arrival) (config : ConfigValue) (moment : ℕ) (a : PlainArchive) (from to : ℕ) (source : List ℕ) → AreStored arrivals a (entries (shown_in a))
    → AreStored arrivals a (entries (shown_in (copied config moment a from to source)))
unfolding with_admitted
copied_stored arrivals config moment a from to source stored =
    more_stored arrivals a a.admitted (items_copied config a from to source) stored
    (λ e at file within.
    let x = copied_member config a from to source e at in
    stored x.0 x.1 file (subst (λ (y : Admitted (List ℕ)). Contains y.1.files file) (sym x.2) within))

-- the step of a copy
abbrev pub copy_step_of : Plan → Step
copy_step_of plan = record { judgement = None; plan = plan }

module _ (config : ConfigValue) (moment : ℕ) (a : PlainArchive) (from to : ℕ) (source : List ℕ) (plan : Plan)
    (step : plans.IsStep (shown_by_print a) (plans.after_copy config (shown_by_print a) from to source) plan) where
  copied_judged : (copied config moment a from to source).judged ≡ a.judged
  unfolding with_admitted
  copied_judged = refl

  pub copied-simulated : AreSimulated moment a (copy_step_of plan ∷ []) (copied config moment a from to source)
  copied-simulated = record {
    shown = sym step.items.made ∙ sym (shown-copied config moment a from to source);
    judged = append-nil a.judged ∙ sym copied_judged;
    dates = sym (dates-with_items moment (items_copied config a from to source) a (plans.after_copy config (shown_by_print a) from to source) plan (shown-copied config moment a from to source) step);
    sound = ((plans.after_copy config (shown_by_print a) from to source, step), tt);
  }

  -- THE BOOK after the copy is that of the plain archive with it.
  pub copied-amended : (bodies : List (List ℕ)) (arrivals : List Arrival) → NoCollision bodies → AreFrom bodies arrivals → AreMadeOf bodies a.admitted → AreAgreed (files_of (values (shown_by_print a)))
      → amended (book_from config arrivals a) (record { moment = moment; steps = copy_step_of plan ∷ []; texts = [] }) ≡ book_from config arrivals (copied config moment a from to source)
  copied-amended bodies arrivals apart known_from made agreed =
      amended-simulated bodies config arrivals a (copied config moment a from to source) (record { moment = moment; steps = copy_step_of plan ∷ []; texts = [] }) apart known_from made
      (copied_stored arrivals config moment a from to source (shown_stored bodies arrivals a apart made agreed)) copied-simulated

  -- the book after the copy has a body for each file
  pub copied-bodies : (bodies : List (List ℕ)) (arrivals : List Arrival) → NoCollision bodies → AreFrom bodies arrivals → AreMadeOf bodies a.admitted → AreAgreed (files_of (values (shown_by_print a)))
      → HasEachBody (book_from config arrivals a) (steps_at moment (copy_step_of plan ∷ []))
  copied-bodies bodies arrivals apart known_from made agreed =
      bodies-simulated bodies config arrivals a (copied config moment a from to source) (steps_at moment (copy_step_of plan ∷ [])) apart known_from made
      (copied_stored arrivals config moment a from to source (shown_stored bodies arrivals a apart made agreed)) copied-simulated

  -- the number of new items is the number that the plan puts
  pub copied-count : count_of_new to a (copied config moment a from to source) ≡ length plan.put
  unfolding count_of_new with_admitted
  copied-count =
      let items = items_copied config a from to source in
      let after = plans.after_copy config (shown_by_print a) from to source in
      count-put to (shown_in a) (shown version_with (a.admitted ++ items)) (shown_by_print a) after plan (get-shown_by_print a)
      (λ q. ap (λ (m : ShelvesValue). get m q) (sym (shown-copied config moment a from to source)) ∙ after_items q)
      (shown_grows version_with a.admitted items) step.items
      (shown_elsewhere version_with to a.admitted items (λ e at. let x = copied_member config a from to source e at in ap (λ (y : Admitted (List ℕ)). y.0.suite) (sym x.2)))
    where
      after_items : (q : ShelfKey) → get (shown_by_print (copied config moment a from to source)) q ≡ option_map printed_item (get (shown version_with (a.admitted ++ items_copied config a from to source)) q)
      after_items q = get-shown_by_print (copied config moment a from to source) q

-- ---- the step of a history

pub answer_copied : (h : History) (from to source : List ℕ) (moment f t : ℕ) → nat_lt latest moment ≡ false → suite_named h.opening.config from ≡ Some f → suite_named h.opening.config to ≡ Some t
    → nat_eq f t ≡ false → list_any (is_shown_of f source) (entries (shown_in (archive h))) ≡ true
    → answer h (Copying from to source moment) ≡ Ok (Count (count_of_new t (archive h) (copied h.opening.config moment (archive h) f t source)))
unfolding answer
answer_copied h from to source moment f t in_time first second other shows = rw (in_time, first, second, other, shows) refl

-- the book has a body for each file that the pool then has
pub copy_has : (h : History) (from to source : List ℕ) (moment f t : ℕ) (old : Book) (plan : Plan) → Stands old h → IsFaithful h (Copying from to source moment ∷ []) → AreSound old.shown
    → plans.IsStep old.shown (plans.after_copy old.config old.shown f t source) plan
    → HasEachBody old (steps_at moment (copy_step_of plan ∷ []))
unfolding book_of book_from
copy_has h from to source moment f t old plan stands faithful sound step =
    let calls = Copying from to source moment ∷ [] in
    let all = with_empty h calls faithful in
    let arrivals = arrived h.opening h.steps in
    let a = archive h in
    let known_from : AreFrom all.bodies arrivals = (known h calls faithful).arrivals in
    let made : AreMadeOf all.bodies a.admitted = made_of all.bodies a.admitted (archive_has (Contains all.bodies) h (faithful_knows h calls all (has_empty faithful.bodies))) in
    let sound_here : AreSound (shown_by_print a) = subst (λ (b : Book). AreSound b.shown) stands sound in
    let step_here : plans.IsStep (shown_by_print a) (plans.after_copy h.opening.config (shown_by_print a) f t source) plan =
    subst (λ (b : Book). plans.IsStep b.shown (plans.after_copy b.config b.shown f t source) plan) stands step in
    subst (λ (b : Book). HasEachBody b (steps_at moment (copy_step_of plan ∷ []))) (sym stands)
    (copied-bodies h.opening.config moment a f t source plan step_here all.bodies arrivals all.apart known_from made sound_here.agreed)

-- A copy that is done: its plan is made for what the book shows, and the book is then the old one with it.
pub copy_step : (may_fail : Bool) (h : History) (from to source : List ℕ) (moment f t : ℕ) (is_open : Type 0) (old new : Book) (plan : Plan)
    → Stands old h → IsFaithful h (Copying from to source moment ∷ []) → nat_lt latest moment ≡ false → AreSound old.shown
    → suite_named old.config from ≡ Some f → suite_named old.config to ≡ Some t → nat_eq f t ≡ false
    → list_any (λ e. nat_eq e.0.suite f && bytes_eq e.1.source source) (entries old.shown) ≡ true
    → plans.IsStep old.shown (plans.after_copy old.config old.shown f t source) plan
    → new ≡ amended old (record { moment = moment; steps = copy_step_of plan ∷ []; texts = [] })
    → IsStep may_fail h (Copying from to source moment) (Ok (Count (length plan.put))) is_open new
unfolding book_of book_from acts_of arrivals_after
copy_step may_fail h from to source moment f t is_open old new plan stands faithful in_time sound first second other shows step is_new =
    let calls = Copying from to source moment ∷ [] in
    let all = with_empty h calls faithful in
    let knows = faithful_knows h calls all (has_empty faithful.bodies) in
    let config = h.opening.config in
    let arrivals = arrived h.opening h.steps in
    let a = archive h in
    let known_from : AreFrom all.bodies arrivals = (known h calls faithful).arrivals in
    let made : AreMadeOf all.bodies a.admitted = made_of all.bodies a.admitted (archive_has (Contains all.bodies) h knows) in
    let sound_here : AreSound (shown_by_print a) = subst (λ (b : Book). AreSound b.shown) stands sound in
    let first_here : suite_named config from ≡ Some f = subst (λ (b : Book). suite_named b.config from ≡ Some f) stands first in
    let second_here : suite_named config to ≡ Some t = subst (λ (b : Book). suite_named b.config to ≡ Some t) stands second in
    let shows_here : list_any (is_shown_of f source) (entries (shown_in a)) ≡ true =
    sym (shown_of-printed a f source) ∙ subst (λ (b : Book). list_any (λ (e : ShelfKey × Item). nat_eq e.0.suite f && bytes_eq e.1.source source) (entries b.shown) ≡ true) stands shows in
    let step_here : plans.IsStep (shown_by_print a) (plans.after_copy config (shown_by_print a) f t source) plan =
    subst (λ (b : Book). plans.IsStep b.shown (plans.after_copy b.config b.shown f t source) plan) stands step in
    let acts : fold (acted config) a (acts_of h.opening h.steps (Copying from to source moment) (Ok (Count (length plan.put)))) ≡ copied config moment a f t source =
    rw (first_here, second_here) refl in
    record {
      answered = ap (λ n. Ok (Count n)) (sym (copied-count config moment a f t source plan step_here)) ∙ sym (answer_copied h from to source moment f t in_time first_here second_here other shows_here);
      kept = stands_kept is_open new (followed h (Copying from to source moment) (Ok (Count (length plan.put))))
          (is_new ∙ ap (λ (b : Book). amended b (record { moment = moment; steps = copy_step_of plan ∷ []; texts = [] })) stands
          ∙ copied-amended config moment a f t source plan step_here all.bodies arrivals all.apart known_from made sound_here.agreed
          ∙ ap (book_from config arrivals) (sym acts)
          ∙ sym (book_of-followed h (Copying from to source moment) (Ok (Count (length plan.put)))));
    }
