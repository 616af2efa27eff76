-- A promotion by prints on what the book shows equals one in the plain archive.
use Rattle.std.proofs.Common.{◌≡◌, ℕ, Bool, false, List, [], ◌∷◌, ◌++◌, map, filter, fold, Option, Some, None, nat_eq, nat_lt, Ok, refl, sym, ap, ◌∙◌, subst, append-nil, if◌then◌else◌}
use Rattle.std.specs.Prelude.{Contains}
use Rattle.std.specs.FinMap.{entries, values}
use Rattle.std.specs.List.{cons_option, list_any}
use Rattle.std.proofs.lemmas.Simd.{map-map}
use Rattle.book.specs.Book.{Book, amended, dates_past, judgements, latest, shown_past}
use Rattle.book.specs.Keeping.{AreSteps, HasEachBody, NoCollision}
use Rattle.book.specs.declared.arrival.Arrival.{Arrival}
use Rattle.book.specs.declared.change.Judgement.{Judgement}
use Rattle.book.specs.declared.change.Step.{Step}
use Rattle.rules.specs.Values.{ConfigValue}
use Rattle.suites.specs.Items.{Admitted}
use Rattle.suites.specs.Plan as plans
use Rattle.suites.specs.Pool.{AreAgreed, files_of}
use Rattle.suites.specs.Shelves.{AreSound, ShelvesValue}
use Rattle.suites.specs.declared.item.Item.{Item}
use Rattle.suites.specs.declared.key.ShelfKey.{ShelfKey}
use Rattle.suites.specs.Plan.{is_of_source}
use Rattle.history.specs.Amending.{steps_at}
use Rattle.history.specs.Answers.{IsFaithful, IsStep, answer, copies_in, new_items}
use Rattle.history.specs.Archives.{BodyItem, PlainArchive, Stands, acted, acts_of, archive, book_from, book_of, copied, copied_all, each_once, is_shown_of, items_copied, printed, shown_by_print, shown_in, sources_in, sources_shown, suite_named, with_admitted}
use Rattle.history.specs.Copies.{shows_source}
use Rattle.history.specs.Histories.{Copies, History, Promoting, arrivals_after, arrived, followed}
use Rattle.history.specs.Promotions.{AreCopied, IsCopyStep, copies_on, items_put, sources_from, sources_on}
use Rattle.history.proofs.Contents.{AreMadeOf}
use Rattle.history.proofs.Kept.{stands_kept}
use Rattle.history.proofs.Known.{archive_has, faithful_knows, has_empty, known, with_empty}
use Rattle.history.proofs.ShownPrints.{entries-shown_by_print}
use Rattle.history.proofs.Simulation.{AreSimulated, dates-with_items}
use Rattle.history.proofs.SimulationCopies.{copied-count, copied_member, shown-copied, shown_of-printed}
use Rattle.history.proofs.SimulationFiles.{AreFrom, AreStored, amended-simulated, bodies-simulated, more_stored, shown_stored}
use Rattle.history.proofs.SimulationRemovals.{filter-map}
use Rattle.history.proofs.SimulationRun.{made_of}
use Rattle.history.proofs.Steps.{book_of-followed}

-- ---- source packages

-- whether a suite shows an item of the source package, by prints
shows-printed : (a : PlainArchive) (from : ℕ) (source : List ℕ) → shows_source (shown_by_print a) from source ≡ list_any (is_shown_of from source) (entries (shown_in a))
unfolding shows_source is_of_source
shows-printed a from source = shown_of-printed a from source

-- the source packages of which a suite shows an item, by prints
sources-printed : (a : PlainArchive) (from : ℕ) → sources_on (shown_by_print a) from ≡ sources_shown a from
unfolding sources_on sources_shown
sources-printed a from =
    ap (λ (es : List (ShelfKey × Item)). map (λ (e : ShelfKey × Item). e.1.source) (filter (λ (e : ShelfKey × Item). nat_eq e.0.suite from) es)) (entries-shown_by_print a)
    ∙ ap (map (λ (e : ShelfKey × Item). e.1.source))
    (filter-map printed (λ (e : ShelfKey × Item). nat_eq e.0.suite from) (λ (e : ShelfKey × BodyItem). nat_eq e.0.suite from) (λ e. refl) (entries (shown_in a)))
    ∙ map-map (λ (e : ShelfKey × Item). e.1.source) printed (filter (λ (e : ShelfKey × BodyItem). nat_eq e.0.suite from) (entries (shown_in a)))

-- the source packages of a promotion
pub promoted_sources : (a : PlainArchive) (from : ℕ) (sources : Option (List (List ℕ))) → sources_from (shown_by_print a) from sources ≡ sources_in a from sources
promoted_sources a from (Some sources) = refl
promoted_sources a from None = ap each_once (sources-printed a from)

-- ---- the archive

module _ (config : ConfigValue) (moment from to : ℕ) where
  abbrev next : PlainArchive → List ℕ → PlainArchive
  next a source = copied config moment a from to source

  shown_next : (a : PlainArchive) (source : List ℕ) (step : Step) → IsCopyStep config (shown_by_print a) from to source step → plans.applied (shown_by_print a) step.plan ≡ shown_by_print (next a source)
  shown_next a source step on = sym on.plan.items.made ∙ sym (shown-copied config moment a from to source)

  judged_next : (a : PlainArchive) (source : List ℕ) → (next a source).judged ≡ a.judged
  unfolding with_admitted
  judged_next a source = refl

  step-simulated : (a : PlainArchive) (source : List ℕ) (rest : List (List ℕ)) (step : Step) (steps : List Step) → IsCopyStep config (shown_by_print a) from to source step
      → AreSimulated moment (next a source) steps (copied_all config moment from to (next a source) rest)
      → AreSimulated moment a (step ∷ steps) (copied_all config moment from to a (source ∷ rest))
  step-simulated a source rest step steps on more = record {
    shown = ap (λ (shown : ShelvesValue). shown_past shown steps) (shown_next a source step on) ∙ more.shown;
    judged = ap (λ (o : Option Judgement). a.judged ++ cons_option o (judgements steps)) on.judgement
        ∙ ap (λ js. js ++ judgements steps) (sym (judged_next a source)) ∙ more.judged;
    dates = ap (λ dates. dates_past moment dates steps)
        (sym (dates-with_items moment (items_copied config a from to source) a (plans.after_copy config (shown_by_print a) from to source) step.plan (shown-copied config moment a from to source) on.plan))
        ∙ more.dates;
    sound = ((plans.after_copy config (shown_by_print a) from to source, on.plan), subst (λ shown. AreSteps shown steps) (sym (shown_next a source step on)) more.sound);
  }

  -- the steps after the first, on what the first leaves
  on_next : (a : PlainArchive) (source : List ℕ) (rest : List (List ℕ)) (steps : List Step) → AreCopied config from to (plans.after_copy config (shown_by_print a) from to source) rest steps
      → AreCopied config from to (shown_by_print (next a source)) rest steps
  on_next a source rest steps on = subst (λ (shown : ShelvesValue). AreCopied config from to shown rest steps) (sym (shown-copied config moment a from to source)) on

  pub copies-simulated : (a : PlainArchive) (sources : List (List ℕ)) (steps : List Step) → AreCopied config from to (shown_by_print a) sources steps → AreSimulated moment a steps (copied_all config moment from to a sources)
  copies-simulated a [] [] on = record { shown = refl; judged = append-nil a.judged; dates = refl; sound = tt }
  copies-simulated a [] (step ∷ steps) on = absurd on
  copies-simulated a (source ∷ rest) [] on = absurd on
  copies-simulated a (source ∷ rest) (step ∷ steps) on =
      step-simulated a source rest step steps on.0 (copies-simulated (next a source) rest steps (on_next a source rest steps on.1))

  -- the number of new items is the number that the step puts
  counted : (a : PlainArchive) (source : List ℕ) (step : Step) → IsCopyStep config (shown_by_print a) from to source step → new_items config moment from to a source ≡ items_put (shown_by_print a) from source step
  counted a source step on =
      λ i. if sym (shows-printed a from source) i then Some (copied-count config moment a from to source step.plan on.plan i) else None

  -- what the copies answer
  pub copies-counted : (a : PlainArchive) (sources : List (List ℕ)) (steps : List Step) → AreCopied config from to (shown_by_print a) sources steps
      → copies_in config moment from to a sources ≡ copies_on config from to (shown_by_print a) sources steps
  copies-counted a [] [] on = refl
  copies-counted a [] (step ∷ steps) on = absurd on
  copies-counted a (source ∷ rest) [] on = absurd on
  copies-counted a (source ∷ rest) (step ∷ steps) on =
      let more = copies-counted (next a source) rest steps (on_next a source rest steps on.1) in
      (λ i. (source, counted a source step on.0 i) ∷ more i)
      ∙ ap (λ (shown : ShelvesValue). (source, items_put (shown_by_print a) from source step) ∷ copies_on config from to shown rest steps) (shown-copied config moment a from to source)

  copy_stored : (arrivals : List Arrival) (a b : PlainArchive) (source : List ℕ) → AreStored arrivals a (entries (shown_in b)) → AreStored arrivals a (entries (shown_in (next b source)))
  unfolding with_admitted
  copy_stored arrivals a b source stored =
      more_stored arrivals a b.admitted (items_copied config b from to source) stored
      (λ e at file within.
      let x = copied_member config b from to source e at in
      stored x.0 x.1 file (subst (λ (y : Admitted (List ℕ)). Contains y.1.files file) (sym x.2) within))

  -- what the suites then show has its files, in the pool or among the arrivals
  copies_stored : (arrivals : List Arrival) (a b : PlainArchive) (sources : List (List ℕ)) → AreStored arrivals a (entries (shown_in b)) → AreStored arrivals a (entries (shown_in (copied_all config moment from to b sources)))
  copies_stored arrivals a b [] stored = stored
  copies_stored arrivals a b (source ∷ rest) stored = copies_stored arrivals a (next b source) rest (copy_stored arrivals a b source stored)

  module _ (a : PlainArchive) (sources : List (List ℕ)) (steps : List Step) (on : AreCopied config from to (shown_by_print a) sources steps) where
    -- THE BOOK after the promotion is that of the plain archive with its copies.
    pub promoted-amended : (bodies : List (List ℕ)) (arrivals : List Arrival) → NoCollision bodies → AreFrom bodies arrivals → AreMadeOf bodies a.admitted → AreAgreed (files_of (values (shown_by_print a)))
        → amended (book_from config arrivals a) (steps_at moment steps) ≡ book_from config arrivals (copied_all config moment from to a sources)
    promoted-amended bodies arrivals apart known_from made agreed =
        amended-simulated bodies config arrivals a (copied_all config moment from to a sources) (steps_at moment steps) apart known_from made
        (copies_stored arrivals a a sources (shown_stored bodies arrivals a apart made agreed)) (copies-simulated a sources steps on)

    -- the book after the promotion has a body for each file
    pub promoted-bodies : (bodies : List (List ℕ)) (arrivals : List Arrival) → NoCollision bodies → AreFrom bodies arrivals → AreMadeOf bodies a.admitted → AreAgreed (files_of (values (shown_by_print a)))
        → HasEachBody (book_from config arrivals a) (steps_at moment steps)
    promoted-bodies bodies arrivals apart known_from made agreed =
        bodies-simulated bodies config arrivals a (copied_all config moment from to a sources) (steps_at moment steps) apart known_from made
        (copies_stored arrivals a a sources (shown_stored bodies arrivals a apart made agreed)) (copies-simulated a sources steps on)

-- ---- the step of a history

pub answer_promoted : (h : History) (from to : List ℕ) (sources : Option (List (List ℕ))) (moment f t : ℕ) → nat_lt latest moment ≡ false → suite_named h.opening.config from ≡ Some f → suite_named h.opening.config to ≡ Some t
    → nat_eq f t ≡ false
    → answer h (Promoting from to sources moment) ≡ Ok (Copies (copies_in h.opening.config moment f t (archive h) (sources_in (archive h) f sources)))
unfolding answer
answer_promoted h from to sources moment f t in_time first second other = rw (in_time, first, second, other) refl

-- the steps of a promotion from what the book shows, on the plain archive's
on_archive : (h : History) (f t : ℕ) (sources : Option (List (List ℕ))) (old : Book) (steps : List Step) → Stands old h → AreCopied old.config f t old.shown (sources_from old.shown f sources) steps
    → AreCopied h.opening.config f t (shown_by_print (archive h)) (sources_in (archive h) f sources) steps
unfolding book_of book_from
on_archive h f t sources old steps stands on =
    subst (λ (ss : List (List ℕ)). AreCopied h.opening.config f t (shown_by_print (archive h)) ss steps) (promoted_sources (archive h) f sources)
    (subst (λ (b : Book). AreCopied b.config f t b.shown (sources_from b.shown f sources) steps) stands on)

-- the book has a body for each file that the pool then has
pub promotion_has : (h : History) (from to : List ℕ) (sources : Option (List (List ℕ))) (moment f t : ℕ) (old : Book) (steps : List Step) → Stands old h → IsFaithful h (Promoting from to sources moment ∷ []) → AreSound old.shown
    → AreCopied old.config f t old.shown (sources_from old.shown f sources) steps
    → HasEachBody old (steps_at moment steps)
unfolding book_of book_from
promotion_has h from to sources moment f t old steps stands faithful sound on =
    let calls = Promoting from to sources moment ∷ [] in
    let all = with_empty h calls faithful in
    let arrivals = arrived h.opening h.steps in
    let a = archive h in
    let known_from : AreFrom all.bodies arrivals = (known h calls faithful).arrivals in
    let made : AreMadeOf all.bodies a.admitted = made_of all.bodies a.admitted (archive_has (Contains all.bodies) h (faithful_knows h calls all (has_empty faithful.bodies))) in
    let sound_here : AreSound (shown_by_print a) = subst (λ (b : Book). AreSound b.shown) stands sound in
    subst (λ (b : Book). HasEachBody b (steps_at moment steps)) (sym stands)
    (promoted-bodies h.opening.config moment f t a (sources_in a f sources) steps (on_archive h f t sources old steps stands on) all.bodies arrivals all.apart known_from made sound_here.agreed)

-- A promotion that is done: its steps are made for what the book shows, and the book is then the old one with them.
pub promotion_step : (may_fail : Bool) (h : History) (from to : List ℕ) (sources : Option (List (List ℕ))) (moment f t : ℕ) (is_open : Type 0) (old new : Book) (steps : List Step)
    → Stands old h → IsFaithful h (Promoting from to sources moment ∷ []) → nat_lt latest moment ≡ false → AreSound old.shown
    → suite_named old.config from ≡ Some f → suite_named old.config to ≡ Some t → nat_eq f t ≡ false
    → AreCopied old.config f t old.shown (sources_from old.shown f sources) steps
    → new ≡ amended old (steps_at moment steps)
    → IsStep may_fail h (Promoting from to sources moment) (Ok (Copies (copies_on old.config f t old.shown (sources_from old.shown f sources) steps))) is_open new
unfolding book_of book_from acts_of arrivals_after
promotion_step may_fail h from to sources moment f t is_open old new steps stands faithful in_time sound first second other on is_new =
    let calls = Promoting from to sources moment ∷ [] in
    let all = with_empty h calls faithful in
    let knows = faithful_knows h calls all (has_empty faithful.bodies) in
    let config = h.opening.config in
    let arrivals = arrived h.opening h.steps in
    let a = archive h in
    let ss = sources_in a f sources in
    let reply = Copies (copies_on old.config f t old.shown (sources_from old.shown f sources) steps) in
    let known_from : AreFrom all.bodies arrivals = (known h calls faithful).arrivals in
    let made : AreMadeOf all.bodies a.admitted = made_of all.bodies a.admitted (archive_has (Contains all.bodies) h knows) in
    let sound_here : AreSound (shown_by_print a) = subst (λ (b : Book). AreSound b.shown) stands sound in
    let first_here : suite_named config from ≡ Some f = subst (λ (b : Book). suite_named b.config from ≡ Some f) stands first in
    let second_here : suite_named config to ≡ Some t = subst (λ (b : Book). suite_named b.config to ≡ Some t) stands second in
    let on_here : AreCopied config f t (shown_by_print a) ss steps = on_archive h f t sources old steps stands on in
    let told : copies_on old.config f t old.shown (sources_from old.shown f sources) steps ≡ copies_in config moment f t a ss =
    ap (λ (b : Book). copies_on b.config f t b.shown (sources_from b.shown f sources) steps) stands
    ∙ ap (λ (names : List (List ℕ)). copies_on config f t (shown_by_print a) names steps) (promoted_sources a f sources)
    ∙ sym (copies-counted config moment f t a ss steps on_here) in
    let acts : fold (acted config) a (acts_of h.opening h.steps (Promoting from to sources moment) (Ok reply)) ≡ copied_all config moment f t a ss =
    rw (first_here, second_here) refl in
    record {
      answered = ap (λ cs. Ok (Copies cs)) told ∙ sym (answer_promoted h from to sources moment f t in_time first_here second_here other);
      kept = stands_kept is_open new (followed h (Promoting from to sources moment) (Ok reply))
          (is_new ∙ ap (λ (b : Book). amended b (steps_at moment steps)) stands
          ∙ promoted-amended config moment f t a ss steps on_here all.bodies arrivals all.apart known_from made sound_here.agreed
          ∙ ap (book_from config arrivals) (sym acts)
          ∙ sym (book_of-followed h (Promoting from to sources moment) (Ok reply)));
    }
