-- A run that is done: what is due, judged by prints on what the book shows, and handed whole to the plain archive.
use Rattle.std.proofs.Common.{◌≡◌, ◌⊎◌, ℕ, Bool, true, false, cond, not, List, [], ◌∷◌, map, fold, filter, drop, length, Option, Some, None, option_map, Ok, nat_lt, refl, sym, ap, ◌∙◌, subst, inl, inr}
use Rattle.std.specs.Prelude.{Contains}
use Rattle.std.specs.FinMap.{entries, values}
use Rattle.std.specs.Ordering.{is_gt}
use Rattle.std.specs.Result.{result_ok}
use Rattle.std.proofs.Math.Seq.{drop-append_seam}
use Rattle.std.proofs.lemmas.Option.{same_Some}
use Rattle.book.specs.Book.{Book, Candidate, amended, at_moment, candidate_of, candidates, due, in_order, is_complete, judgements, candidate_order, latest, put_in_order, span, upload_of}
use Rattle.book.specs.Keeping.{HasEachBody, NoCollision}
use Rattle.book.specs.declared.arrival.Arrival.{Arrival}
use Rattle.book.specs.declared.change.Step.{Step}
use Rattle.book.proofs.Moments.{current-part}
use Rattle.records.specs.Records.{changes_in}
use Rattle.records.specs.Values.{ChangesValue}
use Rattle.rules.specs.Values.{ConfigValue}
use Rattle.sums.proofs.Members.{here, there, which, no_member}
use Rattle.suites.proofs.ListMembers.{from_filter, from_filter_map}
use Rattle.suites.specs.Items.{Admitted, FileWith}
use Rattle.suites.specs.Pool.{AreAgreed, files_of}
use Rattle.suites.specs.Shelves.{AreSound}
use Rattle.suites.specs.Upload.{UploadValue}
use Rattle.history.specs.Amending.{steps_at}
use Rattle.history.specs.Answers.{IsFaithful, IsStep, answer, new_lines, report_line}
use Rattle.history.specs.Archives.{PlainArchive, Stands, Whole, WholeUpload, acted, acts_of, archive, book_from, book_of, shown_by_print, shown_in, whole_of}
use Rattle.history.specs.Histories.{History, Lines, QueueRun, arrivals_after, arrived, counting, due_after, followed, waiting_after, was_judged}
use Rattle.history.specs.Histories as histories
use Rattle.history.specs.Judging.{AreJudged}
use Rattle.history.proofs.Contents.{AreMadeOf}
use Rattle.history.proofs.ContentsWhole.{whole_of-arrived, whole_of-bodies, whole_of-brought}
use Rattle.history.proofs.Judged.{due_faithful}
use Rattle.history.proofs.Kept.{stands_kept}
use Rattle.history.proofs.Known.{ItemHas, ItemsHave, archive_has, faithful_knows, has_empty, known, with_empty}
use Rattle.history.proofs.Lists.{at_contained}
use Rattle.history.proofs.Simulation.{AreHanded, AreSimulated, acted-wholes, handed, simulated}
use Rattle.history.proofs.SimulationFiles.{AreArrived, AreFrom, AreStored, amended-simulated, bodies-simulated, handed_stored, shown_stored}
use Rattle.history.proofs.Steps.{book_of-followed}
use Rattle.sums.specs.FileNames.{is_changes_name}

-- ---- what is due

-- an upload that was read, with all its listed files arrived
pub record IsDue (arrivals : List Arrival) (c : Candidate) : Type 0 where
  pub read : result_ok (changes_in c.body) ≡ Some c.changes
  pub complete : is_complete arrivals c ≡ true

abbrev pub AreDue : List Arrival → List Candidate → Type 0
AreDue arrivals cs = (c : Candidate) → Contains cs c → IsDue arrivals c

put_member : (c x : Candidate) (ds : List Candidate) → Contains (put_in_order c ds) x → (c ≡ x) ⊎ Contains ds x
put_member c x [] at = which c x [] at
put_member c x (d ∷ ds) at = by_case (is_gt (candidate_order c d)) at (put_member c x ds)
  where
    by_case : (b : Bool) → Contains (cond b (d ∷ put_in_order c ds) (c ∷ d ∷ ds)) x → (Contains (put_in_order c ds) x → (c ≡ x) ⊎ Contains ds x) → (c ≡ x) ⊎ Contains (d ∷ ds) x
    by_case true at more = elim (which d x (put_in_order c ds) at) [
      | inl is ↦ inr (subst (λ z. Contains (d ∷ ds) z) is (here d ds))
      | inr rest ↦ elim (more rest) [ inl is ↦ inl is | inr other ↦ inr (there d x ds other) ]
    ]
    by_case false at more = which c x (d ∷ ds) at

-- the order of judging has no other uploads
in_order_member : (cs : List Candidate) (x : Candidate) → Contains (in_order cs) x → Contains cs x
in_order_member [] x at = no_member x at
in_order_member (c ∷ cs) x at = elim (put_member c x (in_order cs) at) [
  | inl is ↦ subst (λ z. Contains (c ∷ cs) z) is (here c cs)
  | inr rest ↦ there c x cs (in_order_member cs x rest)
]

candidate_read : (a : Arrival) (c : Candidate) → candidate_of a ≡ Some c → result_ok (changes_in c.body) ≡ Some c.changes
unfolding candidate_of
candidate_read a c h = named (is_changes_name a.name) h
  where
    read : (o : Option ChangesValue) → result_ok (changes_in a.body) ≡ o → option_map {U = Candidate} (λ changes. record { name = a.name; body = a.body; changes = changes }) o ≡ Some c → result_ok (changes_in c.body) ≡ Some c.changes
    read None is e = cc
    read (Some changes) is e =
        subst (λ (c : Candidate). result_ok (changes_in c.body) ≡ Some c.changes) (same_Some (record { name = a.name; body = a.body; changes = changes }) c e) is

    named : (b : Bool) → cond b (option_map {U = Candidate} (λ changes. record { name = a.name; body = a.body; changes = changes }) (result_ok (changes_in a.body))) None ≡ Some c → result_ok (changes_in c.body) ≡ Some c.changes
    named true e = read (result_ok (changes_in a.body)) refl e
    named false e = cc

pub due_after-due : (opening : Book) (steps : List histories.Turn) (moment : ℕ) → AreDue (counting opening steps moment) (due_after opening steps moment)
unfolding waiting_after
due_after-due opening steps moment c at =
    let arrivals = counting opening steps moment in
    let whole = from_filter (is_complete arrivals) c (waiting_after opening steps moment) at in
    let fresh = from_filter (λ c. not (was_judged opening steps c)) c (candidates arrivals) (in_order_member (filter (λ c. not (was_judged opening steps c)) (candidates arrivals)) c whole.0) in
    let came = from_filter_map candidate_of c arrivals fresh.0 in
    record { read = candidate_read came.0 c came.2; complete = whole.1 }

-- these arrivals are among those
abbrev pub AreAmong : List Arrival → List Arrival → Type 0
AreAmong now arrivals = (d : Arrival) → Contains now d → Contains arrivals d

-- what counts at a moment has arrived
counting_among : (opening : Book) (steps : List histories.Turn) (moment : ℕ) → AreAmong (counting opening steps moment) (arrived opening steps)
unfolding counting
counting_among opening steps moment = current-part (span opening.config) moment (arrived opening steps)

-- ---- handed over

abbrev wholes : List Arrival → List Candidate → List WholeUpload
wholes arrivals cs = map (whole_of arrivals) cs

due_handed : (bodies : List (List ℕ)) (arrivals : List Arrival) (cs : List Candidate) → AreFrom bodies arrivals → AreDue arrivals cs → AreHanded bodies (wholes arrivals cs)
due_handed bodies arrivals [] from due = tt
due_handed bodies arrivals (c ∷ cs) from due =
    let is = due c (here c cs) in (
      record { its = whole_of-bodies arrivals c is.read is.complete; brought = whole_of-brought bodies arrivals c from is.complete },
      due_handed bodies arrivals cs from (λ d at. due d (there c d cs at)),
    )

due_arrived : (arrivals now : List Arrival) (cs : List Candidate) → AreAmong now arrivals → AreDue now cs → AreArrived arrivals (wholes now cs)
due_arrived arrivals now [] among due = tt
due_arrived arrivals now (c ∷ cs) among due =
    let is = due c (here c cs) in (
      record {
        its = whole_of-bodies now c is.read is.complete;
        come = λ body at. let a = whole_of-arrived now c is.complete body at in (a.0, among a.0 a.1, a.2);
      },
      due_arrived arrivals now cs among (λ d at. due d (there c d cs at)),
    )

uploads_of : (arrivals : List Arrival) (cs : List Candidate) → map (λ (w : WholeUpload). w.upload) (wholes arrivals cs) ≡ map (upload_of arrivals) cs
unfolding whole_of
uploads_of arrivals [] = refl
uploads_of arrivals (c ∷ cs) = ap (λ rest. upload_of arrivals c ∷ rest) (uploads_of arrivals cs)

-- what the acts of the run leave
abbrev pub after_run : ConfigValue → ℕ → List Arrival → List Candidate → PlainArchive → PlainArchive
after_run config moment arrivals cs a = fold (acted config) a (map (λ c. Whole (whole_of arrivals c) moment) cs)

-- `now` are the arrivals that count at the moment.
module _ (bodies : List (List ℕ)) (apart : NoCollision bodies) (config : ConfigValue) (moment : ℕ) (arrivals now : List Arrival) (among : AreAmong now arrivals)
    (a : PlainArchive) (cs : List Candidate) (steps : List Step) (from : AreFrom bodies arrivals) (made : AreMadeOf bodies a.admitted) (due : AreDue now cs)
    (judged : AreJudged config (shown_by_print a) (map (upload_of now) cs) steps) where
  run_handed : after_run config moment now cs a ≡ handed config moment a (wholes now cs)
  run_handed = acted-wholes config moment (whole_of now) cs a

  -- what the run's steps make of the book is the book of the archive that the run leaves
  pub run-simulated : AreSimulated moment a steps (after_run config moment now cs a)
  run-simulated =
      subst (AreSimulated moment a steps) (sym run_handed)
      (simulated bodies apart config moment a (wholes now cs) steps made (due_handed bodies now cs (λ d at. from d (among d at)) due)
      (subst (λ us. AreJudged config (shown_by_print a) us steps) (sym (uploads_of now cs)) judged))

  -- what the suites then show has its files, in the pool or among the arrivals
  run-stored : AreAgreed (files_of (values (shown_by_print a))) → AreStored arrivals a (entries (shown_in (after_run config moment now cs a)))
  run-stored agreed =
      subst (λ (b : PlainArchive). AreStored arrivals a (entries (shown_in b))) (sym run_handed)
      (handed_stored arrivals config moment a a (wholes now cs) (shown_stored bodies arrivals a apart made agreed) (due_arrived arrivals now cs among due))

  -- THE BOOK after the run is that of the plain archive to which what was due was handed whole.
  pub run-amended : AreAgreed (files_of (values (shown_by_print a)))
      → amended (book_from config arrivals a) (steps_at moment steps) ≡ book_from config arrivals (after_run config moment now cs a)
  run-amended agreed =
      amended-simulated bodies config arrivals a (after_run config moment now cs a) (steps_at moment steps) apart from made (run-stored agreed) run-simulated

  -- the book after the run has a body for each file
  pub run-bodies : AreAgreed (files_of (values (shown_by_print a))) → HasEachBody (book_from config arrivals a) (steps_at moment steps)
  run-bodies agreed =
      bodies-simulated bodies config arrivals a (after_run config moment now cs a) (steps_at moment steps) apart from made (run-stored agreed) run-simulated

  -- what the run adds to the judged uploads
  pub run-judgements : drop (length a.judged) (after_run config moment now cs a).judged ≡ judgements steps
  run-judgements = ap (drop (length a.judged)) (sym run-simulated.judged) ∙ drop-append_seam a.judged (judgements steps)

-- ---- the step of a history

-- the two words for items that are made of bodies
pub made_of : (bodies : List (List ℕ)) (items : List (Admitted (List ℕ))) → ItemsHave (Contains bodies) items → AreMadeOf bodies items
made_of bodies items h e at file within =
    at_contained (λ (f : FileWith (List ℕ)). Contains bodies f.contents) e.1.files file (at_contained (λ (e : Admitted (List ℕ)). ItemHas (Contains bodies) e.1) items e h at) within

pub answer_in_time : (h : History) (moment : ℕ) → nat_lt latest moment ≡ false → answer h (QueueRun moment) ≡ Ok (Lines (new_lines h moment))
unfolding answer
answer_in_time h moment in_time = rw in_time refl

-- A run whose steps judge what is due on what the book shows.
module _ (h : History) (moment : ℕ) (old : Book) (us : List UploadValue) (steps : List Step) (stands : Stands old h) (faithful : IsFaithful h (QueueRun moment ∷ []))
    (sound : AreSound old.shown) (is_us : us ≡ map (upload_of (at_moment moment old).arrivals) (due (at_moment moment old))) (judged : AreJudged old.config old.shown us steps) where
  abbrev now : List Arrival
  now = counting h.opening h.steps moment

  abbrev cs : List Candidate
  cs = due_after h.opening h.steps moment

  abbrev all : IsFaithful h (QueueRun moment ∷ [])
  all = with_empty h (QueueRun moment ∷ []) faithful

  known_from : AreFrom all.bodies (arrived h.opening h.steps)
  unfolding book_of book_from
  known_from = (known h (QueueRun moment ∷ []) faithful).arrivals

  made : AreMadeOf all.bodies (archive h).admitted
  made = made_of all.bodies (archive h).admitted (archive_has (Contains all.bodies) h (faithful_knows h (QueueRun moment ∷ []) all (has_empty faithful.bodies)))

  sound_here : AreSound (shown_by_print (archive h))
  unfolding book_of book_from
  sound_here = subst (λ (b : Book). AreSound b.shown) stands sound

  uploads : us ≡ map (upload_of now) cs
  unfolding book_of book_from at_moment counting
  uploads =
      is_us ∙ ap (λ (b : Book). map (upload_of (at_moment moment b).arrivals) (due (at_moment moment b))) stands
      ∙ ap (map (upload_of now)) (due_faithful h (QueueRun moment ∷ []) faithful moment)

  judged_here : AreJudged h.opening.config (shown_by_print (archive h)) (map (upload_of now) cs) steps
  unfolding book_of book_from
  judged_here =
      subst (λ us. AreJudged h.opening.config (shown_by_print (archive h)) us steps) uploads (subst (λ (b : Book). AreJudged b.config b.shown us steps) stands judged)

  -- the book has a body for each file that the pool then has
  pub run_has : HasEachBody old (steps_at moment steps)
  unfolding book_of
  run_has =
      subst (λ (b : Book). HasEachBody b (steps_at moment steps)) (sym stands)
      (run-bodies all.bodies all.apart h.opening.config moment (arrived h.opening h.steps) now (counting_among h.opening h.steps moment) (archive h) cs steps
      known_from made (due_after-due h.opening h.steps moment) judged_here sound_here.agreed)

  -- A run that is done: the book is then the old one with these steps.
  pub run_step : (may_fail : Bool) (is_open : Type 0) (new : Book) → nat_lt latest moment ≡ false → new ≡ amended old (steps_at moment steps)
      → IsStep may_fail h (QueueRun moment) (Ok (Lines (map report_line (judgements steps)))) is_open new
  unfolding book_of book_from new_lines acts_of arrivals_after
  run_step may_fail is_open new in_time is_new =
      let config = h.opening.config in
      let arrivals = arrived h.opening h.steps in
      let a = archive h in
      let among = counting_among h.opening h.steps moment in
      let due_here = due_after-due h.opening h.steps moment in
      let lines : map report_line (judgements steps) ≡ new_lines h moment =
      ap (map report_line) (sym (run-judgements all.bodies all.apart config moment arrivals now among a cs steps known_from made due_here judged_here)) in
      record {
        answered = ap (λ ls. Ok (Lines ls)) lines ∙ sym (answer_in_time h moment in_time);
        kept = stands_kept is_open new (followed h (QueueRun moment) (Ok (Lines (map report_line (judgements steps)))))
            (is_new ∙ ap (λ (b : Book). amended b (steps_at moment steps)) stands
            ∙ run-amended all.bodies all.apart config moment arrivals now among a cs steps known_from made due_here judged_here sound_here.agreed
            ∙ sym (book_of-followed h (QueueRun moment) (Ok (Lines (map report_line (judgements steps))))));
      }
