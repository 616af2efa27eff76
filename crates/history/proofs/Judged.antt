-- An upload has a verdict exactly if it was complete at a run that was done.
use Rattle.std.proofs.Common.{◌≡◌, ℕ, Bool, true, false, cond, not, ◌&&◌, ◌||◌, List, [], ◌∷◌, ◌++◌, map, filter, fold, Option, Some, None, Result, Ok, Err, refl, sym, ap, ◌∙◌}
use Rattle.std.proofs.lemmas.Bool.{and_parts}
use Rattle.std.specs.Prelude.{Contains, IfSome, option_to_list, bytes_eq}
use Rattle.std.specs.Ordering.{is_gt}
use Rattle.std.specs.List.{AllByRecursion, list_any, flat_map}
use Rattle.std.specs.Option.{option_map}
use Rattle.std.specs.Result.{result_ok}
use Rattle.std.proofs.lemmas.Slice.Eq.{bytes_eq-Decides}
use Rattle.std.proofs.lemmas.Bool.Decides.{same_from_decides}
use Rattle.std.proofs.lemmas.List.Folds.{list_any-append}
use Rattle.std.proofs.lemmas.Option.{same_Some}
use Rattle.std.proofs.Math.Bool.{or_assoc, or-false}
use Rattle.records.specs.Records.{changes_in}
use Rattle.records.specs.Values.{ChangesValue}
use Rattle.rules.specs.Values.{ConfigValue}
use Rattle.sums.specs.Prints.{print as print_of, same_print}
use Rattle.book.specs.Book.{Book, Candidate, at_moment, candidate_of, candidates, due, in_order, is_complete, is_judged, candidate_order, put_in_order, unjudged, upload_of}
use Rattle.book.specs.Keeping.{NoCollision}
use Rattle.book.specs.declared.arrival.Arrival.{Arrival}
use Rattle.book.proofs.Prints.{same_print-Decides}
use Rattle.suites.proofs.ListTests.{filter_same_on, list_any-filter, any_with}
use Rattle.history.specs.Before.{before_each, before_each-push}
use Rattle.history.specs.Histories.{Call, Delivery, QueueRun, Copying, Lookup, WaitingList, Cleaning, Removing, Promoting, VerdictList, Reply, Turn, History, arrived, bodies_of_call, completes, counting, due_after, has_come, waiting_after, was_judged}
use Rattle.history.specs.Archives.{PlainArchive, Whole, Copy, Remove, Promote, acted, acts_of, all_acts, archive, archive_of, book_from, book_of, copied, copied_all, removed, sources_in, suite_named, whole, whole_of, with_admitted}
use Rattle.history.specs.Answers.{IsFaithful}
use Rattle.history.specs.declared.fault.Fault.{Fault}
use Rattle.history.proofs.Lists.{all_filter_map, all_front, all_weaker, by_steps}
use Rattle.history.proofs.Known.{ArrivalsHave, StepsHave, Knows, arrived_have, counting_have, counting_known, faithful_knows, with_empty, has_empty}
use Rattle.history.proofs.Steps.{step_of, archive-push}
use Rattle.sums.specs.FileNames.{is_changes_name}

-- ---- prints and candidates

-- the candidate's record is that of its body
abbrev pub IsRead : Candidate → Type 0
IsRead c = result_ok (changes_in c.body) ≡ Some c.changes

-- its record is read, and its body is one of these
abbrev pub IsOf : (List ℕ → Type 0) → Candidate → Type 0
IsOf K c = IsRead c × K c.body

candidate_is_of : (K : List ℕ → Type 0) (a : Arrival) → K a.body → IfSome (candidate_of a) (IsOf K)
unfolding candidate_of
candidate_is_of K a ha = named (is_changes_name a.name)
  where
    read : (o : Option ChangesValue) → result_ok (changes_in a.body) ≡ o → IfSome (option_map {U = Candidate} (λ c. record { name = a.name; body = a.body; changes = c }) o) (IsOf K)
    read None is = tt
    read (Some c) is = (is, ha)

    named : (b : Bool) → IfSome (cond b (option_map {U = Candidate} (λ c. record { name = a.name; body = a.body; changes = c }) (result_ok (changes_in a.body))) None) (IsOf K)
    named true = read (result_ok (changes_in a.body)) refl
    named false = tt

pub candidates_are_of : (K : List ℕ → Type 0) (arrivals : List Arrival) → ArrivalsHave K arrivals → AllByRecursion (IsOf K) (candidates arrivals)
candidates_are_of K arrivals h = all_filter_map (IsOf K) candidate_of arrivals (all_weaker (λ (a : Arrival). K a.body) _ (candidate_is_of K) arrivals h)

-- a candidate with the name and the print of this one; with its name and its body
abbrev pub is_signed : Candidate → Candidate → Bool
is_signed c d = bytes_eq d.name c.name && same_print (print_of d.body) (print_of c.body)

abbrev pub is_twin : Candidate → Candidate → Bool
is_twin c d = bytes_eq d.name c.name && bytes_eq d.body c.body

twin_is : (c d : Candidate) → IsRead c → IsRead d → is_twin c d ≡ true → d ≡ c
twin_is c d hc hd h =
    let parts = and_parts (bytes_eq d.name c.name) (bytes_eq d.body c.body) h in
    let names : d.name ≡ c.name = (bytes_eq-Decides d.name c.name).0 parts.0 in
    let bodies : d.body ≡ c.body = (bytes_eq-Decides d.body c.body).0 parts.1 in
    let records : d.changes ≡ c.changes = same_Some _ _ (sym hd ∙ ap (λ body. result_ok (changes_in body)) bodies ∙ hc) in
    λ i. record { name = names i; body = bodies i; changes = records i }

-- among bodies without collision the print determines the body
signed_is_twin : (bodies : List (List ℕ)) → NoCollision bodies → (c d : Candidate) → Contains bodies c.body → Contains bodies d.body → is_signed c d ≡ is_twin c d
signed_is_twin bodies apart c d hc hd =
    ap (λ b. bytes_eq d.name c.name && b)
    (same_from_decides (same_print (print_of d.body) (print_of c.body)) (bytes_eq d.body c.body) (
      λ h. apart d.body c.body hd hc ((same_print-Decides (print_of d.body) (print_of c.body)).0 h),
      λ e. (same_print-Decides (print_of d.body) (print_of c.body)).1 (ap print_of e),
    )
    (bytes_eq-Decides d.body c.body))

-- ---- tests of some element

pub any_agree_on : {X : Type 0} (t s : X → Bool) (xs : List X) → AllByRecursion (λ x. t x ≡ s x) xs → list_any t xs ≡ list_any s xs
any_agree_on t s [] h = refl
any_agree_on t s (x ∷ xs) h = ap (λ b. b || list_any t xs) h.0 ∙ ap (λ b. s x || b) (any_agree_on t s xs h.1)

-- the order of judging keeps what passes a test
any-in_order : (t : Candidate → Bool) (cs : List Candidate) → list_any t (in_order cs) ≡ list_any t cs
any-in_order t [] = refl
any-in_order t (c ∷ cs) = any-put (in_order cs) ∙ ap (λ b. t c || b) (any-in_order t cs)
  where
    swapped : (a b d : Bool) → (a || (b || d)) ≡ (b || (a || d))
    swapped true true d = refl
    swapped true false d = refl
    swapped false true d = refl
    swapped false false d = refl

    any-put : (ds : List Candidate) → list_any t (put_in_order c ds) ≡ (t c || list_any t ds)
    any-put [] = refl
    any-put (d ∷ ds) = placed (is_gt (candidate_order c d)) (any-put ds)
      where
        placed : (b : Bool) → list_any t (put_in_order c ds) ≡ (t c || list_any t ds) → list_any t (cond b (d ∷ put_in_order c ds) (c ∷ d ∷ ds)) ≡ (t c || (t d || list_any t ds))
        placed true rest = ap (λ x. t d || x) rest ∙ swapped (t d) (t c) (list_any t ds)
        placed false rest = refl

-- ---- one more call

-- what is judged after whole uploads
judged_wholes : (config : ConfigValue) (moment : ℕ) (arrivals : List Arrival) (ds : List Candidate) (a : PlainArchive) (c : Candidate)
    → is_judged (fold (acted config) a (map (λ d. Whole (whole_of arrivals d) moment) ds)).judged c ≡ (is_judged a.judged c || list_any (is_signed c) ds)
unfolding whole whole_of upload_of is_judged with_admitted
judged_wholes config moment arrivals [] a c = sym (or-false _)
judged_wholes config moment arrivals (d ∷ ds) a c =
    judged_wholes config moment arrivals ds (whole config moment a (whole_of arrivals d)) c
    ∙ ap (λ b. b || list_any (is_signed c) ds) (list_any-append _ a.judged _ ∙ ap (λ b. is_judged a.judged c || b) (or-false (is_signed c d)))
    ∙ or_assoc (is_judged a.judged c) (is_signed c d) (list_any (is_signed c) ds)

copies_judge : (config : ConfigValue) (from to : Option ℕ) (source : List ℕ) (moment : ℕ) (a : PlainArchive)
    → (fold (acted config) a (flat_map (λ f. map (λ t. Copy f t source moment) (option_to_list to)) (option_to_list from))).judged ≡ a.judged
unfolding with_admitted
copies_judge config None to source moment a = refl
copies_judge config (Some from) None source moment a = refl
copies_judge config (Some from) (Some to) source moment a = refl

removals_judge : (config : ConfigValue) (suite : Option ℕ) (name : List ℕ) (moment : ℕ) (a : PlainArchive)
    → (fold (acted config) a (map (λ s. Remove s name moment) (option_to_list suite))).judged ≡ a.judged
unfolding removed with_admitted
removals_judge config None name moment a = refl
removals_judge config (Some suite) name moment a = refl

copied_all_judge : (config : ConfigValue) (moment from to : ℕ) (sources : List (List ℕ)) (a : PlainArchive) → (copied_all config moment from to a sources).judged ≡ a.judged
unfolding with_admitted
copied_all_judge config moment from to [] a = refl
copied_all_judge config moment from to (source ∷ sources) a = copied_all_judge config moment from to sources (copied config moment a from to source)

promotions_judge : (config : ConfigValue) (from to : Option ℕ) (sources : Option (List (List ℕ))) (moment : ℕ) (a : PlainArchive)
    → (fold (acted config) a (flat_map (λ f. map (λ t. Promote f t sources moment) (option_to_list to)) (option_to_list from))).judged ≡ a.judged
promotions_judge config None to sources moment a = refl
promotions_judge config (Some from) None sources moment a = refl
promotions_judge config (Some from) (Some to) sources moment a = copied_all_judge config moment from to (sources_in a from sources) a

-- one of the uploads that are due has the name and the print of c exactly if c has come, is complete and was not judged
any_due : (bodies : List (List ℕ)) → NoCollision bodies → (opening : Book) (steps : List Turn) (moment : ℕ) → ArrivalsHave (Contains bodies) (counting opening steps moment)
    → (c : Candidate) → IsOf (Contains bodies) c
    → list_any (is_signed c) (due_after opening steps moment)
    ≡ ((not (was_judged opening steps c) && is_complete (counting opening steps moment) c) && has_come (counting opening steps moment) c)
unfolding waiting_after has_come
any_due bodies apart opening steps moment h c hc =
    let arrivals = counting opening steps moment in
    let fresh : Candidate → Bool = λ d. not (was_judged opening steps d) in
    let whole' : Candidate → Bool = is_complete arrivals in
    list_any-filter (is_signed c) whole' (in_order (filter fresh (candidates arrivals)))
    ∙ any-in_order (λ d. whole' d && is_signed c d) (filter fresh (candidates arrivals))
    ∙ list_any-filter (λ d. whole' d && is_signed c d) fresh (candidates arrivals)
    ∙ any_agree_on (λ d. fresh d && (whole' d && is_signed c d)) (λ d. (fresh c && whole' c) && is_twin c d) (candidates arrivals)
    (all_weaker (IsOf (Contains bodies)) _ (λ d hd. at_twin fresh whole' d hd) (candidates arrivals) (candidates_are_of (Contains bodies) arrivals h))
    ∙ any_with (fresh c && whole' c) (is_twin c) (candidates arrivals)
  where
    and_assoc : (a b d : Bool) → (a && (b && d)) ≡ ((a && b) && d)
    and_assoc true b d = refl
    and_assoc false b d = refl

    and_no : (a b : Bool) → (a && false) ≡ (b && false)
    and_no true true = refl
    and_no true false = refl
    and_no false true = refl
    and_no false false = refl

    moved : (p : Candidate → Bool) (d : Candidate) (t : Bool) → (t ≡ true → d ≡ c) → (p d && t) ≡ (p c && t)
    moved p d true is = ap (λ x. p x && true) (is refl)
    moved p d false is = and_no (p d) (p c)

    at_twin : (p q : Candidate → Bool) (d : Candidate) → IsOf (Contains bodies) d → (p d && (q d && is_signed c d)) ≡ ((p c && q c) && is_twin c d)
    at_twin p q d hd =
        ap (λ b. p d && (q d && b)) (signed_is_twin bodies apart c d hc.1 hd.1)
        ∙ and_assoc (p d) (q d) (is_twin c d)
        ∙ moved (λ x. p x && q x) d (is_twin c d) (twin_is c d hc.0 hd.0)

was_judged-push : (opening : Book) (steps : List Turn) (call : Call) (outcome : Result Reply Fault) (c : Candidate)
    → was_judged opening (steps ++ step_of call outcome ∷ []) c
    ≡ (was_judged opening steps c || completes opening steps c call outcome)
unfolding was_judged
was_judged-push opening steps call outcome c =
    let t : List Turn × Turn → Bool = λ p. completes opening p.0 c p.1.call p.1.outcome in
    ap (λ ps. is_judged opening.judged c || list_any t ps) (before_each-push steps (step_of call outcome))
    ∙ ap (λ b. is_judged opening.judged c || b) (list_any-append t (before_each steps) ((steps, step_of call outcome) ∷ []) ∙ ap (λ b. list_any t (before_each steps) || b) (or-false (t (steps, step_of call outcome))))
    ∙ sym (or_assoc (is_judged opening.judged c) (list_any t (before_each steps)) (t (steps, step_of call outcome)))

absorbed : (was come complete : Bool) → (was || ((not was && complete) && come)) ≡ (was || (come && complete))
absorbed true come complete = refl
absorbed false true true = refl
absorbed false true false = refl
absorbed false false true = refl
absorbed false false false = refl

judged_push : (bodies : List (List ℕ)) → NoCollision bodies → (h : History) → ArrivalsHave (Contains bodies) (arrived h.opening h.steps)
    → (call : Call) (outcome : Result Reply Fault) (c : Candidate) → IsOf (Contains bodies) c
    → is_judged (archive h).judged c ≡ was_judged h.opening h.steps c
    → is_judged (fold (acted h.opening.config) (archive h) (acts_of h.opening h.steps call outcome)).judged c
    ≡ (was_judged h.opening h.steps c || completes h.opening h.steps c call outcome)
unfolding acts_of completes
judged_push bodies apart h hs (QueueRun moment) (Ok reply) c hc sofar =
    let arrivals = counting h.opening h.steps moment in
    let cs = due_after h.opening h.steps moment in
    judged_wholes h.opening.config moment arrivals cs (archive h) c
    ∙ ap (λ b. b || list_any (is_signed c) cs) sofar
    ∙ ap (λ b. was_judged h.opening h.steps c || b) (any_due bodies apart h.opening h.steps moment (counting_have (Contains bodies) h.opening h.steps moment hs) c hc)
    ∙ absorbed (was_judged h.opening h.steps c) (has_come arrivals c) (is_complete arrivals c)
judged_push bodies apart h hs (Copying from to source moment) (Ok reply) c hc sofar =
    ap (λ js. is_judged js c) (copies_judge h.opening.config (suite_named h.opening.config from) (suite_named h.opening.config to) source moment (archive h))
    ∙ sofar ∙ sym (or-false (was_judged h.opening h.steps c))
judged_push bodies apart h hs (Removing suite name moment) (Ok reply) c hc sofar =
    ap (λ js. is_judged js c) (removals_judge h.opening.config (suite_named h.opening.config suite) name moment (archive h))
    ∙ sofar ∙ sym (or-false (was_judged h.opening h.steps c))
judged_push bodies apart h hs (Promoting from to sources moment) (Ok reply) c hc sofar =
    ap (λ js. is_judged js c) (promotions_judge h.opening.config (suite_named h.opening.config from) (suite_named h.opening.config to) sources moment (archive h))
    ∙ sofar ∙ sym (or-false (was_judged h.opening h.steps c))
judged_push bodies apart h hs (Promoting from to sources moment) (Err fault) c hc sofar = sofar ∙ sym (or-false (was_judged h.opening h.steps c))
judged_push bodies apart h hs (Removing suite name moment) (Err fault) c hc sofar = sofar ∙ sym (or-false (was_judged h.opening h.steps c))
judged_push bodies apart h hs (QueueRun moment) (Err fault) c hc sofar = sofar ∙ sym (or-false (was_judged h.opening h.steps c))
judged_push bodies apart h hs (Copying from to source moment) (Err fault) c hc sofar = sofar ∙ sym (or-false (was_judged h.opening h.steps c))
judged_push bodies apart h hs (Delivery name body moment) outcome c hc sofar = sofar ∙ sym (or-false (was_judged h.opening h.steps c))
judged_push bodies apart h hs (Lookup path) outcome c hc sofar = sofar ∙ sym (or-false (was_judged h.opening h.steps c))
judged_push bodies apart h hs (WaitingList moment) outcome c hc sofar = sofar ∙ sym (or-false (was_judged h.opening h.steps c))
judged_push bodies apart h hs (Cleaning moment) outcome c hc sofar = sofar ∙ sym (or-false (was_judged h.opening h.steps c))
judged_push bodies apart h hs VerdictList outcome c hc sofar = sofar ∙ sym (or-false (was_judged h.opening h.steps c))

judged_opening : (opening : Book) (c : Candidate) → is_judged (archive (record { opening = opening; steps = [] })).judged c ≡ was_judged opening [] c
unfolding archive all_acts archive_of was_judged
judged_opening opening c = sym (or-false (is_judged opening.judged c))

-- ---- a history

-- a candidate has a verdict exactly if it had one in the opening or was complete at a run that was done
pub is_judged-was_judged : (bodies : List (List ℕ)) → NoCollision bodies → (h : History) → Knows (Contains bodies) h
    → (c : Candidate) → IsOf (Contains bodies) c → is_judged (archive h).judged c ≡ was_judged h.opening h.steps c
is_judged-was_judged bodies apart h knows c hc =
    by_steps (λ (xs : List Turn). StepsHave (Contains bodies) xs → is_judged (archive (record h { steps = xs })).judged c ≡ was_judged h.opening xs c)
    (λ _. judged_opening h.opening c)
    (λ xs x sofar hk.
    let front = all_front (λ (s : Turn). AllByRecursion (Contains bodies) (bodies_of_call s.call)) xs (x ∷ []) hk in
    let before : History = record h { steps = xs } in
    ap (λ (a : PlainArchive). is_judged a.judged c) (archive-push before x.call x.outcome)
    ∙ judged_push bodies apart before (arrived_have (Contains bodies) h.opening xs knows.arrivals front) x.call x.outcome c hc (sofar front)
    ∙ sym (was_judged-push h.opening xs x.call x.outcome c))
    h.steps knows.steps

-- the uploads without a verdict that count at a moment are those that no run has judged
pub unjudged_known : (bodies : List (List ℕ)) → NoCollision bodies → (h : History) → Knows (Contains bodies) h
    → (moment : ℕ) → unjudged (at_moment moment (book_of h)) ≡ waiting_after h.opening h.steps moment
unfolding unjudged waiting_after book_of book_from at_moment counting
unjudged_known bodies apart h knows moment =
    let all = candidates (counting h.opening h.steps moment) in
    ap in_order (filter_same_on (λ c. not (is_judged (archive h).judged c)) (λ c. not (was_judged h.opening h.steps c)) all
    (all_weaker (IsOf (Contains bodies)) _ (λ c hc. ap not (is_judged-was_judged bodies apart h knows c hc)) all
    (candidates_are_of (Contains bodies) (counting h.opening h.steps moment) (counting_known (Contains bodies) h knows moment))))

-- the uploads that are due are those that a run at this moment judges
pub due_known : (bodies : List (List ℕ)) → NoCollision bodies → (h : History) → Knows (Contains bodies) h
    → (moment : ℕ) → due (at_moment moment (book_of h)) ≡ due_after h.opening h.steps moment
unfolding due book_of book_from at_moment counting
due_known bodies apart h knows moment = ap (filter (is_complete (counting h.opening h.steps moment))) (unjudged_known bodies apart h knows moment)

-- the uploads without a verdict in a faithful history
pub unjudged_faithful : (h : History) (calls : List Call) → IsFaithful h calls → (moment : ℕ) → unjudged (at_moment moment (book_of h)) ≡ waiting_after h.opening h.steps moment
unjudged_faithful h calls faithful moment =
    let all = with_empty h calls faithful in
    unjudged_known all.bodies all.apart h (faithful_knows h calls all (has_empty faithful.bodies)) moment

pub due_faithful : (h : History) (calls : List Call) → IsFaithful h calls → (moment : ℕ) → due (at_moment moment (book_of h)) ≡ due_after h.opening h.steps moment
due_faithful h calls faithful moment =
    let all = with_empty h calls faithful in
    due_known all.bodies all.apart h (faithful_knows h calls all (has_empty faithful.bodies)) moment
