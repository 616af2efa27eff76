-- Uploads after the steps of a change.
use Rattle.std.proofs.Common.{◌≡◌, ◌≢◌, ℕ, zero, suc, ◌+◌, Bool, true, false, not, ◌&&◌, cond, List, [], ◌∷◌, ◌++◌, map, filter, length, take, Option, Some, None, refl, sym, ap, ap₂, subst, ◌∙◌, append_assoc, append-nil}
use Rattle.std.specs.List.{AllByRecursion, cons_option, filter_map, list_any}
use Rattle.std.specs.Option.{option_map_or}
use Rattle.std.specs.Ordering.{is_gt}
use Rattle.std.proofs.lemmas.Bool.{and_right, false_from_ne_true, not_from_false, or_left, or_right}
use Rattle.std.proofs.lemmas.List.{length_push}
use Rattle.sqlite_trees.specs.Tree.{IsAscending}
use Rattle.sqlite_keyed.proofs.ListLemmas.{all-filter, all_map, all_weaker, ascending-filter, ascending-map, ascending_from_map}
use Rattle.rules.specs.declared.suite.Suite.{Suite}
use Rattle.book.specs.Book.{Book, Candidate, candidate_of, candidate_order, candidates, due, in_order, is_complete, is_judged, judgements, put_in_order, unjudged}
use Rattle.book.specs.Keeping.{sign_of, sign_on}
use Rattle.book.specs.declared.arrival.Arrival.{Arrival}
use Rattle.book.specs.declared.change.Judgement.{Judgement}
use Rattle.book.specs.declared.change.Step.{Step}
use Rattle.tables.specs.Rows.{Rises, Tables, rows_of}
use Rattle.suites.proofs.ListTests.{same_any, list_any-filter}
use Rattle.sums.proofs.Words.{list_any-map}
use Rattle.tables_meaning.specs.Kept.{AreNumbered, AreUploads, Request, arrivals_in, request_of, sign_in}
use Rattle.tables_meaning.proofs.Orders.{pairs_permuted}
use Rattle.tables_meaning.specs.Planned.{KeepsOthers}
use Rattle.tables_meaning.specs.Making.{with_judged, with_plan, with_step, with_steps}
use Rattle.tables_meaning.proofs.PlanLemmas.{plan_keeps}
use Rattle.tables_meaning.proofs.WantLemmas.{Sign, is_sign, is_sign-Decides, is_waiting, request}
use Rattle.tables_meaning.proofs.RequestLemmas.{requests, rows_from_uploads, uploads_from_rows}
use Rattle.tables_meaning.proofs.JudgedLemmas.{arrivals_judged, judged_if_asked, requests_judged, same_arrivals, uploads_rise}

-- ---- a plan

-- a plan leaves the uploads, what they want and what has arrived
uploads_kept : (old new : Tables) (judged : List Judgement) → KeepsOthers old new → AreUploads old judged → AreUploads new judged
uploads_kept old new judged h are = uploads_from_rows new judged (record {
  uploads = old.uploads;
  wants = rows_of old.wants;
  asked = requests (arrivals_in old) judged;
  are = rows_from_uploads old judged are;
  uploads_are = h.uploads;
  wants_are = ap rows_of h.wants;
  asked_are = ap (λ l. requests l judged) (same_arrivals old new h.arrivals h.pieces);
})

-- ---- one step after the other

-- each sign is asked for
abbrev pub AreAsked : List Request → List Sign → Type 0
AreAsked rs = AllByRecursion (λ s. list_any (λ r. is_sign s r.0) rs ≡ true)

-- what another sign asks for stays
still_asked : (rs : List Request) (s : Sign) (signs : List Sign) → AllByRecursion (λ u. s ≢ u) signs → AreAsked rs signs → AreAsked (filter (λ r. not (is_sign s r.0)) rs) signs
still_asked rs s [] apart asked = tt
still_asked rs s (u ∷ signs) apart asked = (
  list_any-filter (λ r. is_sign u r.0) (λ r. not (is_sign s r.0)) rs ∙ same_any (λ r. not (is_sign s r.0) && is_sign u r.0) (λ r. is_sign u r.0) (λ r. same r (is_sign u r.0) refl) rs ∙ asked.0,
  still_asked rs s signs apart.1 asked.1,
)
  where
    same : (r : Request) (b : Bool) → is_sign u r.0 ≡ b → not (is_sign s r.0) && b ≡ b
    same r true e =
        ap (λ a. a && true) (not_from_false (is_sign s r.0) (false_from_ne_true (is_sign s r.0) (λ t. apart.0 (sym ((is_sign-Decides s r.0).0 t) ∙ (is_sign-Decides u r.0).0 e))))
    same r false e = and_right (not (is_sign s r.0)) false refl

-- The uploads after steps whose judgements are asked for, each sign once.
pub uploads_after_steps : (suites : List Suite) (steps : List Step) (n : ℕ) (t : Tables) (judged : List Judgement) → n ≡ length judged → Rises t.uploads → AreUploads t judged
    → AreAsked (requests (arrivals_in t) judged) (map sign_on (judgements steps)) → IsAscending (λ s u. s ≢ u) (map sign_on (judgements steps))
    → AreUploads (with_steps suites n steps t) (judged ++ judgements steps)
unfolding with_step
uploads_after_steps suites [] n t judged count rise are asked apart = subst (AreUploads t) (sym (append-nil judged)) are
uploads_after_steps suites (step ∷ steps) n t judged count rise are asked apart = go step.judgement asked apart (uploads_after_steps suites steps)
  where
    go : (o : Option Judgement) → AreAsked (requests (arrivals_in t) judged) (map sign_on (cons_option o (judgements steps))) → IsAscending (λ s u. s ≢ u) (map sign_on (cons_option o (judgements steps)))
        → ((m : ℕ) (now : Tables) (past : List Judgement) → m ≡ length past → Rises now.uploads → AreUploads now past → AreAsked (requests (arrivals_in now) past) (map sign_on (judgements steps))
        → IsAscending (λ s u. s ≢ u) (map sign_on (judgements steps)) → AreUploads (with_steps suites m steps now) (past ++ judgements steps))
        → AreUploads (with_steps suites (option_map_or (λ _. n + 1) o n) steps (with_plan suites step.plan (option_map_or (λ j. with_judged (n + 1) j t) o t))) (judged ++ cons_option o (judgements steps))
    go None wanted distinct more =
        let now = with_plan suites step.plan t in
        let kept = plan_keeps suites t step.plan in
        more n now judged count (subst Rises (sym kept.uploads) rise) (uploads_kept t now judged kept are)
        (subst (λ l. AreAsked (requests l judged) (map sign_on (judgements steps))) (sym (same_arrivals t now kept.arrivals kept.pieces)) wanted) distinct
    go (Some j) wanted distinct more =
        let first = with_judged (n + 1) j t in
        let now = with_plan suites step.plan first in
        let kept = plan_keeps suites first step.plan in
        let placed : AreUploads first (judged ++ j ∷ []) = subst (λ m. AreUploads (with_judged (m + 1) j t) (judged ++ j ∷ [])) (sym count) (judged_if_asked t judged j rise are wanted.0) in
        subst (AreUploads (with_steps suites (n + 1) steps now)) (append_assoc judged (j ∷ []) (judgements steps))
        (more (n + 1) now (judged ++ j ∷ []) (ap (λ m. m + 1) count ∙ sym (length_push judged j)) (subst Rises (sym kept.uploads) (uploads_rise (n + 1) j t rise)) (uploads_kept first now (judged ++ j ∷ []) kept placed)
        (subst (λ rs. AreAsked rs (map sign_on (judgements steps)))
        (sym (ap (λ l. requests l (judged ++ j ∷ [])) (same_arrivals first now kept.arrivals kept.pieces ∙ arrivals_judged (n + 1) j t) ∙ requests_judged (arrivals_in t) judged j))
        (still_asked (requests (arrivals_in t) judged) (sign_on j) (map sign_on (judgements steps)) distinct.0 wanted.1)) distinct.1)

-- ---- the first of those that are due

-- each element passes the test of itself
any_itself : {X : Type 0} (p : X → X → Bool) → ((x : X) → p x x ≡ true) → (xs : List X) → AllByRecursion (λ x. list_any (p x) xs ≡ true) xs
any_itself p itself [] = tt
any_itself p itself (x ∷ xs) = (
  or_left (p x x) (list_any (p x) xs) (itself x),
  all_weaker (λ y. list_any (p y) xs ≡ true) (λ y. list_any (p y) (x ∷ xs) ≡ true) (λ y h. or_right (p y x) (list_any (p y) xs) h) xs (any_itself p itself xs),
)

all_put : (P : Candidate → Type 0) (c : Candidate) (cs : List Candidate) → P c → AllByRecursion P cs → AllByRecursion P (put_in_order c cs)
all_put P c [] h all = (h, tt)
all_put P c (d ∷ cs) h all =
    elim (is_gt (candidate_order c d)) as (λ b. AllByRecursion P (cond b (d ∷ put_in_order c cs) (c ∷ d ∷ cs))) [ true ↦ (all.0, all_put P c cs h all.1) | false ↦ (h, all) ]

pub all_in_order : (P : Candidate → Type 0) (cs : List Candidate) → AllByRecursion P cs → AllByRecursion P (in_order cs)
all_in_order P [] all = tt
all_in_order P (c ∷ cs) all = all_put P c (in_order cs) all.0 (all_in_order P cs all.1)

-- candidates with different signs, in any order
abbrev Differ : Candidate → Candidate → Type 0
Differ c d = sign_of c ≢ sign_of d

differ_put : (c : Candidate) (cs : List Candidate) → AllByRecursion (Differ c) cs → IsAscending Differ cs → IsAscending Differ (put_in_order c cs)
differ_put c [] h up = (tt, tt)
differ_put c (d ∷ cs) h up =
    elim (is_gt (candidate_order c d)) as (λ b. IsAscending Differ (cond b (d ∷ put_in_order c cs) (c ∷ d ∷ cs))) [
      | true ↦ (all_put (Differ d) c cs (λ e. h.0 (sym e)) up.0, differ_put c cs h.1 up.1)
      | false ↦ (h, up)
    ]

differ_in_order : (cs : List Candidate) → IsAscending Differ cs → IsAscending Differ (in_order cs)
differ_in_order [] up = tt
differ_in_order (c ∷ cs) up = differ_put c (in_order cs) (all_in_order (Differ c) cs up.0) (differ_in_order cs up.1)

pub all_taken : {X : Type 0} (P : X → Type 0) (n : ℕ) (xs : List X) → AllByRecursion P xs → AllByRecursion P (take n xs)
all_taken P zero xs all = tt
all_taken P (suc n) [] all = tt
all_taken P (suc n) (x ∷ xs) all = (all.0, all_taken P n xs all.1)

ascending_taken : {X : Type 0} (R : X → X → Type 0) (n : ℕ) (xs : List X) → IsAscending R xs → IsAscending R (take n xs)
ascending_taken R zero xs up = tt
ascending_taken R (suc n) [] up = tt
ascending_taken R (suc n) (x ∷ xs) up = (all_taken (R x) n xs up.0, ascending_taken R n xs up.1)

-- ---- what is made of some of the elements

module _ {X Y : Type 0} (f : X → Option Y) (w : Y → Bool) (q : X → Bool) where
  -- what is made of elements and passes
  abbrev made : List X → List Y
  made xs = filter w (filter_map f xs)

  -- what holds of all that is made holds of what is made of some
  pub all_chosen : (P : Y → Type 0) (xs : List X) → AllByRecursion P (made xs) → AllByRecursion P (made (filter q xs))
  all_chosen P [] all = tt
  all_chosen P (x ∷ xs) all = go (q x) (all_chosen P xs)
    where
      one : (y : Y) (c : Bool) (ys zs : List Y) → AllByRecursion P (cond c (y ∷ ys) ys) → (AllByRecursion P ys → AllByRecursion P zs) → AllByRecursion P (cond c (y ∷ zs) zs)
      one y true ys zs all more = (all.0, more all.1)
      one y false ys zs all more = more all

      stays : (o : Option Y) → AllByRecursion P (filter w (cons_option o (filter_map f xs))) → (AllByRecursion P (made xs) → AllByRecursion P (made (filter q xs)))
          → AllByRecursion P (filter w (cons_option o (filter_map f (filter q xs))))
      stays None all more = more all
      stays (Some y) all more = one y (w y) (made xs) (made (filter q xs)) all more

      rest : (y : Y) (c : Bool) (ys : List Y) → AllByRecursion P (cond c (y ∷ ys) ys) → AllByRecursion P ys
      rest y true ys all = all.1
      rest y false ys all = all

      goes : (o : Option Y) → AllByRecursion P (filter w (cons_option o (filter_map f xs))) → AllByRecursion P (made xs)
      goes None all = all
      goes (Some y) all = rest y (w y) (made xs) all

      go : (b : Bool) → (AllByRecursion P (made xs) → AllByRecursion P (made (filter q xs)))
          → AllByRecursion P (filter w (filter_map f (cond b (x ∷ filter q xs) (filter q xs))))
      go true more = stays (f x) all more
      go false more = more (goes (f x) all)

  -- a relation that holds two by two of all that is made holds two by two of what is made of some
  pub ascending_chosen : (R : Y → Y → Type 0) (xs : List X) → IsAscending R (made xs) → IsAscending R (made (filter q xs))
  ascending_chosen R [] up = tt
  ascending_chosen R (x ∷ xs) up = go (q x) (ascending_chosen R xs)
    where
      one : (y : Y) (c : Bool) → IsAscending R (cond c (y ∷ made xs) (made xs)) → (IsAscending R (made xs) → IsAscending R (made (filter q xs)))
          → IsAscending R (cond c (y ∷ made (filter q xs)) (made (filter q xs)))
      one y true up more = (all_chosen (R y) xs up.0, more up.1)
      one y false up more = more up

      stays : (o : Option Y) → IsAscending R (filter w (cons_option o (filter_map f xs))) → (IsAscending R (made xs) → IsAscending R (made (filter q xs)))
          → IsAscending R (filter w (cons_option o (filter_map f (filter q xs))))
      stays None up more = more up
      stays (Some y) up more = one y (w y) up more

      rest : (y : Y) (c : Bool) → IsAscending R (cond c (y ∷ made xs) (made xs)) → IsAscending R (made xs)
      rest y true up = up.1
      rest y false up = up

      goes : (o : Option Y) → IsAscending R (filter w (cons_option o (filter_map f xs))) → IsAscending R (made xs)
      goes None up = up
      goes (Some y) up = rest y (w y) up

      go : (b : Bool) → (IsAscending R (made xs) → IsAscending R (made (filter q xs)))
          → IsAscending R (filter w (filter_map f (cond b (x ∷ filter q xs) (filter q xs))))
      go true more = stays (f x) up more
      go false more = more (goes (f x) up)

module _ (arrivals : List Arrival) (judged : List Judgement) where
  abbrev waiting : List Candidate
  waiting = filter (λ c. not (is_judged judged c)) (candidates arrivals)

  all_asked : AllByRecursion (λ c. list_any (λ r. is_sign (sign_of c) r.0) (requests arrivals judged) ≡ true) waiting
  all_asked =
      all_weaker (λ c. list_any (λ d. is_sign (sign_of c) (sign_of d)) waiting ≡ true) (λ c. list_any (λ r. is_sign (sign_of c) r.0) (requests arrivals judged) ≡ true)
      (λ c h. list_any-map (request_of arrivals) (λ r. is_sign (sign_of c) r.0) waiting ∙ h) waiting
      (any_itself (λ c d. is_sign (sign_of c) (sign_of d)) (λ c. (is_sign-Decides (sign_of c) (sign_of c)).1 refl) waiting)

  -- the uploads that wait among some of the arrivals
  abbrev waiting_of : (Arrival → Bool) → List Candidate
  waiting_of some = filter (λ c. not (is_judged judged c)) (candidates (filter some arrivals))

  -- the signs of the first of them that are due are asked for
  due_asked : (some : Arrival → Bool) (n : ℕ) (p : Candidate → Bool) → AreAsked (requests arrivals judged) (map sign_of (take n (filter p (in_order (waiting_of some)))))
  due_asked some n p =
      let P : Candidate → Type 0 = λ c. list_any (λ r. is_sign (sign_of c) r.0) (requests arrivals judged) ≡ true in
      let those = waiting_of some in
      all_map (λ s. list_any (λ r. is_sign s r.0) (requests arrivals judged) ≡ true) sign_of (take n (filter p (in_order those)))
      (all_taken P n (filter p (in_order those)) (all-filter P p (in_order those) (all_in_order P those
      (all_chosen candidate_of (λ c. not (is_judged judged c)) some P arrivals all_asked))))

-- the uploads that wait have different signs
waiting_differ : (t : Tables) (judged : List Judgement) → AreUploads t judged → IsAscending Differ (waiting (arrivals_in t) judged)
waiting_differ t judged are =
    let rows = rows_from_uploads t judged are in
    ascending_from_map (λ r q. r.0 ≢ q.0) (request_of (arrivals_in t)) (waiting (arrivals_in t) judged)
    (pairs_permuted (λ (r q : Request). r.0 ≢ q.0) (λ r q h e. h (sym e)) _ _ rows.waiting
    (ascending-map (λ r q. r.0 ≢ q.0) (request (rows_of t.wants)) (filter is_waiting t.uploads) (ascending-filter (λ x y. sign_in x.1 ≢ sign_in y.1) is_waiting t.uploads rows.apart)))

-- The uploads after the steps of a change whose judged uploads are the first of those that are due among some of the arrivals.
pub judged_steps : (suites : List Suite) (t : Tables) (judged : List Judgement) (some : Arrival → Bool) (book : Book) (steps : List Step) → AreNumbered t → AreUploads t judged
    → book.arrivals ≡ filter some (arrivals_in t) → book.judged ≡ judged
    → map sign_on (judgements steps) ≡ map sign_of (take (length (judgements steps)) (due book))
    → AreUploads (with_steps suites (length judged) steps t) (judged ++ judgements steps)
unfolding due unjudged
judged_steps suites t judged some book steps numbered are arrivals_are judged_are first =
    let n = length (judgements steps) in
    let A = arrivals_in t in
    let C = filter some A in
    let those = waiting C judged in
    let first_due : map sign_on (judgements steps) ≡ map sign_of (take n (filter (is_complete C) (in_order those))) =
    first ∙ ap₂ (λ l j. map sign_of (take n (filter (is_complete l) (in_order (waiting l j))))) arrivals_are judged_are in
    uploads_after_steps suites steps (length judged) t judged refl numbered.uploads are
    (subst (AreAsked (requests A judged)) (sym first_due) (due_asked A judged some n (is_complete C)))
    (subst (IsAscending (λ s u. s ≢ u)) (sym first_due)
    (ascending-map (λ s u. s ≢ u) sign_of (take n (filter (is_complete C) (in_order those)))
    (ascending_taken Differ n (filter (is_complete C) (in_order those))
    (ascending-filter Differ (is_complete C) (in_order those)
    (differ_in_order those (ascending_chosen candidate_of (λ c. not (is_judged judged c)) some Differ A (waiting_differ t judged are)))))))
