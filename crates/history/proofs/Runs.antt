-- Lists of calls, one after the other.
use Rattle.std.specs.Prelude.{◌≡◌, ◌⊎◌, ℕ, List, [], ◌∷◌, ◌++◌, Option, Some, Result, Contains}
use Rattle.std.proofs.Common.{ap, sym, subst, ◌∙◌, append_assoc, inl, inr}
use Rattle.std.proofs.lemmas.List.{map-append}
use Rattle.std.proofs.lemmas.Grind.{flat_map-append}
use Rattle.std.proofs.lemmas.List.Elements.{Contains-append_left}
use Rattle.book.specs.Book.{Book}
use Rattle.book.specs.declared.keeper.Keeper.{Ghosts}
use Rattle.history.specs.Histories.{Call, Delivery, Reply, Turn, History, followed, bodies_of, bodies_of_call, calls_of}
use Rattle.history.specs.Answers.{IsFaithful, IsKept, IsRun}
use Rattle.history.specs.Archives.{book_of}
use Rattle.history.specs.Steps.{Does, DoesAll, IsLeftAlong, IsServed, IsServedLast, LeavesCall, LeavesDelivery, LeavesRun, LeavesStep, Reads}
use Rattle.history.specs.declared.fault.Fault.{Fault}

-- what is faithful with calls to come is so with the first of them
pub IsFaithful-front : (h : History) (calls more : List Call) → IsFaithful h (calls ++ more) → IsFaithful h calls
IsFaithful-front h calls more faithful =
    let regrouped : bodies_of (calls_of h.steps ++ (calls ++ more)) ≡ bodies_of (calls_of h.steps ++ calls) ++ bodies_of more =
    ap bodies_of (sym (append_assoc (calls_of h.steps) calls more)) ∙ flat_map-append bodies_of_call (calls_of h.steps ++ calls) more in
    record {
      bodies = faithful.bodies;
      apart = faithful.apart;
      opened = faithful.opened;
      delivered = λ body there. faithful.delivered body (subst (λ all. Contains all body) (sym regrouped) (Contains-append_left (bodies_of (calls_of h.steps ++ calls)) (bodies_of more) body there));
    }

-- after the first call the history is faithful with the other calls
pub IsFaithful-rest : (h : History) (call : Call) (outcome : Result Reply Fault) (calls : List Call) → IsFaithful h (call ∷ calls) → IsFaithful (followed h call outcome) calls
IsFaithful-rest h call outcome calls faithful =
    let regrouped : calls_of h.steps ++ call ∷ calls ≡ calls_of (followed h call outcome).steps ++ calls =
    sym (ap (λ cs. cs ++ calls) (map-append (λ (s : Turn). s.call) h.steps (record { call = call; outcome = outcome } ∷ [])) ∙ append_assoc (calls_of h.steps) (call ∷ []) calls) in
    record {
      bodies = faithful.bodies;
      apart = faithful.apart;
      opened = faithful.opened;
      delivered = λ body there. faithful.delivered body (subst (λ (cs : List Call). Contains (bodies_of cs) body) (sym regrouped) there);
    }

-- the last of outcomes is the one that comes after them
pub served_last : {K : Type 0} (g : Ghosts K) (k : K) (outcomes : List (Result Reply Fault)) (last : Result Reply Fault) → IsServed g k last → IsServedLast g k (outcomes ++ last ∷ [])
served_last g k [] last served = served
served_last g k (one ∷ []) last served = served
served_last g k (one ∷ two ∷ rest) last served = served_last g k (two ∷ rest) last served

module _ {K : Type 0} (g : Ghosts K) where
  -- a run, and calls after it that are a run after each history whose book is then kept
  pub IsRun-append : (h : History) (calls more : List Call) (outcomes others : List (Result Reply Fault)) (mid after : K)
      → IsRun g.may_fail h calls outcomes (g.is_open mid) (g.book mid)
      → ((later : History) → IsKept (g.is_open mid) (g.book mid) later → IsFaithful later more → IsRun g.may_fail later more others (g.is_open after) (g.book after))
      → IsFaithful h (calls ++ more) → IsRun g.may_fail h (calls ++ more) (outcomes ++ others) (g.is_open after) (g.book after)
  IsRun-append h [] more [] others mid after kept runs faithful = runs h kept faithful
  IsRun-append h (c ∷ cs) more (o ∷ os) others mid after (answered, run) runs faithful =
      (answered, IsRun-append (followed h c o) cs more os others mid after run runs (IsFaithful-rest h c o (cs ++ more) faithful))
  IsRun-append h [] more (o ∷ os) others mid after run runs faithful = absurd run
  IsRun-append h (c ∷ cs) more [] others mid after run runs faithful = absurd run

  -- no call is made
  pub does_none : (k : K) → DoesAll g k [] [] k
  does_none k h kept faithful clean = kept

  -- calls are made, and others after them
  pub does_append : (before mid after : K) (calls more : List Call) (outcomes others : List (Result Reply Fault)) → (g.is_clean after → g.is_clean mid)
      → DoesAll g before calls outcomes mid → DoesAll g mid more others after → DoesAll g before (calls ++ more) (outcomes ++ others) after
  does_append before mid after calls more outcomes others cleans first rest h kept faithful clean =
      IsRun-append h calls more outcomes others mid after (first h kept (IsFaithful-front h calls more faithful) (cleans clean)) (λ later stays holds. rest later stays holds clean) faithful

  pub does_one : (before after : K) (call : Call) (outcome : Result Reply Fault) → Does g before call outcome after → DoesAll g before (call ∷ []) (outcome ∷ []) after
  does_one before after call outcome does h kept faithful clean = let step = does h kept faithful clean in (step.answered, step.kept)

  -- what was left is the book of the history itself
  pub left_before : (h : History) (calls : List Call) (outcomes : List (Result Reply Fault)) (left : Option Book) → left ≡ Some (book_of h) → IsLeftAlong h calls outcomes left
  left_before h [] [] left is = is
  left_before h (c ∷ cs) (o ∷ os) left is = inl is
  left_before h [] (o ∷ os) left is = is
  left_before h (c ∷ cs) [] left is = is

  -- what may be left along some calls may be left along more
  pub left_front : (h : History) (calls more : List Call) (outcomes others : List (Result Reply Fault)) (left : Option Book) (mid : K)
      → IsRun g.may_fail h calls outcomes (g.is_open mid) (g.book mid) → IsLeftAlong h calls outcomes left → IsLeftAlong h (calls ++ more) (outcomes ++ others) left
  left_front h [] more [] others left mid run is = left_before h more others left is
  left_front h (c ∷ cs) more (o ∷ os) others left mid (answered, run) is = elim is [
    | inl same ↦ inl same
    | inr made ↦ inr (elim made [
      | inl whole ↦ inl whole
      | inr later ↦ inr (left_front (followed h c o) cs more os others left mid run later)
    ])
  ]
  left_front h [] more (o ∷ os) others left mid run is = absurd run
  left_front h (c ∷ cs) more [] others left mid run is = absurd run

  -- what is left along calls after others, if it was not left by these
  pub left_behind : (h : History) (calls more : List Call) (outcomes others : List (Result Reply Fault)) (left : Option Book) (mid : K) (P : Type 0)
      → IsRun g.may_fail h calls outcomes (g.is_open mid) (g.book mid)
      → ((later : History) → IsKept (g.is_open mid) (g.book mid) later → IsFaithful later more → P ⊎ IsLeftAlong later more others left)
      → IsFaithful h (calls ++ more) → P ⊎ IsLeftAlong h (calls ++ more) (outcomes ++ others) left
  left_behind h [] more [] others left mid P kept leaves faithful = leaves h kept faithful
  left_behind h (c ∷ cs) more (o ∷ os) others left mid P (answered, run) leaves faithful =
      elim (left_behind (followed h c o) cs more os others left mid P run leaves (IsFaithful-rest h c o (cs ++ more) faithful)) [ inl p ↦ inl p | inr is ↦ inr (inr (inr is)) ]
  left_behind h [] more (o ∷ os) others left mid P run leaves faithful = absurd run
  left_behind h (c ∷ cs) more [] others left mid P run leaves faithful = absurd run

  -- what is said of a crash in a call that leaves nothing half done, in a delivery that is stored piece by piece, and in a read is
  -- said of a call
  pub leaves_step : (before after : K) (call : Call) → LeavesStep g before call after → LeavesCall g before call after
  leaves_step before after call leaves h kept faithful clean left may = elim (leaves h kept faithful clean left may) [
    | inl was ↦ inl was
    | inr made ↦ inr (inr made)
  ]

  pub leaves_delivery : (before after : K) (name body : List ℕ) (moment : ℕ) → LeavesDelivery g before name body moment after → LeavesCall g before (Delivery name body moment) after
  leaves_delivery before after name body moment leaves h kept faithful clean left may = elim (leaves h kept clean left may) [
    | inl was ↦ inl was
    | inr made ↦ inr (elim made [
      | inl is ↦ inl is
      | inr whole ↦ inr (whole faithful)
    ])
  ]

  pub leaves_read : (before after : K) (call : Call) → Reads g before after → LeavesCall g before call after
  leaves_read before after call reads h kept faithful clean left may = inl (reads.crash clean left may)

  -- what a crash leaves during no calls, during one, and during calls and others after them
  pub leaves_none : (k : K) → LeavesRun g k [] [] k
  leaves_none k h kept faithful clean left may = inl may

  pub leaves_one : (before after : K) (call : Call) (outcome : Result Reply Fault) → LeavesCall g before call after → LeavesRun g before (call ∷ []) (outcome ∷ []) after
  leaves_one before after call outcome leaves h kept faithful clean left may = elim (leaves h kept faithful clean left may) [
    | inl was ↦ inl was
    | inr made ↦ inr (elim made [ inl same ↦ inl same | inr whole ↦ inr (inl whole) ])
  ]

  pub leaves_append : (before mid after : K) (calls more : List Call) (outcomes others : List (Result Reply Fault)) → (g.is_clean after → g.is_clean mid)
      → DoesAll g before calls outcomes mid → LeavesRun g before calls outcomes mid → LeavesRun g mid more others after
      → LeavesRun g before (calls ++ more) (outcomes ++ others) after
  leaves_append before mid after calls more outcomes others cleans does first rest h kept faithful clean left may =
      let front = IsFaithful-front h calls more faithful in
      let run = does h kept front (cleans clean) in
      elim (left_behind h calls more outcomes others left mid (g.may_leave mid left) run (λ later stays holds. rest later stays holds clean left may) faithful) [
        | inl was ↦ elim (first h kept front (cleans clean) left was) [ inl before ↦ inl before | inr is ↦ inr (left_front h calls more outcomes others left mid run is) ]
        | inr is ↦ inr is
      ]
