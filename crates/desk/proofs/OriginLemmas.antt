-- What a page in a browser may ask for.
use Rattle.std.proofs.Common.{◌≡◌, ℕ, Bool, true, false, ◌&&◌, not, if◌then◌else◌, List, Option, None, Some, Result, Ok, Err, codes, refl, subst}
use Rattle.std.specs.Prelude.{◌==◌, drop, unwrap_or}
use Rattle.std.specs.Str.{bytes_eq}
use Rattle.std.specs.List.{list_any}
use Rattle.matchit.specs.Router.{RouteOf}
use Rattle.matchit.specs.Seek.{first}
use Rattle.desk.specs.declared.head.Refusal.{Refusal}
use Rattle.desk.specs.declared.head.Refusal.TheVariants.{BadRequest, Forbidden, MethodNotAllowed, NotImplemented}
use Rattle.desk.specs.declared.routes.Route.{Route}
use Rattle.desk.specs.declared.routes.Route.TheVariants as at
use Rattle.desk.specs.Want.{◌>>=◌, Want, delivery, queue_run, copying, fetching, waiting_list, cleaning, verdict_list, removing, promoting, asking, asked_at, asked_by, at_question, beside, changes, content_length, decoded, is_look_up, is_named, is_of_page, is_path, method_of, parameters, pass, questioned, routes, wanted_at, wanted_by, with_length}
use Rattle.telling.specs.Told.{Asking}

-- without a field Origin no page asks
no_page : (route : Route) (fields : List (List ℕ × List ℕ)) → list_any (is_named (codes "origin")) fields ≡ false → is_of_page route fields ≡ false
no_page route fields none = by (changes route)
  where
    by : (b : Bool) → (b && list_any (is_named (codes "origin")) fields) ≡ false
    by true = none
    by false = refl

-- what follows the route, once the desk refuses what pages ask for, and once it does not
abbrev rest_of : Bool → Bool → (Route → Bool) → Result (Option ℕ) Refusal → Route × Want → Result Want Refusal
rest_of refuses right page length found = do
  _ ← pass right (MethodNotAllowed (method_of found.0))
  _ ← pass (not (refuses && page found.0)) Forbidden
  n ← length
  with_length found.1 n

same_rest : (right : Bool) (page : Route → Bool) (length : Result (Option ℕ) Refusal) (found : Route × Want) → page found.0 ≡ false → rest_of true right page length found ≡ rest_of false right page length found
same_rest right page length found none = rw none refl

same_by : (path plain : Bool) (found : Result (Route × Want) Refusal) (right page : Route → Bool) (length : Result (Option ℕ) Refusal) → ((r : Route) → page r ≡ false)
    → (pass path BadRequest >>= (λ _. pass plain NotImplemented >>= (λ _. found >>= (λ f. rest_of true (right f.0) page length f))))
    ≡ (pass path BadRequest >>= (λ _. pass plain NotImplemented >>= (λ _. found >>= (λ f. rest_of false (right f.0) page length f))))
same_by false plain found right page length none = refl
same_by true false found right page length none = refl
same_by true true (Err e) right page length none = refl
same_by true true (Ok f) right page length none = same_rest (right f.0) page length f (none f.0)

pub as_before : (key : Option (List ℕ)) (method target : List ℕ) (fields : List (List ℕ × List ℕ)) → list_any (is_named (codes "origin")) fields ≡ false → wanted_by true key method target fields ≡ wanted_by false key method target fields
unfolding wanted_by
as_before key method target fields none =
    same_by (is_path target) (not (list_any (is_named (codes "transfer-encoding")) fields)) (asked_at key target) (λ r. bytes_eq method (method_of r)) (λ r. is_of_page r fields) (content_length fields)
    (λ r. no_page r fields none)

-- ---- what has a field Origin

-- a route that changes nothing has a want that changes nothing
found_look_up : (name : Result (List ℕ) Refusal) (is_pool : Bool) (want : Want) → (name >>= (λ n. Ok (fetching n is_pool))) ≡ Ok want → is_look_up want ≡ true
found_look_up (Ok n) is_pool want is = subst (λ (w : Want). is_look_up w ≡ true) (same_want (fetching n is_pool) want is) refl
  where
    same_want : (a b : Want) → ◌≡◌ {A = Result Want Refusal} (Ok a) (Ok b) → a ≡ b
    same_want a b e = cc
found_look_up (Err e) is_pool want is = absurd (cc)

same_want : (a b : Want) → ◌≡◌ {A = Result Want Refusal} (Ok a) (Ok b) → a ≡ b
same_want a b e = cc

route_looks_up : (route : Route) (taken : List (List ℕ × List ℕ)) (path : List ℕ) (want : Want) → changes route ≡ false → wanted_at route taken path ≡ Ok want → is_look_up want ≡ true
route_looks_up at.Deliver taken path want still is = absurd (cc)
route_looks_up at.Run taken path want still is = absurd (cc)
route_looks_up at.Copy taken path want still is = absurd (cc)
route_looks_up at.Waiting taken path want still is = subst (λ (w : Want). is_look_up w ≡ true) (same_want waiting_list want is) refl
route_looks_up at.Verdicts taken path want still is = subst (λ (w : Want). is_look_up w ≡ true) (same_want verdict_list want is) refl
route_looks_up at.Dists taken path want still is = found_look_up (decoded (drop 1 path)) false want is
route_looks_up at.Pool taken path want still is = found_look_up (decoded (drop 1 path)) true want is
route_looks_up at.Remove taken path want still is = absurd (cc)
route_looks_up at.Clean taken path want still is = absurd (cc)
route_looks_up at.Promote taken path want still is = absurd (cc)
route_looks_up at.Question taken path want still is = absurd (cc)

beside_is : (route : Route) (wanted : Result Want Refusal) (found : Route × Want) → beside route wanted ≡ Ok found → (found.0 ≡ route) × (wanted ≡ Ok found.1)
beside_is route (Ok want) found is = (same_first (route, want) found is, same_second (route, want) found is)
  where
    same_first : (a b : Route × Want) → ◌≡◌ {A = Result (Route × Want) Refusal} (Ok a) (Ok b) → b.0 ≡ a.0
    same_first a b e = let same : a ≡ b = cc in subst (λ (x : Route × Want). x.0 ≡ a.0) same refl

    same_second : (a b : Route × Want) → ◌≡◌ {A = Result (Route × Want) Refusal} (Ok a) (Ok b) → ◌≡◌ {A = Result Want Refusal} (Ok a.1) (Ok b.1)
    same_second a b e = let same : a ≡ b = cc in subst (λ (x : Route × Want). ◌≡◌ {A = Result Want Refusal} (Ok a.1) (Ok x.1)) same refl
beside_is route (Err e) found is = absurd (cc)

question_looks_up : (question : Result Asking Refusal) (found : Route × Want) → at_question question ≡ Ok found → is_look_up found.1 ≡ true
question_looks_up (Ok question) found is = subst (λ (f : Route × Want). is_look_up f.1 ≡ true) (same_found (at.Question, asking question) found is) refl
  where
    same_found : (a b : Route × Want) → ◌≡◌ {A = Result (Route × Want) Refusal} (Ok a) (Ok b) → a ≡ b
    same_found a b e = cc
question_looks_up (Err e) found is = absurd (cc)

asked_looks_up : (key : Option (List ℕ)) (path : List ℕ) (row : Option (RouteOf Route)) (found : Route × Want) → changes found.0 ≡ false → asked_by key path row ≡ Ok found → is_look_up found.1 ≡ true
asked_looks_up key path None found still is = question_looks_up (questioned key path) found is
asked_looks_up key path (Some row) found still is =
    let p = beside_is row.value (wanted_at row.value (parameters row path) path) found is in
    route_looks_up row.value (parameters row path) path found.1 (subst (λ (r : Route). changes r ≡ false) p.0 still) p.1

-- a want with its length is the want that was found, or a delivery
kept_other : (w want : Want) (b : Bool) → is_look_up w ≡ true → (if b then Ok w else Err BadRequest) ≡ Ok want → is_look_up want ≡ true
kept_other w want true look is = subst (λ (x : Want). is_look_up x ≡ true) (same_want w want is) look
kept_other w want false look is = absurd (cc)

length_looks_up : (w : Want) (length : Option ℕ) (want : Want) → is_look_up w ≡ true → with_length w length ≡ Ok want → is_look_up want ≡ true
length_looks_up (delivery name n) length want look is = absurd (cc)
length_looks_up queue_run length want look is = absurd (cc)
length_looks_up (copying a b c) length want look is = absurd (cc)
length_looks_up (fetching p k) length want look is = kept_other (fetching p k) want (unwrap_or length 0 == 0) refl is
length_looks_up waiting_list length want look is = kept_other waiting_list want (unwrap_or length 0 == 0) refl is
length_looks_up cleaning length want look is = absurd (cc)
length_looks_up verdict_list length want look is = kept_other verdict_list want (unwrap_or length 0 == 0) refl is
length_looks_up (removing a b) length want look is = absurd (cc)
length_looks_up (promoting a b) length want look is = absurd (cc)
length_looks_up (asking q) length want look is = kept_other (asking q) want (unwrap_or length 0 == 0) refl is

rest_looks_up : (right changing origin : Bool) (length : Result (Option ℕ) Refusal) (found : Route × Want) (want : Want) → changes found.0 ≡ changing → origin ≡ true
    → (changes found.0 ≡ false → is_look_up found.1 ≡ true)
    → (pass right (MethodNotAllowed (method_of found.0)) >>= (λ _. pass (not (true && (changing && origin))) Forbidden >>= (λ _. length >>= (λ n. with_length found.1 n)))) ≡ Ok want
    → is_look_up want ≡ true
rest_looks_up false changing origin length found want c o look is = absurd (cc)
rest_looks_up true true true length found want c o look is = absurd (cc)
rest_looks_up true changing false length found want c o look is = absurd (cc)
rest_looks_up true false true (Err e) found want c o look is = absurd (cc)
rest_looks_up true false true (Ok n) found want c o look is = length_looks_up found.1 n want (look c) is

by_checks : (path plain origin : Bool) (found : Result (Route × Want) Refusal) (right : Route → Bool) (length : Result (Option ℕ) Refusal) (want : Want) → origin ≡ true
    → ((f : Route × Want) → found ≡ Ok f → changes f.0 ≡ false → is_look_up f.1 ≡ true)
    → (pass path BadRequest >>= (λ _. pass plain NotImplemented >>= (λ _. found >>= (λ f. pass (right f.0) (MethodNotAllowed (method_of f.0))
    >>= (λ _. pass (not (true && (changes f.0 && origin))) Forbidden >>= (λ _. length >>= (λ n. with_length f.1 n))))))) ≡ Ok want
    → is_look_up want ≡ true
by_checks false plain origin found right length want o look is = absurd (cc)
by_checks true false origin found right length want o look is = absurd (cc)
by_checks true true origin (Err e) right length want o look is = absurd (cc)
by_checks true true origin (Ok f) right length want o look is = rest_looks_up (right f.0) (changes f.0) origin length f want refl o (look f refl) is

pub nothing_changes : (key : Option (List ℕ)) (method target : List ℕ) (fields : List (List ℕ × List ℕ)) (want : Want) → list_any (is_named (codes "origin")) fields ≡ true → wanted_by true key method target fields ≡ Ok want → is_look_up want ≡ true
unfolding wanted_by
nothing_changes key method target fields want one is =
    by_checks (is_path target) (not (list_any (is_named (codes "transfer-encoding")) fields)) (list_any (is_named (codes "origin")) fields) (asked_at key target) (λ r. bytes_eq method (method_of r)) (content_length fields) want one
    (λ f found still. asked_looks_up key target (first routes target) f still found) is
