-- From what the checks of a head say to what it asks for.
use Rattle.std.proofs.Common.{◌≡◌, ℕ, Bool, true, false, not, if◌then◌else◌, List, map, take, Option, None, Some, Result, Ok, Err, refl, sym, subst, ◌∙◌, inl, inr, codes}
use Rattle.std.specs.Prelude.{string_bytes, ◌==◌, ◌&&◌, ◌||◌, nat_le, unwrap_or}
use Rattle.std.specs.List.{list_any}
use Rattle.std.specs.Str.{bytes_eq}
use Rattle.httparse.specs.Grammar.{RequestHead}
use Rattle.httparse.specs.Spans.{header_bytes, name_and_value, span_bytes, IsRequestAt}
use Rattle.httparse.specs.declared.spans.HeaderSpan.{HeaderSpan}
use Rattle.httparse.specs.declared.spans.RequestSpans.{RequestSpans}
use Rattle.desk.specs.declared.head.Refusal.{Refusal}
use Rattle.desk.specs.declared.head.Refusal.TheVariants.{BadRequest, NotFound, MethodNotAllowed, Forbidden, LengthRequired, PayloadTooLarge, HeadTooLarge, NotImplemented, OutOfMemory}
use Rattle.desk.specs.declared.routes.Route.{Route}
use Rattle.desk.specs.Want.{◌>>=◌, Want, delivery, queue_run, copying, fetching, waiting_list, cleaning, verdict_list, removing, promoting, asking, asked_at, content_length, may_ask, is_named, is_of_page, is_path, method_of, pass, wanted_by, with_length}
use Rattle.desk.specs.Request.{Gives, HeadAsks, IsHead}
use Rattle.sums.specs.FileNames.{is_file_name}
use Rattle.sums.specs.Lines.{most_size}
use Rattle.std.specs.Option.{option_map}
use Rattle.desk.specs.declared.routes.Rules.{Rules}

-- what is said of a result is said of it in other words
pub gives_map : {X Y : Type 0} (view : X → Y) (r : Result X Refusal) (P Q : Result Y Refusal → Type 0) → Gives view r P → ((x : Result Y Refusal) → P x → Q x) → Gives view r Q
gives_map view (Ok x) P Q h f = f (Ok (view x)) h
gives_map view (Err OutOfMemory) P Q h f = tt
gives_map view (Err BadRequest) P Q h f = f (Err BadRequest) h
gives_map view (Err NotFound) P Q h f = f (Err NotFound) h
gives_map view (Err (MethodNotAllowed m)) P Q h f = f (Err (MethodNotAllowed m)) h
gives_map view (Err Forbidden) P Q h f = f (Err Forbidden) h
gives_map view (Err LengthRequired) P Q h f = f (Err LengthRequired) h
gives_map view (Err PayloadTooLarge) P Q h f = f (Err PayloadTooLarge) h
gives_map view (Err HeadTooLarge) P Q h f = f (Err HeadTooLarge) h
gives_map view (Err NotImplemented) P Q h f = f (Err NotImplemented) h

-- a refusal that is handed on
pub gives_on : {X Y V W : Type 0} (view : X → Y) (other : V → W) (e : Refusal) (P : Result Y Refusal → Type 0) (Q : Result W Refusal → Type 0)
    → Gives view (Err e) P → (P (Err e) → Q (Err e)) → Gives other (Err e) Q
gives_on view other OutOfMemory P Q h f = tt
gives_on view other BadRequest P Q h f = f h
gives_on view other NotFound P Q h f = f h
gives_on view other (MethodNotAllowed m) P Q h f = f h
gives_on view other Forbidden P Q h f = f h
gives_on view other LengthRequired P Q h f = f h
gives_on view other PayloadTooLarge P Q h f = f h
gives_on view other HeadTooLarge P Q h f = f h
gives_on view other NotImplemented P Q h f = f h

pub gives_err : {X Y : Type 0} (view : X → Y) (e : Refusal) (Q : Result Y Refusal → Type 0) → Q (Err e) → Gives view (Err e) Q
gives_err view OutOfMemory Q h = tt
gives_err view BadRequest Q h = h
gives_err view NotFound Q h = h
gives_err view (MethodNotAllowed m) Q h = h
gives_err view Forbidden Q h = h
gives_err view LengthRequired Q h = h
gives_err view PayloadTooLarge Q h = h
gives_err view HeadTooLarge Q h = h
gives_err view NotImplemented Q h = h

-- the key that the rules of a desk name
abbrev pub key_of : Rules → Option (List ℕ)
key_of desk_rules = option_map string_bytes desk_rules.key

-- the parts that the spans cover
abbrev pub asked_by : Rules → List ℕ → List HeaderSpan → RequestSpans → Result Want Refusal
asked_by desk_rules head headers spans = wanted_by desk_rules.refuses_origin (option_map string_bytes desk_rules.key) (span_bytes head spans.method) (span_bytes head spans.path) (map (header_bytes head) (take spans.headers headers))

pub head_asks : (desk_rules : Rules) (head : List ℕ) (headers : List HeaderSpan) (spans : RequestSpans) (asked : Result Want Refusal)
    → (h : RequestHead) × IsHead head h × IsRequestAt head headers spans h → asked ≡ asked_by desk_rules head headers spans → HeadAsks desk_rules head asked
head_asks desk_rules head headers spans asked (h, is, at) e = inl (h, is, e ∙ rw (at.method, at.path, at.fields) refl)

module _ (refuses : Bool) (key : Option (List ℕ)) (method target : List ℕ) (fields : List (List ℕ × List ℕ)) where
  pub no_path : is_path target ≡ false → Err BadRequest ≡ wanted_by refuses key method target fields
  unfolding wanted_by
  no_path e = rw e refl

  pub coded : is_path target ≡ true → list_any (is_named (codes "transfer-encoding")) fields ≡ true → Err NotImplemented ≡ wanted_by refuses key method target fields
  unfolding wanted_by
  coded e t = rw (e, t) refl

  pub no_command : is_path target ≡ true → list_any (is_named (codes "transfer-encoding")) fields ≡ false → (r : Refusal) → Err r ≡ asked_at key target
      → Err r ≡ wanted_by refuses key method target fields
  unfolding wanted_by
  no_command e t r a = rw (e, t, ← a) refl

  pub other_method : is_path target ≡ true → list_any (is_named (codes "transfer-encoding")) fields ≡ false → (route : Route) (want : Want) → Ok (route, want) ≡ asked_at key target
      → (r : Refusal) → Err r ≡ pass (bytes_eq method (method_of route)) (MethodNotAllowed (method_of route)) → Err r ≡ wanted_by refuses key method target fields
  unfolding wanted_by
  other_method e t route want a r m = rw (e, t, ← a, ← m) refl

  abbrev pub IsOwn : Route → Type 0
  IsOwn route = Ok tt ≡ pass (not (refuses && is_of_page route fields)) Forbidden

  pub of_page : is_path target ≡ true → list_any (is_named (codes "transfer-encoding")) fields ≡ false → (route : Route) (want : Want) → Ok (route, want) ≡ asked_at key target
      → Ok tt ≡ pass (bytes_eq method (method_of route)) (MethodNotAllowed (method_of route)) → (r : Refusal)
      → Err r ≡ pass (not (refuses && is_of_page route fields)) Forbidden → Err r ≡ wanted_by refuses key method target fields
  unfolding wanted_by
  of_page e t route want a m r o = rw (e, t, ← a, ← m, ← o) refl

  pub no_length : is_path target ≡ true → list_any (is_named (codes "transfer-encoding")) fields ≡ false → (route : Route) (want : Want) → Ok (route, want) ≡ asked_at key target
      → Ok tt ≡ pass (bytes_eq method (method_of route)) (MethodNotAllowed (method_of route)) → IsOwn route → (r : Refusal) → Err r ≡ content_length fields
      → Err r ≡ wanted_by refuses key method target fields
  unfolding wanted_by
  no_length e t route want a m o r l = rw (e, t, ← a, ← m, ← o, ← l) refl

  pub all_pass : is_path target ≡ true → list_any (is_named (codes "transfer-encoding")) fields ≡ false → (route : Route) (want : Want) → Ok (route, want) ≡ asked_at key target
      → Ok tt ≡ pass (bytes_eq method (method_of route)) (MethodNotAllowed (method_of route)) → IsOwn route → (length : Option ℕ) → Ok length ≡ content_length fields
      → with_length want length ≡ wanted_by refuses key method target fields
  unfolding wanted_by
  all_pass e t route want a m o length l = rw (e, t, ← a, ← m, ← o, ← l) refl

-- ---- what a head may ask for

same_Ok : {X E : Type 0} (a b : X) → ◌≡◌ {A = Result X E} (Ok a) (Ok b) → a ≡ b
same_Ok a b e = cc

small_delivery : (name : List ℕ) (length : ℕ) (want : Want) (b : Bool) → (is_file_name name || nat_le length most_size) ≡ b → (if b then Ok (delivery name length) else Err PayloadTooLarge) ≡ Ok want
    → may_ask want ≡ true
small_delivery name length want true small is = subst (λ (w : Want). may_ask w ≡ true) (same_Ok (delivery name length) want is) small
small_delivery name length want false small is = absurd (cc)

small_other : (w want : Want) (b : Bool) → may_ask w ≡ true → (if b then Ok w else Err BadRequest) ≡ Ok want → may_ask want ≡ true
small_other w want true none is = subst (λ (x : Want). may_ask x ≡ true) (same_Ok w want is) none
small_other w want false none is = absurd (cc)

small_length : (w : Want) (length : Option ℕ) (want : Want) → with_length w length ≡ Ok want → may_ask want ≡ true
small_length (delivery name n) None want is = absurd (cc)
small_length (delivery name n) (Some length) want is = small_delivery name length want (is_file_name name || nat_le length most_size) refl is
small_length queue_run length want is = small_other queue_run want (unwrap_or length 0 == 0) refl is
small_length (copying a b c) length want is = small_other (copying a b c) want (unwrap_or length 0 == 0) refl is
small_length (fetching p k) length want is = small_other (fetching p k) want (unwrap_or length 0 == 0) refl is
small_length waiting_list length want is = small_other waiting_list want (unwrap_or length 0 == 0) refl is
small_length cleaning length want is = small_other cleaning want (unwrap_or length 0 == 0) refl is
small_length verdict_list length want is = small_other verdict_list want (unwrap_or length 0 == 0) refl is
small_length (removing a b) length want is = small_other (removing a b) want (unwrap_or length 0 == 0) refl is
small_length (promoting a b) length want is = small_other (promoting a b) want (unwrap_or length 0 == 0) refl is
small_length (asking q) length want is = small_other (asking q) want (unwrap_or length 0 == 0) refl is

small_behind : (right own : Bool) (e : Refusal) (w : Want) (length : Result (Option ℕ) Refusal) (want : Want)
    → (pass right e >>= (λ _. pass own Forbidden >>= (λ _. length >>= (λ n. with_length w n)))) ≡ Ok want → may_ask want ≡ true
small_behind false own e w length want is = absurd (cc)
small_behind true false e w length want is = absurd (cc)
small_behind true true e w (Err other) want is = absurd (cc)
small_behind true true e w (Ok n) want is = small_length w n want is

small_by : (path plain : Bool) (found : Result (Route × Want) Refusal) (right own : Route → Bool) (length : Result (Option ℕ) Refusal) (want : Want)
    → (pass path BadRequest >>= (λ _. pass plain NotImplemented >>= (λ _. found >>= (λ f. pass (right f.0) (MethodNotAllowed (method_of f.0))
    >>= (λ _. pass (own f.0) Forbidden >>= (λ _. length >>= (λ n. with_length f.1 n))))))) ≡ Ok want
    → may_ask want ≡ true
small_by false plain found right own length want is = absurd (cc)
small_by true false found right own length want is = absurd (cc)
small_by true true (Err e) right own length want is = absurd (cc)
small_by true true (Ok f) right own length want is = small_behind (right f.0) (own f.0) (MethodNotAllowed (method_of f.0)) f.1 length want is

small_wanted : (refuses : Bool) (key : Option (List ℕ)) (method target : List ℕ) (fields : List (List ℕ × List ℕ)) (want : Want) → wanted_by refuses key method target fields ≡ Ok want → may_ask want ≡ true
unfolding wanted_by
small_wanted refuses key method target fields want is =
    small_by (is_path target) (not (list_any (is_named (codes "transfer-encoding")) fields)) (asked_at key target) (λ r. bytes_eq method (method_of r))
    (λ r. not (refuses && is_of_page r fields)) (content_length fields) want is

pub small_body : (desk_rules : Rules) (head : List ℕ) (want : Want) → HeadAsks desk_rules head (Ok want) → may_ask want ≡ true
small_body desk_rules head want asked = elim asked [
  | inl it ↦ small_wanted desk_rules.refuses_origin (option_map string_bytes desk_rules.key) it.0.method it.0.target (map name_and_value it.0.fields) want (sym it.2)
  | inr none ↦ absurd (refused_asks none.1)
]
  where
    refused_asks : ◌≡◌ {A = Result Want Refusal} (Ok want) (Err BadRequest) → ⊥
    refused_asks e = absurd (cc)
