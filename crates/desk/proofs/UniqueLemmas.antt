-- A byte list has one request.
use Rattle.std.proofs.Common.{◌≡◌, ℕ, ◌+◌, ◌<◌, ◌≤◌, true, false, List, [], ◌∷◌, ◌++◌, Bool, ltb, Result, Ok, Err, length, take, drop, refl, sym, ap, subst, ◌∙◌, inl, inr, arith, append-nil, append_assoc, length-append, take-append-drop}
use Rattle.std.proofs.lemmas.Bool.{cases_lt}
use Rattle.std.proofs.lemmas.Bool.Decides.{nat_tests}
use Rattle.std.proofs.Math.Seq.{take-append_seam, drop-append_seam}
use Rattle.std.proofs.lemmas.List.{take-append-le, take_all}
use Rattle.httparse.proofs.GrammarLemmas.{request_unique}
use Rattle.desk.specs.declared.head.Refusal.{Refusal}
use Rattle.desk.specs.declared.head.Refusal.TheVariants.{BadRequest, HeadTooLarge}
use Rattle.desk.specs.Transfer.{IsBeginning, ends_head, NotEarlier}
use Rattle.desk.specs.Want.{Want, wanted}
use Rattle.desk.specs.Request.{Asked, nothing, refused, asks, HeadAsks, IsFirstHead, HasNoEnd, IsRequest, IsPartOfUsed, body_length}
use Rattle.desk.specs.declared.routes.Rules.{Rules}

module _ (desk_rules : Rules) where
  -- a head asks for one thing
  pub head_asks_one : (text : List ℕ) (a b : Result Want Refusal) → HeadAsks desk_rules text a → HeadAsks desk_rules text b → a ≡ b
  head_asks_one text a b (inl (h, is, e)) (inl (k, also, f)) =
      let same : h ≡ k = (request_unique text h k [] [] is.0 also.0).0 in
      e ∙ ap (wanted desk_rules) same ∙ sym f
  head_asks_one text a b (inl (h, is, e)) (inr (none, f)) = absurd (none h is)
  head_asks_one text a b (inr (none, e)) (inl (k, also, f)) = absurd (none k also)
  head_asks_one text a b (inr (none, e)) (inr (gone, f)) = e ∙ sym f

refused_asked : {X : Type 0} (want : Want) (e : Refusal) → Ok want ≡ Err e → X
refused_asked want e h = absurd (let no : Ok want ≡ Err e = h in grind arith)

-- the shorter of two beginnings of some bytes is a beginning of the longer
shorter_first : (bytes front r used s : List ℕ) → bytes ≡ front ++ r → bytes ≡ used ++ s → length front ≤ length used → take (length front) used ≡ front
shorter_first bytes front r used s e f h =
    sym (take-append-le (length front) used s h) ∙ ap (take (length front)) (sym f ∙ e) ∙ take-append_seam front r

pub begins : (bytes front r used s : List ℕ) → bytes ≡ front ++ r → bytes ≡ used ++ s → length front ≤ length used → IsBeginning front used
begins bytes front r used s e f h =
    (drop (length front) used, sym (take-append-drop (length front) used) ∙ ap (λ l. l ++ drop (length front) used) (shorter_first bytes front r used s e f h))

contrary : {X : Type 0} → true ≡ false → X
contrary h = absurd (let no : true ≡ false = h in grind arith)

-- bytes of which no beginning ends a head are no longer than a head at the beginning of these bytes
pub not_past_head : (bytes front r head s : List ℕ) → bytes ≡ front ++ r → bytes ≡ head ++ s → NotEarlier front → ends_head head ≡ true → length front ≤ length head
not_past_head bytes front r head s e f earlier ends =
    elim (cases_lt (length head) (length front)) [
      | inl below ↦
          let same = shorter_first bytes head s front r f e (omega arith) in
          contrary (sym ends ∙ ap ends_head (sym same) ∙ earlier (length head) below)
      | inr within ↦ within
    ]

same_length : (xs ys s r bytes : List ℕ) → bytes ≡ xs ++ s → bytes ≡ ys ++ r → length xs ≡ length ys → xs ≡ ys
same_length xs ys s r bytes e f h =
    sym (shorter_first bytes xs s ys r e f (omega arith)) ∙ ap (λ n. take n ys) h ∙ take_all (length ys) ys (omega arith)

-- bytes have one first head
pub one_head : (bytes a r b s : List ℕ) → bytes ≡ a ++ r → bytes ≡ b ++ s → IsFirstHead a → IsFirstHead b → a ≡ b
one_head bytes a r b s e f x y =
    let le = not_past_head bytes a r b s e f x.first y.ends in
    let ge = not_past_head bytes b s a r f e y.first x.ends in
    same_length a b r s bytes e f (omega arith)

no_bytes : (front r : List ℕ) → [] ≡ front ++ r → front ≡ []
no_bytes [] r e = refl
no_bytes (x ∷ front) r e = absurd (let n : length (x ∷ (front ++ r)) ≡ 0 = sym (ap length e) in omega arith)

front_of_all : (front bytes used r : List ℕ) → bytes ≡ front ++ r → used ≡ bytes → IsBeginning front used
front_of_all front bytes used r e u = (r, u ∙ e)

nothing_used : (front bytes used r : List ℕ) → bytes ≡ front ++ r → bytes ≡ [] → used ≡ [] → IsBeginning front used
nothing_used front bytes used r e n u =
    let empty = no_bytes front r (sym n ∙ e) in
    ([], u ∙ sym (ap (λ l. l ++ []) empty))

module _ (desk_rules : Rules) where
  -- a part of a head is a part of what is used
  pub head_part : (front : List ℕ) → NotEarlier front → length front ≤ 8192 → IsPartOfUsed desk_rules front
  head_part front earlier limit bytes used nothing (r, e) (n, u) = nothing_used front bytes used r e n u
  head_part front earlier limit bytes used (refused x) (r, e) (inl c) = front_of_all front bytes used r e c.used_is
  head_part front earlier limit bytes used (refused x) (r, e) (inr (inl c)) = let long = c.limit in begins bytes front r used c.rest e c.split (omega arith)
  head_part front earlier limit bytes used (refused x) (r, e) (inr (inr (inl c))) =
      begins bytes front r used c.rest e c.split (not_past_head bytes front r used c.rest e c.split earlier c.head.ends)
  head_part front earlier limit bytes used (refused x) (r, e) (inr (inr (inr c))) = front_of_all front bytes used r e c.used_is
  head_part front earlier limit bytes used (asks want body) (r, e) c =
      let split = c.split ∙ ap (λ l. l ++ c.rest) c.used_is ∙ append_assoc c.head body c.rest in
      let within = not_past_head bytes front r c.head (body ++ c.rest) e split earlier c.first.ends in
      let size : length used ≡ length c.head + length body = ap length c.used_is ∙ length-append c.head body in
      begins bytes front r used c.rest e c.split (omega arith)

-- a head with its end is no part of bytes that have none
ended : {X : Type 0} (bytes head s used r : List ℕ) → bytes ≡ head ++ s → bytes ≡ used ++ r → IsFirstHead head → HasNoEnd used → length head ≤ length used → X
ended bytes head s used r e f first (earlier, unended) h =
    let same = shorter_first bytes head s used r e f h in
    elim (cases_lt (length head) (length used)) [
      | inl below ↦ contrary (sym first.ends ∙ ap ends_head (sym same) ∙ earlier (length head) below)
      | inr above ↦ contrary (sym first.ends ∙ ap ends_head (sym same ∙ take_all (length head) used above) ∙ unended)
    ]

abbrev size_of : Result Want Refusal → ℕ
size_of (Ok w) = body_length w
size_of (Err x) = 0

module _ (desk_rules : Rules) where
  -- a whole head and a part of the body that is wanted are a part of what is used
  pub body_part : (head part : List ℕ) (want : Want) → IsFirstHead head → HeadAsks desk_rules head (Ok want) → length part ≤ body_length want → IsPartOfUsed desk_rules (head ++ part)
  body_part head part want first asked short bytes used nothing (r, e) (n, u) = nothing_used (head ++ part) bytes used r e n u
  body_part head part want first asked short bytes used (refused x) (r, e) (inl c) = front_of_all (head ++ part) bytes used r e c.used_is
  body_part head part want first asked short bytes used (refused x) (r, e) (inr (inl c)) =
      let long = c.limit in
      let small = first.limit in
      ended bytes head (part ++ r) used c.rest (e ∙ append_assoc head part r) c.split first c.unended (omega arith)
  body_part head part want first asked short bytes used (refused x) (r, e) (inr (inr (inl c))) =
      let same = one_head bytes head (part ++ r) used c.rest (e ∙ append_assoc head part r) c.split first c.head in
      refused_asked want x (head_asks_one desk_rules used (Ok want) (Err x) (rw same at asked) c.refusal)
  body_part head part want first asked short bytes used (refused x) (r, e) (inr (inr (inr c))) = front_of_all (head ++ part) bytes used r e c.used_is
  body_part head part want first asked short bytes used (asks other body) (r, e) c =
      let split = c.split ∙ ap (λ l. l ++ c.rest) c.used_is ∙ append_assoc c.head body c.rest in
      let same = one_head bytes head (part ++ r) c.head (body ++ c.rest) (e ∙ append_assoc head part r) split first c.first in
      let wants : Ok want ≡ Ok other = head_asks_one desk_rules c.head (Ok want) (Ok other) (rw same at asked) c.asked in
      let sizes : body_length want ≡ body_length other = ap size_of wants in
      let size : length used ≡ length c.head + length body = ap length c.used_is ∙ length-append c.head body in
      let front : length (head ++ part) ≡ length head + length part = length-append head part in
      let heads : length head ≡ length c.head = ap length same in
      let bodies = c.size in
      begins bytes (head ++ part) r used c.rest e c.split (omega arith)

-- ---- one request

-- how the head ends in the bytes of a connection
pub data Kind : Type 0 where
  empty : Kind
  cut : Kind
  long : Kind
  ends : (head : List ℕ) → Kind

abbrev IsKind : List ℕ → Kind → Type 0
IsKind bytes empty = bytes ≡ []
IsKind bytes cut = HasNoEnd bytes × (length bytes < 8192) × (0 < length bytes)
IsKind bytes long = (used : List ℕ) × (rest : List ℕ) × (bytes ≡ used ++ rest) × (length used ≡ 8192) × HasNoEnd used
IsKind bytes (ends head) = (rest : List ℕ) × (bytes ≡ head ++ rest) × IsFirstHead head

head_some : (head : List ℕ) → IsFirstHead head → 0 < length head
head_some [] f = contrary (sym f.ends)
head_some (x ∷ head) f = omega arith

not_empty : {X : Type 0} (bytes front rest : List ℕ) → bytes ≡ [] → bytes ≡ front ++ rest → 0 < length front → X
not_empty bytes front rest n e h =
    let size : length bytes ≡ length front + length rest = ap length e ∙ length-append front rest in
    let none : length bytes ≡ 0 = ap length n in
    absurd (omega arith)

cut_or_long : {X : Type 0} (bytes : List ℕ) → IsKind bytes cut → IsKind bytes long → X
cut_or_long bytes (unended, short, some) (used, rest, split, limit, none) =
    let size : length bytes ≡ length used + length rest = ap length split ∙ length-append used rest in
    absurd (omega arith)

cut_or_ends : {X : Type 0} (bytes head : List ℕ) → IsKind bytes cut → IsKind bytes (ends head) → X
cut_or_ends bytes head (unended, short, some) (rest, split, first) =
    let size : length bytes ≡ length head + length rest = ap length split ∙ length-append head rest in
    ended bytes head rest bytes [] split (sym (append-nil bytes)) first unended (omega arith)

long_or_ends : {X : Type 0} (bytes head : List ℕ) → IsKind bytes long → IsKind bytes (ends head) → X
long_or_ends bytes head (used, more, other, limit, unended) (rest, split, first) =
    let small = first.limit in
    ended bytes head rest used more split other first unended (omega arith)

one_kind : (bytes : List ℕ) (k l : Kind) → IsKind bytes k → IsKind bytes l → k ≡ l
one_kind bytes empty empty x y = refl
one_kind bytes empty cut x y = let no : length bytes ≡ 0 = ap length x in absurd (let some = y.2 in omega arith)
one_kind bytes empty long x (used, rest, split, limit, none) = not_empty bytes used rest x split (omega arith)
one_kind bytes empty (ends head) x (rest, split, first) = not_empty bytes head rest x split (head_some head first)
one_kind bytes cut empty x y = let no : length bytes ≡ 0 = ap length y in absurd (let some = x.2 in omega arith)
one_kind bytes cut cut x y = refl
one_kind bytes cut long x y = cut_or_long bytes x y
one_kind bytes cut (ends head) x y = cut_or_ends bytes head x y
one_kind bytes long empty (used, rest, split, limit, none) y = not_empty bytes used rest y split (omega arith)
one_kind bytes long cut x y = cut_or_long bytes y x
one_kind bytes long long x y = refl
one_kind bytes long (ends head) x y = long_or_ends bytes head x y
one_kind bytes (ends head) empty (rest, split, first) y = not_empty bytes head rest y split (head_some head first)
one_kind bytes (ends head) cut x y = cut_or_ends bytes head y x
one_kind bytes (ends head) long x y = long_or_ends bytes head y x
one_kind bytes (ends a) (ends b) (r, split, first) (s, other, also) = ap ends (one_head bytes a r b s split other first also)

abbrev with_body : List ℕ → List ℕ → Want → Bool → List ℕ × Asked
with_body bytes head want true = (bytes, refused BadRequest)
with_body bytes head want false = (take (length head + body_length want) bytes, asks want (take (body_length want) (drop (length head) bytes)))

-- what is used, and what is asked
abbrev outcome : List ℕ → Kind → Result Want Refusal → List ℕ × Asked
outcome bytes empty r = ([], nothing)
outcome bytes cut r = (bytes, refused BadRequest)
outcome bytes long r = (take 8192 bytes, refused HeadTooLarge)
outcome bytes (ends head) (Err e) = (head, refused e)
outcome bytes (ends head) (Ok want) = with_body bytes head want (ltb (length bytes) (length head + body_length want))

module _ (desk_rules : Rules) where
  -- what the head asks for, if it ends
  abbrev Asks : Kind → Result Want Refusal → Type 0
  Asks empty r = r ≡ Err BadRequest
  Asks cut r = r ≡ Err BadRequest
  Asks long r = r ≡ Err BadRequest
  Asks (ends head) r = HeadAsks desk_rules head r

  one_asked : (k : Kind) (r s : Result Want Refusal) → Asks k r → Asks k s → r ≡ s
  one_asked empty r s x y = x ∙ sym y
  one_asked cut r s x y = x ∙ sym y
  one_asked long r s x y = x ∙ sym y
  one_asked (ends head) r s x y = head_asks_one desk_rules head r s x y

  record IsNormal (bytes used : List ℕ) (asked : Asked) : Type 0 where
    kind : Kind
    is_kind : IsKind bytes kind
    result : Result Want Refusal
    is_asked : Asks kind result
    outcome_is : (used, asked) ≡ outcome bytes kind result

  normal : (bytes used : List ℕ) (asked : Asked) → IsRequest desk_rules bytes used asked → IsNormal bytes used asked
  normal bytes used nothing (n, u) = record { kind = empty; is_kind = n; result = Err BadRequest; is_asked = refl; outcome_is = ap (λ l. (l, nothing)) u }
  normal bytes used (refused e) (inl c) = record {
    kind = cut;
    is_kind = (c.unended, c.short, c.some);
    result = Err BadRequest;
    is_asked = refl;
    outcome_is = ap (λ l. (l, refused e)) c.used_is ∙ ap (λ x. (bytes, refused x)) c.refusal;
  }
  normal bytes used (refused e) (inr (inl c)) =
      let front : take 8192 bytes ≡ used = ap (take 8192) c.split ∙ ap (λ n. take n (used ++ c.rest)) (sym c.limit) ∙ take-append_seam used c.rest in
      record {
        kind = long;
        is_kind = (used, c.rest, c.split, c.limit, c.unended);
        result = Err BadRequest;
        is_asked = refl;
        outcome_is = ap (λ l. (l, refused e)) (sym front) ∙ ap (λ x. (take 8192 bytes, refused x)) c.refusal;
      }
  normal bytes used (refused e) (inr (inr (inl c))) =
      record { kind = ends used; is_kind = (c.rest, c.split, c.head); result = Err e; is_asked = c.refusal; outcome_is = refl }
  normal bytes used (refused e) (inr (inr (inr c))) =
      let size : length bytes ≡ length c.head + length c.body = ap length c.split ∙ length-append c.head c.body in
      let fewer = c.short in
      let short : ltb (length bytes) (length c.head + body_length c.want) ≡ true = grind (arith, nat_tests) in
      record {
        kind = ends c.head;
        is_kind = (c.body, c.split, c.first);
        result = Ok c.want;
        is_asked = c.asked;
        outcome_is = ap (λ l. (l, refused e)) c.used_is ∙ ap (λ x. (bytes, refused x)) c.refusal ∙ sym (ap (with_body bytes c.head c.want) short);
      }
  normal bytes used (asks want body) c =
      let split : bytes ≡ c.head ++ (body ++ c.rest) = c.split ∙ ap (λ l. l ++ c.rest) c.used_is ∙ append_assoc c.head body c.rest in
      let whole : length used ≡ length c.head + body_length want = ap length c.used_is ∙ length-append c.head body ∙ ap (λ n. length c.head + n) c.size in
      let size : length bytes ≡ length used + length c.rest = ap length c.split ∙ length-append used c.rest in
      let long : ltb (length bytes) (length c.head + body_length want) ≡ false = grind (arith, nat_tests) in
      let front : take (length c.head + body_length want) bytes ≡ used =
      ap (λ n. take n bytes) (sym whole) ∙ ap (take (length used)) c.split ∙ take-append_seam used c.rest in
      let behind : take (body_length want) (drop (length c.head) bytes) ≡ body =
      ap (λ l. take (body_length want) (drop (length c.head) l)) split ∙ ap (take (body_length want)) (drop-append_seam c.head (body ++ c.rest))
      ∙ ap (λ n. take n (body ++ c.rest)) (sym c.size) ∙ take-append_seam body c.rest in
      record {
        kind = ends c.head;
        is_kind = (body ++ c.rest, split, c.first);
        result = Ok want;
        is_asked = c.asked;
        outcome_is = ap (λ l. (l, asks want body)) (sym front)
            ∙ ap (λ b. (take (length c.head + body_length want) bytes, asks want b)) (sym behind)
            ∙ sym (ap (with_body bytes c.head want) long);
      }

  pub one_request : (bytes used more : List ℕ) (asked other : Asked) → IsRequest desk_rules bytes used asked → IsRequest desk_rules bytes more other → (more ≡ used) × (other ≡ asked)
  one_request bytes used more asked other x y =
      let a = normal bytes used asked x in
      let b = normal bytes more other y in
      let kinds = one_kind bytes b.kind a.kind b.is_kind a.is_kind in
      let results = one_asked a.kind b.result a.result (subst (λ k. Asks k b.result) kinds b.is_asked) a.is_asked in
      let same = b.outcome_is ∙ ap (λ k. outcome bytes k b.result) kinds ∙ ap (outcome bytes a.kind) results ∙ sym a.outcome_is in
      (ap (λ p. p.0) same, ap (λ p. p.1) same)
