-- Lemmas on the fields of a head, its target and its parameters' texts.
use Rattle.std.proofs.Common.{◌≡◌, ℕ, ◌+◌, ◌-◌, ◌*◌, ◌<◌, ◌≤◌, ◌||◌, ◌==◌, Bool, true, false, List, [], ◌∷◌, map, drop, take, length, get_or, Option, None, Some, is_some, Result, Ok, Err, codes, refl, sym, ap, ◌∙◌, rules, arith, if◌then◌else◌}
use Rattle.std.proofs.lemmas.Bool.Decides.{nat_tests}
use Rattle.std.proofs.lemmas.List.{drop_more}
use Rattle.std.proofs.lemmas.Str.{is_utf8-from_IsUtf8, IsUtf8-from_is_utf8}
use Rattle.std.proofs.lemmas.List.Folds.{list_all_at}
use Rattle.std.proofs.lemmas.Int.Digits.{digits_value_more}
use Rattle.std.proofs.lemmas.Str.Parse.{digits_value-take-le, digits_value_short, IsNumeralModel}
use Rattle.std.specs.List.{filter, list_any, list_all}
use Rattle.std.specs.Char.{is_ascii_digit, digit_value}
use Rattle.std.specs.Str.{IsUtf8, is_utf8}
use Rattle.std.specs.Str.Parse.{digits_value, AllDigits}
use Rattle.httparse.specs.Spans.{header_bytes}
use Rattle.httparse.specs.declared.spans.HeaderSpan.{HeaderSpan}
use Rattle.percent_encoding.specs.Percent.{percent_decode}
use Rattle.desk.specs.declared.head.Refusal.{Refusal}
use Rattle.desk.specs.declared.head.Refusal.TheVariants.{BadRequest}
use Rattle.desk.specs.Want.{decoded, is_named, is_path, one_length, length_value}
use Rattle.sums.proofs.Booleans.{both}
use Rattle.sums.proofs.Digits.{all_digits}

-- a path begins with a slash
pub first_slash : (target : List ℕ) → is_path target ≡ true → get_or target 0 0 ≡ 47
first_slash target h =
    let p = both (get_or target 0 0 == 47) _ h in
    let first = p.0 in
    grind (arith, nat_tests)

pub path_some : (target : List ℕ) → is_path target ≡ true → 0 < length target
path_some [] h = let no : false ≡ true = h in grind arith
path_some (b ∷ target) h = omega arith

-- what a test finds at the place where a loop stands
pub named_at : (name head : List ℕ) (fields : List HeaderSpan) (i : ℕ) (d : HeaderSpan) (b : Bool) → i < length fields → is_named name (header_bytes head (get_or fields i d)) ≡ b
    → list_any (is_named name) (map (header_bytes head) (drop i fields)) ≡ (b || list_any (is_named name) (map (header_bytes head) (drop (i + 1) fields)))
named_at name head fields i d b within e = rw (drop_more fields i d within, e) refl

-- ---- a decoded text

pub decoded_ok : (escaped text : List ℕ) → text ≡ percent_decode escaped → IsUtf8 text → Ok text ≡ decoded escaped
decoded_ok escaped text e u =
    let good : is_utf8 (percent_decode escaped) ≡ true = ap is_utf8 (sym e) ∙ is_utf8-from_IsUtf8 text u in
    rw (good, e) refl

bad_text : (text : List ℕ) (b : Bool) → is_utf8 text ≡ b → (IsUtf8 text → ⊥) → is_utf8 text ≡ false
bad_text text false e n = e
bad_text text true e n = absurd (n (IsUtf8-from_is_utf8 text e))

pub decoded_err : (escaped text : List ℕ) → text ≡ percent_decode escaped → (IsUtf8 text → ⊥) → Err BadRequest ≡ decoded escaped
decoded_err escaped text e n =
    let bad : is_utf8 (percent_decode escaped) ≡ false = ap is_utf8 (sym e) ∙ bad_text text (is_utf8 text) refl n in
    rw bad refl

-- ---- Content-Length

-- the values of the fields named Content-Length
abbrev pub lengths : List (List ℕ × List ℕ) → List (List ℕ)
lengths fields = map (λ f. f.1) (filter (is_named (codes "content-length")) fields)

-- what the fields give after those that were read
abbrev pub length_after : Option ℕ → List (List ℕ) → Result (Option ℕ) Refusal
length_after None rest = one_length rest
length_after (Some n) [] = Ok (Some n)
length_after (Some n) (v ∷ rest) = Err BadRequest

pub other_field : (found : Option ℕ) (f : List ℕ × List ℕ) (rest : List (List ℕ × List ℕ)) → is_named (codes "content-length") f ≡ false
    → length_after found (lengths (f ∷ rest)) ≡ length_after found (lengths rest)
other_field found f rest e = rw e refl

first_length : (v : List ℕ) (n : ℕ) (rest : List (List ℕ)) → length_value v ≡ Ok n → length_after None (v ∷ rest) ≡ length_after (Some n) rest
first_length v n [] h = rw h refl
first_length v n (x ∷ rest) h = refl

pub length_field : (f : List ℕ × List ℕ) (rest : List (List ℕ × List ℕ)) (n : ℕ) → is_named (codes "content-length") f ≡ true → length_value f.1 ≡ Ok n
    → length_after None (lengths (f ∷ rest)) ≡ length_after (Some n) (lengths rest)
length_field f rest n e h = rw e (first_length f.1 n (lengths rest) h)

pub second_field : (n : ℕ) (f : List ℕ × List ℕ) (rest : List (List ℕ × List ℕ)) → is_named (codes "content-length") f ≡ true
    → length_after (Some n) (lengths (f ∷ rest)) ≡ Err BadRequest
second_field n f rest e = rw e refl

abbrev refusal_of : Result ℕ Refusal → Refusal
refusal_of (Ok n) = BadRequest
refusal_of (Err e) = e

one_refusal : (b : Bool) (n : ℕ) → refusal_of (if b then Ok n else Err BadRequest) ≡ BadRequest
one_refusal true n = refl
one_refusal false n = refl

-- a length is refused as a bad request alone
pub bad_length : (v : List ℕ) (e : Refusal) → length_value v ≡ Err e → e ≡ BadRequest
bad_length v e h = sym (ap refusal_of h) ∙ one_refusal _ (digits_value 10 v)

first_refused : (v : List ℕ) (rest : List (List ℕ)) → length_value v ≡ Err BadRequest → one_length (v ∷ rest) ≡ Err BadRequest
first_refused v [] h = rw h refl
first_refused v (x ∷ rest) h = refl

pub refused_field : (f : List ℕ × List ℕ) (rest : List (List ℕ × List ℕ)) (e : Refusal) → is_named (codes "content-length") f ≡ true → length_value f.1 ≡ Err e
    → length_after None (lengths (f ∷ rest)) ≡ Err e
refused_field f rest e named h =
    let is = bad_length f.1 e h in
    let bad : length_value f.1 ≡ Err BadRequest = h ∙ ap Err is in
    rw (named, is) (first_refused f.1 (lengths rest) bad)

second_found : (found : Option ℕ) (f : List ℕ × List ℕ) (rest : List (List ℕ × List ℕ)) → is_some found ≡ true → is_named (codes "content-length") f ≡ true
    → length_after found (lengths (f ∷ rest)) ≡ Err BadRequest
second_found None f rest h e = let no : false ≡ true = h in grind arith
second_found (Some n) f rest h e = second_field n f rest e

refused_found : (found : Option ℕ) (f : List ℕ × List ℕ) (rest : List (List ℕ × List ℕ)) (r : Refusal) → is_some found ≡ false → is_named (codes "content-length") f ≡ true
    → length_value f.1 ≡ Err r → length_after found (lengths (f ∷ rest)) ≡ Err r
refused_found None f rest r h e v = refused_field f rest r e v
refused_found (Some n) f rest r h e v = let no : true ≡ false = h in grind arith

length_at : (head : List ℕ) (fields : List HeaderSpan) (i : ℕ) (d : HeaderSpan) (found : Option ℕ) → i < length fields
    → length_after found (lengths (map (header_bytes head) (drop i fields)))
    ≡ length_after found (lengths (header_bytes head (get_or fields i d) ∷ map (header_bytes head) (drop (i + 1) fields)))
length_at head fields i d found within = ap (λ fs. length_after found (lengths (map (header_bytes head) fs))) (drop_more fields i d within)

-- a second field of that name, at the place where a loop stands
pub second_at : (head : List ℕ) (fields : List HeaderSpan) (i : ℕ) (d : HeaderSpan) (found : Option ℕ) → i < length fields
    → is_named (codes "content-length") (header_bytes head (get_or fields i d)) ≡ true → is_some found ≡ true
    → length_after found (lengths (map (header_bytes head) (drop i fields))) ≡ Err BadRequest
second_at head fields i d found within named some =
    length_at head fields i d found within ∙ second_found found (header_bytes head (get_or fields i d)) (map (header_bytes head) (drop (i + 1) fields)) some named

-- a first one whose value is refused
pub refused_at : (head : List ℕ) (fields : List HeaderSpan) (i : ℕ) (d : HeaderSpan) (found : Option ℕ) (r : Refusal) → i < length fields
    → is_named (codes "content-length") (header_bytes head (get_or fields i d)) ≡ true → is_some found ≡ false
    → length_value (header_bytes head (get_or fields i d)).1 ≡ Err r
    → length_after found (lengths (map (header_bytes head) (drop i fields))) ≡ Err r
refused_at head fields i d found r within named none value =
    length_at head fields i d found within ∙ refused_found found (header_bytes head (get_or fields i d)) (map (header_bytes head) (drop (i + 1) fields)) r none named value

-- ---- digits

-- a byte that is a digit is what its value says
pub digit_byte : (text : List ℕ) (i : ℕ) → list_all is_ascii_digit text ≡ true → i < length text → (48 ≤ get_or text i 0) × (get_or text i 0 ≤ 57) × (digit_value (get_or text i 0) ≡ get_or text i 0 - 48)
digit_byte text i h within = by (is_ascii_digit (get_or text i 0)) refl
  where
    range : (c : ℕ) → is_ascii_digit c ≡ true → (48 ≤ c) × (c ≤ 57) × (digit_value c ≡ c - 48)
    range c e = (grind (arith, nat_tests), grind (arith, nat_tests), grind (arith, nat_tests))

    by : (b : Bool) → is_ascii_digit (get_or text i 0) ≡ b → (48 ≤ get_or text i 0) × (get_or text i 0 ≤ 57) × (digit_value (get_or text i 0) ≡ get_or text i 0 - 48)
    by true e = range (get_or text i 0) e
    by false e = let no : true ≡ false = sym h ∙ list_all_at is_ascii_digit text i 0 within e in grind arith

-- ten digits or fewer are a number of ten digits
pub digits_small : (text : List ℕ) → list_all is_ascii_digit text ≡ true → length text ≤ 10 → digits_value 10 text < 10000000000
digits_small text h few = digits_value_short own text 10 (all_digits text h) few
  where
    own : IsNumeralModel (AllDigits 10) (digits_value 10)
    own = search rules

-- the digits so far, and the next
pub digits_so_far : (text : List ℕ) (i : ℕ) → list_all is_ascii_digit text ≡ true → length text ≤ 10 → i < length text
    → digits_value 10 (take i text) * 10 + (get_or text i 0 - 48) < 10000000000
digits_so_far text i h few within =
    let next : digits_value 10 (take (i + 1) text) ≡ digits_value 10 (take i text) * 10 + digit_value (get_or text i 0) = digits_value_more 10 text i within in
    let small = digits_small text h few in
    let part : digits_value 10 (take (i + 1) text) ≤ digits_value 10 text = digits_value-take-le 10 text (i + 1) (omega arith) in
    let value = (digit_byte text i h within).2 in
    omega arith

pub next_digit : (text : List ℕ) (i : ℕ) → list_all is_ascii_digit text ≡ true → i < length text
    → digits_value 10 (take i text) * 10 + (get_or text i 0 - 48) ≡ digits_value 10 (take (i + 1) text)
next_digit text i h within =
    let value = (digit_byte text i h within).2 in
    sym (digits_value_more 10 text i within ∙ ap (λ d. digits_value 10 (take i text) * 10 + d) value)
