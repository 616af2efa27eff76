-- A text gives what it spells, or its fault.
use Rattle.std.proofs.Common.{◌≡◌, ◌≢◌, ◌≤◌, ◌⊎◌, inl, inr, ℕ, false, not, List, [], ◌∷◌, length, map, get_or, Option, Some, None, Ok, Err, refl, sym, ◌∙◌, ap, subst, arith, nat_lt, if◌then◌else◌}
use Rattle.std.proofs.lemmas.Bool.Decides.{nat_tests}
use Rattle.std.proofs.lemmas.List.{length-map}
use Rattle.std.proofs.lemmas.Str.{IsUtf8-from_is_utf8}
use Rattle.std.specs.Str.{IsUtf8, is_utf8}
use Rattle.para.specs.declared.fault.ParaFault.{ParaFault}
use Rattle.para.specs.declared.fault.ParaFault.TheVariants.{OutOfMemory, NotUtf8, RefusedByte, BadName, NoColon, NoField, BlankLine, FieldTwice, NoParagraph, SeveralParagraphs, TooLong}
use Rattle.para.specs.Bytes.{is_nil}
use Rattle.para.specs.Fault.{first_fault, groups, many_fault, one_fault, IsRefusal}
use Rattle.para.specs.Fields.{Fields, fields_of, unless_fault, paragraphs_in, fields_in}
use Rattle.para.specs.Grammar.{lines, Spells}
use Rattle.para.specs.Reading.{unless}
use Rattle.para.proofs.Lines.{not_false}
use Rattle.para.proofs.LineKinds.{guard_none, or_else_none}
use Rattle.para.proofs.Rest.{faults_from, values_of, first_fault-is}
use Rattle.para.proofs.Texts.{ReadText, read_text, reading-start, spelled-read, only_one}

-- ---- the cases
unless_ok : {A : Type 0} (fault : Option ParaFault) (x y : A) → unless_fault fault x ≡ Ok y → (fault ≡ None) × (x ≡ y)
unless_ok None x y h = (refl, cc)
unless_ok (Some f) x y h = absurd (cc)

unless_err : {A : Type 0} (fault : Option ParaFault) (x : A) (e : ParaFault) → unless_fault fault x ≡ Err e → fault ≡ Some e
unless_err None x e h = absurd (cc)
unless_err (Some f) x e h = cc

refusal_cases : (e : ParaFault) (fault : Option ParaFault) → IsRefusal e fault → (e ≡ OutOfMemory) ⊎ (fault ≡ Some e)
refusal_cases OutOfMemory fault h = inl refl
refusal_cases NotUtf8 fault h = inr h
refusal_cases (RefusedByte n) fault h = inr h
refusal_cases (BadName n) fault h = inr h
refusal_cases (NoColon n) fault h = inr h
refusal_cases (NoField n) fault h = inr h
refusal_cases (BlankLine n) fault h = inr h
refusal_cases (FieldTwice n) fault h = inr h
refusal_cases NoParagraph fault h = inr h
refusal_cases SeveralParagraphs fault h = inr h
refusal_cases TooLong fault h = inr h

-- ---- several paragraphs
-- a text without a fault
record Faultless (text : List ℕ) (limit : ℕ) : Type 0 where
  within : length text ≤ limit
  utf8 : IsUtf8 text
  lines_pass : faults_from [] 0 (lines text) ≡ None
  some : is_nil (groups (lines text)) ≡ false

faultless : (text : List ℕ) (limit : ℕ) → many_fault text limit ≡ None → Faultless text limit
unfolding many_fault
faultless text limit h =
    let a = guard_none (nat_lt limit (length text)) TooLong _ h in
    let b = guard_none (not (is_utf8 text)) NotUtf8 _ a.1 in
    let c = or_else_none (first_fault (lines text)) (if is_nil (groups (lines text)) then Some NoParagraph else None) b.1 in
    let d = guard_none (is_nil (groups (lines text))) NoParagraph None c.1 in
    record { within = in_limit (length text) limit a.0; utf8 = IsUtf8-from_is_utf8 text (not_false (is_utf8 text) b.0); lines_pass = sym (first_fault-is (lines text)) ∙ c.0; some = d.0 }
  where
    in_limit : (n m : ℕ) → nat_lt m n ≡ false → n ≤ m
    in_limit n m k = grind (arith, nat_tests)

read_faultless : (text : List ℕ) (limit : ℕ) → Faultless text limit → ReadText text limit (values_of (lines text))
read_faultless text limit f = read_text text limit (values_of (lines text)) f.within f.utf8 (reading-start (lines text) ∙ ap (λ x. unless x (Ok (values_of (lines text)))) f.lines_pass)

if_some : {A B : Type 0} (xs : List A) (fault : Option B) (f : B) → xs ≢ [] → fault ≡ (if is_nil xs then Some f else None) → fault ≡ None
if_some [] fault f n h = absurd (n refl)
if_some (x ∷ xs) fault f n h = h

some_map : {A B : Type 0} (h : A → B) (xs : List A) (ys : List B) → is_nil xs ≡ false → map h xs ≡ ys → ys ≢ []
some_map h [] ys n e k = absurd (cc)
some_map h (x ∷ xs) ys n e k = cc

pub paragraphs_spelled : (text : List ℕ) (limit : ℕ) (ps : List Fields) → (length text ≤ limit) × (ps ≢ []) × Spells text ps → paragraphs_in text limit ≡ Ok ps
unfolding paragraphs_in
paragraphs_spelled text limit ps (within, some, spelled) =
    let r = read_text text limit ps within spelled.utf8 (spelled-read text ps spelled) in
    ap (λ f. unless_fault f (map fields_of (groups (lines text)))) (if_some ps (many_fault text limit) NoParagraph some r.fault) ∙ ap Ok r.values

pub spelled_paragraphs : (text : List ℕ) (limit : ℕ) (ps : List Fields) → paragraphs_in text limit ≡ Ok ps → (length text ≤ limit) × (ps ≢ []) × Spells text ps
unfolding paragraphs_in
spelled_paragraphs text limit ps h =
    let r = unless_ok (many_fault text limit) (map fields_of (groups (lines text))) ps h in
    let f = faultless text limit r.0 in
    let t = read_faultless text limit f in
    let P : List Fields → Type 0 = λ xs. Spells text xs in
    (f.within, some_map fields_of (groups (lines text)) ps f.some r.1, subst P (sym t.values ∙ r.1) t.spelled)

pub paragraphs_fault : (text : List ℕ) (limit : ℕ) (e : ParaFault) → paragraphs_in text limit ≡ Err e → many_fault text limit ≡ Some e
unfolding paragraphs_in
paragraphs_fault text limit e h = unless_err (many_fault text limit) (map fields_of (groups (lines text))) e h

pub fault_paragraphs : (text : List ℕ) (limit : ℕ) (e : ParaFault) → many_fault text limit ≡ Some e → paragraphs_in text limit ≡ Err e
unfolding paragraphs_in
fault_paragraphs text limit e h = ap (λ f. unless_fault f (map fields_of (groups (lines text)))) h

pub refused_paragraphs : (text : List ℕ) (limit : ℕ) (e : ParaFault) → IsRefusal e (many_fault text limit) → (e ≡ OutOfMemory) ⊎ (paragraphs_in text limit ≡ Err e)
refused_paragraphs text limit e h = by_case (refusal_cases e (many_fault text limit) h)
  where
    by_case : (e ≡ OutOfMemory) ⊎ (many_fault text limit ≡ Some e) → (e ≡ OutOfMemory) ⊎ (paragraphs_in text limit ≡ Err e)
    by_case (inl m) = inl m
    by_case (inr m) = inr (fault_paragraphs text limit e m)

-- ---- one paragraph
one_is_some : (p : Fields) → p ∷ [] ≢ []
one_is_some p e = cc

single : (xs : List Fields) (p : Fields) → length xs ≤ 1 → xs ≢ [] → get_or xs 0 [] ≡ p → xs ≡ p ∷ []
single [] p l n e = absurd (n refl)
single (x ∷ []) p l n e = ap (λ y. y ∷ []) e
single (x ∷ y ∷ xs) p l n e = absurd (omega arith)

pub fields_spelled : (text : List ℕ) (limit : ℕ) (p : Fields) → (length text ≤ limit) × Spells text (p ∷ []) → fields_in text limit ≡ Ok p
unfolding fields_in
fields_spelled text limit p (within, spelled) =
    let r = read_text text limit (p ∷ []) within spelled.utf8 (spelled-read text (p ∷ []) spelled) in
    ap (λ f. unless_fault f (get_or (map fields_of (groups (lines text))) 0 [])) (only_one text limit p spelled r.fault) ∙ ap (λ xs. Ok (get_or xs 0 [])) r.values

pub spelled_fields : (text : List ℕ) (limit : ℕ) (p : Fields) → fields_in text limit ≡ Ok p → (length text ≤ limit) × Spells text (p ∷ [])
unfolding fields_in one_fault
spelled_fields text limit p h =
    let r = unless_ok (one_fault text limit) (get_or (map fields_of (groups (lines text))) 0 []) p h in
    let o = or_else_none (many_fault text limit) (if nat_lt 1 (length (groups (lines text))) then Some SeveralParagraphs else None) r.0 in
    let one = (guard_none (nat_lt 1 (length (groups (lines text)))) SeveralParagraphs None o.1).0 in
    let f = faultless text limit o.0 in
    let t = read_faultless text limit f in
    let P : List Fields → Type 0 = λ xs. Spells text xs in
    (f.within, subst P (sym t.values ∙ single (map fields_of (groups (lines text))) p (not_over one) (some_map fields_of (groups (lines text)) _ f.some refl) r.1) t.spelled)
  where
    not_over : nat_lt 1 (length (groups (lines text))) ≡ false → length (map fields_of (groups (lines text))) ≤ 1
    not_over k = let e = length-map (groups (lines text)) fields_of in let l : length (groups (lines text)) ≤ 1 = grind (arith, nat_tests) in omega (arith, e, l)

pub fields_fault : (text : List ℕ) (limit : ℕ) (e : ParaFault) → fields_in text limit ≡ Err e → one_fault text limit ≡ Some e
unfolding fields_in
fields_fault text limit e h = unless_err (one_fault text limit) (get_or (map fields_of (groups (lines text))) 0 []) e h

pub fault_fields : (text : List ℕ) (limit : ℕ) (e : ParaFault) → one_fault text limit ≡ Some e → fields_in text limit ≡ Err e
unfolding fields_in
fault_fields text limit e h = ap (λ f. unless_fault f (get_or (map fields_of (groups (lines text))) 0 [])) h

pub refused_fields : (text : List ℕ) (limit : ℕ) (e : ParaFault) → IsRefusal e (one_fault text limit) → (e ≡ OutOfMemory) ⊎ (fields_in text limit ≡ Err e)
refused_fields text limit e h = by_case (refusal_cases e (one_fault text limit) h)
  where
    by_case : (e ≡ OutOfMemory) ⊎ (one_fault text limit ≡ Some e) → (e ≡ OutOfMemory) ⊎ (fields_in text limit ≡ Err e)
    by_case (inl m) = inl m
    by_case (inr m) = inr (fault_fields text limit e m)

-- ---- an error says that nothing is spelled
ok_err : {A : Type 0} {x : A} {e : ParaFault} → Ok x ≡ Err e → ⊥
ok_err h = cc

pub none_spelled_one : (text : List ℕ) (limit : ℕ) (e : ParaFault) → fields_in text limit ≡ Err e → (p : Fields) → length text ≤ limit → Spells text (p ∷ []) → ⊥
none_spelled_one text limit e h p within s = ok_err (sym (fields_spelled text limit p (within, s)) ∙ h)

pub none_spelled : (text : List ℕ) (limit : ℕ) (e : ParaFault) → paragraphs_in text limit ≡ Err e → (ps : List Fields) → length text ≤ limit → ps ≢ [] → Spells text ps → ⊥
none_spelled text limit e h ps within some s = ok_err (sym (paragraphs_spelled text limit ps (within, some, s)) ∙ h)
