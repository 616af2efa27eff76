-- What reading a text gives, and what its fault is.
use Rattle.std.proofs.Common.{◌≡◌, ◌≢◌, ◌<◌, ◌≤◌, ℕ, suc, ◌+◌, Bool, true, false, not, ◌&&◌, ◌||◌, List, [], ◌∷◌, length, map, take, get_or, filter, take_while, Option, Some, None, Ok, Err, refl, sym, ◌∙◌, ap, subst, arith, cond, if◌then◌else◌, nat_lt}
use Rattle.std.proofs.lemmas.Bool.Decides.{nat_tests}
use Rattle.std.proofs.lemmas.Str.{IsUtf8-from_is_utf8, is_utf8-from_IsUtf8}
use Rattle.std.proofs.lemmas.List.{length-map}
use Rattle.std.specs.List.{list_any, slice_split, onto_first, prefix_len, AllByRecursion}
use Rattle.std.specs.Str.{IsUtf8, is_utf8}
use Rattle.para.specs.declared.fault.ParaFault.{ParaFault}
use Rattle.para.specs.declared.fault.ParaFault.TheVariants.{OutOfMemory, NotUtf8, RefusedByte, BadName, NoColon, NoField, BlankLine, FieldTwice, NoParagraph, SeveralParagraphs, TooLong}
use Rattle.para.specs.Bytes.{Line, is_nil, is_empty, is_newline, is_refused, begins_with_blank, name_part}
use Rattle.para.specs.Field.{FieldValue}
use Rattle.para.specs.Fault.{line_fault, or_else, groups, many_fault, one_fault, IsRefusal}
use Rattle.para.specs.ReaderState.{IsRefused}
use Rattle.para.specs.Grammar.{lines, Spells}
use Rattle.para.specs.Reading.{unless, reading, start, tail, value_part, trimmed}
use Rattle.para.specs.Fields.{field_of, fields_of}
use Rattle.para.proofs.Lines.{or_false}
use Rattle.para.proofs.Rest.{Rest, put, before_rest, rest_of, values_of, names_after, faults_from, reading-rest, first_fault-is}
use Rattle.para.proofs.LineKinds.{Kind, GoesOn, Begins, gap, goes_on, starts, passes, kind, or_else_none}
use Rattle.para.proofs.FoundLines.{found, spelled_lem, before-gap, before-goes_on, before-begins}
use Rattle.para.proofs.SpelledLines.{AreAllowed, reads_all}

-- ---- refused bytes, by text and by line
newline_allowed : (b : ℕ) → is_newline b ≡ true → is_refused b ≡ false
newline_allowed b h = grind (arith, nat_tests)

allowed-lines : (text : List ℕ) → AllByRecursion (λ b. is_refused b ≡ false) text → AreAllowed (lines text)
allowed-lines [] h = (refl, tt)
allowed-lines (b ∷ bs) h = by_kind (is_newline b) (slice_split is_newline bs) (allowed-lines bs h.1)
  where
    onto : (parts : List Line) → AreAllowed parts → AreAllowed (onto_first b parts)
    onto [] k = (ap (λ t. t || false) h.0, tt)
    onto (part ∷ parts) k = (ap (λ t. t || list_any is_refused part) h.0 ∙ k.0, k.1)

    by_kind : (t : Bool) (parts : List Line) → AreAllowed parts → AreAllowed (cond t ([] ∷ parts) (onto_first b parts))
    by_kind true parts k = (refl, k)
    by_kind false parts k = onto parts k

-- no line of a text without a refused byte has one
pub clean-lines : (text : List ℕ) → list_any is_refused text ≡ false → AreAllowed (lines text)
clean-lines text h = allowed-lines text (each text h)
  where
    each : (bs : List ℕ) → list_any is_refused bs ≡ false → AllByRecursion (λ b. is_refused b ≡ false) bs
    each [] k = tt
    each (b ∷ bs) k = let r = or_false (is_refused b) (list_any is_refused bs) k in (r.0, each bs r.1)

lines-allowed : (text : List ℕ) → AreAllowed (lines text) → AllByRecursion (λ b. is_refused b ≡ false) text
lines-allowed [] h = tt
lines-allowed (b ∷ bs) h = by_kind (is_newline b) refl (slice_split is_newline bs) h (lines-allowed bs)
  where
    onto : (parts : List Line) → AreAllowed (onto_first b parts) → (is_refused b ≡ false) × AreAllowed parts
    onto [] k = ((or_false (is_refused b) false k.0).0, tt)
    onto (part ∷ parts) k = let r = or_false (is_refused b) (list_any is_refused part) k.0 in (r.0, (r.1, k.1))

    by_kind : (t : Bool) → is_newline b ≡ t → (parts : List Line) → AreAllowed (cond t ([] ∷ parts) (onto_first b parts)) → (AreAllowed parts → AllByRecursion (λ c. is_refused c ≡ false) bs) → AllByRecursion (λ c. is_refused c ≡ false) (b ∷ bs)
    by_kind true e parts k rec = (newline_allowed b e, rec k.1)
    by_kind false e parts k rec = let r = onto parts k in (r.0, rec r.1)

no_fault-allowed : (names : List (List ℕ)) (n : ℕ) (ls : List Line) → faults_from names n ls ≡ None → AreAllowed ls
no_fault-allowed names n [] h = tt
no_fault-allowed names n (line ∷ ls) h =
    let r = or_else_none (line_fault names (n + 1) line) (faults_from (names_after names line) (n + 1) ls) h in
    ((passes names (n + 1) line r.0).allowed, no_fault-allowed (names_after names line) (n + 1) ls r.1)

-- ---- as many groups of lines as paragraphs
abbrev pub some_lines : List Line → Bool
some_lines ls = not (is_nil ls)

record Grouped (ls : List Line) (r : Rest) : Type 0 where
  first : List Line
  others : List (List Line)
  splits : slice_split is_empty ls ≡ first ∷ others
  paragraphs : map fields_of (filter some_lines others) ≡ r.paragraphs
  fields : fields_of first ≡ r.fields
  more : map tail (take_while begins_with_blank first) ≡ r.more
  nil : is_nil first ≡ (is_nil r.more && is_nil r.fields)

-- the first of the groups, if it is one, with those after it
with_first : (first : List Line) (others : List (List Line)) (fields : List FieldValue) (ps : List (List FieldValue)) → is_nil first ≡ is_nil fields → fields_of first ≡ fields → map fields_of (filter some_lines others) ≡ ps
    → map fields_of (filter some_lines (first ∷ others)) ≡ put fields ps
with_first [] others [] ps e f h = h
with_first [] others (f ∷ fs) ps e k h = absurd (cc)
with_first (x ∷ xs) others [] ps e k h = absurd (cc)
with_first (x ∷ xs) others (f ∷ fs) ps e k h = ap (λ x. x ∷ map fields_of (filter some_lines others)) k ∙ ap (λ x. (f ∷ fs) ∷ x) h

take_while_on : (line : Line) (ls : List Line) → begins_with_blank line ≡ true → take_while begins_with_blank (line ∷ ls) ≡ line ∷ take_while begins_with_blank ls
take_while_on line ls e = ap (λ t. take (cond t (1 + prefix_len begins_with_blank ls) 0) (line ∷ ls)) e
    ∙ (let k : 1 + prefix_len begins_with_blank ls ≡ suc (prefix_len begins_with_blank ls) = omega arith in ap (λ n. take n (line ∷ ls)) k)

take_while_end : (line : Line) (ls : List Line) → begins_with_blank line ≡ false → take_while begins_with_blank (line ∷ ls) ≡ []
take_while_end line ls e = ap (λ t. take (cond t (1 + prefix_len begins_with_blank ls) 0) (line ∷ ls)) e

grouped-gap : (line : Line) (ls : List Line) (r : Rest) → is_empty line ≡ true → r.more ≡ [] → Grouped ls r → Grouped (line ∷ ls) (record { more = []; fields = []; paragraphs = put r.fields r.paragraphs })
grouped-gap line ls r e m g = record {
  first = [];
  others = g.first ∷ g.others;
  splits = ap (λ t. cond t ([] ∷ slice_split is_empty ls) (onto_first line (slice_split is_empty ls))) e ∙ ap (λ x. [] ∷ x) g.splits;
  paragraphs = with_first g.first g.others r.fields r.paragraphs (g.nil ∙ ap (λ x. is_nil x && is_nil r.fields) m) g.fields g.paragraphs;
  fields = refl;
  more = refl;
  nil = refl;
}

onto-splits : (line : Line) (ls : List Line) (first : List Line) (others : List (List Line)) → is_empty line ≡ false → slice_split is_empty ls ≡ first ∷ others → slice_split is_empty (line ∷ ls) ≡ (line ∷ first) ∷ others
onto-splits line ls first others e h = ap (λ t. cond t ([] ∷ slice_split is_empty ls) (onto_first line (slice_split is_empty ls))) e ∙ ap (onto_first line) h

grouped-goes_on : (names : List (List ℕ)) (line : Line) (ls : List Line) (r : Rest) → GoesOn names line → Grouped ls r → Grouped (line ∷ ls) (record { more = tail line ∷ r.more; fields = r.fields; paragraphs = r.paragraphs })
grouped-goes_on names line ls r k g = record {
  first = line ∷ g.first;
  others = g.others;
  splits = onto-splits line ls g.first g.others k.filled g.splits;
  paragraphs = g.paragraphs;
  fields = ap (λ t. if t then fields_of g.first else field_of line g.first ∷ fields_of g.first) k.begins ∙ g.fields;
  more = ap (map tail) (take_while_on line g.first k.begins) ∙ ap (λ x. tail line ∷ x) g.more;
  nil = refl;
}

grouped-begins : (names : List (List ℕ)) (line : Line) (ls : List Line) (r : Rest) → Begins names line → Grouped ls r
    → Grouped (line ∷ ls) (record { more = []; fields = trimmed (record { name = name_part line; first = value_part line; more = r.more }) ∷ r.fields; paragraphs = r.paragraphs })
grouped-begins names line ls r k g = record {
  first = line ∷ g.first;
  others = g.others;
  splits = onto-splits line ls g.first g.others k.filled g.splits;
  paragraphs = g.paragraphs;
  fields = ap (λ t. if t then fields_of g.first else field_of line g.first ∷ fields_of g.first) k.begins
      ∙ ap (λ m. trimmed (record { name = name_part line; first = value_part line; more = m }) ∷ fields_of g.first) g.more
      ∙ ap (λ fs. trimmed (record { name = name_part line; first = value_part line; more = r.more }) ∷ fs) g.fields;
  more = ap (map tail) (take_while_end line g.first k.begins);
  nil = refl;
}

grouped : (names : List (List ℕ)) (n : ℕ) (ls : List Line) → faults_from names n ls ≡ None → Grouped ls (rest_of ls)
grouped names n [] h = record { first = []; others = []; splits = refl; paragraphs = refl; fields = refl; more = refl; nil = refl }
grouped names n (line ∷ ls) h =
    let r = or_else_none (line_fault names (n + 1) line) (faults_from (names_after names line) (n + 1) ls) h in
    by_kind (kind names line (passes names (n + 1) line r.0)) r.1 (grouped (names_after names line) (n + 1) ls r.1)
  where
    by_kind : Kind names line → faults_from (names_after names line) (n + 1) ls ≡ None → Grouped ls (rest_of ls) → Grouped (line ∷ ls) (before_rest line (rest_of ls))
    by_kind (gap k) h1 rec =
        let e = before-gap names line (rest_of ls) k in
        let P : List (List ℕ) → Type 0 = λ x. faults_from x (n + 1) ls ≡ None in
        let Q : Rest → Type 0 = λ x. Grouped (line ∷ ls) x in
        subst Q (sym e.1) (grouped-gap line ls (rest_of ls) k.empty ((found [] (n + 1) ls (subst P e.0 h1)).behind refl) rec)
    by_kind (goes_on k) h1 rec =
        let Q : Rest → Type 0 = λ x. Grouped (line ∷ ls) x in
        subst Q (sym (before-goes_on names line (rest_of ls) k).1) (grouped-goes_on names line ls (rest_of ls) k rec)
    by_kind (starts k) h1 rec =
        let Q : Rest → Type 0 = λ x. Grouped (line ∷ ls) x in
        subst Q (sym (before-begins names line (rest_of ls) k).1) (grouped-begins names line ls (rest_of ls) k rec)

-- The groups of lines are the paragraphs that are read.
groups_values : (ls : List Line) → faults_from [] 0 ls ≡ None → map fields_of (groups ls) ≡ values_of ls
groups_values ls h =
    let g = grouped [] 0 ls h in
    ap (λ x. map fields_of (filter some_lines x)) g.splits
    ∙ with_first g.first g.others (rest_of ls).fields (rest_of ls).paragraphs (g.nil ∙ ap (λ x. is_nil x && is_nil (rest_of ls).fields) ((found [] 0 ls h).behind refl)) g.fields g.paragraphs

groups_count : (ls : List Line) → faults_from [] 0 ls ≡ None → length (groups ls) ≡ length (values_of ls)
groups_count ls h = sym (length-map (groups ls) fields_of) ∙ ap length (groups_values ls h)

-- ---- texts
pub reading-start : (ls : List Line) → reading start 0 ls ≡ unless (faults_from [] 0 ls) (Ok (values_of ls))
reading-start ls = reading-rest start 0 ls

ok_unless : (fault : Option ParaFault) (ps qs : List (List FieldValue)) → unless fault (Ok ps) ≡ Ok qs → (fault ≡ None) × (ps ≡ qs)
ok_unless None ps qs h = (refl, cc)
ok_unless (Some f) ps qs h = absurd (cc)

err_unless : (fault : Option ParaFault) (ps : List (List FieldValue)) (e : ParaFault) → unless fault (Ok ps) ≡ Err e → fault ≡ Some e
err_unless None ps e h = absurd (cc)
err_unless (Some f) ps e h = cc

-- What is spelled is read.
pub spelled-read : (text : List ℕ) (ps : List (List FieldValue)) → Spells text ps → reading start 0 (lines text) ≡ Ok ps
spelled-read text ps s =
    let r = reads_all (lines text) ps (allowed-lines text s.allowed) s.paragraphs s.spelled in
    reading-start (lines text) ∙ ap (λ x. unless x (Ok (values_of (lines text)))) (r.reads.none 0) ∙ ap Ok (ap (λ x. put x.fields x.paragraphs) r.reads.rest ∙ r.is)

pub one_reading_lem : (text : List ℕ) (ps qs : List (List FieldValue)) → Spells text ps → Spells text qs → ps ≡ qs
one_reading_lem text ps qs p q = let e = sym (spelled-read text ps p) ∙ spelled-read text qs q in cc

-- the fault of a text that is within the limit and UTF-8
in_limit : (text : List ℕ) (limit : ℕ) → length text ≤ limit → nat_lt limit (length text) ≡ false
in_limit text limit h = grind (arith, nat_tests)

over_limit : (text : List ℕ) (limit : ℕ) → limit < length text → nat_lt limit (length text) ≡ true
over_limit text limit h = grind (arith, nat_tests)

pub too_long : (text : List ℕ) (limit : ℕ) → limit < length text → many_fault text limit ≡ Some TooLong
unfolding many_fault
too_long text limit h = rw (over_limit text limit h) refl

not_utf8_false : (text : List ℕ) → (IsUtf8 text → ⊥) → is_utf8 text ≡ false
not_utf8_false text h = by_test (is_utf8 text) refl
  where
    by_test : (t : Bool) → is_utf8 text ≡ t → t ≡ false
    by_test true e = absurd (h (IsUtf8-from_is_utf8 text e))
    by_test false e = refl

pub not_utf8 : (text : List ℕ) (limit : ℕ) → length text ≤ limit → (IsUtf8 text → ⊥) → many_fault text limit ≡ Some NotUtf8
unfolding many_fault
not_utf8 text limit h u = rw (in_limit text limit h, not_utf8_false text u) refl

judged : (text : List ℕ) (limit : ℕ) → length text ≤ limit → IsUtf8 text → many_fault text limit ≡ or_else (faults_from [] 0 (lines text)) (if is_nil (groups (lines text)) then Some NoParagraph else None)
unfolding many_fault
judged text limit h u = rw (in_limit text limit h, is_utf8-from_IsUtf8 text u) (ap (λ x. or_else x (if is_nil (groups (lines text)) then Some NoParagraph else None)) (first_fault-is (lines text)))

same_nil : {A B : Type 0} (xs : List A) (ys : List B) → length xs ≡ length ys → is_nil xs ≡ is_nil ys
same_nil [] [] h = refl
same_nil [] (y ∷ ys) h = absurd (omega arith)
same_nil (x ∷ xs) [] h = absurd (omega arith)
same_nil (x ∷ xs) (y ∷ ys) h = refl

-- What is read is spelled, and this is the fault.
pub record ReadText (text : List ℕ) (limit : ℕ) (ps : List (List FieldValue)) : Type 0 where
  pub spelled : Spells text ps
  pub values : map fields_of (groups (lines text)) ≡ ps
  pub fault : many_fault text limit ≡ (if is_nil ps then Some NoParagraph else None)

pub read_text : (text : List ℕ) (limit : ℕ) (ps : List (List FieldValue)) → length text ≤ limit → IsUtf8 text → reading start 0 (lines text) ≡ Ok ps → ReadText text limit ps
read_text text limit ps h u e =
    let r = ok_unless (faults_from [] 0 (lines text)) (values_of (lines text)) ps (sym (reading-start (lines text)) ∙ e) in
    let s = spelled_lem 0 (lines text) r.0 in
    let P : List (List FieldValue) → Type 0 = λ x. Spells text x in
    let values : map fields_of (groups (lines text)) ≡ ps = groups_values (lines text) r.0 ∙ r.1 in
    record {
      spelled = subst P r.1 (record { utf8 = u; allowed = lines-allowed text (no_fault-allowed [] 0 (lines text) r.0); paragraphs = s.all; spelled = s.paragraphs });
      values = values;
      fault = judged text limit h u ∙ ap (λ x. or_else x (if is_nil (groups (lines text)) then Some NoParagraph else None)) r.0 ∙ ap (λ t. if t then Some NoParagraph else None) (same_nil (groups (lines text)) ps (sym (length-map (groups (lines text)) fields_of) ∙ ap length values));
    }

pub refused_text : (text : List ℕ) (limit : ℕ) (e : ParaFault) → length text ≤ limit → IsUtf8 text → reading start 0 (lines text) ≡ Err e → many_fault text limit ≡ Some e
refused_text text limit e h u r = judged text limit h u ∙ ap (λ x. or_else x (if is_nil (groups (lines text)) then Some NoParagraph else None)) (err_unless (faults_from [] 0 (lines text)) (values_of (lines text)) e (sym (reading-start (lines text)) ∙ r))

-- ---- what an error says
pub refusal : (text : List ℕ) (limit : ℕ) (e : ParaFault) → length text ≤ limit → IsUtf8 text → IsRefused e (reading start 0 (lines text)) → IsRefusal e (many_fault text limit)
refusal text limit OutOfMemory h u r = tt
refusal text limit NotUtf8 h u r = refused_text text limit NotUtf8 h u r
refusal text limit (RefusedByte n) h u r = refused_text text limit (RefusedByte n) h u r
refusal text limit (BadName n) h u r = refused_text text limit (BadName n) h u r
refusal text limit (NoColon n) h u r = refused_text text limit (NoColon n) h u r
refusal text limit (NoField n) h u r = refused_text text limit (NoField n) h u r
refusal text limit (BlankLine n) h u r = refused_text text limit (BlankLine n) h u r
refusal text limit (FieldTwice n) h u r = refused_text text limit (FieldTwice n) h u r
refusal text limit NoParagraph h u r = refused_text text limit NoParagraph h u r
refusal text limit SeveralParagraphs h u r = refused_text text limit SeveralParagraphs h u r
refusal text limit TooLong h u r = refused_text text limit TooLong h u r

ok_err : {ps : List (List FieldValue)} {e : ParaFault} → Ok ps ≡ Err e → ⊥
ok_err h = cc

pub refusal_only : (text : List ℕ) (ps : List (List FieldValue)) (e : ParaFault) → Spells text ps → IsRefused e (reading start 0 (lines text)) → e ≡ OutOfMemory
refusal_only text ps OutOfMemory s r = refl
refusal_only text ps NotUtf8 s r = absurd (ok_err (sym (spelled-read text ps s) ∙ r))
refusal_only text ps (RefusedByte n) s r = absurd (ok_err (sym (spelled-read text ps s) ∙ r))
refusal_only text ps (BadName n) s r = absurd (ok_err (sym (spelled-read text ps s) ∙ r))
refusal_only text ps (NoColon n) s r = absurd (ok_err (sym (spelled-read text ps s) ∙ r))
refusal_only text ps (NoField n) s r = absurd (ok_err (sym (spelled-read text ps s) ∙ r))
refusal_only text ps (BlankLine n) s r = absurd (ok_err (sym (spelled-read text ps s) ∙ r))
refusal_only text ps (FieldTwice n) s r = absurd (ok_err (sym (spelled-read text ps s) ∙ r))
refusal_only text ps NoParagraph s r = absurd (ok_err (sym (spelled-read text ps s) ∙ r))
refusal_only text ps SeveralParagraphs s r = absurd (ok_err (sym (spelled-read text ps s) ∙ r))
refusal_only text ps TooLong s r = absurd (ok_err (sym (spelled-read text ps s) ∙ r))

refusal_or_else : (e : ParaFault) (a b : Option ParaFault) → IsRefusal e a → IsRefusal e (or_else a b)
refusal_or_else OutOfMemory a b h = tt
refusal_or_else NotUtf8 a b h = ap (λ x. or_else x b) h
refusal_or_else (RefusedByte n) a b h = ap (λ x. or_else x b) h
refusal_or_else (BadName n) a b h = ap (λ x. or_else x b) h
refusal_or_else (NoColon n) a b h = ap (λ x. or_else x b) h
refusal_or_else (NoField n) a b h = ap (λ x. or_else x b) h
refusal_or_else (BlankLine n) a b h = ap (λ x. or_else x b) h
refusal_or_else (FieldTwice n) a b h = ap (λ x. or_else x b) h
refusal_or_else NoParagraph a b h = ap (λ x. or_else x b) h
refusal_or_else SeveralParagraphs a b h = ap (λ x. or_else x b) h
refusal_or_else TooLong a b h = ap (λ x. or_else x b) h

pub refusal_one : (text : List ℕ) (limit : ℕ) (e : ParaFault) → IsRefusal e (many_fault text limit) → IsRefusal e (one_fault text limit)
unfolding one_fault
refusal_one text limit e h = refusal_or_else e (many_fault text limit) (if nat_lt 1 (length (groups (lines text))) then Some SeveralParagraphs else None) h

pub spelled_count : (text : List ℕ) (ps : List (List FieldValue)) → Spells text ps → length (groups (lines text)) ≡ length ps
spelled_count text ps s =
    let r = ok_unless (faults_from [] 0 (lines text)) (values_of (lines text)) ps (sym (reading-start (lines text)) ∙ spelled-read text ps s) in
    groups_count (lines text) r.0 ∙ ap length r.1

pub several : (text : List ℕ) (limit : ℕ) (ps : List (List FieldValue)) → Spells text ps → 1 < length ps → many_fault text limit ≡ None → one_fault text limit ≡ Some SeveralParagraphs
unfolding one_fault
several text limit ps s h m = rw (m, spelled_count text ps s, over_one (length ps) h) refl
  where
    over_one : (n : ℕ) → 1 < n → nat_lt 1 n ≡ true
    over_one n k = grind (arith, nat_tests)

pub only_one : (text : List ℕ) (limit : ℕ) (p : List FieldValue) → Spells text (p ∷ []) → many_fault text limit ≡ None → one_fault text limit ≡ None
unfolding one_fault
only_one text limit p s m = rw (m, spelled_count text (p ∷ []) s) refl

pub one_item : {X : Type 0} (xs : List X) (x : X) → length xs ≡ 1 → x ≡ get_or xs 0 x → xs ≡ x ∷ []
one_item [] x l e = absurd (omega arith)
one_item (y ∷ []) x l e = ap (λ z. z ∷ []) (sym e)
one_item (y ∷ z ∷ zs) x l e = absurd (omega arith)

pub nil_true : {X : Type 0} (xs : List X) → length xs ≡ 0 → xs ≡ []
nil_true [] h = refl
nil_true (x ∷ xs) h = absurd (omega arith)

pub not_nil : {X : Type 0} (xs : List X) → 0 < length xs → is_nil xs ≡ false
not_nil [] h = absurd (omega arith)
not_nil (x ∷ xs) h = refl

pub some_length : {X : Type 0} (xs : List X) → xs ≢ [] → 0 < length xs
some_length [] h = absurd (h refl)
some_length (x ∷ xs) h = omega arith
