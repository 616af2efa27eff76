-- Single lines: names, blanks and what is left without them.
use Rattle.std.proofs.Common.{◌≡◌, ℕ, suc, ◌+◌, Bool, true, false, not, ◌||◌, List, [], ◌∷◌, ◌++◌, length, take, drop, reverse, refl, sym, ◌∙◌, ap, subst, arith, if◌then◌else◌, cond}
use Rattle.std.proofs.lemmas.Bool.{and_parts}
use Rattle.std.proofs.lemmas.Bool.Decides.{nat_tests}
use Rattle.std.proofs.lemmas.List.{append_assoc, reverse-append, reverse-reverse, take_at, drop_at}
use Rattle.std.proofs.lemmas.List.Folds.{list_any-append}
use Rattle.std.specs.List.{list_any, list_all, after_first, position_or_len, AllByRecursion}
use Rattle.para.specs.Bytes.{Line, is_blank, is_colon, is_name_byte, begins_with_blank, has_content, is_nil, name_part}
use Rattle.para.specs.Field.{FieldValue}
use Rattle.para.specs.Grammar.{AreBlanks, last_line, with_blanks}
use Rattle.para.specs.Reading.{skip_blanks, trim_end, trim_last, trimmed}

-- ---- tests
pub or_false : (a b : Bool) → (a || b) ≡ false → (a ≡ false) × (b ≡ false)
or_false true b h = absurd (cc)
or_false false b h = (refl, h)

pub not_true : (a : Bool) → not a ≡ true → a ≡ false
not_true true h = absurd (cc)
not_true false h = refl

pub not_false : (a : Bool) → not a ≡ false → a ≡ true
not_false true h = refl
not_false false h = absurd (cc)

-- ---- blanks at the front
pub skipped : (line : Line) → (blanks : List ℕ) × AreBlanks blanks × (line ≡ blanks ++ skip_blanks line) × (begins_with_blank (skip_blanks line) ≡ false)
skipped [] = ([], tt, refl, refl)
skipped (b ∷ bs) = by_kind (is_blank b) refl (skipped bs)
  where
    by_kind : (t : Bool) → is_blank b ≡ t → (blanks : List ℕ) × AreBlanks blanks × (bs ≡ blanks ++ skip_blanks bs) × (begins_with_blank (skip_blanks bs) ≡ false) → (blanks : List ℕ) × AreBlanks blanks × (b ∷ bs ≡ blanks ++ (if t then skip_blanks bs else (b ∷ bs))) × (begins_with_blank (if t then skip_blanks bs else (b ∷ bs)) ≡ false)
    by_kind true e r = (b ∷ r.0, (e, r.1), ap (λ x. b ∷ x) r.2, r.3)
    by_kind false e r = ([], tt, refl, e)

pub skip_none : (line : Line) → begins_with_blank line ≡ false → skip_blanks line ≡ line
skip_none [] h = refl
skip_none (b ∷ bs) h = ap (λ t. if t then skip_blanks bs else (b ∷ bs)) h

pub skip_over : (blanks line : List ℕ) → AreBlanks blanks → skip_blanks (blanks ++ line) ≡ skip_blanks line
skip_over [] line h = refl
skip_over (b ∷ bs) line h = ap (λ t. if t then skip_blanks (bs ++ line) else (b ∷ (bs ++ line))) h.0 ∙ skip_over bs line h.1

pub skip_all : (blanks : List ℕ) → AreBlanks blanks → skip_blanks blanks ≡ []
skip_all [] h = refl
skip_all (b ∷ bs) h = ap (λ t. if t then skip_blanks bs else (b ∷ bs)) h.0 ∙ skip_all bs h.1

pub blanks-append : (xs ys : List ℕ) → AreBlanks xs → AreBlanks ys → AreBlanks (xs ++ ys)
blanks-append [] ys h k = k
blanks-append (x ∷ xs) ys h k = (h.0, blanks-append xs ys h.1 k)

pub blanks-reverse : (xs : List ℕ) → AreBlanks xs → AreBlanks (reverse xs)
blanks-reverse [] h = tt
blanks-reverse (x ∷ xs) h = let P : List ℕ → Type 0 = AreBlanks in subst P (sym (reverse-append (x ∷ []) xs)) (blanks-append (reverse xs) (x ∷ []) (blanks-reverse xs h.1) (h.0, tt))

pub no_content : (blanks : List ℕ) → AreBlanks blanks → has_content blanks ≡ false
no_content [] h = refl
no_content (b ∷ bs) h = ap (λ t. not t || has_content bs) h.0 ∙ no_content bs h.1

-- ---- blanks at the end
pub trim_end-over : (line blanks : List ℕ) → AreBlanks blanks → begins_with_blank (reverse line) ≡ false → trim_end (line ++ blanks) ≡ line
trim_end-over line blanks h k = ap (λ x. reverse (skip_blanks x)) (reverse-append line blanks)
    ∙ ap reverse (skip_over (reverse blanks) (reverse line) (blanks-reverse blanks h) ∙ skip_none (reverse line) k)
    ∙ reverse-reverse line

pub trimmed_line : (line : Line) → (blanks : List ℕ) × AreBlanks blanks × (line ≡ trim_end line ++ blanks) × (begins_with_blank (reverse (trim_end line)) ≡ false)
trimmed_line line =
    let r = skipped (reverse line) in (
      reverse r.0,
      blanks-reverse r.0 r.1,
      sym (reverse-reverse line) ∙ ap reverse r.2 ∙ reverse-append r.0 (skip_blanks (reverse line)),
      ap begins_with_blank (reverse-reverse (skip_blanks (reverse line))) ∙ r.3,
    )

begins-front : (xs ys : List ℕ) → begins_with_blank (xs ++ ys) ≡ false → begins_with_blank xs ≡ false
begins-front [] ys h = refl
begins-front (x ∷ xs) ys h = h

pub begins-trim_end : (line : Line) → begins_with_blank line ≡ false → begins_with_blank (trim_end line) ≡ false
begins-trim_end line h = let r = trimmed_line line in begins-front (trim_end line) r.0 (sym (ap begins_with_blank r.2) ∙ h)

pub content-trim_end : (line : Line) → has_content line ≡ true → has_content (trim_end line) ≡ true
content-trim_end line h =
    let r = trimmed_line line in
    let e : has_content line ≡ (has_content (trim_end line) || has_content r.0) = ap has_content r.2 ∙ list_any-append (λ b. not (is_blank b)) (trim_end line) r.0 in
    by_kind (has_content (trim_end line)) (has_content r.0) (no_content r.0 r.1) (sym e ∙ h)
  where
    by_kind : (a b : Bool) → b ≡ false → (a || b) ≡ true → a ≡ true
    by_kind true b p q = refl
    by_kind false b p q = absurd (cc)

-- ---- names
pub no_colon : (name : List ℕ) → list_all is_name_byte name ≡ true → list_any is_colon name ≡ false
no_colon [] h = refl
no_colon (b ∷ bs) h = let r = and_parts (is_name_byte b) (list_all is_name_byte bs) h in
    ap (λ t. t || list_any is_colon bs) (name_byte-colon b r.0) ∙ no_colon bs r.1
  where
    name_byte-colon : (c : ℕ) → is_name_byte c ≡ true → is_colon c ≡ false
    name_byte-colon c k = grind (arith, nat_tests)

position-colon : (name value : List ℕ) → list_any is_colon name ≡ false → position_or_len is_colon (name ++ 58 ∷ value) ≡ length name
position-colon [] value h = refl
position-colon (b ∷ bs) value h =
    let r = or_false (is_colon b) (list_any is_colon bs) h in
    ap (λ t. cond (not t) (1 + position_or_len is_colon (bs ++ 58 ∷ value)) 0) r.0 ∙ (let e = position-colon bs value r.1 in omega arith)

pub name_part-is : (name value : List ℕ) → list_any is_colon name ≡ false → name_part (name ++ 58 ∷ value) ≡ name
name_part-is name value h = take_at name (58 ∷ value) (position_or_len is_colon (name ++ 58 ∷ value)) (sym (position-colon name value h))

pub after_colon-is : (name value : List ℕ) → list_any is_colon name ≡ false → after_first is_colon (name ++ 58 ∷ value) ≡ value
after_colon-is name value h =
    ap (λ n. drop (n + 1) (name ++ 58 ∷ value)) (position-colon name value h)
    ∙ ap (λ xs. drop (length name + 1) xs) (sym (append_assoc name (58 ∷ []) value))
    ∙ drop_at (name ++ 58 ∷ []) value (length name + 1) (length_one name)
  where
    length_one : (xs : List ℕ) → length (xs ++ 58 ∷ []) ≡ length xs + 1
    length_one [] = refl
    length_one (x ∷ xs) = let e = length_one xs in omega arith

pub any_colon : (name value : List ℕ) → list_any is_colon (name ++ 58 ∷ value) ≡ true
any_colon [] value = refl
any_colon (b ∷ bs) value = by_kind (is_colon b) (any_colon bs value)
  where
    by_kind : (a : Bool) → list_any is_colon (bs ++ 58 ∷ value) ≡ true → (a || list_any is_colon (bs ++ 58 ∷ value)) ≡ true
    by_kind true h = refl
    by_kind false h = h

pub colon_split : (line : Line) → list_any is_colon line ≡ true → line ≡ name_part line ++ 58 ∷ after_first is_colon line
colon_split [] h = absurd (cc)
colon_split (b ∷ bs) h = by_kind (is_colon b) refl h (colon_split bs)
  where
    is_58 : (c : ℕ) → is_colon c ≡ true → c ≡ 58
    is_58 c k = grind (arith, nat_tests)

    by_kind : (t : Bool) → is_colon b ≡ t → (t || list_any is_colon bs) ≡ true → (list_any is_colon bs ≡ true → bs ≡ name_part bs ++ 58 ∷ after_first is_colon bs)
        → b ∷ bs ≡ take (cond (not t) (1 + position_or_len is_colon bs) 0) (b ∷ bs) ++ 58 ∷ drop (cond (not t) (1 + position_or_len is_colon bs) 0 + 1) (b ∷ bs)
    by_kind true e k rec = ap (λ x. x ∷ bs) (is_58 b e)
    by_kind false e k rec =
        let p : ℕ = position_or_len is_colon bs in
        let e1 : suc p ≡ 1 + p = omega arith in
        let e2 : suc (p + 1) ≡ (1 + p) + 1 = omega arith in
        ap (λ x. b ∷ x) (rec k) ∙ ap (λ n. take n (b ∷ bs) ++ 58 ∷ drop (suc (p + 1)) (b ∷ bs)) e1 ∙ ap (λ n. take (1 + p) (b ∷ bs) ++ 58 ∷ drop n (b ∷ bs)) e2

-- ---- values
-- the one line of a value is read as that line, whatever blanks stand before and after it
pub one_line : (before line behind : List ℕ) → AreBlanks before → AreBlanks behind → begins_with_blank line ≡ false → begins_with_blank (reverse line) ≡ false → trim_end (skip_blanks (before ++ (line ++ behind))) ≡ line
one_line before [] behind h k first last = ap trim_end (skip_over before behind h ∙ skip_all behind k)
one_line before (b ∷ bs) behind h k first last = ap trim_end (skip_over before ((b ∷ bs) ++ behind) h ∙ skip_none ((b ∷ bs) ++ behind) first) ∙ trim_end-over (b ∷ bs) behind k last

pub trim_last-with_blanks : (blanks first : List ℕ) (more : List Line) → AreBlanks blanks → begins_with_blank (reverse (last_line first more)) ≡ false → trim_last (with_blanks blanks first more) ≡ first ∷ more
trim_last-with_blanks blanks first [] h last = ap (λ x. x ∷ []) (trim_end-over first blanks h last)
trim_last-with_blanks blanks first (line ∷ []) h last = ap (λ x. first ∷ x) (trim_last-with_blanks blanks line [] h last)
trim_last-with_blanks blanks first (line ∷ next ∷ more) h last = ap (λ x. first ∷ x) (trim_last-with_blanks blanks line (next ∷ more) h last)

-- The lines of a value do not end with a blank, and with blanks they are read as that value.
pub record Trims (first : Line) (more : List Line) (t : FieldValue) : Type 0 where
  pub blanks : List ℕ
  pub are : AreBlanks blanks
  pub lines : with_blanks blanks t.first t.more ≡ first ∷ more
  pub begins : begins_with_blank t.first ≡ false
  pub contents : AllByRecursion (λ l. has_content l ≡ true) t.more
  pub ends : begins_with_blank (reverse (last_line t.first t.more)) ≡ false

-- the lines of a value after its first do not end with a blank, and with blanks they are read as those
record TrimsMore (line : Line) (more : List Line) (ts : List Line) : Type 0 where
  blanks : List ℕ
  are : AreBlanks blanks
  last : Line
  rest : List Line
  is : ts ≡ last ∷ rest
  lines : with_blanks blanks last rest ≡ line ∷ more
  contents : AllByRecursion (λ l. has_content l ≡ true) ts
  ends : begins_with_blank (reverse (last_line last rest)) ≡ false

trims_more : (line : Line) (more : List Line) → AllByRecursion (λ l. has_content l ≡ true) (line ∷ more) → TrimsMore line more (trim_last (line ∷ more))
trims_more line [] h = let r = trimmed_line line in record { blanks = r.0; are = r.1; last = trim_end line; rest = []; is = refl; lines = ap (λ x. x ∷ []) (sym r.2); contents = (content-trim_end line h.0, tt); ends = r.3 }
trims_more line (next ∷ more) h = let r = trims_more next more h.1 in record {
  blanks = r.blanks;
  are = r.are;
  last = line;
  rest = r.last ∷ r.rest;
  is = ap (λ x. line ∷ x) r.is;
  lines = ap (λ x. line ∷ x) r.lines;
  contents = (h.0, r.contents);
  ends = r.ends;
}

pub trims : (name first : Line) (more : List Line) → begins_with_blank first ≡ false → AllByRecursion (λ l. has_content l ≡ true) more → Trims first more (trimmed (record { name = name; first = first; more = more }))
trims name first [] b h = let r = trimmed_line first in record { blanks = r.0; are = r.1; lines = ap (λ x. x ∷ []) (sym r.2); begins = begins-trim_end first b; contents = tt; ends = r.3 }
trims name first (line ∷ more) b h = let r = trims_more line more h in record {
  blanks = r.blanks;
  are = r.are;
  lines = ap (λ ts. with_blanks r.blanks first ts) r.is ∙ ap (λ x. first ∷ x) r.lines;
  begins = b;
  contents = r.contents;
  ends = ap (λ ts. begins_with_blank (reverse (last_line first ts))) r.is ∙ r.ends;
}

-- What is read of the lines of a field, any blanks among them, is the field.
pub trimmed-with_blanks : (name before blanks first line : List ℕ) (more ls : List Line) → AreBlanks before → AreBlanks blanks → begins_with_blank first ≡ false → begins_with_blank (reverse (last_line first more)) ≡ false
    → with_blanks blanks first more ≡ line ∷ ls → trimmed (record { name = name; first = skip_blanks (before ++ line); more = ls }) ≡ record { name = name; first = first; more = more }
trimmed-with_blanks name before blanks first line [] ls h k begins ends e =
    let e1 : line ≡ first ++ blanks = cc in
    let e2 : ls ≡ [] = cc in
    ap (λ x. trimmed (record { name = name; first = skip_blanks (before ++ line); more = x })) e2
    ∙ ap (λ x. record { name = name; first = trim_end (skip_blanks (before ++ x)); more = [] }) e1
    ∙ ap (λ x. record { name = name; first = x; more = [] }) (one_line before first blanks h k begins ends)
trimmed-with_blanks name before blanks first line (next ∷ more) ls h k begins ends e =
    let e1 : line ≡ first = cc in
    let e2 : ls ≡ with_blanks blanks next more = cc in
    ap (λ x. trimmed (record { name = name; first = skip_blanks (before ++ line); more = x })) e2
    ∙ ap (λ x. trimmed (record { name = name; first = x; more = with_blanks blanks next more })) (skip_over before line h ∙ skip_none line (ap begins_with_blank e1 ∙ begins) ∙ e1)
    ∙ several name first (with_blanks blanks next more) (next ∷ more) (nonempty blanks next more) (trim_last-with_blanks blanks next more k ends)
  where
    nonempty : (bs x : List ℕ) (xs : List Line) → is_nil (with_blanks bs x xs) ≡ false
    nonempty bs x [] = refl
    nonempty bs x (y ∷ ys) = refl

    several : (n f : List ℕ) (xs ys : List Line) → is_nil xs ≡ false → trim_last xs ≡ ys → trimmed (record { name = n; first = f; more = xs }) ≡ record { name = n; first = f; more = ys }
    several n f xs ys p q = ap (λ t. record { name = n; first = (if t then trim_end f else f); more = trim_last xs }) p ∙ ap (λ x. record { name = n; first = f; more = x }) q
