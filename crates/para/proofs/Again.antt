-- The print of a paragraph that was read is read as that paragraph again.
use Rattle.std.proofs.Common.{◌≡◌, ◌<◌, ℕ, ◌+◌, Bool, true, false, ◌||◌, List, [], ◌∷◌, ◌++◌, length, drop, get_or, map, refl, sym, ◌∙◌, ap, subst, arith, cond, lit<}
use Rattle.std.proofs.lemmas.Bool.Decides.{nat_tests}
use Rattle.std.proofs.lemmas.List.{append-nil, append_assoc, take_at, drop_at, get_or_at, length-append}
use Rattle.std.proofs.lemmas.List.Splits.{join_with_byte-slice_split}
use Rattle.std.proofs.lemmas.Str.{IsUtf8-take, IsUtf8-drop, IsUtf8-append, IsUtf8-nil, IsUtf8-from_ascii, IsCharBoundary-before_ascii, IsCharBoundary-after_ascii}
use Rattle.std.proofs.lemmas.Str.Ascii.{IsAscii-cons, IsAscii-nil}
use Rattle.std.specs.List.{list_any, slice_split, onto_first, flat_map, join_with_byte, AllByRecursion}
use Rattle.std.specs.Str.{IsUtf8}
use Rattle.para.specs.Bytes.{Line, is_blank, is_newline, is_refused}
use Rattle.para.specs.Field.{FieldValue}
use Rattle.para.specs.Grammar.{lines, AreBlanks, IsParagraph, with_blanks, SpellsMore, SpellsValue, SpellsField, SpellsFields, SpellsParagraphs, Spells}
use Rattle.para.specs.Printing.{first_text, more_text, head_text, field_text, paragraph_text}
use Rattle.para.proofs.Lines.{or_false}

-- a piece of a line of a text: UTF-8, with no refused byte and no newline
pub record IsPiece (bs : List ℕ) : Type 0 where
  pub utf8 : IsUtf8 bs
  pub allowed : AllByRecursion (λ b. is_refused b ≡ false) bs
  pub one_line : list_any is_newline bs ≡ false

all-left : (xs ys : List ℕ) → AllByRecursion (λ b. is_refused b ≡ false) (xs ++ ys) → AllByRecursion (λ b. is_refused b ≡ false) xs
all-left [] ys h = tt
all-left (x ∷ xs) ys h = (h.0, all-left xs ys h.1)

all-right : (xs ys : List ℕ) → AllByRecursion (λ b. is_refused b ≡ false) (xs ++ ys) → AllByRecursion (λ b. is_refused b ≡ false) ys
all-right [] ys h = h
all-right (x ∷ xs) ys h = all-right xs ys h.1

pub all-both : (xs ys : List ℕ) → AllByRecursion (λ b. is_refused b ≡ false) xs → AllByRecursion (λ b. is_refused b ≡ false) ys → AllByRecursion (λ b. is_refused b ≡ false) (xs ++ ys)
all-both [] ys h k = k
all-both (x ∷ xs) ys h k = (h.0, all-both xs ys h.1 k)

any-left : (xs ys : List ℕ) → list_any is_newline (xs ++ ys) ≡ false → list_any is_newline xs ≡ false
any-left [] ys h = refl
any-left (x ∷ xs) ys h = let r = or_false (is_newline x) (list_any is_newline (xs ++ ys)) h in ap (λ t. t || list_any is_newline xs) r.0 ∙ any-left xs ys r.1

any-right : (xs ys : List ℕ) → list_any is_newline (xs ++ ys) ≡ false → list_any is_newline ys ≡ false
any-right [] ys h = h
any-right (x ∷ xs) ys h = any-right xs ys (or_false (is_newline x) (list_any is_newline (xs ++ ys)) h).1

any-both : (xs ys : List ℕ) → list_any is_newline xs ≡ false → list_any is_newline ys ≡ false → list_any is_newline (xs ++ ys) ≡ false
any-both [] ys h k = k
any-both (x ∷ xs) ys h k = let r = or_false (is_newline x) (list_any is_newline xs) h in ap (λ t. t || list_any is_newline (xs ++ ys)) r.0 ∙ any-both xs ys r.1 k

-- ---- cut at an ASCII byte
utf8-before : (xs : List ℕ) (b : ℕ) (ys : List ℕ) → b < 128 → IsUtf8 (xs ++ b ∷ ys) → IsUtf8 xs
utf8-before xs b ys h u =
    let at : get_or (xs ++ b ∷ ys) (length xs) 0 ≡ b = get_or_at xs b ys 0 (length xs) refl in
    let within : length xs < length (xs ++ b ∷ ys) = omega (arith, length-append xs (b ∷ ys)) in
    let small : get_or (xs ++ b ∷ ys) (length xs) 0 < 128 = omega arith in
    subst IsUtf8 (take_at xs (b ∷ ys) (length xs) refl) (IsUtf8-take (xs ++ b ∷ ys) (length xs) u (IsCharBoundary-before_ascii (xs ++ b ∷ ys) (length xs) within small))

utf8-after : (xs : List ℕ) (b : ℕ) (ys : List ℕ) → b < 128 → IsUtf8 (xs ++ b ∷ ys) → IsUtf8 ys
utf8-after xs b ys h u =
    let at : get_or (xs ++ b ∷ ys) (length xs) 0 ≡ b = get_or_at xs b ys 0 (length xs) refl in
    let within : length xs < length (xs ++ b ∷ ys) = omega (arith, length-append xs (b ∷ ys)) in
    let small : get_or (xs ++ b ∷ ys) (length xs) 0 < 128 = omega arith in
    let one : length (xs ++ b ∷ []) ≡ length xs + 1 = omega (arith, length-append xs (b ∷ [])) in
    let rest : drop (length xs + 1) (xs ++ b ∷ ys) ≡ ys = ap (drop (length xs + 1)) (sym (append_assoc xs (b ∷ []) ys)) ∙ drop_at (xs ++ b ∷ []) ys (length xs + 1) one in
    subst IsUtf8 rest (IsUtf8-drop (xs ++ b ∷ ys) (length xs + 1) u (IsCharBoundary-after_ascii (xs ++ b ∷ ys) (length xs) u within small))

piece-before : (xs : List ℕ) (b : ℕ) (ys : List ℕ) → b < 128 → IsPiece (xs ++ b ∷ ys) → IsPiece xs
piece-before xs b ys h p = record { utf8 = utf8-before xs b ys h p.utf8; allowed = all-left xs (b ∷ ys) p.allowed; one_line = any-left xs (b ∷ ys) p.one_line }

piece-after : (xs : List ℕ) (b : ℕ) (ys : List ℕ) → b < 128 → IsPiece (xs ++ b ∷ ys) → IsPiece ys
piece-after xs b ys h p = record { utf8 = utf8-after xs b ys h p.utf8; allowed = (all-right xs (b ∷ ys) p.allowed).1; one_line = (or_false (is_newline b) (list_any is_newline ys) (any-right xs (b ∷ ys) p.one_line)).1 }

blank_small : (b : ℕ) → is_blank b ≡ true → b < 128
blank_small b h = grind (arith, nat_tests)

piece-past_blanks : (blanks ys : List ℕ) → AreBlanks blanks → IsPiece (blanks ++ ys) → IsPiece ys
piece-past_blanks [] ys h p = p
piece-past_blanks (b ∷ bs) ys h p = piece-past_blanks bs ys h.1 (piece-after [] b (bs ++ ys) (blank_small b h.0) p)

piece-before_blanks : (xs blanks : List ℕ) → AreBlanks blanks → IsPiece (xs ++ blanks) → IsPiece xs
piece-before_blanks xs [] h p = subst IsPiece (append-nil xs) p
piece-before_blanks xs (b ∷ bs) h p = piece-before xs b bs (blank_small b h.0) p

-- ---- the lines of a text are such pieces
ArePieces : List Line → Type 0
ArePieces ls = AllByRecursion IsPiece ls

joined-pieces : (ls : List Line) → IsUtf8 (join_with_byte 10 ls) → AllByRecursion (λ b. is_refused b ≡ false) (join_with_byte 10 ls) → AllByRecursion (λ l. list_any is_newline l ≡ false) ls → ArePieces ls
unfolding ArePieces
joined-pieces [] u a n = tt
joined-pieces (l ∷ []) u a n = (record { utf8 = u; allowed = a; one_line = n.0 }, tt)
joined-pieces (l ∷ m ∷ ls) u a n = (
  record { utf8 = utf8-before l 10 (join_with_byte 10 (m ∷ ls)) (lit< tt) u; allowed = all-left l (10 ∷ join_with_byte 10 (m ∷ ls)) a; one_line = n.0 },
  joined-pieces (m ∷ ls) (utf8-after l 10 (join_with_byte 10 (m ∷ ls)) (lit< tt) u) (all-right l (10 ∷ join_with_byte 10 (m ∷ ls)) a).1 n.1,
)

no_newline : (text : List ℕ) → AllByRecursion (λ l. list_any is_newline l ≡ false) (lines text)
no_newline [] = (refl, tt)
no_newline (b ∷ bs) = by_kind (is_newline b) refl (slice_split is_newline bs) (no_newline bs)
  where
    onto : is_newline b ≡ false → (parts : List Line) → AllByRecursion (λ l. list_any is_newline l ≡ false) parts → AllByRecursion (λ l. list_any is_newline l ≡ false) (onto_first b parts)
    onto e [] k = (ap (λ t. t || false) e, tt)
    onto e (part ∷ parts) k = (ap (λ t. t || list_any is_newline part) e ∙ k.0, k.1)

    by_kind : (t : Bool) → is_newline b ≡ t → (parts : List Line) → AllByRecursion (λ l. list_any is_newline l ≡ false) parts → AllByRecursion (λ l. list_any is_newline l ≡ false) (cond t ([] ∷ parts) (onto_first b parts))
    by_kind true e parts k = (refl, k)
    by_kind false e parts k = onto e parts k

lines-pieces : (text : List ℕ) → IsUtf8 text → AllByRecursion (λ b. is_refused b ≡ false) text → ArePieces (lines text)
lines-pieces text u a =
    let e : text ≡ join_with_byte 10 (lines text) = sym (join_with_byte-slice_split 10 text) in
    let P : List ℕ → Type 0 = λ t. AllByRecursion (λ b. is_refused b ≡ false) t in
    joined-pieces (lines text) (subst IsUtf8 e u) (subst P e a) (no_newline text)

pieces-front : (xs ys : List Line) → ArePieces (xs ++ ys) → ArePieces xs
unfolding ArePieces
pieces-front [] ys h = tt
pieces-front (x ∷ xs) ys h = (h.0, pieces-front xs ys h.1)

pieces-back : (xs ys : List Line) → ArePieces (xs ++ ys) → ArePieces ys
unfolding ArePieces
pieces-back [] ys h = h
pieces-back (x ∷ xs) ys h = pieces-back xs ys h.1

-- ---- and so are names and values
pub record HasPieces (f : FieldValue) : Type 0 where
  pub name : IsPiece f.name
  pub first : IsPiece f.first
  pub more : AllByRecursion IsPiece f.more

more-pieces : (ls more : List Line) → ArePieces ls → SpellsMore ls more → AllByRecursion IsPiece more
unfolding ArePieces
more-pieces [] [] p h = tt
more-pieces [] (m ∷ ms) p h = absurd h
more-pieces (l ∷ ls) [] p h = absurd h
more-pieces (l ∷ ls) (m ∷ ms) p h = (piece-after [] h.0.0 m (blank_small h.0.0 h.0.1) (subst IsPiece h.0.2 p.0), more-pieces ls ms p.1 h.1)

unpadded : (blanks first : List ℕ) (more : List Line) → AreBlanks blanks → AllByRecursion IsPiece (with_blanks blanks first more) → AllByRecursion IsPiece (first ∷ more)
unpadded blanks first [] h p = (piece-before_blanks first blanks h p.0, tt)
unpadded blanks first (line ∷ more) h p = (p.0, unpadded blanks line more h p.1)

value-pieces : (ls : List Line) (name : List ℕ) (value : List Line) → ArePieces ls → SpellsValue ls name value → IsPiece name × AllByRecursion IsPiece value
unfolding ArePieces
value-pieces [] name value p h = absurd h
value-pieces (l ∷ ls) name [] p h = absurd h
value-pieces (l ∷ ls) name (first ∷ more) p h =
    let line : IsPiece (name ++ 58 ∷ (h.0.0 ++ first)) = subst IsPiece h.0.2 p.0 in
    (piece-before name 58 (h.0.0 ++ first) (lit< tt) line, (piece-past_blanks h.0.0 first h.0.1 (piece-after name 58 (h.0.0 ++ first) (lit< tt) line), more-pieces ls more p.1 h.1))

fields-pieces : (ls : List Line) (fs : List FieldValue) → ArePieces ls → SpellsFields ls fs → AllByRecursion HasPieces fs
fields-pieces ls [] p h = tt
fields-pieces ls (f ∷ fs) p h =
    let all : ArePieces (h.0 ++ h.1) = subst ArePieces h.2 p in
    let v = value-pieces h.0 f.name (with_blanks h.3.0 f.first f.more) (pieces-front h.0 h.1 all) h.3.2 in
    let w = unpadded h.3.0 f.first f.more h.3.1 v.1 in
    (record { name = v.0; first = w.0; more = w.1 }, fields-pieces h.1 fs (pieces-back h.0 h.1 all) h.4)

-- ---- printing
utf8-ascii : (b : ℕ) → b < 128 → IsUtf8 (b ∷ [])
utf8-ascii b h = IsUtf8-from_ascii (b ∷ []) (IsAscii-cons b [] h IsAscii-nil)

-- whole lines: UTF-8, with no refused byte
record IsText (bs : List ℕ) : Type 0 where
  utf8 : IsUtf8 bs
  allowed : AllByRecursion (λ b. is_refused b ≡ false) bs

text-append : (xs ys : List ℕ) → IsText xs → IsText ys → IsText (xs ++ ys)
text-append xs ys h k = record { utf8 = IsUtf8-append xs ys h.utf8 k.utf8; allowed = all-both xs ys h.allowed k.allowed }

text-piece : (xs : List ℕ) → IsPiece xs → IsText xs
text-piece xs p = record { utf8 = p.utf8; allowed = p.allowed }

text-byte : (b : ℕ) → b < 128 → is_refused b ≡ false → IsText (b ∷ [])
text-byte b h a = record { utf8 = utf8-ascii b h; allowed = (a, tt) }

text-nil : IsText []
text-nil = record { utf8 = IsUtf8-nil; allowed = tt }

text-first : (first : List ℕ) → IsPiece first → IsText (first_text first)
text-first [] p = text-nil
text-first (b ∷ bs) p = text-append (32 ∷ []) (b ∷ bs) (text-byte 32 (lit< tt) refl) (text-piece (b ∷ bs) p)

text-more : (more : List Line) → AllByRecursion IsPiece more → IsText (flat_map more_text more)
text-more [] p = text-nil
text-more (l ∷ ls) p = text-append (more_text l) (flat_map more_text ls)
    (text-append (32 ∷ []) (l ++ 10 ∷ []) (text-byte 32 (lit< tt) refl) (text-append l (10 ∷ []) (text-piece l p.0) (text-byte 10 (lit< tt) refl))) (text-more ls p.1)

text-field : (f : FieldValue) → HasPieces f → IsText (field_text f)
text-field f p = text-append (head_text f) (flat_map more_text f.more)
    (text-append f.name (58 ∷ (first_text f.first ++ 10 ∷ [])) (text-piece f.name p.name) (text-append (58 ∷ []) (first_text f.first ++ 10 ∷ []) (text-byte 58 (lit< tt) refl) (text-append (first_text f.first) (10 ∷ []) (text-first f.first p.first) (text-byte 10 (lit< tt) refl))))
    (text-more f.more p.more)

text-paragraph : (p : List FieldValue) → AllByRecursion HasPieces p → IsText (paragraph_text p)
text-paragraph [] h = text-nil
text-paragraph (f ∷ fs) h = text-append (field_text f) (paragraph_text fs) (text-field f h.0) (text-paragraph fs h.1)

-- ---- the lines of what is printed
lines-line : (l rest : List ℕ) → list_any is_newline l ≡ false → lines (l ++ 10 ∷ rest) ≡ l ∷ lines rest
lines-line [] rest h = refl
lines-line (b ∷ bs) rest h =
    let r = or_false (is_newline b) (list_any is_newline bs) h in
    ap (λ t. cond t ([] ∷ lines (bs ++ 10 ∷ rest)) (onto_first b (lines (bs ++ 10 ∷ rest)))) r.0 ∙ ap (onto_first b) (lines-line bs rest r.1)

printed_more : List Line → List Line
printed_more more = map (λ l. 32 ∷ l) more

lines-more : (more : List Line) (rest : List ℕ) → AllByRecursion IsPiece more → lines (flat_map more_text more ++ rest) ≡ map (λ l. 32 ∷ l) more ++ lines rest
lines-more [] rest p = refl
lines-more (l ∷ ls) rest p =
    ap lines (append_assoc (more_text l) (flat_map more_text ls) rest ∙ ap (λ x. 32 ∷ x) (append_assoc l (10 ∷ []) (flat_map more_text ls ++ rest)))
    ∙ lines-line (32 ∷ l) (flat_map more_text ls ++ rest) p.0.one_line
    ∙ ap (λ x. (32 ∷ l) ∷ x) (lines-more ls rest p.1)

first_line : FieldValue → Line
first_line f = f.name ++ (58 ∷ first_text f.first)

newline-first : (first : List ℕ) → list_any is_newline first ≡ false → list_any is_newline (58 ∷ first_text first) ≡ false
newline-first [] h = refl
newline-first (b ∷ bs) h = h

lines-field : (f : FieldValue) (rest : List ℕ) → HasPieces f → lines (field_text f ++ rest) ≡ (first_line f ∷ map (λ l. 32 ∷ l) f.more) ++ lines rest
unfolding first_line
lines-field f rest p =
    ap lines (append_assoc (head_text f) (flat_map more_text f.more) rest ∙ append_assoc f.name (58 ∷ (first_text f.first ++ 10 ∷ [])) (flat_map more_text f.more ++ rest)
    ∙ ap (λ x. f.name ++ (58 ∷ x)) (append_assoc (first_text f.first) (10 ∷ []) (flat_map more_text f.more ++ rest))
    ∙ sym (append_assoc f.name (58 ∷ first_text f.first) (10 ∷ (flat_map more_text f.more ++ rest))))
    ∙ lines-line (f.name ++ (58 ∷ first_text f.first)) (flat_map more_text f.more ++ rest) (any-both f.name (58 ∷ first_text f.first) p.name.one_line (newline-first f.first p.first.one_line))
    ∙ ap (λ x. (f.name ++ (58 ∷ first_text f.first)) ∷ x) (lines-more f.more rest p.more)

spells-more : (more : List Line) → SpellsMore (map (λ l. 32 ∷ l) more) more
spells-more [] = tt
spells-more (l ∷ ls) = ((32, refl, refl), spells-more ls)

no_blanks : (first : Line) (more : List Line) → with_blanks [] first more ≡ first ∷ more
no_blanks first [] = ap (λ x. x ∷ []) (append-nil first)
no_blanks first (l ∷ ls) = ap (λ x. first ∷ x) (no_blanks l ls)

spells-first : (name first : List ℕ) → (blanks : List ℕ) × AreBlanks blanks × (name ++ (58 ∷ first_text first) ≡ name ++ 58 ∷ (blanks ++ first))
spells-first name [] = ([], tt, refl)
spells-first name (b ∷ bs) = (32 ∷ [], (refl, tt), refl)

spells-field : (f : FieldValue) → SpellsField (first_line f ∷ map (λ l. 32 ∷ l) f.more) f
unfolding first_line
spells-field f =
    let P : List Line → Type 0 = SpellsValue ((f.name ++ (58 ∷ first_text f.first)) ∷ map (λ l. 32 ∷ l) f.more) f.name in
    ([], tt, subst P (sym (no_blanks f.first f.more)) (spells-first f.name f.first, spells-more f.more))

-- the lines of a paragraph that is printed, with an empty one after them
record Printed (p : List FieldValue) : Type 0 where
  own : List Line
  is : lines (paragraph_text p) ≡ own ++ ([] ∷ [])
  spells : SpellsFields own p

printed : (p : List FieldValue) → AllByRecursion HasPieces p → Printed p
printed [] h = record { own = []; is = refl; spells = refl }
printed (f ∷ fs) h =
    let r = printed fs h.1 in
    record {
      own = (first_line f ∷ map (λ l. 32 ∷ l) f.more) ++ r.own;
      is = lines-field f (paragraph_text fs) h.0 ∙ ap (λ x. (first_line f ∷ map (λ l. 32 ∷ l) f.more) ++ x) r.is ∙ sym (append_assoc (first_line f ∷ map (λ l. 32 ∷ l) f.more) r.own ([] ∷ []));
      spells = (first_line f ∷ map (λ l. 32 ∷ l) f.more, r.own, refl, spells-field f, r.spells);
    }

again_one : (p : List FieldValue) → IsParagraph p → AllByRecursion HasPieces p → Spells (paragraph_text p) (p ∷ [])
again_one p v h =
    let t = text-paragraph p h in
    let r = printed p h in
    record { utf8 = t.utf8; allowed = t.allowed; paragraphs = (v, tt); spelled = ([], r.own, [] ∷ [], r.is, tt, r.spells, refl, (refl, tt)) }

again_all : (ls : List Line) (ps : List (List FieldValue)) → ArePieces ls → AllByRecursion IsParagraph ps → SpellsParagraphs ls ps → AllByRecursion (λ p. Spells (paragraph_text p) (p ∷ [])) ps
again_all ls [] a v h = tt
again_all ls (p ∷ ps) a v h =
    let all : ArePieces (h.1 ++ h.2) = pieces-back h.0 (h.1 ++ h.2) (subst ArePieces h.3 a) in
    (again_one p v.0 (fields-pieces h.1 p (pieces-front h.1 h.2 all) h.5), again_all h.2 ps (pieces-back h.1 h.2 all) v.1 h.7)

-- What is printed of a paragraph that was read is that paragraph's text.
pub again : (text : List ℕ) (ps : List (List FieldValue)) → Spells text ps → AllByRecursion (λ p. Spells (paragraph_text p) (p ∷ [])) ps
again text ps s = again_all (lines text) ps (lines-pieces text s.utf8 s.allowed) s.paragraphs s.spelled
