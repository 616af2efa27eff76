-- Lines that spell paragraphs have no fault, and are read as those.
use Rattle.std.proofs.Common.{◌≡◌, ◌≢◌, ℕ, ◌+◌, Bool, true, false, not, ◌||◌, List, [], ◌∷◌, ◌++◌, map, None, refl, sym, ◌∙◌, ap, subst, arith}
use Rattle.std.proofs.lemmas.Bool.{and_parts}
use Rattle.std.proofs.lemmas.Bool.Decides.{nat_tests}
use Rattle.std.proofs.lemmas.List.{append-nil, append_assoc}
use Rattle.std.proofs.lemmas.List.Folds.{list_any-append}
use Rattle.std.specs.List.{list_any, list_all, AllByRecursion, IsDistinct, after_first}
use Rattle.std.specs.Str.{str_eq_ignore_ascii_case}
use Rattle.para.specs.Bytes.{Line, is_blank, is_nil, is_empty, begins_with_blank, has_content, is_name, is_name_byte, begins_as_name, is_colon, is_refused, name_part}
use Rattle.para.specs.Field.{FieldValue}
use Rattle.para.specs.Fault.{line_fault, or_else}
use Rattle.para.specs.Grammar.{AreBlanks, AreEmpty, IsField, IsParagraph, with_blanks, SpellsMore, SpellsValue, SpellsField, SpellsFields, BeginsEmpty, SpellsParagraphs}
use Rattle.para.specs.Reading.{tail, value_part, trimmed, skip_blanks}
use Rattle.para.proofs.Lines.{no_colon, name_part-is, after_colon-is, any_colon, trimmed-with_blanks}
use Rattle.para.proofs.Rest.{Rest, put, before_rest, rest_of, names_after, faults_from}
use Rattle.para.proofs.LineKinds.{GoesOn, Begins, Passes, none_passes, gap_passes, goes_on_passes, begins_passes, is_taken, or_else_none}
use Rattle.para.proofs.FoundLines.{Fresh, before-gap, before-goes_on, before-begins}

-- no line holds a refused byte
abbrev pub AreAllowed : List Line → Type 0
AreAllowed ls = AllByRecursion (λ l. list_any is_refused l ≡ false) ls

allowed-front : (xs ys : List Line) → AreAllowed (xs ++ ys) → AreAllowed xs
allowed-front [] ys h = tt
allowed-front (x ∷ xs) ys h = (h.0, allowed-front xs ys h.1)

allowed-back : (xs ys : List Line) → AreAllowed (xs ++ ys) → AreAllowed ys
allowed-back [] ys h = h
allowed-back (x ∷ xs) ys h = allowed-back xs ys h.1

-- After fields of these names, lines are read as r and have no fault, whatever their number.
pub record Reads (names : List (List ℕ)) (ls : List Line) (r : Rest) : Type 0 where
  pub rest : rest_of ls ≡ r
  pub none : (n : ℕ) → faults_from names n ls ≡ None

-- ---- one more line before
reads-line : (names : List (List ℕ)) (line : Line) (ls : List Line) (r s : Rest) (after : List (List ℕ)) → Passes names line
    → (names_after names line ≡ after) × (before_rest line r ≡ s) → Reads after ls r → Reads names (line ∷ ls) s
reads-line names line ls r s after p e h = record {
  rest = ap (before_rest line) h.rest ∙ e.1;
  none = λ n. ap (λ x. or_else x (faults_from (names_after names line) (n + 1) ls)) (none_passes names (n + 1) line p) ∙ ap (λ x. faults_from x (n + 1) ls) e.0 ∙ h.none (n + 1);
}

reads-gap : (names : List (List ℕ)) (line : Line) (ls : List Line) (r : Rest) → is_empty line ≡ true → Reads [] ls r → Reads names (line ∷ ls) (record { more = []; fields = []; paragraphs = put r.fields r.paragraphs })
reads-gap names line ls r e h = reads-line names line ls r _ [] (gap_passes names line e) (before-gap names line r (record { empty = e })) h

or_true : (a b : Bool) → b ≡ true → (a || b) ≡ true
or_true true b h = refl
or_true false b h = h

content_behind : (x : ℕ) (xs : Line) → has_content xs ≡ true → has_content (x ∷ xs) ≡ true
content_behind x xs p = or_true (not (is_blank x)) (has_content xs) p

-- lines that continue a field
reads-more : (names : List (List ℕ)) (ls more : List Line) (tail_lines : List Line) (r : Rest) → is_nil names ≡ false → AreAllowed ls → AllByRecursion (λ l. has_content l ≡ true) more → SpellsMore ls more
    → Reads names tail_lines r → r.more ≡ [] → Reads names (ls ++ tail_lines) (record { more = more; fields = r.fields; paragraphs = r.paragraphs })
reads-more names [] [] tail_lines r f a c h k e = record { rest = k.rest ∙ same r e; none = k.none }
  where
    same : (x : Rest) → x.more ≡ [] → x ≡ record { more = []; fields = x.fields; paragraphs = x.paragraphs }
    same x p = ap (λ m. record { more = m; fields = x.fields; paragraphs = x.paragraphs }) p
reads-more names [] (m ∷ more) tail_lines r f a c h k e = absurd h
reads-more names (l ∷ ls) [] tail_lines r f a c h k e = absurd h
reads-more names (l ∷ ls) (m ∷ more) tail_lines r f a c h k e =
    let b : ℕ = h.0.0 in
    let is : l ≡ b ∷ m = h.0.2 in
    let begins : begins_with_blank l ≡ true = ap begins_with_blank is ∙ h.0.1 in
    let content : has_content l ≡ true = ap has_content is ∙ content_behind b m c.0 in
    let g : GoesOn names l = record { filled = ap is_empty is; begins = begins; content = content; field = f } in
    let e2 = before-goes_on names l (record { more = more; fields = r.fields; paragraphs = r.paragraphs }) g in
    reads-line names l (ls ++ tail_lines) (record { more = more; fields = r.fields; paragraphs = r.paragraphs }) (record { more = m ∷ more; fields = r.fields; paragraphs = r.paragraphs }) names
    (goes_on_passes names l a.0 g) (e2.0, e2.1 ∙ ap (λ x. record { more = x ∷ more; fields = r.fields; paragraphs = r.paragraphs }) (ap tail is))
    (reads-more names ls more tail_lines r f a.1 c.1 h.1 k e)

-- a line that is a name and a colon first
record NameLine (name rest : List ℕ) : Type 0 where
  part : name_part (name ++ 58 ∷ rest) ≡ name
  after : after_first is_colon (name ++ 58 ∷ rest) ≡ rest
  colon : list_any is_colon (name ++ 58 ∷ rest) ≡ true
  filled : is_empty (name ++ 58 ∷ rest) ≡ false
  begins : begins_with_blank (name ++ 58 ∷ rest) ≡ false

name_line : (name rest : List ℕ) → is_name name ≡ true → NameLine name rest
name_line [] rest h = absurd (cc)
name_line (b ∷ bs) rest h =
    let r = and_parts (begins_as_name (b ∷ bs)) (list_all is_name_byte (b ∷ bs)) h in
    let s = and_parts (is_name_byte b) (list_all is_name_byte bs) r.1 in
    let none = no_colon (b ∷ bs) r.1 in
    record { part = name_part-is (b ∷ bs) rest none; after = after_colon-is (b ∷ bs) rest none; colon = any_colon (b ∷ bs) rest; filled = refl; begins = no_blank b s.0 }
  where
    no_blank : (c : ℕ) → is_name_byte c ≡ true → is_blank c ≡ false
    no_blank c k = grind (arith, nat_tests)

some_name : (xs : List (List ℕ)) (x : List ℕ) → is_nil (xs ++ x ∷ []) ≡ false
some_name [] x = refl
some_name (y ∷ ys) x = refl

HaveContent : List Line → Type 0
HaveContent ls = AllByRecursion (λ l. has_content l ≡ true) ls

-- lines with content still have it with blanks at the end of the last line
padded : (blanks : List ℕ) (first : Line) (more : List Line) → HaveContent (first ∷ more) → HaveContent (with_blanks blanks first more)
unfolding HaveContent
padded blanks first [] h = (list_any-append (λ b. not (is_blank b)) first blanks ∙ ap (λ t. t || has_content blanks) h.0, tt)
padded blanks first (line ∷ more) h = (h.0, padded blanks line more h.1)

padded_more : (blanks : List ℕ) (first : Line) (more : List Line) (line : Line) (ls : List Line) → HaveContent more → with_blanks blanks first more ≡ line ∷ ls → HaveContent ls
unfolding HaveContent
padded_more blanks first [] line ls h e = let t : [] ≡ ls = cc in subst HaveContent t tt
padded_more blanks first (next ∷ more) line ls h e = let t : with_blanks blanks next more ≡ ls = cc in subst HaveContent t (padded blanks next more h)

reads-value : (names : List (List ℕ)) (blanks : List ℕ) (f : FieldValue) (ls value tail_lines : List Line) (r : Rest) → AreBlanks blanks → IsField f → is_taken names f.name ≡ false
    → Reads (names ++ f.name ∷ []) tail_lines r → r.more ≡ [] → with_blanks blanks f.first f.more ≡ value → AreAllowed ls → SpellsValue ls f.name value
    → Reads names (ls ++ tail_lines) (record { more = []; fields = f ∷ r.fields; paragraphs = r.paragraphs })
unfolding HaveContent
reads-value names blanks f [] value tail_lines r b v free k e is al s = absurd s
reads-value names blanks f (l ∷ ls) [] tail_lines r b v free k e is al s = absurd s
reads-value names blanks f (l ∷ ls) (y ∷ ys) tail_lines r b v free k e is al s =
    let before : List ℕ = s.0.0 in
    let eq : l ≡ f.name ++ 58 ∷ (before ++ y) = s.0.2 in
    let nl = name_line f.name (before ++ y) v.name in
    let part : name_part l ≡ f.name = ap name_part eq ∙ nl.part in
    let g : Begins names l = record { filled = ap is_empty eq ∙ nl.filled; begins = ap begins_with_blank eq ∙ nl.begins; name = ap is_name part ∙ v.name; colon = ap (list_any is_colon) eq ∙ nl.colon; free = ap (is_taken names) part ∙ free } in
    let behind : Rest = record { more = ys; fields = r.fields; paragraphs = r.paragraphs } in
    let bb = before-begins names l behind g in
    let field : trimmed (record { name = name_part l; first = value_part l; more = ys }) ≡ f =
    ap (λ x. trimmed (record { name = x; first = value_part l; more = ys })) part
    ∙ ap (λ x. trimmed (record { name = f.name; first = skip_blanks x; more = ys })) (ap (after_first is_colon) eq ∙ nl.after)
    ∙ trimmed-with_blanks f.name before blanks f.first y f.more ys s.0.1 b v.first v.last is in
    reads-line names l (ls ++ tail_lines) behind (record { more = []; fields = f ∷ r.fields; paragraphs = r.paragraphs }) (names ++ f.name ∷ [])
    (begins_passes names l al.0 g)
    (bb.0 ∙ ap (λ x. names ++ x ∷ []) part, bb.1 ∙ ap (λ x. record { more = []; fields = x ∷ r.fields; paragraphs = r.paragraphs }) field)
    (reads-more (names ++ f.name ∷ []) ls ys tail_lines r (some_name names f.name) al.1 (padded_more blanks f.first f.more y ys v.more is) s.1 k e)

-- the lines of a field
reads-field : (names : List (List ℕ)) (ls : List Line) (f : FieldValue) (tail_lines : List Line) (r : Rest) → AreAllowed ls → IsField f → is_taken names f.name ≡ false → SpellsField ls f
    → Reads (names ++ f.name ∷ []) tail_lines r → r.more ≡ [] → Reads names (ls ++ tail_lines) (record { more = []; fields = f ∷ r.fields; paragraphs = r.paragraphs })
reads-field names ls f tail_lines r a v free h k e = reads-value names h.0 f ls (with_blanks h.0 f.first f.more) tail_lines r h.1 v free k e refl a h.2

-- the lines of fields, with an empty line or no line after them
reads-fields : (names : List (List ℕ)) (ls : List Line) (fs : List FieldValue) (tail_lines : List Line) (ps : List (List FieldValue)) → AreAllowed ls → AllByRecursion IsField fs → Fresh names (map (λ f. f.name) fs) → SpellsFields ls fs
    → ((ns : List (List ℕ)) → Reads ns tail_lines (record { more = []; fields = []; paragraphs = ps })) → Reads names (ls ++ tail_lines) (record { more = []; fields = fs; paragraphs = ps })
reads-fields names ls [] tail_lines ps a v free h k = let P : List Line → Type 0 = λ x. Reads names (x ++ tail_lines) (record { more = []; fields = []; paragraphs = ps }) in subst P (sym h) (k names)
reads-fields names ls (f ∷ fs) tail_lines ps a v free h k =
    let allowed : AreAllowed (h.0 ++ h.1) = subst AreAllowed h.2 a in
    let inner = reads-fields (names ++ f.name ∷ []) h.1 fs tail_lines ps (allowed-back h.0 h.1 allowed) v.1 free.1 h.4 k in
    let P : List Line → Type 0 = λ x. Reads names x (record { more = []; fields = f ∷ fs; paragraphs = ps }) in
    subst P (sym (append_assoc h.0 h.1 tail_lines) ∙ ap (λ x. x ++ tail_lines) (sym h.2))
    (reads-field names h.0 f (h.1 ++ tail_lines) (record { more = []; fields = fs; paragraphs = ps }) (allowed-front h.0 h.1 allowed) v.0 free.0 h.3 inner refl)

-- Lines are read as these paragraphs, without a fault.
pub record ReadsAll (ls : List Line) (ps : List (List FieldValue)) : Type 0 where
  pub rest : Rest
  pub reads : Reads [] ls rest
  pub more : rest.more ≡ []
  pub is : put rest.fields rest.paragraphs ≡ ps

reads_all-gap : (line : Line) (ls : List Line) (ps : List (List FieldValue)) → is_empty line ≡ true → ReadsAll ls ps → ReadsAll (line ∷ ls) ps
reads_all-gap line ls ps e h = record { rest = record { more = []; fields = []; paragraphs = put h.rest.fields h.rest.paragraphs }; reads = reads-gap [] line ls h.rest e h.reads; more = refl; is = h.is }

reads_all-gaps : (gaps ls : List Line) (ps : List (List FieldValue)) → AreEmpty gaps → ReadsAll ls ps → ReadsAll (gaps ++ ls) ps
reads_all-gaps [] ls ps e h = h
reads_all-gaps (line ∷ gaps) ls ps e h = reads_all-gap line (gaps ++ ls) ps e.0 (reads_all-gaps gaps ls ps e.1 h)

-- lines are read so after fields of any names, if an empty line or no line comes first
reads-behind : (ls : List Line) (ps : List (List FieldValue)) → BeginsEmpty ls → ReadsAll ls ps → (ns : List (List ℕ)) → Reads ns ls (record { more = []; fields = []; paragraphs = ps })
reads-behind [] ps b h ns =
    let e : [] ≡ ps = ap (λ r. put r.fields r.paragraphs) h.reads.rest ∙ h.is in
    record { rest = ap (λ x. record { more = []; fields = []; paragraphs = x }) e; none = λ n. refl }
reads-behind (line ∷ ls) ps b h ns =
    let here = before-gap [] line (rest_of ls) (record { empty = b }) in
    let there = before-gap ns line (rest_of ls) (record { empty = b }) in
    let e : put (rest_of ls).fields (rest_of ls).paragraphs ≡ ps = ap (λ r. put r.fields r.paragraphs) (sym here.1 ∙ h.reads.rest) ∙ h.is in
    record {
      rest = here.1 ∙ ap (λ x. record { more = []; fields = []; paragraphs = x }) e;
      none = λ n.
          let r = or_else_none (line_fault [] (n + 1) line) (faults_from (names_after [] line) (n + 1) ls) (h.reads.none n) in
          ap (λ x. or_else x (faults_from (names_after ns line) (n + 1) ls)) (none_passes ns (n + 1) line (gap_passes ns line b))
          ∙ ap (λ x. faults_from x (n + 1) ls) (there.0 ∙ sym here.0) ∙ r.1;
    }

fresh-more : (n : List ℕ) (names xs : List (List ℕ)) → AllByRecursion (λ x. str_eq_ignore_ascii_case n x ≡ false) xs → Fresh names xs → Fresh (n ∷ names) xs
fresh-more n names [] h k = tt
fresh-more n names (x ∷ xs) h k = (ap (λ t. t || is_taken names x) h.0 ∙ k.0, fresh-more n (names ++ x ∷ []) xs h.1 k.1)

fresh-distinct : (xs : List (List ℕ)) → IsDistinct str_eq_ignore_ascii_case xs → Fresh [] xs
unfolding IsDistinct
fresh-distinct [] h = tt
fresh-distinct (x ∷ xs) h = (refl, fresh-more x [] xs h.0 (fresh-distinct xs h.1))

put_some : (p : List FieldValue) (ps : List (List FieldValue)) → p ≢ [] → put p ps ≡ p ∷ ps
put_some [] ps h = absurd (h refl)
put_some (f ∷ fs) ps h = refl

-- Lines that spell paragraphs are read as those.
pub reads_all : (ls : List Line) (ps : List (List FieldValue)) → AreAllowed ls → AllByRecursion IsParagraph ps → SpellsParagraphs ls ps → ReadsAll ls ps
reads_all ls [] a v h = let P : List Line → Type 0 = λ x. ReadsAll x [] in
    subst P (append-nil ls) (reads_all-gaps ls [] [] h (record { rest = record { more = []; fields = []; paragraphs = [] }; reads = record { rest = refl; none = λ n. refl }; more = refl; is = refl }))
reads_all ls (p ∷ ps) a v h =
    let allowed : AreAllowed (h.0 ++ (h.1 ++ h.2)) = subst AreAllowed h.3 a in
    let own_rest : AreAllowed (h.1 ++ h.2) = allowed-back h.0 (h.1 ++ h.2) allowed in
    let inner = reads_all h.2 ps (allowed-back h.1 h.2 own_rest) v.1 h.7 in
    let fields = reads-fields [] h.1 p h.2 ps (allowed-front h.1 h.2 own_rest) v.0.fields (fresh-distinct (map (λ f. f.name) p) v.0.distinct) h.5 (reads-behind h.2 ps h.6 inner) in
    let P : List Line → Type 0 = λ x. ReadsAll x (p ∷ ps) in
    subst P (sym h.3) (reads_all-gaps h.0 (h.1 ++ h.2) (p ∷ ps) h.4 (record { rest = record { more = []; fields = p; paragraphs = ps }; reads = fields; more = refl; is = put_some p ps v.0.nonempty }))
