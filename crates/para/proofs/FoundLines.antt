-- Lines without a fault spell what is read of them.
use Rattle.std.proofs.Common.{◌≡◌, ℕ, ◌+◌, Bool, true, false, List, [], ◌∷◌, ◌++◌, map, None, refl, sym, ◌∙◌, ap, subst}
use Rattle.std.proofs.lemmas.List.{append_assoc}
use Rattle.std.specs.List.{AllByRecursion, IsDistinct, after_first}
use Rattle.std.specs.Str.{str_eq_ignore_ascii_case}
use Rattle.para.specs.Bytes.{Line, is_nil, is_empty, has_content, is_colon, name_part}
use Rattle.para.specs.Field.{FieldValue}
use Rattle.para.specs.Fault.{line_fault}
use Rattle.para.specs.Grammar.{IsField, IsParagraph, with_blanks, SpellsMore, SpellsValue, SpellsFields, BeginsEmpty, SpellsParagraphs}
use Rattle.para.specs.Reading.{tail, value_part, trimmed}
use Rattle.para.proofs.Lines.{colon_split, skipped, trims, Trims, or_false}
use Rattle.para.proofs.Rest.{Rest, put, before_rest, rest_of, values_of, names_after, faults_from}
use Rattle.para.proofs.LineKinds.{Kind, gap, goes_on, starts, IsGap, GoesOn, Begins, passes, kind, is_taken, or_else_none, tail-content}

-- no name of the list is among those before it
abbrev pub Fresh : List (List ℕ) → List (List ℕ) → Type 0
Fresh names [] = Unit {0}
Fresh names (x ∷ xs) = (is_taken names x ≡ false) × Fresh (names ++ x ∷ []) xs

fresh_first : (n : List ℕ) (names xs : List (List ℕ)) → Fresh (n ∷ names) xs → AllByRecursion (λ x. str_eq_ignore_ascii_case n x ≡ false) xs × Fresh names xs
fresh_first n names [] h = (tt, tt)
fresh_first n names (x ∷ xs) h =
    let r = or_false (str_eq_ignore_ascii_case n x) (is_taken names x) h.0 in
    let s = fresh_first n (names ++ x ∷ []) xs h.1 in
    ((r.0, s.0), (r.1, s.1))

pub distinct-fresh : (xs : List (List ℕ)) → Fresh [] xs → IsDistinct str_eq_ignore_ascii_case xs
unfolding IsDistinct
distinct-fresh [] h = tt
distinct-fresh (x ∷ xs) h = let s = fresh_first x [] xs h.1 in (s.0, distinct-fresh xs s.1)

-- Lines that stand after fields of these names give r: lines that continue the last of them, then fields, then paragraphs.
pub record Found (names : List (List ℕ)) (ls : List Line) (r : Rest) : Type 0 where
  pub conts : List Line
  pub own : List Line
  pub rest : List Line
  pub splits : ls ≡ conts ++ (own ++ rest)
  pub more : SpellsMore conts r.more
  pub fields : SpellsFields own r.fields
  pub gap : BeginsEmpty rest
  pub paragraphs : SpellsParagraphs rest r.paragraphs
  pub contents : AllByRecursion (λ l. has_content l ≡ true) r.more
  pub behind : is_nil names ≡ true → r.more ≡ []
  pub valid : AllByRecursion IsField r.fields
  pub fresh : Fresh names (map (λ f. f.name) r.fields)
  pub all : AllByRecursion IsParagraph r.paragraphs

behind_empty : (line : Line) (ls : List Line) (ps : List (List FieldValue)) → is_empty line ≡ true → SpellsParagraphs ls ps → SpellsParagraphs (line ∷ ls) ps
behind_empty line ls [] e h = (e, h)
behind_empty line ls (p ∷ ps) e h = (line ∷ h.0, h.1, h.2, ap (λ x. line ∷ x) h.3, (e, h.4), h.5, h.6, h.7)

no_conts : (conts : List Line) (more : List Line) → more ≡ [] → SpellsMore conts more → conts ≡ []
no_conts [] more e h = refl
no_conts (c ∷ cs) [] e h = absurd h
no_conts (c ∷ cs) (m ∷ ms) e h = absurd (cc)

-- what the first lines of a text give
pub record Spelled (ls : List Line) (ps : List (List FieldValue)) : Type 0 where
  pub paragraphs : SpellsParagraphs ls ps
  pub all : AllByRecursion IsParagraph ps

pub put_spelled : (ls : List Line) (r : Rest) → Found [] ls r → Spelled ls (put r.fields r.paragraphs)
put_spelled ls r found = by_fields r.fields found.fields found.valid found.fresh
  where
    whole : ls ≡ found.own ++ found.rest
    whole = found.splits ∙ ap (λ x. x ++ (found.own ++ found.rest)) (no_conts found.conts r.more (found.behind refl) found.more)

    by_fields : (fs : List FieldValue) → SpellsFields found.own fs → AllByRecursion IsField fs → Fresh [] (map (λ f. f.name) fs) → Spelled ls (put fs r.paragraphs)
    by_fields [] h valid fresh =
        let P : List Line → Type 0 = λ x. SpellsParagraphs x r.paragraphs in
        record { paragraphs = subst P (sym (whole ∙ ap (λ x. x ++ found.rest) h)) found.paragraphs; all = found.all }
    by_fields (f ∷ fs) h valid fresh = record {
      paragraphs = ([], found.own, found.rest, whole, tt, h, found.gap, found.paragraphs);
      all = (record { nonempty = λ e. cc; fields = valid; distinct = distinct-fresh (map (λ g. g.name) (f ∷ fs)) fresh }, found.all);
    }

-- ---- one more line before
found-gap : (names : List (List ℕ)) (line : Line) (ls : List Line) (r : Rest) → IsGap line → Found [] ls r → Found names (line ∷ ls) (record { more = []; fields = []; paragraphs = put r.fields r.paragraphs })
found-gap names line ls r k found =
    let s = put_spelled ls r found in
    record {
      conts = [];
      own = [];
      rest = line ∷ ls;
      splits = refl;
      more = tt;
      fields = refl;
      gap = k.empty;
      paragraphs = behind_empty line ls (put r.fields r.paragraphs) k.empty s.paragraphs;
      contents = tt;
      behind = λ _. refl;
      valid = tt;
      fresh = tt;
      all = s.all;
    }

found-goes_on : (names : List (List ℕ)) (line : Line) (ls : List Line) (r : Rest) → GoesOn names line → Found names ls r → Found names (line ∷ ls) (record { more = tail line ∷ r.more; fields = r.fields; paragraphs = r.paragraphs })
found-goes_on names line ls r k found =
    let t = tail-content line k.begins k.content in
    record {
      conts = line ∷ found.conts;
      own = found.own;
      rest = found.rest;
      splits = ap (λ x. line ∷ x) found.splits;
      more = ((t.0, t.1, t.2), found.more);
      fields = found.fields;
      gap = found.gap;
      paragraphs = found.paragraphs;
      contents = (t.3, found.contents);
      behind = λ e. absurd (true≢ e k.field);
      valid = found.valid;
      fresh = found.fresh;
      all = found.all;
    }
  where
    true≢ : {b : Bool} → b ≡ true → b ≡ false → ⊥
    true≢ p q = cc

found-begins : (names : List (List ℕ)) (line : Line) (ls : List Line) (r : Rest) → Begins names line → Found (names ++ name_part line ∷ []) ls r
    → Found names (line ∷ ls) (record { more = []; fields = trimmed (record { name = name_part line; first = value_part line; more = r.more }) ∷ r.fields; paragraphs = r.paragraphs })
found-begins names line ls r k found =
    let value = skipped (after_first is_colon line) in
    let t : Trims (value_part line) r.more (trimmed (record { name = name_part line; first = value_part line; more = r.more })) = trims (name_part line) (value_part line) r.more value.3 found.contents in
    let e : line ≡ name_part line ++ 58 ∷ (value.0 ++ value_part line) = colon_split line k.colon ∙ ap (λ x. name_part line ++ 58 ∷ x) value.2 in
    let P : List Line → Type 0 = SpellsValue (line ∷ found.conts) (name_part line) in
    let spelled : SpellsValue (line ∷ found.conts) (name_part line) (with_blanks t.blanks (trimmed (record { name = name_part line; first = value_part line; more = r.more })).first (trimmed (record { name = name_part line; first = value_part line; more = r.more })).more)
    = subst P (sym t.lines) ((value.0, value.1, e), found.more) in
    record {
      conts = [];
      own = line ∷ (found.conts ++ found.own);
      rest = found.rest;
      splits = ap (λ x. line ∷ x) (found.splits ∙ sym (append_assoc found.conts found.own found.rest));
      more = tt;
      fields = (line ∷ found.conts, found.own, refl, (t.blanks, t.are, spelled), found.fields);
      gap = found.gap;
      paragraphs = found.paragraphs;
      contents = tt;
      behind = λ _. refl;
      valid = (record { name = k.name; first = t.begins; more = t.contents; last = t.ends }, found.valid);
      fresh = (k.free, found.fresh);
      all = found.all;
    }

-- what reading from the back and the names before the next line are, by the kind of the line
pub before-gap : (names : List (List ℕ)) (line : Line) (r : Rest) → IsGap line → (names_after names line ≡ []) × (before_rest line r ≡ record { more = []; fields = []; paragraphs = put r.fields r.paragraphs })
before-gap names line r k = (rw (k.empty) refl, rw (k.empty) refl)

pub before-goes_on : (names : List (List ℕ)) (line : Line) (r : Rest) → GoesOn names line → (names_after names line ≡ names) × (before_rest line r ≡ record { more = tail line ∷ r.more; fields = r.fields; paragraphs = r.paragraphs })
before-goes_on names line r k = (rw (k.filled, k.begins) refl, rw (k.filled, k.begins) refl)

pub before-begins : (names : List (List ℕ)) (line : Line) (r : Rest) → Begins names line → (names_after names line ≡ names ++ name_part line ∷ [])
    × (before_rest line r ≡ record { more = []; fields = trimmed (record { name = name_part line; first = value_part line; more = r.more }) ∷ r.fields; paragraphs = r.paragraphs })
before-begins names line r k = (rw (k.filled, k.begins) refl, rw (k.filled, k.begins) refl)

-- Lines without a fault give what is read of them from the back.
pub found : (names : List (List ℕ)) (n : ℕ) (ls : List Line) → faults_from names n ls ≡ None → Found names ls (rest_of ls)
found names n [] h = record { conts = []; own = []; rest = []; splits = refl; more = tt; fields = refl; gap = tt; paragraphs = tt; contents = tt; behind = λ _. refl; valid = tt; fresh = tt; all = tt }
found names n (line ∷ ls) h =
    let r = or_else_none (line_fault names (n + 1) line) (faults_from (names_after names line) (n + 1) ls) h in
    by_kind (kind names line (passes names (n + 1) line r.0)) (found (names_after names line) (n + 1) ls r.1)
  where
    by_kind : Kind names line → Found (names_after names line) ls (rest_of ls) → Found names (line ∷ ls) (before_rest line (rest_of ls))
    by_kind (gap k) rec =
        let e = before-gap names line (rest_of ls) k in
        let P : List (List ℕ) → Type 0 = λ x. Found x ls (rest_of ls) in
        let Q : Rest → Type 0 = λ x. Found names (line ∷ ls) x in
        subst Q (sym e.1) (found-gap names line ls (rest_of ls) k (subst P e.0 rec))
    by_kind (goes_on k) rec =
        let e = before-goes_on names line (rest_of ls) k in
        let P : List (List ℕ) → Type 0 = λ x. Found x ls (rest_of ls) in
        let Q : Rest → Type 0 = λ x. Found names (line ∷ ls) x in
        subst Q (sym e.1) (found-goes_on names line ls (rest_of ls) k (subst P e.0 rec))
    by_kind (starts k) rec =
        let e = before-begins names line (rest_of ls) k in
        let P : List (List ℕ) → Type 0 = λ x. Found x ls (rest_of ls) in
        let Q : Rest → Type 0 = λ x. Found names (line ∷ ls) x in
        subst Q (sym e.1) (found-begins names line ls (rest_of ls) k (subst P e.0 rec))

-- Lines without a fault spell their paragraphs.
pub spelled_lem : (n : ℕ) (ls : List Line) → faults_from [] n ls ≡ None → Spelled ls (values_of ls)
spelled_lem n ls h = put_spelled ls (rest_of ls) (found [] n ls h)
