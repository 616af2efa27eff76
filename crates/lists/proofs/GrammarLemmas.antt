-- A list of commands is its lines, with one newline between each two.
use Rattle.std.proofs.Common.{◌≡◌, inl, inr, ℕ, ◌+◌, Bool, true, false, ◌||◌, List, [], ◌∷◌, ◌++◌, length, Some, None, refl, sym, ap, ◌∙◌, cond, arith}
use Rattle.std.proofs.lemmas.Option.{none-some}
use Rattle.std.proofs.lemmas.List.Splits.{join_with_byte-slice_split}
use Rattle.std.specs.Prelude.{if◌then◌else◌}
use Rattle.std.specs.List.{AllByRecursion, cons_option, join_with_byte, list_any, onto_first}
use Rattle.para.specs.Bytes.{is_newline}
use Rattle.lists.specs.declared.list.BatchFault.TheVariants.{Line}
use Rattle.lists.specs.Grammar.{AskFor, HasLines, IsBadAt, IsGoodLine, SpellsList}
use Rattle.lists.specs.Lists.{RequestBytes, asked, asked_by_lines, asked_by_list, fault_behind, is_bad, lines_in, list_fault}
use Rattle.lists.proofs.LineLemmas.{command_back, good_line, line_good, not_asked, passed_over}

-- ---- lines

abbrev pub IsPlain : List ℕ → Type 0
IsPlain line = list_any is_newline line ≡ false

onto_plain : (b : ℕ) (ls : List (List ℕ)) → is_newline b ≡ false → AllByRecursion IsPlain ls → AllByRecursion IsPlain (onto_first b ls)
onto_plain b [] e h = (rw e refl, tt)
onto_plain b (line ∷ ls) e h = (rw e h.0, h.1)

lines_plain : (list : List ℕ) → AllByRecursion IsPlain (lines_in list)
lines_plain [] = (refl, tt)
lines_plain (b ∷ bs) = by_kind (is_newline b) refl (lines_plain bs)
  where
    by_kind : (t : Bool) → is_newline b ≡ t → AllByRecursion IsPlain (lines_in bs) → AllByRecursion IsPlain (cond t ([] ∷ lines_in bs) (onto_first b (lines_in bs)))
    by_kind true e h = (refl, h)
    by_kind false e h = onto_plain b (lines_in bs) e h

its_lines : (list : List ℕ) → HasLines list (lines_in list)
its_lines list = record { no_newline = lines_plain list; joined = sym (join_with_byte-slice_split 10 list) }

last_line : (line : List ℕ) → IsPlain line → lines_in line ≡ line ∷ []
last_line [] h = refl
last_line (b ∷ bs) h = by_kind (is_newline b) h (last_line bs)
  where
    by_kind : (t : Bool) → (t || list_any is_newline bs) ≡ false → (IsPlain bs → lines_in bs ≡ bs ∷ []) → cond t ([] ∷ lines_in bs) (onto_first b (lines_in bs)) ≡ (b ∷ bs) ∷ []
    by_kind true k more = absurd (cc)
    by_kind false k more = ap (onto_first b) (more k)

one_line : (line rest : List ℕ) → IsPlain line → lines_in (line ++ 10 ∷ rest) ≡ line ∷ lines_in rest
one_line [] rest h = refl
one_line (b ∷ bs) rest h = by_kind (is_newline b) h (one_line bs rest)
  where
    by_kind : (t : Bool) → (t || list_any is_newline bs) ≡ false → (IsPlain bs → lines_in (bs ++ 10 ∷ rest) ≡ bs ∷ lines_in rest)
        → cond t ([] ∷ lines_in (bs ++ 10 ∷ rest)) (onto_first b (lines_in (bs ++ 10 ∷ rest))) ≡ (b ∷ bs) ∷ lines_in rest
    by_kind true k more = absurd (cc)
    by_kind false k more = ap (onto_first b) (more k)

joined_lines : (line : List ℕ) (more : List (List ℕ)) → AllByRecursion IsPlain (line ∷ more) → lines_in (join_with_byte 10 (line ∷ more)) ≡ line ∷ more
joined_lines line [] h = last_line line h.0
joined_lines line (next ∷ more) h = one_line line (join_with_byte 10 (next ∷ more)) h.0 ∙ ap (λ ls. line ∷ ls) (joined_lines next more h.1)

lines_are : (list line : List ℕ) (more : List (List ℕ)) → HasLines list (line ∷ more) → lines_in list ≡ line ∷ more
lines_are list line more h = ap lines_in h.joined ∙ joined_lines line more h.no_newline

-- ---- what good lines ask for

good_ask : (ls : List (List ℕ)) (k : ℕ) → fault_behind k ls ≡ None → AskFor ls (asked_by_lines ls)
good_ask [] k h = refl
good_ask (line ∷ more) k h = by_kind (is_bad line) refl h (good_ask more (k + 1))
  where
    by_line : IsGoodLine line → AskFor more (asked_by_lines more) → AskFor (line ∷ more) (cons_option (asked line) (asked_by_lines more))
    by_line (inl p) rest = rw (not_asked line (passed_over line p)) (inl (p, rest))
    by_line (inr (m, c)) rest = rw (command_back line m c) (inr (m, asked_by_lines more, c, refl, rest))

    by_kind : (t : Bool) → is_bad line ≡ t → (if t then Some (Line (k + 1)) else fault_behind (k + 1) more) ≡ None
        → (fault_behind (k + 1) more ≡ None → AskFor more (asked_by_lines more)) → AskFor (line ∷ more) (asked_by_lines (line ∷ more))
    by_kind true e n rec = absurd (none-some (Line (k + 1)) (sym n))
    by_kind false e n rec = by_line (good_line line e) (rec n)

asks_good : (ls : List (List ℕ)) (ms : List RequestBytes) (k : ℕ) → AskFor ls ms → (fault_behind k ls ≡ None) × (asked_by_lines ls ≡ ms)
asks_good [] ms k h = (refl, sym h)
asks_good (line ∷ more) ms k (inl (p, h)) =
    let rest = asks_good more ms (k + 1) h in (
      rw (line_good line (inl p)) rest.0,
      rw (not_asked line (passed_over line p)) rest.1,
    )
asks_good (line ∷ more) ms k (inr (m, others, c, e, h)) =
    let rest = asks_good more others (k + 1) h in (
      rw (line_good line (inr (m, c))) rest.0,
      rw (command_back line m c) (ap (λ l. m ∷ l) rest.1 ∙ sym e),
    )

pub as_list : (list : List ℕ) (ms : List RequestBytes) → list_fault list ≡ None → asked_by_list list ≡ ms → SpellsList list ms
as_list list ms good e = record { lines = lines_in list; has_lines = its_lines list; ask = rw (sym e) (good_ask (lines_in list) 0 good) }

pub list_back : (list : List ℕ) (ms : List RequestBytes) → SpellsList list ms → (list_fault list ≡ None) × (asked_by_list list ≡ ms)
list_back list ms s = by_lines s.lines s.has_lines s.ask
  where
    by_lines : (ls : List (List ℕ)) → HasLines list ls → AskFor ls ms → (list_fault list ≡ None) × (asked_by_list list ≡ ms)
    by_lines [] h a = rw h.joined (asks_good ([] ∷ []) ms 0 (inl (inl refl, a)))
    by_lines (line ∷ more) h a = rw (lines_are list line more h) (asks_good (line ∷ more) ms 0 a)

-- ---- the first bad line

-- the first bad line of these, after `k` others
record IsFirst (ls : List (List ℕ)) (k number : ℕ) : Type 0 where
  before : List (List ℕ)
  line : List ℕ
  behind : List (List ℕ)
  whole : ls ≡ before ++ line ∷ behind
  good : AllByRecursion IsGoodLine before
  bad : is_bad line ≡ true
  place : number ≡ k + length before + 1

found : (ls : List (List ℕ)) (k number : ℕ) → fault_behind k ls ≡ Some (Line number) → IsFirst ls k number
found [] k number h = absurd (none-some (Line number) h)
found (line ∷ more) k number h = by_kind (is_bad line) refl h (found more (k + 1) number)
  where
    by_kind : (t : Bool) → is_bad line ≡ t → (if t then Some (Line (k + 1)) else fault_behind (k + 1) more) ≡ Some (Line number)
        → (fault_behind (k + 1) more ≡ Some (Line number) → IsFirst more (k + 1) number) → IsFirst (line ∷ more) k number
    by_kind true e n rec = record { before = []; line = line; behind = more; whole = refl; good = tt; bad = e; place = grind arith }
    by_kind false e n rec =
        let f = rec n in
        let at : number ≡ k + 1 + length f.before + 1 = f.place in
        record { before = line ∷ f.before; line = f.line; behind = f.behind; whole = ap (λ l. line ∷ l) f.whole; good = (good_line line e, f.good); bad = f.bad; place = omega arith }

bad_line : (line : List ℕ) → is_bad line ≡ true → IsGoodLine line → ⊥
bad_line line e good = let k : is_bad line ≡ false = line_good line good in absurd (cc)

line_bad : (line : List ℕ) → (IsGoodLine line → ⊥) → is_bad line ≡ true
line_bad line n = by_kind (is_bad line) refl
  where
    by_kind : (t : Bool) → is_bad line ≡ t → t ≡ true
    by_kind true e = refl
    by_kind false e = absurd (n (good_line line e))

found_back : (before behind : List (List ℕ)) (line : List ℕ) (k : ℕ) → AllByRecursion IsGoodLine before → is_bad line ≡ true → fault_behind k (before ++ line ∷ behind) ≡ Some (Line (k + length before + 1))
found_back [] behind line k good bad = rw bad (ap (λ n. Some (Line n)) (omega arith))
found_back (first ∷ before) behind line k good bad = rw (line_good first good.0) (found_back before behind line (k + 1) good.1 bad ∙ ap (λ n. Some (Line n)) (omega arith))

pub first_bad : (list : List ℕ) (number : ℕ) → list_fault list ≡ Some (Line number) → IsBadAt list number
first_bad list number h =
    let f = found (lines_in list) 0 number h in
    let at : number ≡ 0 + length f.before + 1 = f.place in
    record {
      before = f.before;
      line = f.line;
      behind = f.behind;
      has_lines = rw (sym f.whole) (its_lines list);
      good = f.good;
      bad = bad_line f.line f.bad;
      place = omega arith;
    }

pub bad_back : (list : List ℕ) (number : ℕ) → IsBadAt list number → list_fault list ≡ Some (Line number)
bad_back list number b = by_lines b.before b.has_lines b.good b.place
  where
    by_lines : (before : List (List ℕ)) → HasLines list (before ++ b.line ∷ b.behind) → AllByRecursion IsGoodLine before → number ≡ length before + 1 → list_fault list ≡ Some (Line number)
    by_lines [] h good at = rw (lines_are list b.line b.behind h) (found_back [] b.behind b.line 0 good (line_bad b.line b.bad) ∙ ap (λ n. Some (Line n)) (omega arith))
    by_lines (first ∷ before) h good at =
        rw (lines_are list first (before ++ b.line ∷ b.behind) h)
        (found_back (first ∷ before) b.behind b.line 0 good (line_bad b.line b.bad) ∙ ap (λ n. Some (Line n)) (omega arith))
