-- A text that is parted at a space, the command of a line, and one line more.
use Rattle.std.proofs.Common.{◌≡◌, ◌<◌, ℕ, ◌+◌, Bool, true, false, not, ◌||◌, List, [], ◌∷◌, ◌++◌, length, take, get_or, Option, Some, None, Bor, refl, sym, ap, ◌∙◌, cond, arith}
use Rattle.std.specs.Prelude.{MatchOption}
use Rattle.std.specs.Option.{option_map}
use Rattle.std.specs.List.{list_any, position_or_len, before_first, after_first, cons_option}
use Rattle.std.specs.Str.{IsUtf8, is_utf8}
use Rattle.std.proofs.lemmas.List.{take_more, map-append}
use Rattle.std.proofs.lemmas.List.Elements.{filter_map-append}
use Rattle.std.proofs.lemmas.List.Folds.{list_any_at}
use Rattle.std.proofs.lemmas.List.Sums.{passes_at_first}
use Rattle.std.proofs.lemmas.Str.{IsUtf8-from_is_utf8, is_utf8-from_IsUtf8}
use Rattle.sums.specs.Lines.{is_space}
use Rattle.records.proofs.Different.{texts}
use Rattle.lists.specs.Lists.{RequestBytes, asked, asked_by_lines, command_in, command_of, parted}

-- ---- parting

no_space : (text : List ℕ) → position_or_len is_space text ≡ length text → list_any is_space text ≡ false
no_space [] h = refl
no_space (b ∷ bs) h = by_kind (is_space b) h (no_space bs)
  where
    by_kind : (t : Bool) → cond (not t) (1 + position_or_len is_space bs) 0 ≡ length (b ∷ bs) → (position_or_len is_space bs ≡ length bs → list_any is_space bs ≡ false) → (t || list_any is_space bs) ≡ false
    by_kind true e rec = absurd (omega arith)
    by_kind false e rec = rec (omega arith)

a_space : (text : List ℕ) → position_or_len is_space text < length text → list_any is_space text ≡ true
a_space text h = list_any_at is_space text (position_or_len is_space text) 0 h (passes_at_first is_space text 0 h)

pub parted_is : (text : List ℕ) (r : Option (Bor (List ℕ) × Bor (List ℕ)))
    → MatchOption r (position_or_len is_space text ≡ length text) (λ x. (position_or_len is_space text < length text) × (x.0.now ≡ before_first is_space text) × (x.1.now ≡ after_first is_space text))
    → option_map (λ (x : Bor (List ℕ) × Bor (List ℕ)). (x.0.now, x.1.now)) r ≡ parted text
unfolding parted
parted_is text None h = sym (ap (λ b. cond b (Some (before_first is_space text, after_first is_space text)) None) (no_space text h))
parted_is text (Some x) h =
    (λ k. Some (h.1 k, h.2 k))
    ∙ sym (ap (λ b. cond b (Some (before_first is_space text, after_first is_space text)) None) (a_space text h.0))

-- ---- bytes that are a text, and bytes that are not

pub as_text : (line : List ℕ) → IsUtf8 line → command_in line ≡ command_of line
unfolding command_in
as_text line u = ap (λ b. cond b (command_of line) None) (is_utf8-from_IsUtf8 line u)

no_utf8 : (line : List ℕ) → (IsUtf8 line → ⊥) → is_utf8 line ≡ false
no_utf8 line h = by_test (is_utf8 line) refl
  where
    by_test : (t : Bool) → is_utf8 line ≡ t → t ≡ false
    by_test true e = absurd (h (IsUtf8-from_is_utf8 line e))
    by_test false e = refl

pub as_no_text : (line : List ℕ) → (IsUtf8 line → ⊥) → command_in line ≡ None
unfolding command_in
as_no_text line h = ap (λ b. cond b (command_of line) None) (no_utf8 line h)

-- ---- lines in their order

pub one_more : (ls : List (Bor (List ℕ))) (i : ℕ) (d : Bor (List ℕ)) → i < length ls
    → asked_by_lines (texts (take (i + 1) ls)) ≡ asked_by_lines (texts (take i ls)) ++ asked_by_lines ((get_or ls i d).now ∷ [])
one_more ls i d h =
    ap (λ (xs : List (Bor (List ℕ))). asked_by_lines (texts xs)) (take_more ls i d h)
    ∙ ap asked_by_lines (map-append (λ (w : Bor (List ℕ)). w.now) (take i ls) (get_or ls i d ∷ []))
    ∙ filter_map-append asked (texts (take i ls)) ((get_or ls i d).now ∷ [])

pub single_some : (line : List ℕ) (one : RequestBytes) → Some one ≡ asked line → asked_by_lines (line ∷ []) ≡ one ∷ []
single_some line one e = ap (λ o. cons_option o []) (sym e)

pub single_none : (line : List ℕ) → None ≡ asked line → asked_by_lines (line ∷ []) ≡ []
single_none line e = ap (λ o. cons_option o []) (sym e)
