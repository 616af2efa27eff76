-- The words of a line that is spelled of words.
use Rattle.std.proofs.Common.{◌≡◌, ℕ, ◌*◌, ◌<◌, ◌||◌, ◌&&◌, Bool, true, false, not, List, [], ◌∷◌, length, eqb, ltb, refl, ap, ◌∙◌, arith}
use Rattle.std.proofs.lemmas.Bool.Decides.{nat_tests}
use Rattle.std.proofs.lemmas.List.Folds.{list_any-append}
use Rattle.std.proofs.lemmas.List.Splits.{slice_split_at, slice_split_none}
use Rattle.std.specs.List.{list_any, list_all}
use Rattle.std.specs.Prelude.{Contains, All}
use Rattle.sums.specs.FileNames.{is_file_name, is_name_character}
use Rattle.sums.specs.Lines.{LineForm, words, is_word, is_tab, is_space, has_words, is_lower_hex, is_digest, is_size}
use Rattle.sums.specs.Lists.{spelled}
use Rattle.sums.proofs.Members.{any_false, any_none, all_from, all_true}
use Rattle.sums.proofs.SizeTexts.{size_text}
use Rattle.std.specs.Char.{is_ascii_digit, is_ascii_alphanumeric}
use Rattle.sums.proofs.Booleans.{both, neither, denied}

-- no byte of a word is a space or a tab
plain : (w : List ℕ) (c : ℕ) → is_word w ≡ true → Contains w c → (is_space c ≡ false) × (is_tab c ≡ false)
plain w c h k =
    neither (is_space c) (is_tab c) (any_false (λ b. is_space b || is_tab b) w c (denied _ (both (ltb 0 (length w)) (not (list_any (λ b. is_space b || is_tab b) w)) h).1) k)

no_space : (w : List ℕ) → is_word w ≡ true → All (λ c. is_space c ≡ false) w
no_space w h = all_from (λ c. is_space c ≡ false) w (λ c k. (plain w c h k).0)

no_tab : (w : List ℕ) → is_word w ≡ true → list_any is_tab w ≡ false
no_tab w h = any_none is_tab w (λ c k. (plain w c h k).1)

-- words with a space between them are split into these words
pub words-spelled : (w : List ℕ) (ws : List (List ℕ)) → list_all is_word (w ∷ ws) ≡ true → words (spelled (w ∷ ws)) ≡ w ∷ ws
words-spelled w [] h = slice_split_none is_space w (no_space w (both (is_word w) true h).0)
words-spelled w (v ∷ vs) h =
    let p = both (is_word w) (list_all is_word (v ∷ vs)) h in
    slice_split_at is_space w 32 (spelled (v ∷ vs)) (no_space w p.0) refl ∙ ap (λ r. w ∷ r) (words-spelled v vs p.1)

tabless : (w : List ℕ) (ws : List (List ℕ)) → list_all is_word (w ∷ ws) ≡ true → list_any is_tab (spelled (w ∷ ws)) ≡ false
tabless w [] h = no_tab w (both (is_word w) true h).0
tabless w (v ∷ vs) h =
    let p = both (is_word w) (list_all is_word (v ∷ vs)) h in
    list_any-append is_tab w (32 ∷ spelled (v ∷ vs)) ∙ rw (no_tab w p.0) (tabless v vs p.1)

filled : (w : List ℕ) → is_word w ≡ true → eqb (length w) 0 ≡ false
filled w h = let some = (both (ltb 0 (length w)) (not (list_any (λ b. is_space b || is_tab b) w)) h).0 in grind (arith, nat_tests)

none_empty : (ws : List (List ℕ)) → list_all is_word ws ≡ true → list_any (λ w. eqb (length w) 0) ws ≡ false
none_empty ws h = any_none (λ w. eqb (length w) 0) ws (λ w k. filled w (all_true is_word ws w h k))

-- a line of words has as many as its form
pub spelled_has_words : (form : LineForm) (w : List ℕ) (ws : List (List ℕ)) → list_all is_word (w ∷ ws) ≡ true → eqb (length (w ∷ ws)) form.words ≡ true → has_words form (spelled (w ∷ ws)) ≡ true
spelled_has_words form w ws h e =
    rw (words-spelled w ws h, tabless w ws h) (rw (e, none_empty (w ∷ ws) h) refl)

-- what bytes make a word
word_of : (p : ℕ → Bool) (w : List ℕ) → ((c : ℕ) → p c ≡ true → (is_space c || is_tab c) ≡ false) → 0 < length w → list_all p w ≡ true → is_word w ≡ true
word_of p w f some h =
    let none : list_any (λ b. is_space b || is_tab b) w ≡ false = any_none (λ b. is_space b || is_tab b) w (λ c k. f c (all_true p w c h k)) in
    let long : ltb 0 (length w) ≡ true = grind (arith, nat_tests) in
    rw (long, none) refl

hex_plain : (c : ℕ) → is_lower_hex c ≡ true → (is_space c || is_tab c) ≡ false
hex_plain c h = grind (arith, nat_tests)

digit_plain : (c : ℕ) → is_ascii_digit c ≡ true → (is_space c || is_tab c) ≡ false
digit_plain c h = grind (arith, nat_tests)

name_plain : (c : ℕ) → is_name_character c ≡ true → (is_space c || is_tab c) ≡ false
name_plain c h = grind (arith, nat_tests)

pub digest_is_word : (n : ℕ) (w : List ℕ) → 0 < n → is_digest n w ≡ true → is_word w ≡ true
digest_is_word n w some h =
    let p = both (eqb (length w) (2 * n)) (list_all is_lower_hex w) h in
    let long : 0 < length w = grind (arith, nat_tests) in
    word_of is_lower_hex w hex_plain long p.1

pub size_is_word : (most : ℕ) (w : List ℕ) → is_size most w ≡ true → is_word w ≡ true
size_is_word most w h = let t = size_text most w h in word_of is_ascii_digit w digit_plain t.some t.digits

letter : (c : ℕ) → is_ascii_alphanumeric c ≡ true → is_name_character c ≡ true
letter c h = rw h refl

pub name_is_word : (w : List ℕ) → is_file_name w ≡ true → is_word w ≡ true
name_is_word [] h = cc
name_is_word (c ∷ cs) h =
    let p = both (ltb (length cs) 200 && is_ascii_alphanumeric c) (list_all is_name_character cs) h in
    let q = both (ltb (length cs) 200) (is_ascii_alphanumeric c) p.0 in
    let all : list_all is_name_character (c ∷ cs) ≡ true = rw (letter c q.1) p.1 in
    word_of is_name_character (c ∷ cs) name_plain (omega arith) all
