-- Names and versions are ASCII, and so is what is made of them.
use Rattle.std.proofs.Common.{◌≡◌, ℕ, ◌+◌, ◌-◌, ◌<◌, zero, suc, Bool, true, false, ◌&&◌, not, List, [], ◌∷◌, ◌++◌, length, take, drop, reverse, codes, get_or, refl, sym, ap, subst, ◌∙◌, arith, lit<, inl, inr, nat_lt, nat_le, bytes_eq, if◌then◌else◌}
use Rattle.std.specs.Char.{is_ascii, is_ascii_alphanumeric, is_ascii_digit, is_ascii_lowercase}
use Rattle.std.specs.List.{after_first, after_last, before_first, before_last, list_all, list_any, position_or_len, suffix_len}
use Rattle.std.specs.Str.{IsAscii, IsUtf8}
use Rattle.std.specs.Str.Parse.{digits_value}
use Rattle.std.proofs.lemmas.Bool.{and_from, and_parts, cases_lt, ltb-true}
use Rattle.std.proofs.lemmas.Bool.Decides.{nat_tests}
use Rattle.std.proofs.lemmas.List.{drop_more, get_or-reverse, length-reverse, take_all, take-append-drop}
use Rattle.std.proofs.lemmas.List.Sums.{passes_at_first, prefix_len_stops}
use Rattle.std.proofs.lemmas.List.Folds.{list_all-append}
use Rattle.std.proofs.lemmas.Str.{IsUtf8-from_ascii}
use Rattle.records.specs.Names.{begins_with, is_architecture_byte, is_architecture_name, is_lower_or_digit, is_package_byte, is_package_name, is_plain_byte, is_plain_name}
use Rattle.sums.proofs.Booleans.{passed}
use Rattle.sums.specs.FileNames.{is_file_name, is_name_character}
use Rattle.para.specs.Bytes.{is_colon}
use Rattle.vers.specs.Syntax.{IsVersion, applies, faults, is_epoch, is_hyphen, is_revision_character, is_upstream_character, without_epoch}
use Rattle.tables_meaning.proofs.RowLists.{none_passes}

-- each byte is below 128
abbrev pub AreAscii : List ℕ → Type 0
AreAscii text = list_all is_ascii text ≡ true

is_text : (text : List ℕ) → AreAscii text → IsAscii text
is_text [] all i = lit< tt
is_text (c ∷ cs) all zero = ltb-true _ _ (and_parts _ _ all).0
is_text (c ∷ cs) all (suc i) = is_text cs (and_parts _ _ all).1 i

pub ascii-IsUtf8 : (text : List ℕ) → AreAscii text → IsUtf8 text
ascii-IsUtf8 text all = IsUtf8-from_ascii text (is_text text all)

-- ---- texts that are put together and cut

pub ascii-append : (a b : List ℕ) → AreAscii a → AreAscii b → AreAscii (a ++ b)
ascii-append a b h k = list_all-append is_ascii a b ∙ and_from (list_all is_ascii a) (list_all is_ascii b) h k

pub ascii-take : (n : ℕ) (text : List ℕ) → AreAscii text → AreAscii (take n text)
ascii-take zero text all = refl
ascii-take (suc n) [] all = refl
ascii-take (suc n) (c ∷ cs) all = let parts = and_parts (is_ascii c) (list_all is_ascii cs) all in and_from (is_ascii c) (list_all is_ascii (take n cs)) parts.0 (ascii-take n cs parts.1)

-- bytes of a kind that is ASCII
pub all_ascii : (test : ℕ → Bool) → ((c : ℕ) → test c ≡ true → is_ascii c ≡ true) → (text : List ℕ) → list_all test text ≡ true → AreAscii text
all_ascii test each [] all = refl
all_ascii test each (c ∷ cs) all = let parts = and_parts (test c) (list_all test cs) all in and_from (is_ascii c) (list_all is_ascii cs) (each c parts.0) (all_ascii test each cs parts.1)

-- ---- bytes

digit_ascii : (c : ℕ) → is_ascii_digit c ≡ true → is_ascii c ≡ true
digit_ascii c h = grind (arith, nat_tests)

plain_byte : (c : ℕ) → is_plain_byte c ≡ true → is_ascii c ≡ true
plain_byte c h = grind (arith, nat_tests)

architecture_byte : (c : ℕ) → is_architecture_byte c ≡ true → is_ascii c ≡ true
architecture_byte c h = grind (arith, nat_tests)

package_byte : (c : ℕ) → is_package_byte c ≡ true → is_ascii c ≡ true
package_byte c h = grind (arith, nat_tests)

first_byte : (c : ℕ) → is_ascii_alphanumeric c ≡ true → is_ascii c ≡ true
first_byte c h = grind (arith, nat_tests)

name_byte : (c : ℕ) → is_name_character c ≡ true → is_ascii c ≡ true
name_byte c h = grind (arith, nat_tests)

revision_byte : (c : ℕ) → is_revision_character c ≡ true → is_ascii c ≡ true
revision_byte c h = grind (arith, nat_tests)

upstream_byte : (c : ℕ) → is_upstream_character c ≡ true → is_ascii c ≡ true
upstream_byte c h = grind (arith, nat_tests)

colon : (c : ℕ) → is_colon c ≡ true → is_ascii c ≡ true
colon c h = grind (arith, nat_tests)

hyphen : (c : ℕ) → is_hyphen c ≡ true → is_ascii c ≡ true
hyphen c h = grind (arith, nat_tests)

-- ---- names

pub plain_ascii : (name : List ℕ) → is_plain_name name ≡ true → AreAscii name
unfolding is_plain_name
plain_ascii name h = all_ascii is_plain_byte plain_byte name (and_parts (nat_le (length name) 60 && begins_with is_ascii_alphanumeric name) (list_all is_plain_byte name) h).1

pub architecture_ascii : (name : List ℕ) → is_architecture_name name ≡ true → AreAscii name
unfolding is_architecture_name
architecture_ascii name h =
    let front = and_parts (nat_le (length name) 40 && begins_with is_ascii_lowercase name && list_all is_architecture_byte name) (not (bytes_eq name (codes "any"))) h in
    all_ascii is_architecture_byte architecture_byte name (and_parts (nat_le (length name) 40 && begins_with is_ascii_lowercase name) (list_all is_architecture_byte name) front.0).1

pub package_ascii : (name : List ℕ) → is_package_name name ≡ true → AreAscii name
unfolding is_package_name
package_ascii name h = all_ascii is_package_byte package_byte name (and_parts (nat_le 2 (length name) && begins_with is_lower_or_digit name) (list_all is_package_byte name) h).1

pub file_name_ascii : (name : List ℕ) → is_file_name name ≡ true → AreAscii name
file_name_ascii [] h = refl
file_name_ascii (c ∷ cs) h =
    let parts = and_parts (nat_lt (length cs) 200 && is_ascii_alphanumeric c) (list_all is_name_character cs) h in
    and_from (is_ascii c) (list_all is_ascii cs) (first_byte c (and_parts (nat_lt (length cs) 200) (is_ascii_alphanumeric c) parts.0).1) (all_ascii is_name_character name_byte cs parts.1)

-- ---- versions

-- a text around one of its bytes
around : (text : List ℕ) (k : ℕ) → k < length text → AreAscii (take k text) → is_ascii (get_or text k 0) ≡ true → AreAscii (drop (k + 1) text) → AreAscii text
around text k lt front at rest =
    subst AreAscii (take-append-drop k text)
    (ascii-append (take k text) (drop k text) front
    (subst AreAscii (sym (drop_more text k 0 lt)) (and_from (is_ascii (get_or text k 0)) (list_all is_ascii (drop (k + 1) text)) at rest)))

around_first : (test : ℕ → Bool) → ((c : ℕ) → test c ≡ true → is_ascii c ≡ true) → (text : List ℕ) → AreAscii (before_first test text) → AreAscii (after_first test text) → AreAscii text
around_first test each text front rest = elim (cases_lt (position_or_len test text) (length text)) [
  | inl lt ↦ around text (position_or_len test text) lt front (each (get_or text (position_or_len test text) 0) (passes_at_first test text 0 lt)) rest
  | inr beyond ↦ subst AreAscii (take_all (position_or_len test text) text (omega arith)) front
]

around_last : (test : ℕ → Bool) → ((c : ℕ) → test c ≡ true → is_ascii c ≡ true) → (text : List ℕ) → AreAscii (before_last test text) → AreAscii (after_last test text) → AreAscii text
around_last test each text front rest = elim (cases_lt behind (length text)) [
  | inl lt ↦
      (let next : length text - behind ≡ length text - behind - 1 + 1 = omega arith in
      let place : length text - 1 - behind ≡ length text - behind - 1 = omega arith in
      let long = length-reverse text in
      around text (length text - behind - 1) (omega arith) front
      (each (get_or text (length text - behind - 1) 0)
      (passed (test (get_or text (length text - behind - 1) 0))
      (ap (λ j. not (test (get_or text j 0))) (sym place)
      ∙ ap (λ c. not (test c)) (sym (get_or-reverse text behind 0 (omega arith)))
      ∙ prefix_len_stops (λ c. not (test c)) (reverse text) 0 (omega arith))))
      (subst (λ n. AreAscii (drop n text)) next rest))
  | inr beyond ↦ (let none : length text - behind ≡ 0 = omega arith in subst (λ n. AreAscii (drop n text)) none rest)
]
  where
    behind : ℕ
    behind = suffix_len (λ c. not (test c)) text

rest_ascii : (rest : List ℕ) (b : Bool) → (list_all is_upstream_character (if b then before_last is_hyphen rest else rest) && list_all is_revision_character (if b then after_last is_hyphen rest else codes "0")) ≡ true → AreAscii rest
rest_ascii rest true h =
    let parts = and_parts (list_all is_upstream_character (before_last is_hyphen rest)) (list_all is_revision_character (after_last is_hyphen rest)) h in
    around_last is_hyphen hyphen rest (all_ascii is_upstream_character upstream_byte (before_last is_hyphen rest) parts.0) (all_ascii is_revision_character revision_byte (after_last is_hyphen rest) parts.1)
rest_ascii rest false h = all_ascii is_upstream_character upstream_byte rest (and_parts (list_all is_upstream_character rest) (list_all is_revision_character (codes "0")) h).0

epoch_ascii : (epoch : List ℕ) → is_epoch epoch ≡ true → AreAscii epoch
epoch_ascii epoch h =
    let front = and_parts (nat_lt 0 (length epoch) && list_all is_ascii_digit epoch) (nat_lt (digits_value 10 epoch) 2147483648) h in
    all_ascii is_ascii_digit digit_ascii epoch (and_parts (nat_lt 0 (length epoch)) (list_all is_ascii_digit epoch) front.0).1

whole_ascii : (text : List ℕ) (b : Bool) → is_epoch (if b then before_first is_colon text else codes "0") ≡ true → AreAscii (if b then after_first is_colon text else text) → AreAscii text
whole_ascii text true h rest = around_first is_colon colon text (epoch_ascii (before_first is_colon text) h) rest
whole_ascii text false h rest = rest

-- a version without its epoch
pub without_epoch_ascii : (text : List ℕ) → IsVersion text → AreAscii (without_epoch text)
without_epoch_ascii text h =
    let none = none_passes (applies text) faults h in
    rest_ascii (without_epoch text) (list_any is_hyphen (without_epoch text)) (passed _ none.1.1.1.0)

pub version_ascii : (text : List ℕ) → IsVersion text → AreAscii text
version_ascii text h =
    let none = none_passes (applies text) faults h in
    whole_ascii text (list_any is_colon text) (passed _ none.1.0) (without_epoch_ascii text h)
