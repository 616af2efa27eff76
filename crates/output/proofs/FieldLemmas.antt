-- Fields that a configuration has are found as well if the others are left out.
use Rattle.std.proofs.Common.{◌≡◌, ℕ, List, [], ◌∷◌, ◌++◌, Bool, true, false, ◌||◌, find, filter, take, drop, codes, refl, ap, ◌∙◌}
use Rattle.std.specs.Str.{str_eq_ignore_ascii_case}
use Rattle.para.specs.Field.{FieldValue}
use Rattle.para.specs.Fields.{Fields, field_named}
use Rattle.output.specs.Fields.{is_known, is_known_field}

-- what passes is kept, so the first that passes stays the first
module _ {A : Type 0} (test keep : A → Bool) (kept : (x : A) → test x ≡ true → keep x ≡ true) where
  found_behind : (x : A) (xs : List A) (t k : Bool) → test x ≡ t → keep x ≡ k → find test (filter keep xs) ≡ find test xs
      → find test (filter keep (x ∷ xs)) ≡ find test (x ∷ xs)
  found_behind x xs true k it is so = rw (kept x it, it) refl
  found_behind x xs false true it is so = rw (is, it) so
  found_behind x xs false false it is so = rw (is, it) so

  pub found_alike : (xs : List A) → find test (filter keep xs) ≡ find test xs
  found_alike [] = refl
  found_alike (x ∷ xs) = found_behind x xs (test x) (keep x) refl refl (found_alike xs)

-- a field of a name that is known is found as well
pub named_alike : (name : List ℕ) → ((other : List ℕ) → str_eq_ignore_ascii_case other name ≡ true → is_known other ≡ true)
    → (p : Fields) → field_named name (filter is_known_field p) ≡ field_named name p
named_alike name known p = found_alike (λ (f : FieldValue). str_eq_ignore_ascii_case f.name name) is_known_field (λ f it. known f.name it) p

-- whether one of these is true, tested one after the other
abbrev chain : Bool → List Bool → Bool
chain b [] = b
chain b (x ∷ xs) = chain (b || x) xs

chain_true : (xs : List Bool) → chain true xs ≡ true
chain_true [] = refl
chain_true (x ∷ xs) = chain_true xs

first_there : (b : Bool) (xs : List Bool) → b ≡ true → chain b xs ≡ true
first_there b xs it = ap (λ (y : Bool). chain y xs) it ∙ chain_true xs

chain_there : (b : Bool) (before : List Bool) (x : Bool) (after : List Bool) → x ≡ true → chain b (before ++ x ∷ after) ≡ true
chain_there true [] x after it = chain_true after
chain_there false [] x after it = first_there x after it
chain_there b (y ∷ before) x after it = chain_there (b || y) before x after it

-- whether a name is each of the known ones after the first
abbrev others : List ℕ → List Bool
others other =
    str_eq_ignore_ascii_case other (codes "Suite") ∷ str_eq_ignore_ascii_case other (codes "Origin") ∷ str_eq_ignore_ascii_case other (codes "Label") ∷ str_eq_ignore_ascii_case other (codes "Description") ∷ str_eq_ignore_ascii_case other (codes "Architectures") ∷ str_eq_ignore_ascii_case other (codes "Components") ∷ str_eq_ignore_ascii_case other (codes "AlsoAcceptFor") ∷ str_eq_ignore_ascii_case other (codes "Uploaders") ∷ str_eq_ignore_ascii_case other (codes "KeepDays") ∷ str_eq_ignore_ascii_case other (codes "ValidDays") ∷ str_eq_ignore_ascii_case other (codes "MaxFileSize") ∷ []

codename_known : (other : List ℕ) → str_eq_ignore_ascii_case other (codes "Codename") ≡ true → is_known other ≡ true
unfolding is_known
codename_known other it = first_there (str_eq_ignore_ascii_case other (codes "Codename")) (others other) it

pub codename_alike : (p : Fields) → field_named (codes "Codename") (filter is_known_field p) ≡ field_named (codes "Codename") p
codename_alike p = named_alike (codes "Codename") codename_known p

suite_known : (other : List ℕ) → str_eq_ignore_ascii_case other (codes "Suite") ≡ true → is_known other ≡ true
unfolding is_known
suite_known other it = chain_there (str_eq_ignore_ascii_case other (codes "Codename")) (take 0 (others other)) (str_eq_ignore_ascii_case other (codes "Suite")) (drop 1 (others other)) it

pub suite_alike : (p : Fields) → field_named (codes "Suite") (filter is_known_field p) ≡ field_named (codes "Suite") p
suite_alike p = named_alike (codes "Suite") suite_known p

origin_known : (other : List ℕ) → str_eq_ignore_ascii_case other (codes "Origin") ≡ true → is_known other ≡ true
unfolding is_known
origin_known other it = chain_there (str_eq_ignore_ascii_case other (codes "Codename")) (take 1 (others other)) (str_eq_ignore_ascii_case other (codes "Origin")) (drop 2 (others other)) it

pub origin_alike : (p : Fields) → field_named (codes "Origin") (filter is_known_field p) ≡ field_named (codes "Origin") p
origin_alike p = named_alike (codes "Origin") origin_known p

label_known : (other : List ℕ) → str_eq_ignore_ascii_case other (codes "Label") ≡ true → is_known other ≡ true
unfolding is_known
label_known other it = chain_there (str_eq_ignore_ascii_case other (codes "Codename")) (take 2 (others other)) (str_eq_ignore_ascii_case other (codes "Label")) (drop 3 (others other)) it

pub label_alike : (p : Fields) → field_named (codes "Label") (filter is_known_field p) ≡ field_named (codes "Label") p
label_alike p = named_alike (codes "Label") label_known p

description_known : (other : List ℕ) → str_eq_ignore_ascii_case other (codes "Description") ≡ true → is_known other ≡ true
unfolding is_known
description_known other it = chain_there (str_eq_ignore_ascii_case other (codes "Codename")) (take 3 (others other)) (str_eq_ignore_ascii_case other (codes "Description")) (drop 4 (others other)) it

pub description_alike : (p : Fields) → field_named (codes "Description") (filter is_known_field p) ≡ field_named (codes "Description") p
description_alike p = named_alike (codes "Description") description_known p

architectures_known : (other : List ℕ) → str_eq_ignore_ascii_case other (codes "Architectures") ≡ true → is_known other ≡ true
unfolding is_known
architectures_known other it = chain_there (str_eq_ignore_ascii_case other (codes "Codename")) (take 4 (others other)) (str_eq_ignore_ascii_case other (codes "Architectures")) (drop 5 (others other)) it

pub architectures_alike : (p : Fields) → field_named (codes "Architectures") (filter is_known_field p) ≡ field_named (codes "Architectures") p
architectures_alike p = named_alike (codes "Architectures") architectures_known p

components_known : (other : List ℕ) → str_eq_ignore_ascii_case other (codes "Components") ≡ true → is_known other ≡ true
unfolding is_known
components_known other it = chain_there (str_eq_ignore_ascii_case other (codes "Codename")) (take 5 (others other)) (str_eq_ignore_ascii_case other (codes "Components")) (drop 6 (others other)) it

pub components_alike : (p : Fields) → field_named (codes "Components") (filter is_known_field p) ≡ field_named (codes "Components") p
components_alike p = named_alike (codes "Components") components_known p

also_known : (other : List ℕ) → str_eq_ignore_ascii_case other (codes "AlsoAcceptFor") ≡ true → is_known other ≡ true
unfolding is_known
also_known other it = chain_there (str_eq_ignore_ascii_case other (codes "Codename")) (take 6 (others other)) (str_eq_ignore_ascii_case other (codes "AlsoAcceptFor")) (drop 7 (others other)) it

pub also_alike : (p : Fields) → field_named (codes "AlsoAcceptFor") (filter is_known_field p) ≡ field_named (codes "AlsoAcceptFor") p
also_alike p = named_alike (codes "AlsoAcceptFor") also_known p

uploaders_known : (other : List ℕ) → str_eq_ignore_ascii_case other (codes "Uploaders") ≡ true → is_known other ≡ true
unfolding is_known
uploaders_known other it = chain_there (str_eq_ignore_ascii_case other (codes "Codename")) (take 7 (others other)) (str_eq_ignore_ascii_case other (codes "Uploaders")) (drop 8 (others other)) it

pub uploaders_alike : (p : Fields) → field_named (codes "Uploaders") (filter is_known_field p) ≡ field_named (codes "Uploaders") p
uploaders_alike p = named_alike (codes "Uploaders") uploaders_known p

keep_known : (other : List ℕ) → str_eq_ignore_ascii_case other (codes "KeepDays") ≡ true → is_known other ≡ true
unfolding is_known
keep_known other it = chain_there (str_eq_ignore_ascii_case other (codes "Codename")) (take 8 (others other)) (str_eq_ignore_ascii_case other (codes "KeepDays")) (drop 9 (others other)) it

pub keep_alike : (p : Fields) → field_named (codes "KeepDays") (filter is_known_field p) ≡ field_named (codes "KeepDays") p
keep_alike p = named_alike (codes "KeepDays") keep_known p

valid_known : (other : List ℕ) → str_eq_ignore_ascii_case other (codes "ValidDays") ≡ true → is_known other ≡ true
unfolding is_known
valid_known other it = chain_there (str_eq_ignore_ascii_case other (codes "Codename")) (take 9 (others other)) (str_eq_ignore_ascii_case other (codes "ValidDays")) (drop 10 (others other)) it

pub valid_alike : (p : Fields) → field_named (codes "ValidDays") (filter is_known_field p) ≡ field_named (codes "ValidDays") p
valid_alike p = named_alike (codes "ValidDays") valid_known p

size_known : (other : List ℕ) → str_eq_ignore_ascii_case other (codes "MaxFileSize") ≡ true → is_known other ≡ true
unfolding is_known
size_known other it = chain_there (str_eq_ignore_ascii_case other (codes "Codename")) (take 10 (others other)) (str_eq_ignore_ascii_case other (codes "MaxFileSize")) (drop 11 (others other)) it

pub size_alike : (p : Fields) → field_named (codes "MaxFileSize") (filter is_known_field p) ≡ field_named (codes "MaxFileSize") p
size_alike p = named_alike (codes "MaxFileSize") size_known p
