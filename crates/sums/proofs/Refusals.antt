-- What is read of a paragraph, by its tests.
use Rattle.std.proofs.Common.{◌≡◌, ℕ, ◌||◌, Bool, true, false, List, [], Option, Some, None, Ok, Err, is_none, unwrap_or, length, ltb, refl, sym, ap, ◌∙◌}
use Rattle.std.specs.Option.{option_map}
use Rattle.para.specs.Field.{FieldValue}
use Rattle.sums.specs.Lists.{Lines, lists_within, lines_of, entries_of, refused_or, fault, field_named, sha1_name, sha256_name, files_name, is_absent, has_first}
use Rattle.sums.specs.Views.{AreEntries, fault_of_lines}
use Rattle.sums.specs.declared.fault.ListFault.{ListFault}
use Rattle.sums.specs.declared.fault.ListFault.TheVariants.{ListAbsent, TextOnFirstLine}
use Rattle.sums.specs.declared.entries.Entry.{Entry}
use Rattle.sums.specs.declared.entries.ListKind.{ListKind}

first : (a b c : Bool) → a ≡ true → (a || b || c) ≡ true
first a b c h = rw h refl

second : (a b c : Bool) → b ≡ true → (a || b || c) ≡ true
second true b c h = refl
second false b c h = rw h refl

third : (a b c : Bool) → c ≡ true → (a || b || c) ≡ true
third true b c h = refl
third false true c h = refl
third false false c h = h

absent : (most : ℕ) (kind : ListKind) (p : List FieldValue) → (is_absent p sha1_name || is_absent p sha256_name || is_absent p files_name) ≡ true → lists_within most kind p ≡ Err ListAbsent
unfolding lists_within
absent most kind p h = rw h refl

pub no_sha1 : (most : ℕ) (kind : ListKind) (p : List FieldValue) → field_named sha1_name p ≡ None → lists_within most kind p ≡ Err ListAbsent
no_sha1 most kind p h = absent most kind p (first (is_absent p sha1_name) (is_absent p sha256_name) (is_absent p files_name) (ap is_none h))

pub no_sha256 : (most : ℕ) (kind : ListKind) (p : List FieldValue) → field_named sha256_name p ≡ None → lists_within most kind p ≡ Err ListAbsent
no_sha256 most kind p h = absent most kind p (second (is_absent p sha1_name) (is_absent p sha256_name) (is_absent p files_name) (ap is_none h))

pub no_files : (most : ℕ) (kind : ListKind) (p : List FieldValue) → field_named files_name p ≡ None → lists_within most kind p ≡ Err ListAbsent
no_files most kind p h = absent most kind p (third (is_absent p sha1_name) (is_absent p sha256_name) (is_absent p files_name) (ap is_none h))

-- the three fields of a paragraph
pub record Three (p : List FieldValue) (sha1 sha256 files : FieldValue) : Type 0 where
  pub sha1_is : field_named sha1_name p ≡ Some sha1
  pub sha256_is : field_named sha256_name p ≡ Some sha256
  pub files_is : field_named files_name p ≡ Some files

none_absent : (p : List FieldValue) (sha1 sha256 files : FieldValue) → Three p sha1 sha256 files → (is_absent p sha1_name || is_absent p sha256_name || is_absent p files_name) ≡ false
none_absent p sha1 sha256 files h = (λ i. is_none (h.sha1_is i) || is_none (h.sha256_is i) || is_none (h.files_is i))

first_test : Option FieldValue → Bool
first_test o = unwrap_or (option_map (λ f. ltb 0 (length f.first)) o) false

firsts : (p : List FieldValue) (sha1 sha256 files : FieldValue) → Three p sha1 sha256 files
    → (has_first p sha1_name || has_first p sha256_name || has_first p files_name) ≡ (ltb 0 (length sha1.first) || ltb 0 (length sha256.first) || ltb 0 (length files.first))
unfolding first_test
firsts p sha1 sha256 files h = (λ i. first_test (h.sha1_is i) || first_test (h.sha256_is i) || first_test (h.files_is i))

pub has_text : (most : ℕ) (kind : ListKind) (p : List FieldValue) (sha1 sha256 files : FieldValue) → Three p sha1 sha256 files → (ltb 0 (length sha1.first) || ltb 0 (length sha256.first) || ltb 0 (length files.first)) ≡ true
    → lists_within most kind p ≡ Err TextOnFirstLine
unfolding lists_within
has_text most kind p sha1 sha256 files h t =
    let a = none_absent p sha1 sha256 files h in
    let b = firsts p sha1 sha256 files h ∙ t in
    rw (a, b) refl

pub rest : (most : ℕ) (kind : ListKind) (p : List FieldValue) (sha1 sha256 files : FieldValue) → Three p sha1 sha256 files → (ltb 0 (length sha1.first) || ltb 0 (length sha256.first) || ltb 0 (length files.first)) ≡ false
    → fault most kind p ≡ fault_of_lines most kind (lines_of p)
rest most kind p sha1 sha256 files h t =
    let a = none_absent p sha1 sha256 files h in
    let b = firsts p sha1 sha256 files h ∙ t in
    rw (a, b) refl

more : Option FieldValue → List (List ℕ)
more o = unwrap_or (option_map (λ f. f.more) o) []

pub lines_are : (p : List FieldValue) (sha1 sha256 files : FieldValue) → Three p sha1 sha256 files → lines_of p ≡ record { sha1 = sha1.more; sha256 = sha256.more; files = files.more }
unfolding more
lines_are p sha1 sha256 files h = (λ i. record { sha1 = more (h.sha1_is i); sha256 = more (h.sha256_is i); files = more (h.files_is i) })

-- ---- from the lines

-- the lines of three lists that are lent
pub same_lines : (found : Lines) {lines : Lines} {a b c : List (List ℕ)} → lines ≡ found → a ≡ lines.sha1 → b ≡ lines.sha256 → c ≡ lines.files → record { sha1 = a; sha256 = b; files = c } ≡ found
same_lines found h x y z = (λ i. record { sha1 = x i; sha256 = y i; files = z i }) ∙ h

pub refused : (most : ℕ) (kind : ListKind) (p : List FieldValue) (lines : Lines) (e : ListFault) → fault most kind p ≡ fault_of_lines most kind (lines_of p) → lines ≡ lines_of p → fault_of_lines most kind lines ≡ Some e → lists_within most kind p ≡ Err e
unfolding lists_within
refused most kind p lines e rest same h = ap (λ o. refused_or o (entries_of kind (lines_of p))) (rest ∙ (sym (ap (fault_of_lines most kind) same) ∙ h))

pub read : (most : ℕ) (kind : ListKind) (p : List FieldValue) (lines : Lines) (es : List Entry) → fault most kind p ≡ fault_of_lines most kind (lines_of p) → lines ≡ lines_of p → AreEntries most kind lines es → lists_within most kind p ≡ Ok es
unfolding lists_within
read most kind p lines es rest same h =
    let entries : es ≡ entries_of kind (lines_of p) = h.entries_are ∙ ap (entries_of kind) same in
    ap (λ o. refused_or o (entries_of kind (lines_of p))) (rest ∙ (sym (ap (fault_of_lines most kind) same) ∙ h.faultless)) ∙ ap Ok (sym entries)
