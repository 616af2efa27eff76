-- What is known of three lists without a fault.
use Rattle.std.proofs.Common.{◌≡◌, ◌≢◌, ℕ, ◌<◌, ◌≤◌, ◌||◌, Bool, true, false, not, List, map, None, length, eqb, ltb, refl, ap, arith}
use Rattle.std.proofs.lemmas.Bool.Decides.{nat_tests}
use Rattle.std.specs.List.{list_any}
use Rattle.std.specs.Prelude.{Contains, AllPairs}
use Rattle.sums.specs.FileNames.{is_file_name}
use Rattle.sums.specs.Lines.{LineForm, has_words, is_digest, is_size, digest_word, size_word, name_word, has_bad_words, has_bad_digest, has_bad_size, has_bad_name}
use Rattle.sums.specs.Lists.{Lines, name_and_size, has_twice, lacks, disagree, files_form, sha1_form, sha256_form, some_line, any_twice, any_disagree}
use Rattle.sums.specs.Views.{fault_of_lines}
use Rattle.sums.specs.declared.fault.ListFault.TheVariants.{BadWords, BadDigest, BadSize, BadName, NameTwice, ListsDisagree, BadCount}
use Rattle.sums.specs.declared.entries.ListKind.{ListKind}
use Rattle.sums.proofs.Agree.{once, not_twice, in_other, none_lacks}
use Rattle.sums.proofs.Members.{any_false, any_none}
use Rattle.sums.proofs.Booleans.{neither, passed, none_of, three, passes}

-- nothing is wrong with a line
pub record IsGood (most : ℕ) (form : LineForm) (line : List ℕ) : Type 0 where
  pub words : has_words form line ≡ true
  pub digest : is_digest form.digest (digest_word line) ≡ true
  pub size : is_size most (size_word line) ≡ true
  pub name : is_file_name (name_word form line) ≡ true

-- the second list has the file of a line of the first
abbrev pub HasFile : LineForm → List ℕ → LineForm → List (List ℕ) → Type 0
HasFile form line other lines = (y : List ℕ) × Contains lines y × (name_word other y ≡ name_word form line) × (size_word y ≡ size_word line)

-- a list by itself
pub record IsGoodList (most : ℕ) (form : LineForm) (lines : List (List ℕ)) : Type 0 where
  pub each : (y : List ℕ) → Contains lines y → IsGood most form y
  pub once : AllPairs (λ a b. name_word form a ≢ name_word form b) lines

-- two lists with the same files
pub record Agree (form : LineForm) (lines : List (List ℕ)) (other : LineForm) (others : List (List ℕ)) : Type 0 where
  pub there : (x : List ℕ) → Contains lines x → HasFile form x other others
  pub back : (y : List ℕ) → Contains others y → HasFile other y form lines

pub record Faultless (most : ℕ) (kind : ListKind) (lines : Lines) : Type 0 where
  pub sha1 : IsGoodList most sha1_form lines.sha1
  pub sha256 : IsGoodList most sha256_form lines.sha256
  pub files : IsGoodList most (files_form kind) lines.files
  pub sha1_agrees : Agree sha1_form lines.sha1 (files_form kind) lines.files
  pub sha256_agrees : Agree sha256_form lines.sha256 (files_form kind) lines.files
  pub count : (0 < length lines.files) × (length lines.files ≤ 256)

-- no line of three lists is bad
record Pass (is_bad : LineForm → List ℕ → Bool) (kind : ListKind) (lines : Lines) : Type 0 where
  pub sha1 : list_any (is_bad sha1_form) lines.sha1 ≡ false
  pub sha256 : list_any (is_bad sha256_form) lines.sha256 ≡ false
  pub files : list_any (is_bad (files_form kind)) lines.files ≡ false

all_pass : (is_bad : LineForm → List ℕ → Bool) (kind : ListKind) (lines : Lines) → some_line is_bad kind lines ≡ false → Pass is_bad kind lines
all_pass is_bad kind lines h =
    let a = neither (list_any (is_bad sha1_form) lines.sha1 || list_any (is_bad sha256_form) lines.sha256) (list_any (is_bad (files_form kind)) lines.files) h in
    let b = neither (list_any (is_bad sha1_form) lines.sha1) (list_any (is_bad sha256_form) lines.sha256) a.0 in
    record { sha1 = b.0; sha256 = b.1; files = a.1 }

good_list : (most : ℕ) (form : LineForm) (lines : List (List ℕ)) → list_any (has_bad_words form) lines ≡ false → list_any (has_bad_digest form) lines ≡ false → list_any (has_bad_size most form) lines ≡ false
    → list_any (has_bad_name form) lines ≡ false → has_twice (map (name_and_size form) lines) ≡ false → IsGoodList most form lines
good_list most form lines w d s n t = record {
  each = λ y k. record {
    words = passed _ (any_false (has_bad_words form) lines y w k);
    digest = passed _ (any_false (has_bad_digest form) lines y d k);
    size = passed _ (any_false (has_bad_size most form) lines y s k);
    name = passed _ (any_false (has_bad_name form) lines y n k);
  };
  once = once (name_and_size form) lines t;
}

agree : (form : LineForm) (lines : List (List ℕ)) (other : LineForm) (others : List (List ℕ)) → disagree (map (name_and_size form) lines) (map (name_and_size other) others) ≡ false → Agree form lines other others
agree form lines other others h =
    let a = neither (lacks (map (name_and_size form) lines) (map (name_and_size other) others)) (lacks (map (name_and_size other) others) (map (name_and_size form) lines)) h in
    record {
      there = λ x k. in_other (name_and_size form) (name_and_size other) lines others x a.0 k;
      back = λ y k. in_other (name_and_size other) (name_and_size form) others lines y a.1 k;
    }

counted : (n : ℕ) → (eqb n 0 || ltb 256 n) ≡ false → (0 < n) × (n ≤ 256)
counted n h = let a = neither (eqb n 0) (ltb 256 n) h in let b = a.0 in let c = a.1 in (grind (arith, nat_tests), grind (arith, nat_tests))

pub faultless : (most : ℕ) (kind : ListKind) (lines : Lines) → fault_of_lines most kind lines ≡ None → Faultless most kind lines
faultless most kind lines h =
    let a = none_of (some_line has_bad_words kind lines) BadWords _ h in
    let b = none_of (some_line has_bad_digest kind lines) BadDigest _ a.1 in
    let c = none_of (some_line (has_bad_size most) kind lines) BadSize _ b.1 in
    let d = none_of (some_line has_bad_name kind lines) BadName _ c.1 in
    let e = none_of (any_twice kind lines) NameTwice _ d.1 in
    let f = none_of (any_disagree kind lines) ListsDisagree _ e.1 in
    let g = none_of (eqb (length lines.files) 0 || ltb 256 (length lines.files)) BadCount _ f.1 in
    let words = all_pass has_bad_words kind lines a.0 in
    let digests = all_pass has_bad_digest kind lines b.0 in
    let sizes = all_pass (has_bad_size most) kind lines c.0 in
    let names = all_pass has_bad_name kind lines d.0 in
    let t = neither (has_twice (map (name_and_size sha1_form) lines.sha1) || has_twice (map (name_and_size sha256_form) lines.sha256)) (has_twice (map (name_and_size (files_form kind)) lines.files)) e.0 in
    let u = neither (has_twice (map (name_and_size sha1_form) lines.sha1)) (has_twice (map (name_and_size sha256_form) lines.sha256)) t.0 in
    let v = neither (disagree (map (name_and_size sha1_form) lines.sha1) (map (name_and_size (files_form kind)) lines.files)) (disagree (map (name_and_size sha256_form) lines.sha256) (map (name_and_size (files_form kind)) lines.files)) f.0 in
    record {
      sha1 = good_list most sha1_form lines.sha1 words.sha1 digests.sha1 sizes.sha1 names.sha1 u.0;
      sha256 = good_list most sha256_form lines.sha256 words.sha256 digests.sha256 sizes.sha256 names.sha256 u.1;
      files = good_list most (files_form kind) lines.files words.files digests.files sizes.files names.files t.1;
      sha1_agrees = agree sha1_form lines.sha1 (files_form kind) lines.files v.0;
      sha256_agrees = agree sha256_form lines.sha256 (files_form kind) lines.files v.1;
      count = counted (length lines.files) g.0;
    }

-- ---- and back

none_bad : (most : ℕ) (form : LineForm) (lines : List (List ℕ)) → IsGoodList most form lines → (list_any (has_bad_words form) lines ≡ false) × (list_any (has_bad_digest form) lines ≡ false) × (list_any (has_bad_size most form) lines ≡ false)
    × (list_any (has_bad_name form) lines ≡ false) × (has_twice (map (name_and_size form) lines) ≡ false)
none_bad most form lines g = (
  any_none (has_bad_words form) lines (λ y k. ap not (g.each y k).words),
  any_none (has_bad_digest form) lines (λ y k. ap not (g.each y k).digest),
  any_none (has_bad_size most form) lines (λ y k. ap not (g.each y k).size),
  any_none (has_bad_name form) lines (λ y k. ap not (g.each y k).name),
  not_twice (name_and_size form) lines g.once,
)

none_disagrees : (form : LineForm) (lines : List (List ℕ)) (other : LineForm) (others : List (List ℕ)) → Agree form lines other others → disagree (map (name_and_size form) lines) (map (name_and_size other) others) ≡ false
none_disagrees form lines other others a =
    rw (none_lacks (name_and_size form) (name_and_size other) lines others a.there, none_lacks (name_and_size other) (name_and_size form) others lines a.back) refl

count_test : (n : ℕ) → 0 < n → n ≤ 256 → (eqb n 0 || ltb 256 n) ≡ false
count_test n h k = let a : eqb n 0 ≡ false = grind (arith, nat_tests) in let b : ltb 256 n ≡ false = grind (arith, nat_tests) in rw (a, b) refl

pub no_fault : (most : ℕ) (kind : ListKind) (lines : Lines) → Faultless most kind lines → fault_of_lines most kind lines ≡ None
no_fault most kind lines f =
    let a = none_bad most sha1_form lines.sha1 f.sha1 in
    let b = none_bad most sha256_form lines.sha256 f.sha256 in
    let c = none_bad most (files_form kind) lines.files f.files in
    passes (some_line has_bad_words kind lines) BadWords _ (three _ _ _ a.0 b.0 c.0) (
    passes (some_line has_bad_digest kind lines) BadDigest _ (three _ _ _ a.1 b.1 c.1) (
    passes (some_line (has_bad_size most) kind lines) BadSize _ (three _ _ _ a.2 b.2 c.2) (
    passes (some_line has_bad_name kind lines) BadName _ (three _ _ _ a.3 b.3 c.3) (
    passes (any_twice kind lines) NameTwice _ (three _ _ _ a.4 b.4 c.4) (
    passes (any_disagree kind lines) ListsDisagree _ (rw (none_disagrees sha1_form lines.sha1 (files_form kind) lines.files f.sha1_agrees, none_disagrees sha256_form lines.sha256 (files_form kind) lines.files f.sha256_agrees) refl) (
    passes (eqb (length lines.files) 0 || ltb 256 (length lines.files)) BadCount _ (count_test (length lines.files) f.count.0 f.count.1) refl))))))
