-- The lines of a list are split and tried, one after another.
use Rattle.std.proofs.Common.{◌≡◌, ◌∙◌, ℕ, ◌||◌, ◌++◌, Bool, true, false, cond, List, [], ◌∷◌, Option, Some, None, refl, sym, ap}
use Rattle.std.proofs.lemmas.List.Folds.{list_any-append}
use Rattle.std.proofs.Math.Bool.{or_assoc}
use Rattle.std.specs.List.{list_any}
use Rattle.sums.specs.Lines.{LineForm, has_bad_words, has_bad_digest, has_bad_size, has_bad_name}
use Rattle.sums.specs.Lists.{Lines, sha1_form, sha256_form, files_form, some_line}
use Rattle.sums.specs.Views.{IsSplit, AreSplit, with_line, with_lines, any_failed, fault_of_failed, fault_of_lines, fault_of_names}
use Rattle.sums.specs.declared.lines.Failed.{Failed}
use Rattle.sums.specs.declared.entries.ListKind.{ListKind}
use Rattle.sums.specs.declared.fault.ListFault.{ListFault}
use Rattle.sums.specs.declared.fault.ListFault.TheVariants.{BadWords, BadDigest, BadSize, BadName}
use Rattle.sums.proofs.Booleans.{neither}

or_none : (b : Bool) → (b || false) ≡ b
or_none true = refl
or_none false = refl

-- a test of one more line, after those of the lines before
tested : (b : Bool) (test : List ℕ → Bool) (xs : List (List ℕ)) (x : List ℕ) → ((b || list_any test xs) || test x) ≡ (b || list_any test (xs ++ x ∷ []))
tested b test xs x =
    or_assoc b (list_any test xs) (test x)
    ∙ sym (ap (λ c. b || c) (list_any-append test xs (x ∷ []) ∙ ap (λ c. list_any test xs || c) (or_none (test x))))

-- if no check fails, none failed before
none_before : (f : Failed) (a b c d : Bool) → (((f.words || a) || (f.digest || b)) || (f.size || c) || (f.name || d)) ≡ false → any_failed f ≡ false
none_before f a b c d h =
    let p = neither (((f.words || a) || (f.digest || b)) || (f.size || c)) (f.name || d) h in
    let q = neither ((f.words || a) || (f.digest || b)) (f.size || c) p.0 in
    let r = neither (f.words || a) (f.digest || b) q.0 in
    let words = (neither f.words a r.0).0 in
    let digest = (neither f.digest b r.1).0 in
    let size = (neither f.size c q.1).0 in
    let name = (neither f.name d p.1).0 in
    rw (words, digest, size, name) refl

failed_on : (most : ℕ) (before f : Failed) (form : LineForm) (xs : List (List ℕ)) (x : List ℕ) → f ≡ with_lines most before form xs → with_line most f form x ≡ with_lines most before form (xs ++ x ∷ [])
failed_on most before f form xs x h =
    ap (λ g. with_line most g form x) h
    ∙ (λ i. record {
      words = tested before.words (has_bad_words form) xs x i;
      digest = tested before.digest (has_bad_digest form) xs x i;
      size = tested before.size (has_bad_size most form) xs x i;
      name = tested before.name (has_bad_name form) xs x i;
    })

-- no text yet
pub split_none : (most : ℕ) (before : Failed) (form : LineForm) → IsSplit most before form [] before []
split_none most before form = record {
  failed = (λ i. record { words = sym (or_none before.words) i; digest = sym (or_none before.digest) i; size = sym (or_none before.size) i; name = sym (or_none before.name) i });
  kept = λ h. refl;
}

-- one more line, which is kept
pub split_kept : (most : ℕ) (before f : Failed) (form : LineForm) (xs lines : List (List ℕ)) (x : List ℕ) → IsSplit most before form xs f lines → any_failed (with_line most f form x) ≡ false
    → IsSplit most before form (xs ++ x ∷ []) (with_line most f form x) (lines ++ x ∷ [])
split_kept most before f form xs lines x s h = record {
  failed = failed_on most before f form xs x s.failed;
  kept = λ k. ap (λ ls. ls ++ x ∷ []) (s.kept (none_before f (has_bad_words form x) (has_bad_digest form x) (has_bad_size most form x) (has_bad_name form x) h));
}

-- one more line, which is not kept
pub split_past : (most : ℕ) (before f : Failed) (form : LineForm) (xs lines : List (List ℕ)) (x : List ℕ) → IsSplit most before form xs f lines → any_failed (with_line most f form x) ≡ true
    → IsSplit most before form (xs ++ x ∷ []) (with_line most f form x) lines
split_past most before f form xs lines x s h = record { failed = failed_on most before f form xs x s.failed; kept = λ k. cc }

-- ---- the three lists

-- the three lists are split, one after another
pub record InTurn (most : ℕ) (kind : ListKind) (found : Lines) (f g h : Failed) (a b c : List (List ℕ)) : Type 0 where
  pub sha1 : IsSplit most (record { words = false; digest = false; size = false; name = false }) sha1_form found.sha1 f a
  pub sha256 : IsSplit most f sha256_form found.sha256 g b
  pub files : IsSplit most g (files_form kind) found.files h c

tried : (most : ℕ) → ListKind → Lines → Failed
tried most kind lines = record {
  words = some_line has_bad_words kind lines;
  digest = some_line has_bad_digest kind lines;
  size = some_line (has_bad_size most) kind lines;
  name = some_line has_bad_name kind lines;
}

all_tried : (most : ℕ) (kind : ListKind) (found : Lines) (f g h : Failed) (a b c : List (List ℕ)) → InTurn most kind found f g h a b c → h ≡ tried most kind found
unfolding tried
all_tried most kind found f g h a b c s =
    s.files.failed
    ∙ ap (λ f. with_lines most f (files_form kind) found.files) (s.sha256.failed ∙ ap (λ f. with_lines most f sha256_form found.sha256) s.sha1.failed)

first_fault : (a b c d : Bool) (rest : Option ListFault) (e : ListFault) → fault_of_failed (record { words = a; digest = b; size = c; name = d }) ≡ Some e
    → cond a (Some BadWords) (cond b (Some BadDigest) (cond c (Some BadSize) (cond d (Some BadName) rest))) ≡ Some e
first_fault true b c d rest e h = h
first_fault false true c d rest e h = h
first_fault false false true d rest e h = h
first_fault false false false true rest e h = h
first_fault false false false false rest e h = cc

no_fault : (a b c d : Bool) (rest : Option ListFault) → fault_of_failed (record { words = a; digest = b; size = c; name = d }) ≡ None
    → cond a (Some BadWords) (cond b (Some BadDigest) (cond c (Some BadSize) (cond d (Some BadName) rest))) ≡ rest
no_fault true b c d rest h = cc
no_fault false true c d rest h = cc
no_fault false false true d rest h = cc
no_fault false false false true rest h = cc
no_fault false false false false rest h = refl

none_failed : (a b c d : Bool) → fault_of_failed (record { words = a; digest = b; size = c; name = d }) ≡ None → (((a || b) || c) || d) ≡ false
none_failed true b c d h = cc
none_failed false true c d h = cc
none_failed false false true d h = cc
none_failed false false false true h = cc
none_failed false false false false h = refl

-- the fault of the first check that failed is that of the lines
pub fault_found : (most : ℕ) (kind : ListKind) (found : Lines) (f g h : Failed) (a b c : List (List ℕ)) (e : ListFault) → InTurn most kind found f g h a b c → fault_of_failed h ≡ Some e → fault_of_lines most kind found ≡ Some e
unfolding tried
fault_found most kind found f g h a b c e s k =
    first_fault (some_line has_bad_words kind found) (some_line has_bad_digest kind found) (some_line (has_bad_size most) kind found) (some_line has_bad_name kind found) (fault_of_names most kind found) e
    (sym (ap fault_of_failed (all_tried most kind found f g h a b c s)) ∙ k)

-- if no check failed, the names are next
names_next : (most : ℕ) (kind : ListKind) (found : Lines) (f g h : Failed) (a b c : List (List ℕ)) → InTurn most kind found f g h a b c → fault_of_failed h ≡ None → fault_of_lines most kind found ≡ fault_of_names most kind found
unfolding tried
names_next most kind found f g h a b c s k =
    no_fault (some_line has_bad_words kind found) (some_line has_bad_digest kind found) (some_line (has_bad_size most) kind found) (some_line has_bad_name kind found) (fault_of_names most kind found)
    (sym (ap fault_of_failed (all_tried most kind found f g h a b c s)) ∙ k)

-- if no check failed, all lines are kept
all_kept : (most : ℕ) (kind : ListKind) (found : Lines) (f g h : Failed) (a b c : List (List ℕ)) → InTurn most kind found f g h a b c → fault_of_failed h ≡ None → record { sha1 = a; sha256 = b; files = c } ≡ found
all_kept most kind found f g h a b c s k =
    let last : any_failed h ≡ false = none_failed h.words h.digest h.size h.name k in
    let two : any_failed g ≡ false =
    none_before g (list_any (has_bad_words (files_form kind)) found.files) (list_any (has_bad_digest (files_form kind)) found.files) (list_any (has_bad_size most (files_form kind)) found.files) (list_any (has_bad_name (files_form kind)) found.files)
    (sym (ap any_failed s.files.failed) ∙ last) in
    let one : any_failed f ≡ false =
    none_before f (list_any (has_bad_words sha256_form) found.sha256) (list_any (has_bad_digest sha256_form) found.sha256) (list_any (has_bad_size most sha256_form) found.sha256) (list_any (has_bad_name sha256_form) found.sha256)
    (sym (ap any_failed s.sha256.failed) ∙ two) in
    (λ i. record { sha1 = s.sha1.kept one i; sha256 = s.sha256.kept two i; files = s.files.kept last i })

pub all_split : (most : ℕ) (kind : ListKind) (found : Lines) (f g h : Failed) (a b c : List (List ℕ)) → InTurn most kind found f g h a b c → fault_of_failed h ≡ None → AreSplit most kind found (record { sha1 = a; sha256 = b; files = c })
all_split most kind found f g h a b c s k = record { same = all_kept most kind found f g h a b c s k; rest = names_next most kind found f g h a b c s k }
