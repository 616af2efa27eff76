-- Lists without a fault list the entries that are read.
use Rattle.std.proofs.Common.{◌≡◌, ◌≢◌, ◌↔◌, ℕ, suc, ◌<◌, ◌||◌, ◌&&◌, Bool, true, false, cond, not, List, [], ◌∷◌, map, Some, unwrap_or, length, get_or, eqb, ltb, refl, sym, ap, subst, ◌∙◌, arith}
use Rattle.std.proofs.Common.{eqb-true}
use Rattle.std.proofs.lemmas.Bool.Decides.{nat_tests}
use Rattle.std.proofs.lemmas.List.Elements.{All-map}
use Rattle.std.proofs.lemmas.List.Kept.{AllPairs-cons}
use Rattle.std.proofs.lemmas.List.Splits.{join_with_byte-slice_split}
use Rattle.std.specs.Fmt.{decimal}
use Rattle.std.specs.List.{list_any, list_all, find, onto_first, slice_split}
use Rattle.std.specs.Prelude.{Contains, AllPairs}
use Rattle.std.specs.Str.{bytes_eq}
use Rattle.std.specs.Str.Parse.{digits_value}
use Rattle.hex.specs.Hex.{encode_lower}
use Rattle.sums.specs.Lines.{LineForm, words, word, is_word, is_space, is_tab, has_words, is_digest, is_size, digest_word, size_word, name_word}
use Rattle.sums.specs.Lists.{Lines, Listed, IsFile, IsDigest, HasSection, spelled, unhexed, digest_named, entry_of_line, entries_of, files_line, sha1_line, sha256_line, files_form}
use Rattle.sums.specs.declared.entries.ListKind.{ListKind}
use Rattle.sums.specs.declared.entries.ListKind.TheVariants.{Dsc, Changes}
use Rattle.sums.proofs.Agree.{same_bytes, bytes_same}
use Rattle.sums.proofs.Digests.{digest_text, digest_is}
use Rattle.sums.proofs.Faultless.{IsGood, IsGoodList, Agree, Faultless}
use Rattle.sums.proofs.Files.{map-map}
use Rattle.std.proofs.lemmas.List.{get_or_default}
use Rattle.sums.proofs.Members.{here, there, contains_map, from_map, any_false, all_from, all_true, find_one, by_name, map_same, pairs_head, pairs_tail}
use Rattle.sums.proofs.SizeTexts.{size_text, size_written}
use Rattle.sums.proofs.Booleans.{both, denied}

-- the form of a list of three words
abbrev pub three_words : ℕ → LineForm
three_words n = record { words = 3; digest = n }

abbrev pub three_line : List ℕ → ℕ → List ℕ → List ℕ
three_line digest size name = spelled (encode_lower digest ∷ decimal size ∷ name ∷ [])

-- ---- a line is spelled of its words

word_count : (form : LineForm) (line : List ℕ) → has_words form line ≡ true → length (words line) ≡ form.words
word_count form line h =
    let a = both (eqb (length (words line)) form.words && not (list_any (λ w. eqb (length w) 0) (words line))) (not (list_any is_tab line)) h in
    eqb-true _ _ (both (eqb (length (words line)) form.words) (not (list_any (λ w. eqb (length w) 0) (words line))) a.0).0

of_three : (ws : List (List ℕ)) → length ws ≡ 3 → get_or ws 0 [] ∷ get_or ws 1 [] ∷ get_or ws 2 [] ∷ [] ≡ ws
of_three [] h = absurd (omega arith)
of_three (a ∷ []) h = absurd (omega arith)
of_three (a ∷ b ∷ []) h = absurd (omega arith)
of_three (a ∷ b ∷ c ∷ []) h = refl
of_three (a ∷ b ∷ c ∷ d ∷ ws) h = absurd (omega arith)

of_five : (ws : List (List ℕ)) → length ws ≡ 5 → get_or ws 0 [] ∷ get_or ws 1 [] ∷ get_or ws 2 [] ∷ get_or ws 3 [] ∷ get_or ws 4 [] ∷ [] ≡ ws
of_five [] h = absurd (omega arith)
of_five (a ∷ []) h = absurd (omega arith)
of_five (a ∷ b ∷ []) h = absurd (omega arith)
of_five (a ∷ b ∷ c ∷ []) h = absurd (omega arith)
of_five (a ∷ b ∷ c ∷ d ∷ []) h = absurd (omega arith)
of_five (a ∷ b ∷ c ∷ d ∷ e ∷ []) h = refl
of_five (a ∷ b ∷ c ∷ d ∷ e ∷ f ∷ ws) h = absurd (omega arith)

-- a line of three words, by what its words say
line_again : (most n : ℕ) (line size name : List ℕ) → IsGood most (three_words n) line → size_word line ≡ size → word line 2 ≡ name
    → three_line (unhexed (digest_word line)) (digits_value 10 size) name ≡ line
line_again most n line size name good s m =
    let d : encode_lower (unhexed (digest_word line)) ≡ digest_word line = digest_text n (digest_word line) good.digest in
    let t : decimal (digits_value 10 size) ≡ size = size_written most size (subst (λ w. is_size most w ≡ true) s good.size) in
    (λ i. spelled (d i ∷ t i ∷ name ∷ [])) ∙ ((λ i. spelled (digest_word line ∷ sym s i ∷ sym m i ∷ [])) ∙ (ap spelled (of_three (words line) (word_count (three_words n) line good.words)) ∙ join_with_byte-slice_split 32 line))

-- ---- what `Files` says

files_again : (most : ℕ) (kind : ListKind) (lines : Lines) (line : List ℕ) → IsGood most (files_form kind) line → files_line kind (entry_of_line kind lines line) ≡ line
files_again most Dsc lines line good = line_again most 16 line (size_word line) (word line 2) good refl refl
files_again most Changes lines line good =
    let d : encode_lower (unhexed (digest_word line)) ≡ digest_word line = digest_text 16 (digest_word line) good.digest in
    let t : decimal (digits_value 10 (size_word line)) ≡ size_word line = size_written most (size_word line) good.size in
    (λ i. spelled (d i ∷ t i ∷ word line 2 ∷ word line 3 ∷ word line 4 ∷ [])) ∙ (ap spelled (of_five (words line) (word_count (files_form Changes) line good.words)) ∙ join_with_byte-slice_split 32 line)

-- ---- the words of a line are words

plain_pieces : (q : ℕ → Bool) (xs : List ℕ) → ((c : ℕ) → Contains xs c → is_space c ≡ false → q c ≡ false) → list_all (λ w. not (list_any q w)) (slice_split is_space xs) ≡ true
plain_pieces q [] f = refl
plain_pieces q (x ∷ xs) f = by_case (is_space x) refl (plain_pieces q xs (λ c k. f c (there x c xs k))) (f x (here x xs))
  where
    onto : (ws : List (List ℕ)) → q x ≡ false → list_all (λ w. not (list_any q w)) ws ≡ true → list_all (λ w. not (list_any q w)) (onto_first x ws) ≡ true
    onto [] e h = rw e refl
    onto (w ∷ ws) e h = rw e h

    by_case : (b : Bool) → is_space x ≡ b → list_all (λ w. not (list_any q w)) (slice_split is_space xs) ≡ true → (is_space x ≡ false → q x ≡ false)
        → list_all (λ w. not (list_any q w)) (cond b ([] ∷ slice_split is_space xs) (onto_first x (slice_split is_space xs))) ≡ true
    by_case true e more g = more
    by_case false e more g = onto (slice_split is_space xs) (g e) more

word_at : (form : LineForm) (line : List ℕ) (i : ℕ) → has_words form line ≡ true → i < form.words → is_word (word line i) ≡ true
word_at form line i h l =
    let a = both (eqb (length (words line)) form.words && not (list_any (λ w. eqb (length w) 0) (words line))) (not (list_any is_tab line)) h in
    let b = both (eqb (length (words line)) form.words) (not (list_any (λ w. eqb (length w) 0) (words line))) a.0 in
    let count : length (words line) ≡ form.words = eqb-true _ _ b.0 in
    let at : Contains (words line) (word line i) = (i, omega arith, get_or_default (words line) i (word line i) [] (omega arith)) in
    let long = any_false (λ w. eqb (length w) 0) (words line) (word line i) (denied _ b.1) at in
    let some : ltb 0 (length (word line i)) ≡ true = grind (arith, nat_tests) in
    let plain = all_true (λ w. not (list_any (λ c. is_space c || is_tab c) w)) (words line) (word line i) (plain_pieces (λ c. is_space c || is_tab c) line (λ c k e. rw (e, any_false is_tab line c (denied _ a.1) k) refl)) at in
    rw (some, plain) refl

sections : (most : ℕ) (kind : ListKind) (lines : Lines) (line : List ℕ) → IsGood most (files_form kind) line → HasSection kind (entry_of_line kind lines line)
sections most Dsc lines line good = (refl, refl)
sections most Changes lines line good = (word_at (files_form Changes) line 2 good.words (omega arith), word_at (files_form Changes) line 3 good.words (omega arith))

pub md5_word : (most : ℕ) (kind : ListKind) (line : List ℕ) → IsGood most (files_form kind) line → is_digest 16 (digest_word line) ≡ true
md5_word most Dsc line good = good.digest
md5_word most Changes line good = good.digest

-- ---- what the other two lists say

-- the line of a file in another list, which the join gives back
pub record IsJoined (most n : ℕ) (others : List (List ℕ)) (size name : List ℕ) (y : List ℕ) : Type 0 where
  pub listed : Contains others y
  pub named : word y 2 ≡ name
  pub found : find (λ line. bytes_eq (word line 2) name) others ≡ Some y
  pub good : IsGood most (three_words n) y
  pub line : three_line (digest_named (three_words n) others name) (digits_value 10 size) name ≡ y
  pub digest : IsDigest n (digest_named (three_words n) others name)

pub joined : (most n : ℕ) (form : LineForm) (files others : List (List ℕ)) (l : List ℕ) → IsGoodList most (three_words n) others → Agree (three_words n) others form files → Contains files l
    → (y : List ℕ) × IsJoined most n others (size_word l) (name_word form l) y
joined most n form files others l g a k =
    let h = a.back l k in
    let good = g.each h.0 h.1 in
    let found : find (λ line. bytes_eq (word line 2) (name_word form l)) others ≡ Some h.0 =
    find_one (λ line. bytes_eq (word line 2) (name_word form l)) others h.0 h.1 (bytes_same (word h.0 2) (name_word form l) h.2)
    (λ z m e. by_name (λ line. word line 2) others z h.0 g.once m h.1 (same_bytes (word z 2) (name_word form l) e ∙ sym h.2)) in
    let same : digest_named (three_words n) others (name_word form l) ≡ unhexed (digest_word h.0) = ap (λ o. unhexed (digest_word (unwrap_or o []))) found in (
      h.0,
      record {
        listed = h.1;
        named = h.2;
        found = found;
        good = good;
        line = (λ i. three_line (same i) (digits_value 10 (size_word l)) (name_word form l)) ∙ line_again most n h.0 (size_word l) (name_word form l) good h.3 h.2;
        digest = subst (λ d. IsDigest n d) (sym same) (digest_is n (digest_word h.0) good.digest);
      },
    )

-- the first line of a file's name in another list has a digest
pub named_digest : (most n : ℕ) (form : LineForm) (files others : List (List ℕ)) (l : List ℕ) → IsGoodList most (three_words n) others → Agree (three_words n) others form files → Contains files l
    → is_digest n (digest_word (unwrap_or (find (λ line. bytes_eq (word line 2) (name_word form l)) others) [])) ≡ true
named_digest most n form files others l g a k =
    let j = joined most n form files others l g a k in
    ap (λ o. is_digest n (digest_word (unwrap_or o []))) j.1.found ∙ j.1.good.digest

same_members : (most n : ℕ) (form : LineForm) (files others : List (List ℕ)) (f : List ℕ → List ℕ) → IsGoodList most (three_words n) others → Agree (three_words n) others form files
    → ((l : List ℕ) → f l ≡ three_line (digest_named (three_words n) others (name_word form l)) (digits_value 10 (size_word l)) (name_word form l))
    → (line : List ℕ) → Contains (map f files) line ↔ Contains others line
same_members most n form files others f g a is line = (to, back)
  where
    to : Contains (map f files) line → Contains others line
    to k =
        let q = from_map f line files k in
        let j = joined most n form files others q.0 g a q.1 in
        subst (λ x. Contains others x) (sym j.1.line ∙ (sym (is q.0) ∙ q.2)) j.1.listed

    back : Contains others line → Contains (map f files) line
    back k =
        let h = a.there line k in
        let j = joined most n form files others h.0 g a h.1 in
        let one : j.0 ≡ line = by_name (λ x. word x 2) others j.0 line g.once j.1.listed k (j.1.named ∙ h.2) in
        subst (λ x. Contains (map f files) x) (is h.0 ∙ (j.1.line ∙ one)) (contains_map f h.0 files h.1)

-- ---- together

pub pairs_map : {X Y : Type 0} (R : Y → Y → Type 0) (f : X → Y) (xs : List X) → AllPairs (λ a b. R (f a) (f b)) xs → AllPairs R (map f xs)
pairs_map R f [] h = λ i j d lt l. absurd (omega arith)
pairs_map R f (x ∷ xs) h =
    AllPairs-cons R (f x) (map f xs) (All-map (R (f x)) f xs (pairs_head (λ a b. R (f a) (f b)) x xs h)) (pairs_map R f xs (pairs_tail (λ a b. R (f a) (f b)) x xs h))

pub length_map : {X Y : Type 0} (f : X → Y) (xs : List X) → length (map f xs) ≡ length xs
length_map f [] = refl
length_map f (x ∷ xs) = ap suc (length_map f xs)

is_file : (most : ℕ) (kind : ListKind) (lines : Lines) (line : List ℕ) → Faultless most kind lines → Contains lines.files line → IsFile most kind (entry_of_line kind lines line)
is_file most kind lines line f k =
    let good = f.files.each line k in
    let one = joined most 20 (files_form kind) lines.files lines.sha1 line f.sha1 f.sha1_agrees k in
    let two = joined most 32 (files_form kind) lines.files lines.sha256 line f.sha256 f.sha256_agrees k in
    record {
      name = good.name;
      size = (size_text most (size_word line) good.size).small;
      md5 = digest_is 16 (digest_word line) (md5_word most kind line good);
      sha1 = one.1.digest;
      sha256 = two.1.digest;
      section = sections most kind lines line good;
    }

pub reads_listed : (most : ℕ) (kind : ListKind) (lines : Lines) → Faultless most kind lines → Listed most lines kind (entries_of kind lines)
reads_listed most kind lines f = record {
  files = sym (map-map (files_line kind) (entry_of_line kind lines) lines.files) ∙ map_same (λ l. files_line kind (entry_of_line kind lines l)) lines.files (λ l k. files_again most kind lines l (f.files.each l k));
  sha1 = λ line. subst (λ xs. Contains xs line ↔ Contains lines.sha1 line) (map-map sha1_line (entry_of_line kind lines) lines.files)
      (same_members most 20 (files_form kind) lines.files lines.sha1 (λ l. sha1_line (entry_of_line kind lines l)) f.sha1 f.sha1_agrees (λ l. refl) line);
  sha1_once = f.sha1.once;
  sha256 = λ line. subst (λ xs. Contains xs line ↔ Contains lines.sha256 line) (map-map sha256_line (entry_of_line kind lines) lines.files)
      (same_members most 32 (files_form kind) lines.files lines.sha256 (λ l. sha256_line (entry_of_line kind lines l)) f.sha256 f.sha256_agrees (λ l. refl) line);
  sha256_once = f.sha256.once;
  names = pairs_map (λ a b. a.name ≢ b.name) (entry_of_line kind lines) lines.files f.files.once;
  each = All-map (IsFile most kind) (entry_of_line kind lines) lines.files (all_from (λ l. IsFile most kind (entry_of_line kind lines l)) lines.files (λ l k. is_file most kind lines l f k));
  count = let e = length_map (entry_of_line kind lines) lines.files in let c = f.count in (omega arith, omega arith);
}
