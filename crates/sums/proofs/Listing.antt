-- Lists of entries have no fault, and read as these entries.
use Rattle.std.proofs.Common.{◌≡◌, ◌≢◌, ◌↔◌, ℕ, ◌<◌, ◌≤◌, min, true, List, [], ◌∷◌, map, Some, unwrap_or, length, get_or, refl, sym, ap, subst, ◌∙◌, arith}
use Rattle.std.specs.Fmt.{decimal}
use Rattle.std.specs.List.{list_all, find}
use Rattle.std.specs.Prelude.{Contains, AllPairs}
use Rattle.std.specs.Str.{bytes_eq}
use Rattle.std.specs.Str.Parse.{digits_value}
use Rattle.hex.specs.Hex.{encode_lower}
use Rattle.sums.specs.FileNames.{is_file_name}
use Rattle.sums.specs.Lines.{LineForm, word, is_word, is_digest, is_size, digest_word, size_word, name_word, greatest_size}
use Rattle.sums.specs.Lists.{Lines, Listed, IsFile, IsDigest, unhexed, digest_named, entry_of_line, entries_of, files_line, sha1_line, sha256_line, files_form, section_word, priority_word}
use Rattle.sums.specs.declared.entries.Entry.{Entry}
use Rattle.sums.specs.declared.entries.ListKind.{ListKind}
use Rattle.sums.specs.declared.entries.ListKind.TheVariants.{Dsc, Changes}
use Rattle.sums.proofs.Agree.{same_bytes, bytes_same}
use Rattle.sums.proofs.Digests.{digest_encoded, digest_back}
use Rattle.sums.proofs.Faultless.{IsGood, IsGoodList, Agree, HasFile, Faultless}
use Rattle.sums.proofs.Files.{map-map}
use Rattle.sums.proofs.Members.{contains_map, from_map, all_at, find_one, by_name, map_same}
use Rattle.sums.proofs.Reading.{three_words, three_line, pairs_map, length_map}
use Rattle.std.proofs.lemmas.List.{get_or_default}
use Rattle.sums.proofs.SizeTexts.{size_decimal}
use Rattle.sums.proofs.Spelled.{words-spelled, spelled_has_words, digest_is_word, size_is_word, name_is_word}

-- a line says a digest, a size and a name
pub record Says (most : ℕ) (form : LineForm) (line digest : List ℕ) (size : ℕ) (name : List ℕ) : Type 0 where
  pub good : IsGood most form line
  pub digest_text : digest_word line ≡ encode_lower digest
  pub size_text : size_word line ≡ decimal size
  pub named : name_word form line ≡ name

three_says : (most n : ℕ) (digest : List ℕ) (size : ℕ) (name : List ℕ) → 0 < n → IsDigest n digest → size ≤ min most greatest_size → is_file_name name ≡ true
    → Says most (three_words n) (three_line digest size name) digest size name
three_says most n digest size name some d s m =
    let a : is_digest n (encode_lower digest) ≡ true = digest_encoded n digest d in
    let b : is_size most (decimal size) ≡ true = (size_decimal most size s).0 in
    let all : list_all is_word (encode_lower digest ∷ decimal size ∷ name ∷ []) ≡ true = rw (digest_is_word n (encode_lower digest) some a, size_is_word most (decimal size) b, name_is_word name m) refl in
    let split = words-spelled (encode_lower digest) (decimal size ∷ name ∷ []) all in
    let first : digest_word (three_line digest size name) ≡ encode_lower digest = ap (λ ws. get_or ws 0 []) split in
    let second : size_word (three_line digest size name) ≡ decimal size = ap (λ ws. get_or ws 1 []) split in
    let third : word (three_line digest size name) 2 ≡ name = ap (λ ws. get_or ws 2 []) split in
    record {
      good = record {
        words = spelled_has_words (three_words n) (encode_lower digest) (decimal size ∷ name ∷ []) all refl;
        digest = subst (λ w. is_digest n w ≡ true) (sym first) a;
        size = subst (λ w. is_size most w ≡ true) (sym second) b;
        name = subst (λ w. is_file_name w ≡ true) (sym third) m;
      };
      digest_text = first;
      size_text = second;
      named = third;
    }

-- the line of an entry in `Files`
pub record SaysEntry (most : ℕ) (kind : ListKind) (e : Entry) : Type 0 where
  pub says : Says most (files_form kind) (files_line kind e) e.print.md5 e.print.size e.name
  pub section : section_word kind (files_line kind e) ≡ e.section
  pub priority : priority_word kind (files_line kind e) ≡ e.priority

files_say : (most : ℕ) (kind : ListKind) (e : Entry) → IsFile most kind e → SaysEntry most kind e
files_say most Dsc e h = record { says = three_says most 16 e.print.md5 e.print.size e.name (omega arith) h.md5 h.size h.name; section = sym h.section.0; priority = sym h.section.1 }
files_say most Changes e h =
    let a : is_digest 16 (encode_lower e.print.md5) ≡ true = digest_encoded 16 e.print.md5 h.md5 in
    let b : is_size most (decimal e.print.size) ≡ true = (size_decimal most e.print.size h.size).0 in
    let all : list_all is_word (encode_lower e.print.md5 ∷ decimal e.print.size ∷ e.section ∷ e.priority ∷ e.name ∷ []) ≡ true =
    rw (digest_is_word 16 (encode_lower e.print.md5) (omega arith) a, size_is_word most (decimal e.print.size) b, h.section.0, h.section.1, name_is_word e.name h.name) refl in
    let split = words-spelled (encode_lower e.print.md5) (decimal e.print.size ∷ e.section ∷ e.priority ∷ e.name ∷ []) all in
    let first : digest_word (files_line Changes e) ≡ encode_lower e.print.md5 = ap (λ ws. get_or ws 0 []) split in
    let second : size_word (files_line Changes e) ≡ decimal e.print.size = ap (λ ws. get_or ws 1 []) split in
    let fifth : word (files_line Changes e) 4 ≡ e.name = ap (λ ws. get_or ws 4 []) split in
    record {
      says = record {
        good = record {
          words = spelled_has_words (files_form Changes) (encode_lower e.print.md5) (decimal e.print.size ∷ e.section ∷ e.priority ∷ e.name ∷ []) all refl;
          digest = subst (λ w. is_digest 16 w ≡ true) (sym first) a;
          size = subst (λ w. is_size most w ≡ true) (sym second) b;
          name = subst (λ w. is_file_name w ≡ true) (sym fifth) h.name;
        };
        digest_text = first;
        size_text = second;
        named = fifth;
      };
      section = ap (λ ws. get_or ws 2 []) split;
      priority = ap (λ ws. get_or ws 3 []) split;
    }

-- ---- the lists of entries have no fault

-- a list of lines that entries say
pub record IsSaid (most : ℕ) (form : LineForm) (kind : ListKind) (entries : List Entry) (lines : List (List ℕ)) (f : Entry → List ℕ) (digest : Entry → List ℕ) : Type 0 where
  pub says : (e : Entry) → Contains entries e → Says most form (f e) (digest e) e.print.size e.name
  pub there : (e : Entry) → Contains entries e → Contains lines (f e)
  pub from : (line : List ℕ) → Contains lines line → (e : Entry) × Contains entries e × (f e ≡ line)

good_lines : (most : ℕ) (form : LineForm) (kind : ListKind) (entries : List Entry) (lines : List (List ℕ)) (f digest : Entry → List ℕ) → IsSaid most form kind entries lines f digest → AllPairs (λ a b. name_word form a ≢ name_word form b) lines
    → IsGoodList most form lines
good_lines most form kind entries lines f digest s o = record {
  each = λ y k. let q = s.from y k in subst (λ w. IsGood most form w) q.2 (s.says q.0 q.1).good;
  once = o;
}

has_file : (most : ℕ) (form other : LineForm) (kind : ListKind) (entries : List Entry) (lines others : List (List ℕ)) (f g digest more : Entry → List ℕ) → IsSaid most form kind entries lines f digest
    → IsSaid most other kind entries others g more → (x : List ℕ) → Contains lines x → HasFile form x other others
has_file most form other kind entries lines others f g digest more s t x k =
    let q = s.from x k in
    let mine = s.says q.0 q.1 in
    let its = t.says q.0 q.1 in (
      g q.0,
      t.there q.0 q.1,
      its.named ∙ (sym mine.named ∙ ap (λ w. name_word form w) q.2),
      its.size_text ∙ (sym mine.size_text ∙ ap size_word q.2),
    )

agreeing : (most : ℕ) (form other : LineForm) (kind : ListKind) (entries : List Entry) (lines others : List (List ℕ)) (f g digest more : Entry → List ℕ) → IsSaid most form kind entries lines f digest
    → IsSaid most other kind entries others g more → Agree form lines other others
agreeing most form other kind entries lines others f g digest more s t = record {
  there = has_file most form other kind entries lines others f g digest more s t;
  back = has_file most other form kind entries others lines g f more digest t s;
}

-- the members of entries' lines
said : (most : ℕ) (form : LineForm) (kind : ListKind) (entries : List Entry) (lines : List (List ℕ)) (f digest : Entry → List ℕ) → ((e : Entry) → Contains entries e → Says most form (f e) (digest e) e.print.size e.name)
    → ((line : List ℕ) → Contains (map f entries) line ↔ Contains lines line) → IsSaid most form kind entries lines f digest
said most form kind entries lines f digest s m = record {
  says = s;
  there = λ e k. (m (f e)).0 (contains_map f e entries k);
  from = λ line k. from_map f line entries ((m line).1 k);
}

pairs_kept : {X : Type 0} (R S : X → X → Type 0) (xs : List X) → ((a b : X) → Contains xs a → Contains xs b → R a b → S a b) → AllPairs R xs → AllPairs S xs
pairs_kept R S xs f h = λ i j d lt l. f (get_or xs i d) (get_or xs j d) (i, omega arith, get_or_default xs i (get_or xs i d) d (omega arith)) (j, l, get_or_default xs j (get_or xs j d) d l) (h i j d lt l)

-- what is known of the three lists of entries
pub record AllSaid (most : ℕ) (kind : ListKind) (lines : Lines) (entries : List Entry) : Type 0 where
  pub sha1 : IsSaid most (three_words 20) kind entries lines.sha1 sha1_line (λ e. e.print.sha1)
  pub sha256 : IsSaid most (three_words 32) kind entries lines.sha256 sha256_line (λ e. e.print.sha256)
  pub files : IsSaid most (files_form kind) kind entries lines.files (files_line kind) (λ e. e.print.md5)

pub all_said : (most : ℕ) (kind : ListKind) (lines : Lines) (entries : List Entry) → Listed most lines kind entries → AllSaid most kind lines entries
all_said most kind lines entries h = record {
  sha1 = said most (three_words 20) kind entries lines.sha1 sha1_line (λ e. e.print.sha1) (λ e k. let f = file e k in three_says most 20 e.print.sha1 e.print.size e.name (omega arith) f.sha1 f.size f.name) h.sha1;
  sha256 = said most (three_words 32) kind entries lines.sha256 sha256_line (λ e. e.print.sha256) (λ e k. let f = file e k in three_says most 32 e.print.sha256 e.print.size e.name (omega arith) f.sha256 f.size f.name) h.sha256;
  files = said most (files_form kind) kind entries lines.files (files_line kind) (λ e. e.print.md5) (λ e k. (files_say most kind e (file e k)).says)
      (λ line. (λ k. subst (λ xs. Contains xs line) h.files k, λ k. subst (λ xs. Contains xs line) (sym h.files) k));
}
  where
    file : (e : Entry) → Contains entries e → IsFile most kind e
    file e k = all_at (IsFile most kind) entries e h.each k

pub lists_faultless : (most : ℕ) (kind : ListKind) (lines : Lines) (entries : List Entry) → Listed most lines kind entries → Faultless most kind lines
lists_faultless most kind lines entries h =
    let s = all_said most kind lines entries h in
    let apart : AllPairs (λ a b. name_word (files_form kind) (files_line kind a) ≢ name_word (files_form kind) (files_line kind b)) entries =
    pairs_kept (λ a b. a.name ≢ b.name) (λ a b. name_word (files_form kind) (files_line kind a) ≢ name_word (files_form kind) (files_line kind b)) entries
    (λ a b p q r e. r (sym (s.files.says a p).named ∙ (e ∙ (s.files.says b q).named))) h.names in
    let files_once = subst (λ xs. AllPairs (λ a b. name_word (files_form kind) a ≢ name_word (files_form kind) b) xs) h.files (pairs_map (λ a b. name_word (files_form kind) a ≢ name_word (files_form kind) b) (files_line kind) entries apart) in
    let count = sym (ap length h.files) ∙ length_map (files_line kind) entries in
    let bounds = h.count in
    record {
      sha1 = good_lines most (three_words 20) kind entries lines.sha1 sha1_line (λ e. e.print.sha1) s.sha1 h.sha1_once;
      sha256 = good_lines most (three_words 32) kind entries lines.sha256 sha256_line (λ e. e.print.sha256) s.sha256 h.sha256_once;
      files = good_lines most (files_form kind) kind entries lines.files (files_line kind) (λ e. e.print.md5) s.files files_once;
      sha1_agrees = agreeing most (three_words 20) (files_form kind) kind entries lines.sha1 lines.files sha1_line (files_line kind) (λ e. e.print.sha1) (λ e. e.print.md5) s.sha1 s.files;
      sha256_agrees = agreeing most (three_words 32) (files_form kind) kind entries lines.sha256 lines.files sha256_line (files_line kind) (λ e. e.print.sha256) (λ e. e.print.md5) s.sha256 s.files;
      count = (omega arith, omega arith);
    }

-- ---- and read as these

digest_found : (most n : ℕ) (kind : ListKind) (entries : List Entry) (others : List (List ℕ)) (f digest : Entry → List ℕ) (e : Entry) (name : List ℕ) → IsSaid most (three_words n) kind entries others f digest
    → AllPairs (λ a b. word a 2 ≢ word b 2) others → IsDigest n (digest e) → Contains entries e → name ≡ e.name → digest_named (three_words n) others name ≡ digest e
digest_found most n kind entries others f digest e name s o d k m =
    let says = s.says e k in
    let found : find (λ line. bytes_eq (word line 2) name) others ≡ Some (f e) =
    find_one (λ line. bytes_eq (word line 2) name) others (f e) (s.there e k) (bytes_same (word (f e) 2) name (says.named ∙ sym m))
    (λ z l t. by_name (λ line. word line 2) others z (f e) o l (s.there e k) (same_bytes (word z 2) name t ∙ (m ∙ sym says.named))) in
    ap (λ r. unhexed (digest_word (unwrap_or r []))) found ∙ (ap unhexed says.digest_text ∙ digest_back n (digest e) d)

entry_again : (most : ℕ) (kind : ListKind) (lines : Lines) (entries : List Entry) (e : Entry) → Listed most lines kind entries → Contains entries e → entry_of_line kind lines (files_line kind e) ≡ e
entry_again most kind lines entries e h k =
    let s = all_said most kind lines entries h in
    let file = all_at (IsFile most kind) entries e h.each k in
    let line = files_say most kind e file in
    let name = line.says.named in
    let size : digits_value 10 (size_word (files_line kind e)) ≡ e.print.size = ap (λ w. digits_value 10 w) line.says.size_text ∙ (size_decimal most e.print.size file.size).1 in
    let md5 : unhexed (digest_word (files_line kind e)) ≡ e.print.md5 = ap unhexed line.says.digest_text ∙ digest_back 16 e.print.md5 file.md5 in
    let sha1 = digest_found most 20 kind entries lines.sha1 sha1_line (λ e. e.print.sha1) e (name_word (files_form kind) (files_line kind e)) s.sha1 h.sha1_once file.sha1 k name in
    let sha256 = digest_found most 32 kind entries lines.sha256 sha256_line (λ e. e.print.sha256) e (name_word (files_form kind) (files_line kind e)) s.sha256 h.sha256_once file.sha256 k name in
    let section = line.section in
    let priority = line.priority in
    λ i. record { name = name i; print = record { size = size i; md5 = md5 i; sha1 = sha1 i; sha256 = sha256 i }; section = section i; priority = priority i }

pub listed_read : (most : ℕ) (kind : ListKind) (lines : Lines) (entries : List Entry) → Listed most lines kind entries → entries_of kind lines ≡ entries
listed_read most kind lines entries h =
    ap (λ ls. map (entry_of_line kind lines) ls) (sym h.files) ∙ (sym (map-map (entry_of_line kind lines) (files_line kind) entries) ∙ map_same (λ e. entry_of_line kind lines (files_line kind e)) entries (λ e k. entry_again most kind lines entries e h k))
