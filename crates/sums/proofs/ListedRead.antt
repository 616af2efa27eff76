-- What is read of a paragraph is what it lists.
use Rattle.std.proofs.Common.{◌≡◌, ◌≤◌, ℕ, min, ◌||◌, true, false, List, [], ◌∷◌, Option, Some, None, Ok, is_none, unwrap_or, length, ltb, refl, sym, ap, subst, ◌∙◌, arith}
use Rattle.std.proofs.lemmas.Bool.Decides.{nat_tests}
use Rattle.std.proofs.lemmas.List.Elements.{All-weaker}
use Rattle.std.specs.Option.{option_map}
use Rattle.para.specs.Field.{FieldValue}
use Rattle.sums.specs.Lines.{greatest_size}
use Rattle.sums.specs.Lists.{ListedIn, IsFile, IsList, Listed, lists_within, lines_of, entries_of, refused_or, fault, field_named, sha1_name, sha256_name, files_name, is_absent, has_first}
use Rattle.sums.specs.Views.{fault_of_lines}
use Rattle.sums.specs.declared.fault.ListFault.{ListFault}
use Rattle.sums.specs.declared.fault.ListFault.TheVariants.{ListAbsent, TextOnFirstLine}
use Rattle.sums.specs.declared.entries.Entry.{Entry}
use Rattle.sums.specs.declared.entries.ListKind.{ListKind}
use Rattle.sums.proofs.Faultless.{faultless, no_fault}
use Rattle.sums.proofs.Listing.{lists_faultless, listed_read}
use Rattle.sums.proofs.Reading.{reads_listed}
use Rattle.sums.proofs.Booleans.{neither, none_of, three, passes}

nothing : (xs : List ℕ) → ltb 0 (length xs) ≡ false → xs ≡ []
nothing [] h = refl
nothing (x ∷ xs) h = let some : ltb 0 (length (x ∷ xs)) ≡ true = grind (arith, nat_tests) in cc (sym h ∙ some)

-- a list that is there, by the tests of the two faults
tests_of : (o : Option FieldValue) → IsList o → (is_none o ≡ false) × (unwrap_or (option_map (λ f. ltb 0 (length f.first)) o) false ≡ false)
tests_of None h = absurd h
tests_of (Some f) h = (refl, ap (λ xs. ltb 0 (length xs)) h)

list_of : (o : Option FieldValue) → is_none o ≡ false → unwrap_or (option_map (λ f. ltb 0 (length f.first)) o) false ≡ false → IsList o
list_of None h k = cc
list_of (Some f) h k = nothing f.first k

-- no fault applies if the lists are there and their lines have no fault
pub record NoFault (most : ℕ) (kind : ListKind) (p : List FieldValue) : Type 0 where
  pub sha1 : IsList (field_named sha1_name p)
  pub sha256 : IsList (field_named sha256_name p)
  pub files : IsList (field_named files_name p)
  pub lines : fault_of_lines most kind (lines_of p) ≡ None

none_applies : (most : ℕ) (kind : ListKind) (p : List FieldValue) → fault most kind p ≡ None → NoFault most kind p
none_applies most kind p h =
    let a = none_of (is_absent p sha1_name || is_absent p sha256_name || is_absent p files_name) ListAbsent _ h in
    let b = none_of (has_first p sha1_name || has_first p sha256_name || has_first p files_name) TextOnFirstLine _ a.1 in
    let c = neither (is_absent p sha1_name || is_absent p sha256_name) (is_absent p files_name) a.0 in
    let d = neither (is_absent p sha1_name) (is_absent p sha256_name) c.0 in
    let e = neither (has_first p sha1_name || has_first p sha256_name) (has_first p files_name) b.0 in
    let f = neither (has_first p sha1_name) (has_first p sha256_name) e.0 in
    record {
      sha1 = list_of (field_named sha1_name p) d.0 f.0;
      sha256 = list_of (field_named sha256_name p) d.1 f.1;
      files = list_of (field_named files_name p) c.1 e.1;
      lines = b.1;
    }

applies_none : (most : ℕ) (kind : ListKind) (p : List FieldValue) → NoFault most kind p → fault most kind p ≡ None
applies_none most kind p h =
    let a = tests_of (field_named sha1_name p) h.sha1 in
    let b = tests_of (field_named sha256_name p) h.sha256 in
    let c = tests_of (field_named files_name p) h.files in
    passes (is_absent p sha1_name || is_absent p sha256_name || is_absent p files_name) ListAbsent _ (three _ _ _ a.0 b.0 c.0) (
    passes (has_first p sha1_name || has_first p sha256_name || has_first p files_name) TextOnFirstLine _ (three _ _ _ a.1 b.1 c.1) h.lines)

read_ok : (o : Option ListFault) (xs es : List Entry) → refused_or o xs ≡ Ok es → (o ≡ None) × (xs ≡ es)
read_ok None xs es h = (refl, cc)
read_ok (Some f) xs es h = cc

-- what is read is listed
pub listed_of_read : (most : ℕ) (kind : ListKind) (p : List FieldValue) (es : List Entry) → lists_within most kind p ≡ Ok es → ListedIn most p kind es
unfolding lists_within
listed_of_read most kind p es h =
    let a = read_ok (fault most kind p) (entries_of kind (lines_of p)) es h in
    let b = none_applies most kind p a.0 in
    record { sha1 = b.sha1; sha256 = b.sha256; files = b.files; listed = subst (λ xs. Listed most (lines_of p) kind xs) a.1 (reads_listed most kind (lines_of p) (faultless most kind (lines_of p) b.lines)) }

-- what is listed is read
pub read_of_listed : (most : ℕ) (kind : ListKind) (p : List FieldValue) (es : List Entry) → ListedIn most p kind es → lists_within most kind p ≡ Ok es
unfolding lists_within
read_of_listed most kind p es h =
    let none = applies_none most kind p (record { sha1 = h.sha1; sha256 = h.sha256; files = h.files; lines = no_fault most kind (lines_of p) (lists_faultless most kind (lines_of p) es h.listed) }) in
    ap (λ o. refused_or o (entries_of kind (lines_of p))) none ∙ ap Ok (listed_read most kind (lines_of p) es h.listed)

-- a paragraph lists one list of entries at most
pub listed_once : (most : ℕ) (kind : ListKind) (p : List FieldValue) (es fs : List Entry) → ListedIn most p kind es → ListedIn most p kind fs → es ≡ fs
listed_once most kind p es fs h k = cc (sym (read_of_listed most kind p es h) ∙ read_of_listed most kind p fs k)

-- ---- a greater limit

file_more : (most more : ℕ) (kind : ListKind) (e : Entry) → min most greatest_size ≤ more → IsFile most kind e → IsFile more kind e
file_more most more kind e h f = let small = f.size in record { name = f.name; size = omega (arith, small, h); md5 = f.md5; sha1 = f.sha1; sha256 = f.sha256; section = f.section }

pub listed_more : (most more : ℕ) (kind : ListKind) (p : List FieldValue) (es : List Entry) → min most greatest_size ≤ more → ListedIn most p kind es → ListedIn more p kind es
listed_more most more kind p es h l = record {
  sha1 = l.sha1;
  sha256 = l.sha256;
  files = l.files;
  listed = record {
    files = l.listed.files;
    sha1 = l.listed.sha1;
    sha1_once = l.listed.sha1_once;
    sha256 = l.listed.sha256;
    sha256_once = l.listed.sha256_once;
    names = l.listed.names;
    each = All-weaker (IsFile most kind) (IsFile more kind) (λ e f. file_more most more kind e h f) es l.listed.each;
    count = l.listed.count;
  };
}

-- what is read with a limit is read with a greater one
pub read_more : (most more : ℕ) (kind : ListKind) (p : List FieldValue) (es : List Entry) → min most greatest_size ≤ more → lists_within most kind p ≡ Ok es → lists_within more kind p ≡ Ok es
read_more most more kind p es h is = read_of_listed more kind p es (listed_more most more kind p es h (listed_of_read most kind p es is))
