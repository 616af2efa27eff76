-- What holds if a check finds no fault; and if it holds, the check finds no fault.
use Rattle.std.proofs.Common.{◌≡◌, ◌≢◌, inl, inr, ℕ, Bool, true, false, not, ◌&&◌, cond, List, [], ◌∷◌, Option, Some, None, Result, Ok, Err, refl, ap, ◌∙◌, codes}
use Rattle.std.specs.List.{find, list_any, list_all, AllByRecursion, Contains, IsDistinct}
use Rattle.std.specs.Option.{option_map}
use Rattle.std.specs.Str.{bytes_eq}
use Rattle.std.proofs.lemmas.Bool.{not-true, and_parts, and_from, or_parts, or_from, false≢true, false_from_ne_true, both_ways}
use Rattle.std.proofs.lemmas.Cmp.{nat_list_eq_equiv}
use Rattle.std.proofs.lemmas.List.Sums.{AllPass-from_list_all, list_all-from_AllPass}
use Rattle.std.proofs.lemmas.Map.Made.{AllPairs-from_IsDistinct, IsDistinct-from_AllPairs}
use Rattle.std.proofs.lemmas.Map.Views.{Contains-from_any, list_any-from_Contains}
use Rattle.std.proofs.lemmas.Slice.Eq.{bytes_eq-Decides}
use Rattle.para.specs.Bytes.{is_nil}
use Rattle.para.specs.Fields.{Fields}
use Rattle.vers.specs.Syntax.{IsVersion}
use Rattle.sums.specs.Lists.{lists_within, ListedIn}
use Rattle.sums.specs.declared.entries.Entry.{Entry}
use Rattle.sums.specs.declared.entries.ListKind.{ListKind}
use Rattle.sums.specs.declared.fault.ListFault.{ListFault}
use Rattle.sums.proofs.Agree.{same_bytes}
use Rattle.sums.proofs.ListedRead.{listed_of_read, read_of_listed}
use Rattle.records.specs.Names.{is_package_name, is_architecture_name, is_plain_name}
use Rattle.records.specs.Records as records
use Rattle.records.specs.Records.{first_of, first_of_words, fault_unless, is_among, are_different, NamesSource, AreArchitectures, HasEach, AreSimple, HasNone}
use Rattle.records.specs.declared.field_name.FieldName.{FieldName}
use Rattle.records.specs.declared.field_name.FieldName.TheVariants as field
use Rattle.records.specs.declared.fault.RecordFault.{RecordFault}
use Rattle.records.specs.declared.fault.RecordFault.TheVariants as faults

-- ---- lists of checks

pub none_apply : (checks : List (Option RecordFault)) → first_of checks ≡ None → AllByRecursion (λ check. check ≡ None) checks
none_apply [] h = tt
none_apply (None ∷ rest) h = (refl, none_apply rest h)
none_apply (Some fault ∷ rest) h = cc

pub none_applies : (checks : List (Option RecordFault)) → AllByRecursion (λ check. check ≡ None) checks → first_of checks ≡ None
none_applies [] h = refl
none_applies (check ∷ rest) (e, h) = ap (λ (c : Option RecordFault). first_of (c ∷ rest)) e ∙ none_applies rest h

passed : (b : Bool) (f : RecordFault) → fault_unless b f ≡ None → b ≡ true
passed true f h = refl
passed false f h = cc

pass : (b : Bool) (f : RecordFault) → b ≡ true → fault_unless b f ≡ None
pass b f e = ap (λ t. fault_unless t f) e

-- ---- fields

found_none : {A : Type 0} (b : Bool) (x : A) (o : Option A) → cond b (Some x) o ≡ None → (b ≡ false) × (o ≡ None)
found_none true x o h = cc
found_none false x o h = (refl, h)

none_passes : {A : Type 0} (test : A → Bool) (xs : List A) → find test xs ≡ None → AllByRecursion (λ x. test x ≡ false) xs
none_passes test [] h = tt
none_passes test (x ∷ xs) h = let s = found_none (test x) x (find test xs) h in (s.0, none_passes test xs s.1)

none_found : {A : Type 0} (test : A → Bool) (xs : List A) → AllByRecursion (λ x. test x ≡ false) xs → find test xs ≡ None
none_found test [] h = refl
none_found test (x ∷ xs) (e, h) = ap (λ b. cond b (Some x) (find test xs)) e ∙ none_found test xs h

no_one : {A : Type 0} (test : A → Bool) (xs : List A) → list_any test xs ≡ false → AllByRecursion (λ x. test x ≡ false) xs
no_one test [] h = tt
no_one test (x ∷ xs) h = let s = or_parts (test x) (list_any test xs) h in (s.0, no_one test xs s.1)

not_any : {A : Type 0} (test : A → Bool) (xs : List A) → AllByRecursion (λ x. test x ≡ false) xs → list_any test xs ≡ false
not_any test [] h = refl
not_any test (x ∷ xs) (e, h) = or_from (test x) (list_any test xs) e (not_any test xs h)

option_map-none : {A B : Type 0} (f : A → B) (o : Option A) → option_map f o ≡ None → o ≡ None
option_map-none f None h = refl
option_map-none f (Some x) h = cc

pub required_there : (names : List FieldName) (p : Fields) → records.missing names p ≡ None → HasEach names p
unfolding records.missing
required_there names p h = none_passes (records.is_missing p) names (option_map-none faults.Missing _ h)

pub none_missing : (names : List FieldName) (p : Fields) → HasEach names p → records.missing names p ≡ None
unfolding records.missing
none_missing names p h = ap (option_map faults.Missing) (none_found (records.is_missing p) names h)

pub simple_ones : (names : List FieldName) (p : Fields) → records.not_simple names p ≡ None → AreSimple names p
unfolding records.not_simple
simple_ones names p h = no_one (records.has_more_lines p) names (not-true _ (passed _ faults.NotOneLine h))

pub all_simple : (names : List FieldName) (p : Fields) → AreSimple names p → records.not_simple names p ≡ None
unfolding records.not_simple
all_simple names p h = pass _ faults.NotOneLine (ap not (not_any (records.has_more_lines p) names h))

pub own_absent : (names : List FieldName) (p : Fields) → records.has_own_field names p ≡ None → HasNone names p
unfolding records.has_own_field
own_absent names p h = no_one (records.is_present p) names (not-true _ (passed _ faults.OwnField h))

pub none_own : (names : List FieldName) (p : Fields) → HasNone names p → records.has_own_field names p ≡ None
unfolding records.has_own_field
none_own names p h = pass _ faults.OwnField (ap not (not_any (records.is_present p) names h))

-- ---- values

pub known_format : (formats : List (List ℕ)) (p : Fields) → records.unknown_format formats p ≡ None → Contains formats (records.value field.Format p)
unfolding records.unknown_format
known_format formats p h = Contains-from_any {eq = bytes_eq} same_bytes (records.value field.Format p) formats (passed _ faults.Format h)

pub format_known : (formats : List (List ℕ)) (p : Fields) → Contains formats (records.value field.Format p) → records.unknown_format formats p ≡ None
unfolding records.unknown_format
format_known formats p h = pass _ faults.Format (list_any-from_Contains {eq = bytes_eq} nat_list_eq_equiv (records.value field.Format p) formats h)

is_source-names : (ws : List (List ℕ)) → records.is_source ws ≡ true → NamesSource ws (first_of_words ws)
is_source-names [] h = cc
is_source-names (name ∷ []) h = (h, inl refl)
is_source-names (name ∷ version ∷ []) h =
    let s = and_parts (is_package_name name) (records.is_parenthesized version) h in (s.0, inr (version, s.1, refl))
is_source-names (name ∷ version ∷ more ∷ rest) h = cc

names-is_source : (ws : List (List ℕ)) (name : List ℕ) → NamesSource ws name → (records.is_source ws ≡ true) × (first_of_words ws ≡ name)
names-is_source ws name (h, inl e) = (ap records.is_source e ∙ h, ap first_of_words e)
names-is_source ws name (h, inr (version, v, e)) =
    (ap records.is_source e ∙ and_from (is_package_name name) (records.is_parenthesized version) h v, ap first_of_words e)

pub source_named : (ws : List (List ℕ)) → records.bad_source ws ≡ None → NamesSource ws (first_of_words ws)
unfolding records.bad_source
source_named ws h = is_source-names ws (passed _ faults.Name h)

pub named_source : (ws : List (List ℕ)) (name : List ℕ) → NamesSource ws name → (records.bad_source ws ≡ None) × (first_of_words ws ≡ name)
unfolding records.bad_source
named_source ws name h = let s = names-is_source ws name h in (pass _ faults.Name s.0, s.1)

pub is_named : (name : List ℕ) → records.bad_name name ≡ None → is_package_name name ≡ true
unfolding records.bad_name
is_named name h = passed _ faults.Name h

pub named : (name : List ℕ) → is_package_name name ≡ true → records.bad_name name ≡ None
unfolding records.bad_name
named name h = pass _ faults.Name h

pub is_version : (p : Fields) → records.bad_version p ≡ None → IsVersion (records.value field.Version p)
unfolding records.bad_version
is_version p h = option_map-none faults.Version _ h

pub versioned : (p : Fields) → IsVersion (records.value field.Version p) → records.bad_version p ≡ None
unfolding records.bad_version
versioned p h = ap (option_map faults.Version) h

-- ---- architectures and the distribution

are_different-IsDistinct : (ns : List (List ℕ)) → are_different ns ≡ true → IsDistinct bytes_eq ns
unfolding IsDistinct
are_different-IsDistinct [] h = tt
are_different-IsDistinct (n ∷ ns) h =
    let s = and_parts (not (is_among ns n)) (are_different ns) h in
    (no_one (bytes_eq n) ns (not-true _ s.0), are_different-IsDistinct ns s.1)

IsDistinct-are_different : (ns : List (List ℕ)) → IsDistinct bytes_eq ns → are_different ns ≡ true
unfolding IsDistinct
IsDistinct-are_different [] h = refl
IsDistinct-are_different (n ∷ ns) (e, h) =
    and_from (not (is_among ns n)) (are_different ns) (ap not (not_any (bytes_eq n) ns e)) (IsDistinct-are_different ns h)

is_nil-some : {A : Type 0} (xs : List A) → not (is_nil xs) ≡ true → xs ≢ []
is_nil-some [] h e = false≢true h
is_nil-some (x ∷ xs) h e = cc

some-is_nil : {A : Type 0} (xs : List A) → xs ≢ [] → not (is_nil xs) ≡ true
some-is_nil [] h = absurd (h refl)
some-is_nil (x ∷ xs) h = refl

and3_parts : (a b c : Bool) → (a && b && c) ≡ true → (a ≡ true) × (b ≡ true) × (c ≡ true)
and3_parts true true true h = (refl, refl, refl)
and3_parts true true false h = cc
and3_parts true false c h = cc
and3_parts false b c h = cc

and3_from : (a b c : Bool) → a ≡ true → b ≡ true → c ≡ true → (a && b && c) ≡ true
and3_from a b c x y z = ap (λ t. t && b && c) x ∙ ap (λ t. true && t && c) y ∙ ap (λ t. true && true && t) z

pub architectures : (p : Fields) → records.bad_architectures p ≡ None → AreArchitectures (records.words field.Architecture p)
unfolding records.bad_architectures records.are_architectures
architectures p h =
    let names : List (List ℕ) = records.words field.Architecture p in
    let s = and3_parts (not (is_nil names)) (list_all is_architecture_name names) (are_different names) (passed _ faults.Architecture h) in
    record {
      some = is_nil-some names s.0;
      each = AllPass-from_list_all is_architecture_name names s.1;
      differ = AllPairs-from_IsDistinct bytes_eq-Decides names (are_different-IsDistinct names s.2);
    }

pub are_architectures : (p : Fields) → AreArchitectures (records.words field.Architecture p) → records.bad_architectures p ≡ None
unfolding records.bad_architectures records.are_architectures
are_architectures p h =
    let names : List (List ℕ) = records.words field.Architecture p in
    pass _ faults.Architecture (and3_from (not (is_nil names)) (list_all is_architecture_name names) (are_different names)
    (some-is_nil names h.some) (list_all-from_AllPass is_architecture_name names h.each)
    (IsDistinct-are_different names (IsDistinct-from_AllPairs bytes_eq-Decides names h.differ)))

pub architecture : (p : Fields) → records.bad_architecture p ≡ None →
    (is_architecture_name (records.value field.Architecture p) ≡ true) × (records.value field.Architecture p ≢ codes "source")
unfolding records.bad_architecture records.is_binary_architecture
architecture p h =
    let name : List ℕ = records.value field.Architecture p in
    let s = and_parts (is_architecture_name name) (not (bytes_eq name (codes "source"))) (passed _ faults.Architecture h) in
    (s.0, λ e. both_ways _ (not-true _ s.1) ((bytes_eq-Decides name (codes "source")).1 e))

differs : (a b : List ℕ) → a ≢ b → bytes_eq a b ≡ false
differs a b h = false_from_ne_true _ (λ e. h (same_bytes a b e))

pub is_architecture : (p : Fields) → is_architecture_name (records.value field.Architecture p) ≡ true →
    records.value field.Architecture p ≢ codes "source" → records.bad_architecture p ≡ None
unfolding records.bad_architecture records.is_binary_architecture
is_architecture p h k = pass _ faults.Architecture (and_from _ _ h (ap not (differs _ _ k)))

pub distribution : (p : Fields) → records.bad_distribution p ≡ None → is_plain_name (records.value field.Distribution p) ≡ true
unfolding records.bad_distribution
distribution p h = passed _ faults.Distribution h

pub is_distribution : (p : Fields) → is_plain_name (records.value field.Distribution p) ≡ true → records.bad_distribution p ≡ None
unfolding records.bad_distribution
is_distribution p h = pass _ faults.Distribution h

-- ---- the listed files

no_list_fault : (r : Result (List Entry) ListFault) → records.fault_of_lists r ≡ None → r ≡ Ok (records.entries_or_none r)
no_list_fault (Ok es) h = refl
no_list_fault (Err e) h = cc

pub listed : (most : ℕ) (kind : ListKind) (p : Fields) → records.bad_lists most kind p ≡ None → ListedIn most p kind (records.entries_of most kind p)
unfolding records.bad_lists records.entries_of
listed most kind p h = listed_of_read most kind p _ (no_list_fault (lists_within most kind p) h)

pub is_listed : (most : ℕ) (kind : ListKind) (p : Fields) (es : List Entry) → ListedIn most p kind es → (records.bad_lists most kind p ≡ None) × (records.entries_of most kind p ≡ es)
unfolding records.bad_lists records.entries_of
is_listed most kind p es h = let e = read_of_listed most kind p es h in (ap records.fault_of_lists e, ap records.entries_or_none e)
