-- What references that come and go change of the pool.
use Rattle.std.proofs.Common.{◌≡◌, ℕ, suc, ◌+◌, ◌<◌, ◌≤◌, Bool, true, false, cond, List, [], ◌∷◌, ◌++◌, map, filter, length, min, bytes_eq, refl, sym, ap, subst, ◌∙◌, Option, Some, None, arith}
use Rattle.std.specs.Prelude.{String, string_bytes, is_some, T, nat_eq, nat_le}
use Rattle.std.specs.BTreeMap.{BTreeMap, IsOrdered, get_by_text, is_at}
use Rattle.std.specs.Map.{lookup}
use Rattle.std.specs.String.{string_cmp}
use Rattle.std.specs.Cmp.{eq_by_cmp_equiv}
use Rattle.std.specs.declared.alloc.Global.{Global}
use Rattle.std.specs.Option.{option_map}
use Rattle.std.specs.Ordering.{eq_by_cmp, is_lt}
use Rattle.std.specs.FinMap.{find, is_sorted}
use Rattle.std.specs.FinMap.Entries.{below_all}
use Rattle.std.proofs.lemmas.List.{map-append}
use Rattle.std.proofs.lemmas.List.Elements.{filter-append}
use Rattle.std.proofs.lemmas.List.Sums.{length-filter, count_by-le-length}
use Rattle.std.proofs.lemmas.Slice.Eq.{bytes_eq-Decides}
use Rattle.std.proofs.lemmas.Simd.{map-map}
use Rattle.sums.specs.declared.print.Print.{Print}
use Rattle.suites.specs.Counts.{count_at, shared_at}
use Rattle.suites.specs.Keys.{text_order}
use Rattle.suites.specs.KeyLemmas.{text_order_total, text_order-IsAntisymmetric}
use Rattle.suites.specs.Pool.{pair_of}
use Rattle.suites.specs.Shelves.{ShelvesValue}
use Rattle.suites.specs.PoolChange.{one_more, files_where, ListsExactly, referred, references_at, gained, lost, is_new, has_no_use}
use Rattle.suites.specs.declared.plan.Reference.{Reference}
use Rattle.suites.specs.declared.item.PoolFile.{PoolFile}
use Rattle.suites.specs.declared.shelves.SharedFile.{SharedFile}
use Rattle.suites.proofs.CountLemmas.{count_at-append, count_at-nil}
use Rattle.suites.proofs.EntryLemmas.{and_left, and_right, and_T, less_apart, same_keys, sorted-filter, sorted_ordered}
use Rattle.suites.proofs.MapChanges.{or_else}
use Rattle.suites.proofs.SharedLemmas.{same_test, count_at-cons, count_at-none}

abbrev Files : Type 0
Files = List (List ℕ × Print)

pub count_at-le : (p : List ℕ) (fs : Files) → count_at p fs ≤ length fs
unfolding count_at
count_at-le p fs = omega (arith, length-filter (λ f. bytes_eq f.0 p) fs, count_by-le-length (λ (f : List ℕ × Print). bytes_eq f.0 p) fs)

found-push : (p : List ℕ) (fs : Files) (f : List ℕ × Print) → find text_order p (fs ++ f ∷ []) ≡ or_else (find text_order p fs) (cond (eq_by_cmp text_order p f.0) (Some f.1) None)
found-push p [] f = refl
found-push p (g ∷ fs) f =
    elim (eq_by_cmp text_order p g.0) as (λ b. cond b (Some g.1) (find text_order p (fs ++ f ∷ [])) ≡ or_else (cond b (Some g.1) (find text_order p fs)) (cond (eq_by_cmp text_order p f.0) (Some f.1) None)) [
      | true ↦ refl
      | false ↦ found-push p fs f
    ]

count-push : (p : List ℕ) (fs : Files) (f : List ℕ × Print) → count_at p (fs ++ f ∷ []) ≡ count_at p fs + cond (eq_by_cmp text_order p f.0) 1 0
count-push p fs f =
    count_at-append p fs (f ∷ [])
    ∙ ap (λ n. count_at p fs + n) (count_at-cons p f [] ∙ ap (λ n. cond (eq_by_cmp text_order p f.0) (suc n) n) (count_at-nil p))

abbrev sharing : ℕ → Option Print → Option SharedFile
sharing n o = option_map (λ print. record { print = print; references = n }) o

-- one reference more, at its own path
same_path : (f : List ℕ × Print) (fs : Files) → length fs < 18446744073709551615 → (found : Option Print) → find text_order f.0 fs ≡ found
    → sharing (count_at f.0 fs + 1) (or_else found (Some f.1)) ≡ Some (one_more (sharing (count_at f.0 fs) found) f.1)
same_path f fs small None none = (let one : count_at f.0 fs + 1 ≡ 1 = omega (arith, count_at-none f.0 fs none) in ap (λ n. Some (record { print = f.1; references = n })) one)
same_path f fs small (Some x) some = (let same : count_at f.0 fs + 1 ≡ min (count_at f.0 fs + 1) 18446744073709551615 = omega (arith, count_at-le f.0 fs) in ap (λ n. Some (record { print = x; references = n })) same)

pub shared-push : (p : List ℕ) (fs : Files) (f : List ℕ × Print) → length fs < 18446744073709551615
    → shared_at p (fs ++ f ∷ []) ≡ cond (bytes_eq f.0 p) (Some (one_more (shared_at f.0 fs) f.1)) (shared_at p fs)
unfolding shared_at
shared-push p fs f small =
    (λ i. sharing (count-push p fs f i) (found-push p fs f i))
    ∙ elim (bytes_eq f.0 p) as (λ b. bytes_eq f.0 p ≡ b → sharing (count_at p fs + cond (eq_by_cmp text_order p f.0) 1 0) (or_else (find text_order p fs) (cond (eq_by_cmp text_order p f.0) (Some f.1) None))
    ≡ cond b (Some (one_more (sharing (count_at f.0 fs) (find text_order f.0 fs)) f.1)) (sharing (count_at p fs) (find text_order p fs))) [
      | true ↦ λ e.
          ap (λ b. sharing (count_at p fs + cond b 1 0) (or_else (find text_order p fs) (cond b (Some f.1) None))) (sym (same_test p f.0) ∙ e)
          ∙ ap (λ q. sharing (count_at q fs + 1) (or_else (find text_order q fs) (Some f.1))) (sym ((bytes_eq-Decides f.0 p).0 e))
          ∙ same_path f fs small (find text_order f.0 fs) refl
      | false ↦ λ e.
          ap (λ b. sharing (count_at p fs + cond b 1 0) (or_else (find text_order p fs) (cond b (Some f.1) None))) (sym (same_test p f.0) ∙ e)
          ∙ (λ i. sharing (no_more (count_at p fs) i) (nothing_else (find text_order p fs) i))
    ] refl
  where
    no_more : (n : ℕ) → n + 0 ≡ n
    no_more n = omega arith

    nothing_else : (o : Option Print) → or_else o None ≡ o
    nothing_else None = refl
    nothing_else (Some x) = refl

-- one file more of those that pass
pub files_where-push : (test : List ℕ → SharedFile → Bool) (done : List (String Global × SharedFile)) (e : String Global × SharedFile)
    → files_where test done ++ cond (test (string_bytes e.0) e.1) (record { path = string_bytes e.0; print = e.1.print } ∷ []) [] ≡ files_where test (done ++ e ∷ [])
files_where-push test done e =
    let file_at : String Global × SharedFile → PoolFile = λ (f : String Global × SharedFile). record { path = string_bytes f.0; print = f.1.print } in
    let passes : String Global × SharedFile → Bool = λ (f : String Global × SharedFile). test (string_bytes f.0) f.1 in
    sym (ap (map file_at) (filter-append passes done (e ∷ [])) ∙ map-append file_at (filter passes done) (filter passes (e ∷ [])) ∙ ap (λ files. files_where test done ++ files) (last (test (string_bytes e.0) e.1)))
  where
    last : (b : Bool) → map {B = PoolFile} (λ (f : String Global × SharedFile). record { path = string_bytes f.0; print = f.1.print }) (cond b (e ∷ []) []) ≡ cond b (record { path = string_bytes e.0; print = e.1.print } ∷ []) []
    last true = refl
    last false = refl

-- the files with their prints
abbrev printed_files : List (String Global × SharedFile) → Files
printed_files es = map (λ e. (string_bytes e.0, e.1.print)) es

pairs-where : (test : List ℕ → SharedFile → Bool) (es : List (String Global × SharedFile))
    → map pair_of (files_where test es) ≡ printed_files (filter (λ e. test (string_bytes e.0) e.1) es)
pairs-where test es = map-map pair_of _ (filter (λ e. test (string_bytes e.0) e.1) es)

below-printed : (k : String Global) (es : List (String Global × SharedFile)) → T (below_all string_cmp k es) → T (below_all text_order (string_bytes k) (printed_files es))
below-printed k [] below = tt
below-printed k (e ∷ es) below = and_T _ _ (and_left _ _ below) (below-printed k es (and_right (is_lt (string_cmp k e.0)) _ below))

sorted-printed : (es : List (String Global × SharedFile)) → T (is_sorted string_cmp es) → T (is_sorted text_order (printed_files es))
sorted-printed [] sorted = tt
sorted-printed (e ∷ es) sorted = and_T _ _ (below-printed e.0 es (and_left _ _ sorted)) (sorted-printed es (and_right (below_all string_cmp e.0 es) _ sorted))

abbrev at_path : List ℕ → List (String Global × SharedFile) → Option SharedFile
at_path p es = lookup (is_at (λ key. text_order p (string_bytes key))) es

abbrev pub passing : (List ℕ → SharedFile → Bool) → Option SharedFile → List ℕ → Option Print
passing test None p = None
passing test (Some file) p = cond (test p file) (Some file.print) None

-- no file after the first has the same path
no_second : (p : List ℕ) (k : String Global) (es : List (String Global × SharedFile)) → T (below_all string_cmp k es) → eq_by_cmp text_order p (string_bytes k) ≡ true
    → at_path p es ≡ None
no_second p k [] below tied = refl
no_second p k (e ∷ es) below tied =
    ap (λ b. cond b (Some e.1) (at_path p es)) ((eq_by_cmp_equiv text_order_total).congr p (string_bytes k) (string_bytes e.0) tied ∙ less_apart (string_cmp k e.0) (and_left _ _ below))
    ∙ no_second p k es (and_right (is_lt (string_cmp k e.0)) _ below) tied

find-where : (test : List ℕ → SharedFile → Bool) (es : List (String Global × SharedFile)) (p : List ℕ) → T (is_sorted string_cmp es)
    → find text_order p (printed_files (filter (λ e. test (string_bytes e.0) e.1) es)) ≡ passing test (at_path p es) p
find-where test [] p sorted = refl
find-where test (e ∷ es) p sorted =
    let rest = find-where test es p (and_right (below_all string_cmp e.0 es) _ sorted) in
    let later = filter (λ (f : String Global × SharedFile). test (string_bytes f.0) f.1) es in
    elim (eq_by_cmp text_order p (string_bytes e.0)) as (λ b. eq_by_cmp text_order p (string_bytes e.0) ≡ b
    → find text_order p (printed_files (filter (λ f. test (string_bytes f.0) f.1) (e ∷ es))) ≡ passing test (cond b (Some e.1) (at_path p es)) p) [
      | true ↦ λ tied.
          let at : test (string_bytes e.0) e.1 ≡ test p e.1 = ap (λ q. test q e.1) (sym (same_keys text_order-IsAntisymmetric p (string_bytes e.0) tied)) in
          elim (test (string_bytes e.0) e.1) as (λ r. test (string_bytes e.0) e.1 ≡ r → find text_order p (printed_files (cond r (e ∷ later) later)) ≡ cond (test p e.1) (Some e.1.print) None) [
            | true ↦ λ r. ap (λ b. cond b (Some e.1.print) (find text_order p (printed_files later))) tied ∙ sym (ap (λ c. cond c (Some e.1.print) None) (sym at ∙ r))
            | false ↦ λ r. rest ∙ ap (λ o. passing test o p) (no_second p e.0 es (and_left _ _ sorted) tied) ∙ sym (ap (λ c. cond c (Some e.1.print) None) (sym at ∙ r))
          ] refl
      | false ↦ λ other.
          elim (test (string_bytes e.0) e.1) as (λ r. find text_order p (printed_files (cond r (e ∷ later) later)) ≡ passing test (at_path p es) p) [
            | true ↦ ap (λ b. cond b (Some e.1.print) (find text_order p (printed_files later))) other ∙ rest
            | false ↦ rest
          ]
    ] refl

-- the files of a map that pass, in the order of their paths
pub lists-where : (test : List ℕ → SharedFile → Bool) (m : BTreeMap (String Global) SharedFile) (files : List PoolFile) (contents : List ℕ → Option Print)
    → IsOrdered string_cmp m → files ≡ files_where test m.entries → ((p : List ℕ) → passing test (get_by_text m p) p ≡ contents p) → ListsExactly files contents
lists-where test m files contents ordered is exact =
    let sorted = sorted_ordered string_cmp m.entries ordered in
    let pairs = ap (map pair_of) is ∙ pairs-where test m.entries in
    record {
      in_order = subst (λ (fs : Files). T (is_sorted text_order fs)) (sym pairs)
          (sorted-printed (filter (λ e. test (string_bytes e.0) e.1) m.entries) (sorted-filter string_cmp (λ e. test (string_bytes e.0) e.1) m.entries sorted));
      exact = λ p. ap (find text_order p) pairs ∙ find-where test m.entries p sorted ∙ exact p;
    }

abbrev nothing : Option Print
nothing = None

never : (b : Bool) → nothing ≡ cond b None None
never true = refl
never false = refl

-- what the pool gains follows from the counts of the references that come
pub gained-where : (shelves : ShelvesValue) (put : List Reference) (p : List ℕ)
    → passing (is_new shelves) (shared_at p (map referred put)) p ≡ gained shelves put p
unfolding shared_at gained
gained-where shelves put p = of_option (find text_order p (map referred put))
  where
    of_option : (o : Option Print) → passing (is_new shelves) (sharing (count_at p (map referred put)) o) p ≡ cond (nat_eq (references_at shelves p) 0) o None
    of_option None = never (nat_eq (references_at shelves p) 0)
    of_option (Some x) = refl

pub lost-where : (shelves : ShelvesValue) (put dropped : List Reference) (m : BTreeMap (String Global) SharedFile) (p : List ℕ)
    → get_by_text m p ≡ shared_at p (map referred put)
    → passing (λ path file. has_no_use shelves m path file.references) (shared_at p (map referred dropped)) p ≡ lost shelves put dropped p
unfolding shared_at lost
lost-where shelves put dropped m p at =
    of_option (find text_order p (map referred dropped))
    ∙ ap (λ o. cond (is_some o) None (cond (nat_le (references_at shelves p) (count_at p (map referred dropped))) (find text_order p (map referred dropped)) None)) at
    ∙ ap (λ b. cond b None (cond (nat_le (references_at shelves p) (count_at p (map referred dropped))) (find text_order p (map referred dropped)) None)) (some_sharing (find text_order p (map referred put)))
  where
    some_sharing : (o : Option Print) → is_some (sharing (count_at p (map referred put)) o) ≡ is_some o
    some_sharing None = refl
    some_sharing (Some x) = refl

    of_option : (o : Option Print) → passing (λ path file. has_no_use shelves m path file.references) (sharing (count_at p (map referred dropped)) o) p
        ≡ cond (is_some (get_by_text m p)) None (cond (nat_le (references_at shelves p) (count_at p (map referred dropped))) o None)
    of_option None = elim (is_some (get_by_text m p)) as (λ b. nothing ≡ cond b None (cond (nat_le (references_at shelves p) (count_at p (map referred dropped))) None None)) [
      | true ↦ refl
      | false ↦ never (nat_le (references_at shelves p) (count_at p (map referred dropped)))
    ]
    of_option (Some x) = elim (is_some (get_by_text m p)) as (λ b. cond (cond b false (nat_le (references_at shelves p) (count_at p (map referred dropped)))) (Some x) None
        ≡ cond b None (cond (nat_le (references_at shelves p) (count_at p (map referred dropped))) (Some x) None)) [ true ↦ refl | false ↦ refl ]
