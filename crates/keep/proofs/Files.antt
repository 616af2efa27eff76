-- The files of the pool as the plain keeper keeps them.
use Rattle.std.proofs.Common.{◌≡◌, ℕ, true, false, List, [], ◌∷◌, ◌++◌, find, cond, refl, ap, sym, subst, ◌∙◌, Option, Some, None, is_some, bytes_eq}
use Rattle.std.proofs.Math.Path.{fun_ext}
use Rattle.std.proofs.lemmas.List.Folds.{find-append}
use Rattle.std.proofs.lemmas.Slice.Eq.{bytes_eq-Decides}
use Rattle.std.proofs.lemmas.Map.Text.{is_eq-slice_cmp}
use Rattle.std.specs.Cmp.{eq_by_cmp_equiv}
use Rattle.std.specs.Option.{option_map, option_or, option_and_then}
use Rattle.std.specs.Ordering.{eq_by_cmp}
use Rattle.std.specs.FinMap.{find as find_tied, get-from_entries, values}
use Rattle.sums.specs.declared.print.Print.{Print}
use Rattle.suites.specs.Keys.{text_order}
use Rattle.suites.specs.KeyLemmas.{text_order_total}
use Rattle.suites.specs.Pool.{files_of}
use Rattle.suites.specs.Shelves.{ShelvesValue}
use Rattle.suites.proofs.ListTests.{option_or_none}
use Rattle.book.specs.Book.{files_showing, stored_body}
use Rattle.keep.specs.Plain.{plain_book}
use Rattle.keep.specs.Scan.{PoolHas, body_at, is_at, stored, stored_among}
use Rattle.book.specs.declared.arrival.Arrival.{Arrival}
use Rattle.keep.specs.declared.plain.PlainKeeper.{PlainKeeper}
use Rattle.keep.specs.declared.pool.PoolBody.{PoolBody}
use Rattle.book.proofs.Finds.{none_is, none_of_map, some_kept}

tie : (q path : List ℕ) → eq_by_cmp text_order q path ≡ bytes_eq path q
tie q path = sym ((eq_by_cmp_equiv text_order_total).symm path q) ∙ is_eq-slice_cmp path q

tied-append : (q : List ℕ) (es fs : List (List ℕ × Print))
    → find_tied text_order q (es ++ fs) ≡ option_or (find_tied text_order q es) (find_tied text_order q fs)
tied-append q [] fs = refl
tied-append q (e ∷ es) fs =
    elim (eq_by_cmp text_order q e.0) as (λ b. cond b (Some e.1) (find_tied text_order q (es ++ fs)) ≡ option_or (cond b (Some e.1) (find_tied text_order q es)) (find_tied text_order q fs)) [
      | true ↦ refl
      | false ↦ tied-append q es fs
    ]

-- what a search finds with one more file
tied-push : (q : List ℕ) (es : List (List ℕ × Print)) (path : List ℕ) (print : Print)
    → option_or (find_tied text_order q es) (cond (bytes_eq path q) (Some print) None) ≡ find_tied text_order q (es ++ (path, print) ∷ [])
tied-push q es path print =
    ap (λ b. option_or (find_tied text_order q es) (cond b (Some print) None)) (sym (tie q path))
    ∙ sym (tied-append q es ((path, print) ∷ []))

-- a file is added if there is none at its path
pub has_put : (arrivals : List Arrival) (old bodies : List PoolBody) (done : List (List ℕ × Print)) (path : List ℕ) (print : Print)
    → PoolHas arrivals old bodies done → is_some (find (is_at path) bodies) ≡ false
    → PoolHas arrivals old (bodies ++ stored arrivals old path print ∷ []) (done ++ (path, print) ∷ [])
has_put arrivals old bodies done path print has free q =
    find-append (is_at q) bodies (stored arrivals old path print ∷ [])
    ∙ elim (bytes_eq path q) as (λ b. bytes_eq path q ≡ b → option_or (find (is_at q) bodies) (cond b (Some (stored arrivals old path print)) None) ≡ option_map (stored arrivals old q) (option_or (find_tied text_order q done) (cond b (Some print) None))) [
      | true ↦ λ e.
          let same : path ≡ q = (bytes_eq-Decides path q).0 e in
          let nothing : find (is_at q) bodies ≡ None = subst (λ p. find (is_at p) bodies ≡ None) same (none_is (find (is_at path) bodies) free) in
          ap (λ o. option_or o (Some (stored arrivals old path print))) nothing
          ∙ ap (λ p. Some (stored arrivals old p print)) same
          ∙ ap (λ o. option_map (stored arrivals old q) (option_or o (Some print))) (sym (none_of_map (stored arrivals old q) (find_tied text_order q done) (sym (has q) ∙ nothing)))
      | false ↦ λ e. option_or_none (find (is_at q) bodies) ∙ has q ∙ ap (option_map (stored arrivals old q)) (sym (option_or_none (find_tied text_order q done)))
    ] refl
    ∙ ap (option_map (stored arrivals old q)) (tied-push q done path print)

-- a file is passed over if there is one at its path
pub has_passed : (arrivals : List Arrival) (old bodies : List PoolBody) (done : List (List ℕ × Print)) (path : List ℕ) (print : Print)
    → PoolHas arrivals old bodies done → is_some (find (is_at path) bodies) ≡ true
    → PoolHas arrivals old bodies (done ++ (path, print) ∷ [])
has_passed arrivals old bodies done path print has taken q =
    has q
    ∙ ap (option_map (stored arrivals old q)) (
    elim (bytes_eq path q) as (λ b. bytes_eq path q ≡ b → find_tied text_order q done ≡ option_or (find_tied text_order q done) (cond b (Some print) None)) [
      | true ↦ λ e. some_kept (stored arrivals old q) (find_tied text_order q done) (Some print)
          (ap is_some (sym (has q)) ∙ subst (λ p. is_some (find (is_at p) bodies) ≡ true) ((bytes_eq-Decides path q).0 e) taken)
      | false ↦ λ e. sym (option_or_none (find_tied text_order q done))
    ] refl
    ∙ tied-push q done path print
    )

body_of_stored : (arrivals : List Arrival) (old : List PoolBody) (path : List ℕ) (o : Option Print)
    → option_and_then (λ f. f.body) (option_map (stored arrivals old path) o) ≡ option_and_then (stored_among arrivals old path) o
body_of_stored arrivals old path None = refl
body_of_stored arrivals old path (Some print) = refl

-- the files kept are those of the book
pub files_kept : (k : PlainKeeper) (bodies : List PoolBody) (shown : ShelvesValue)
    → PoolHas k.arrivals.items k.files.items bodies (files_of (values shown)) → body_at bodies ≡ files_showing (plain_book k) shown
unfolding body_at stored_body stored_among plain_book
files_kept k bodies shown has = fun_ext (λ path.
    ap (option_and_then (λ f. f.body)) (has path)
    ∙ body_of_stored k.arrivals.items k.files.items path (find_tied text_order path (files_of (values shown)))
    ∙ ap (option_and_then (stored_body (plain_book k) path)) (sym (get-from_entries text_order_total (files_of (values shown)) path)))
