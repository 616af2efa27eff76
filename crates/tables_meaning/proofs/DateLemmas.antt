-- The rows of dates after a change.
use Rattle.std.proofs.Common.{◌≡◌, ◌≢◌, ◌≤◌, inl, inr, ℕ, ◌+◌, Bool, true, false, if◌then◌else◌, List, [], ◌∷◌, length, map, fold, IsPermutation, refl, sym, ap, subst, ◌∙◌, arith}
use Rattle.std.proofs.lemmas.Slice.Eq.{bytes_eq-Decides}
use Rattle.std.specs.List.{enumerate_from, zip}
use Rattle.std.specs.Prelude.{All, AllPairs, Contains}
use Rattle.book.specs.Book.{dates_past, latest}
use Rattle.book.specs.Scan.{some_touches}
use Rattle.book.specs.declared.change.IndexText.{IndexText}
use Rattle.book.specs.declared.change.Step.{Step}
use Rattle.book.proofs.Dates.{dated, dates_past-dated}
use Rattle.rules.specs.declared.suite.Suite.{Suite}
use Rattle.std.proofs.lemmas.List.Sorted.{IsPermutation-map}
use Rattle.sqlite_keyed.proofs.ListLemmas.{map-map}
use Rattle.sums.proofs.Members.{all_at, all_from, here, no_member, pairs_head, pairs_tail, there, which}
use Rattle.tables.specs.Dates.{has_suite, with_new_date}
use Rattle.tables.specs.Rows.{Numbered, Tables, changed, rows_of}
use Rattle.tables.specs.Texts.{with_new_text}
use Rattle.tables.specs.declared.rows.Date.{Date}
use Rattle.tables_meaning.specs.Kept.{date_row}
use Rattle.tables_meaning.specs.Making.{with_new_dates, with_new_texts}
use Rattle.tables_meaning.proofs.Orders.{permuted_by}
use Rattle.indices.proofs.Paths.{CodenamesDiffer}
use Rattle.indices.proofs.Apart.{not_equal}

-- ---- rows of dates

module _ (moment : ℕ) (steps : List Step) where
  abbrev set_moment : Date → Date
  set_moment r = record r { moment = moment }

  -- what the date of a suite that a step touches makes of a row, and what those of several suites make of it in turn
  abbrev dated_row : ℕ × Suite → Date → Date
  dated_row s r = if some_touches s.0 steps then (if has_suite s.1.codename r then set_moment r else r) else r

  abbrev all_dated : List (ℕ × Suite) → Date → Date
  all_dated [] r = r
  all_dated (s ∷ ss) r = all_dated ss (dated_row s r)

  abbrev with_date_of : ℕ × Suite → Tables → Tables
  with_date_of s now = if some_touches s.0 steps then with_new_date s.1.codename moment now else now

  row_changed : (n : ℕ) (r : Date) (b : Bool) (rest : Numbered Date)
      → rows_of ((if b then (n, set_moment r) else (n, r)) ∷ rest) ≡ (if b then set_moment r else r) ∷ rows_of rest
  row_changed n r true rest = refl
  row_changed n r false rest = refl

  rows_changed : (codename : List ℕ) (rows : Numbered Date) → rows_of (changed (λ x. has_suite codename x.1) set_moment rows) ≡ map (λ r. if has_suite codename r then set_moment r else r) (rows_of rows)
  rows_changed codename [] = refl
  rows_changed codename (r ∷ rs) =
      row_changed r.0 r.1 (has_suite codename r.1) (changed (λ x. has_suite codename x.1) set_moment rs)
      ∙ ap (λ es. (if has_suite codename r.1 then set_moment r.1 else r.1) ∷ es) (rows_changed codename rs)

  same_all : (rows : List Date) → map (λ (r : Date). r) rows ≡ rows
  same_all [] = refl
  same_all (r ∷ rs) = ap (λ es. r ∷ es) (same_all rs)

  rows_dated_by : (s : ℕ × Suite) (t : Tables) (b : Bool)
      → rows_of (if b then with_new_date s.1.codename moment t else t).dates ≡ map (λ r. if b then (if has_suite s.1.codename r then set_moment r else r) else r) (rows_of t.dates)
  rows_dated_by s t true = rows_changed s.1.codename t.dates
  rows_dated_by s t false = sym (same_all (rows_of t.dates))

  rows_dated : (ss : List (ℕ × Suite)) (t : Tables) → rows_of (fold (λ (now : Tables) (s : ℕ × Suite). with_date_of s now) t ss).dates ≡ map (all_dated ss) (rows_of t.dates)
  rows_dated [] t = sym (same_all (rows_of t.dates))
  rows_dated (s ∷ ss) t =
      rows_dated ss (with_date_of s t)
      ∙ ap (map (all_dated ss)) (rows_dated_by s t (some_touches s.0 steps))
      ∙ map-map (all_dated ss) (dated_row s) (rows_of t.dates)

  -- a row of another suite stays
  row_stays : (s : ℕ × Suite) (r : Date) → r.suite ≢ s.1.codename → dated_row s r ≡ r
  row_stays s r other = by_case (some_touches s.0 steps) (has_suite s.1.codename r) (not_equal r.suite s.1.codename other)
    where
      by_case : (b c : Bool) → c ≡ false → (if b then (if c then set_moment r else r) else r) ≡ r
      by_case true true e = cc
      by_case true false e = refl
      by_case false c e = refl

  all_stay : (ss : List (ℕ × Suite)) (r : Date) → ((s : ℕ × Suite) → Contains ss s → r.suite ≢ s.1.codename) → all_dated ss r ≡ r
  all_stay [] r h = refl
  all_stay (s ∷ ss) r h = ap (all_dated ss) (row_stays s r (h s (here s ss))) ∙ all_stay ss r (λ u at. h u (there s u ss at))

  own_row : (n : ℕ) (s : Suite) (d : ℕ) → dated_row (n, s) (date_row (s, d)) ≡ date_row (s, if some_touches n steps then moment else d)
  own_row n s d = by_case (some_touches n steps) (has_suite s.codename (date_row (s, d))) ((bytes_eq-Decides s.codename s.codename).1 refl)
    where
      by_case : (b c : Bool) → c ≡ true → (if b then (if c then set_moment (date_row (s, d)) else date_row (s, d)) else date_row (s, d)) ≡ date_row (s, if b then moment else d)
      by_case true true e = refl
      by_case true false e = cc
      by_case false c e = refl

  -- the rows of the suites after one stay if its date is set
  later_rows : (s : ℕ × Suite) (ss : List (ℕ × Suite)) (rest : List Suite) (dates : List ℕ) → ((u : Suite) → Contains rest u → u.codename ≢ s.1.codename)
      → map (all_dated (s ∷ ss)) (map date_row (zip rest dates)) ≡ map (all_dated ss) (map date_row (zip rest dates))
  later_rows s ss [] dates h = refl
  later_rows s ss (u ∷ us) [] h = refl
  later_rows s ss (u ∷ us) (d ∷ ds) h =
      ap (λ r. all_dated ss r ∷ map (all_dated (s ∷ ss)) (map date_row (zip us ds))) (row_stays s (date_row (u, d)) (h u (here u us)))
      ∙ ap (λ rs. all_dated ss (date_row (u, d)) ∷ rs) (later_rows s ss us ds (λ v at. h v (there u v us at)))

  numbered_in : (n : ℕ) (ss : List Suite) (s : ℕ × Suite) → Contains (enumerate_from n ss) s → Contains ss s.1
  numbered_in n [] s at = no_member s at
  numbered_in n (u ∷ us) s at = elim (which (n, u) s (enumerate_from (n + 1) us) at) [
    | inl is ↦ subst (λ (v : ℕ × Suite). Contains (u ∷ us) v.1) is (here u us)
    | inr later ↦ there u s.1 us (numbered_in (n + 1) us s later)
  ]

  all_rows : (n : ℕ) (suites : List Suite) (dates : List ℕ) → AllPairs CodenamesDiffer suites
      → map (all_dated (enumerate_from n suites)) (map date_row (zip suites dates)) ≡ map date_row (zip suites (dated moment steps n dates))
  all_rows n [] dates apart = refl
  all_rows n (s ∷ ss) [] apart = refl
  all_rows n (s ∷ ss) (d ∷ ds) apart =
      let others : (u : Suite) → Contains ss u → s.codename ≢ u.codename = λ u at. all_at (CodenamesDiffer s) ss u (pairs_head CodenamesDiffer s ss apart) at in
      let date : ℕ = if some_touches n steps then moment else d in
      ap (λ r. all_dated (enumerate_from (n + 1) ss) r ∷ map (all_dated ((n, s) ∷ enumerate_from (n + 1) ss)) (map date_row (zip ss ds))) (own_row n s d)
      ∙ ap (λ r. r ∷ map (all_dated ((n, s) ∷ enumerate_from (n + 1) ss)) (map date_row (zip ss ds)))
      (all_stay (enumerate_from (n + 1) ss) (date_row (s, date)) (λ u at. others u.1 (numbered_in (n + 1) ss u at)))
      ∙ ap (λ rs. date_row (s, date) ∷ rs)
      (later_rows (n, s) (enumerate_from (n + 1) ss) ss ds (λ u at e. others u at (sym e)) ∙ all_rows (n + 1) ss ds (pairs_tail CodenamesDiffer s ss apart))

  -- ---- the dates themselves

  length_dated : (n : ℕ) (dates : List ℕ) → length (dated moment steps n dates) ≡ length dates
  length_dated n [] = refl
  length_dated n (d ∷ ds) = let e = length_dated (n + 1) ds in omega (arith, e)

  in_range_dated : (n : ℕ) (dates : List ℕ) → moment ≤ latest → ((d : ℕ) → Contains dates d → d ≤ latest) → (d : ℕ) → Contains (dated moment steps n dates) d → d ≤ latest
  in_range_dated n [] small h d at = no_member d at
  in_range_dated n (c ∷ cs) small h d at = elim (which (if some_touches n steps then moment else c) d (dated moment steps (n + 1) cs) at) [
    | inl is ↦ subst (λ m. m ≤ latest) is (by_case (some_touches n steps))
    | inr later ↦ in_range_dated (n + 1) cs small (λ x p. h x (there c x cs p)) d later
  ]
    where
      by_case : (b : Bool) → (if b then moment else c) ≤ latest
      by_case true = small
      by_case false = h c (here c cs)

  pub length_past : (dates : List ℕ) → length (dates_past moment dates steps) ≡ length dates
  length_past dates = ap length (dates_past-dated moment steps dates) ∙ length_dated 0 dates

  pub in_range_past : (dates : List ℕ) → moment ≤ latest → All (λ d. d ≤ latest) dates → All (λ d. d ≤ latest) (dates_past moment dates steps)
  in_range_past dates small h =
      all_from (λ d. d ≤ latest) (dates_past moment dates steps)
      (λ d at. in_range_dated 0 dates small (λ c p. all_at (λ x. x ≤ latest) dates c h p) d (subst (λ ds. Contains ds d) (dates_past-dated moment steps dates) at))

  -- texts are other rows
  pub texts_apart : (texts : List IndexText) (t : Tables) → (with_new_texts texts t).dates ≡ t.dates
  texts_apart [] t = refl
  texts_apart (x ∷ xs) t = texts_apart xs (with_new_text x.path x.text t)

  -- The rows of dates after a change are those of the dates after it.
  pub renewed_dates : (suites : List Suite) (dates : List ℕ) (texts : List IndexText) (t : Tables) → AllPairs CodenamesDiffer suites → IsPermutation (rows_of t.dates) (map date_row (zip suites dates))
      → IsPermutation (rows_of (with_new_dates suites moment steps (with_new_texts texts t)).dates) (map date_row (zip suites (dates_past moment dates steps)))
  renewed_dates suites dates texts t apart are =
      permuted_by
      (rows_dated (enumerate_from 0 suites) (with_new_texts texts t)
      ∙ ap (λ rows. map (all_dated (enumerate_from 0 suites)) (rows_of rows)) (texts_apart texts t))
      (IsPermutation-map (all_dated (enumerate_from 0 suites)) _ _ are)
      (all_rows 0 suites dates apart
      ∙ ap (λ ds. map date_row (zip suites ds)) (sym (dates_past-dated moment steps dates)))
