-- The judged uploads: what their rows say, place by place.
use Rattle.std.proofs.Common.{◌≡◌, ℕ, zero, suc, ◌+◌, ◌<◌, ◌≤◌, Bool, true, false, cond, nat_eq, nat_lt, Option, Some, None, option_map, slice_get, List, [], ◌∷◌, map, find, fold, length, get_or, All, Contains, refl, sym, ap, ap₂, subst, ◌∙◌, arith, true≢false}
use Rattle.std.specs.List.{AllByRecursion, range_with_len}
use Rattle.std.specs.Option.{option_and_then, option_map_or}
use Rattle.std.proofs.lemmas.Bool.Decides.{Decides-eqb, Decides-ltb}
use Rattle.std.proofs.lemmas.List.{length-map}
use Rattle.std.proofs.lemmas.List.Elements.{All-from_recursion, recursion_from_All}
use Rattle.std.proofs.lemmas.List.FromFn.{length-map-range_with_len}
use Rattle.std.proofs.lemmas.Option.{slice_get-get_or, slice_get_past, slice_get_within}
use Rattle.rules.proofs.VerdictNumbers.{known, number_is}
use Rattle.rules.specs.Verdicts.{verdict_numbered}
use Rattle.rules.specs.declared.verdict.Verdict.{Verdict}
use Rattle.book.specs.declared.change.Judgement.{Judgement}
use Rattle.book.proofs.Finds.{found_passes}
use Rattle.tables.specs.Rows.{Numbered, rows_of}
use Rattle.tables.specs.declared.rows.UploadRow.{UploadRow}
use Rattle.tables_meaning.specs.Kept.{is_placed, judged_row}
use Rattle.tables_meaning.proofs.RowLists.{none_passes}
use Rattle.tables_audit.specs.Uploads.{judged_at, judgement_in, last_of, later}
use Rattle.tables_audit.proofs.UploadsLists.{from_slices, none_among, same_somes, slice_get-map, slice_get-range}

-- ---- a row and its judgement

pub placed : (place : ℕ) (u : UploadRow) → is_placed place u ≡ true → u.place ≡ Some place
placed place u e = go u.place e
  where
    go : (o : Option ℕ) → option_map_or (λ p. nat_eq p place) o false ≡ true → o ≡ Some place
    go None f = absurd (true≢false (sym f))
    go (Some p) f = ap Some ((Decides-eqb p place).0 f)

pub at_place : (place : ℕ) (u : UploadRow) → u.place ≡ Some place → is_placed place u ≡ true
at_place place u e = subst (λ (o : Option ℕ). option_map_or (λ p. nat_eq p place) o false ≡ true) (sym e) ((Decides-eqb place place).1 refl)

told : UploadRow → Verdict → Judgement
told u v = record { name = u.name; print = u.print; verdict = v }

pub row_told : (u : UploadRow) (place : ℕ) (j : Judgement) → u.place ≡ Some place → judgement_in u ≡ Some j → u ≡ judged_row place j
unfolding judgement_in told
row_told u place j at e = go u.verdict refl e
  where
    go : (o : Option ℕ) → u.verdict ≡ o → option_map (told u) (option_and_then verdict_numbered o) ≡ Some j → u ≡ judged_row place j
    go None t f = cc
    go (Some n) t f = step (verdict_numbered n) refl f
      where
        step : (o : Option Verdict) → verdict_numbered n ≡ o → option_map (told u) o ≡ Some j → u ≡ judged_row place j
        step None w g = cc
        step (Some v) w g =
            let k : told u v ≡ j = cc in
            let parts : u ≡ judged_row place (told u v) = ap₂ (λ (p o : Option ℕ). record { name = u.name; print = u.print; place = p; verdict = o }) at (t ∙ ap Some (number_is n v w)) in
            parts ∙ ap (judged_row place) k

pub told_back : (place : ℕ) (j : Judgement) → judgement_in (judged_row place j) ≡ Some j
unfolding judgement_in
told_back place j = ap (option_map (λ v. record { name = j.name; print = j.print; verdict = v })) (known j.verdict)

-- ---- the judgement at a place

pub row_at : (uploads : Numbered UploadRow) (place : ℕ) (j : Judgement) → judged_at uploads place ≡ Some j → find (is_placed place) (rows_of uploads) ≡ Some (judged_row place j)
unfolding judged_at
row_at uploads place j e = go (find (is_placed place) (rows_of uploads)) refl e
  where
    go : (o : Option UploadRow) → find (is_placed place) (rows_of uploads) ≡ o → option_and_then judgement_in o ≡ Some j → o ≡ Some (judged_row place j)
    go None t f = cc
    go (Some u) t f = ap Some (row_told u place j (placed place u (found_passes (is_placed place) (rows_of uploads) u t)) f)

pub judged_back : (uploads : Numbered UploadRow) (place : ℕ) (o : Option Judgement) → find (is_placed place) (rows_of uploads) ≡ option_map (judged_row place) o → judged_at uploads place ≡ o
unfolding judged_at
judged_back uploads place o e = ap (option_and_then judgement_in) e ∙ go o
  where
    go : (o : Option Judgement) → option_and_then judgement_in (option_map (judged_row place) o) ≡ o
    go None = refl
    go (Some j) = told_back place j

-- ---- the last place

-- no place is above this one
abbrev pub IsBound : ℕ → ℕ × UploadRow → Type 0
IsBound bound x = (n : ℕ) → x.1.place ≡ Some n → n ≤ bound

later_least : (last bound : ℕ) (o : Option ℕ) → last ≤ bound → ((n : ℕ) → o ≡ Some n → n ≤ bound) → later last o ≤ bound
later_least last bound None h k = h
later_least last bound (Some p) h k = go (nat_lt last p)
  where
    go : (b : Bool) → cond b p last ≤ bound
    go true = k p refl
    go false = h

later_most : (last : ℕ) (o : Option ℕ) → (last ≤ later last o) × ((n : ℕ) → o ≡ Some n → n ≤ later last o)
later_most last None = (omega arith, λ n e. cc)
later_most last (Some p) = go (nat_lt last p) refl
  where
    go : (b : Bool) → nat_lt last p ≡ b → (last ≤ cond b p last) × ((n : ℕ) → Some p ≡ Some n → n ≤ cond b p last)
    go true t =
        let below : last < p = (Decides-ltb last p).0 t in
        (omega arith, λ n e. let k : p ≡ n = cc in omega arith)
    go false t =
        let not_below : last < p → ⊥ = λ k. true≢false (sym ((Decides-ltb last p).1 k) ∙ t) in
        let most : p ≤ last = omega (arith, not_below) in
        (omega arith, λ n e. let k : p ≡ n = cc in omega arith)

pub last_least : (uploads : Numbered UploadRow) (start bound : ℕ) → start ≤ bound → AllByRecursion (IsBound bound) uploads → fold (λ (last : ℕ) (x : ℕ × UploadRow). later last x.1.place) start uploads ≤ bound
last_least [] start bound h all = h
last_least (x ∷ uploads) start bound h all = last_least uploads (later start x.1.place) bound (later_least start bound x.1.place h all.0) all.1

pub last_from : (uploads : Numbered UploadRow) (start : ℕ) → start ≤ fold (λ (last : ℕ) (x : ℕ × UploadRow). later last x.1.place) start uploads
last_from [] start = omega arith
last_from (x ∷ uploads) start = let more = last_from uploads (later start x.1.place) in let here = (later_most start x.1.place).0 in omega (arith, more, here)

bound_more : (uploads : Numbered UploadRow) (start bound : ℕ) → fold (λ (last : ℕ) (x : ℕ × UploadRow). later last x.1.place) start uploads ≤ bound → AllByRecursion (IsBound bound) uploads
bound_more [] start bound h = tt
bound_more (x ∷ uploads) start bound h = (
  λ n e. let here = (later_most start x.1.place).1 n e in let more = last_from uploads (later start x.1.place) in omega (arith, here, more, h),
  bound_more uploads (later start x.1.place) bound h,
)

pub last_most : (uploads : Numbered UploadRow) → AllByRecursion (IsBound (last_of uploads)) uploads
last_most uploads = bound_more uploads 0 (last_of uploads) (omega arith)

-- ---- all places

-- no upload has a place that is above the last one
none_above : (bound place : ℕ) → bound < place → (xs : Numbered UploadRow) → AllByRecursion (IsBound bound) xs → find (is_placed place) (rows_of xs) ≡ None
none_above bound place past [] all = refl
none_above bound place past (x ∷ xs) all = step (is_placed place x.1) refl (none_above bound place past xs all.1)
  where
    step : (b : Bool) → is_placed place x.1 ≡ b → find (is_placed place) (rows_of xs) ≡ None → cond b (Some x.1) (find (is_placed place) (rows_of xs)) ≡ None
    step true t more = let most : place ≤ bound = all.0 place (placed place x.1 t) in absurd (omega arith)
    step false t more = more

none_past : (uploads : Numbered UploadRow) (place : ℕ) → last_of uploads < place → find (is_placed place) (rows_of uploads) ≡ None
none_past uploads place past = none_above (last_of uploads) place past uploads (last_most uploads)

pub places_fit : (uploads : Numbered UploadRow) (judged : List Judgement) → map (λ (j : Judgement). Some j) judged ≡ map (judged_at uploads) (range_with_len 1 (last_of uploads))
    → (n : ℕ) → find (is_placed (n + 1)) (rows_of uploads) ≡ option_map (judged_row (n + 1)) (slice_get judged n)
places_fit uploads judged all n = go (nat_lt n (last_of uploads)) refl
  where
    count : length judged ≡ last_of uploads
    count = sym (length-map judged (λ (j : Judgement). Some j)) ∙ ap length all ∙ length-map-range_with_len (judged_at uploads) 1 (last_of uploads)

    here : n < last_of uploads → option_map (λ (j : Judgement). Some j) (slice_get judged n) ≡ Some (judged_at uploads (1 + n))
    here within =
        sym (slice_get-map (λ (j : Judgement). Some j) judged n)
        ∙ ap (λ (l : List (Option Judgement)). slice_get l n) all
        ∙ slice_get-map (judged_at uploads) (range_with_len 1 (last_of uploads)) n
        ∙ ap (option_map (judged_at uploads)) (slice_get-range 1 (last_of uploads) n within)

    at : (o : Option Judgement) → option_map (λ (j : Judgement). Some j) o ≡ Some (judged_at uploads (1 + n)) → find (is_placed (n + 1)) (rows_of uploads) ≡ option_map (judged_row (n + 1)) o
    at None e = cc
    at (Some j) e =
        let k : judged_at uploads (1 + n) ≡ Some j = cc in
        let next : 1 + n ≡ n + 1 = omega arith in
        row_at uploads (n + 1) j (subst (λ m. judged_at uploads m ≡ Some j) next k)

    go : (b : Bool) → nat_lt n (last_of uploads) ≡ b → find (is_placed (n + 1)) (rows_of uploads) ≡ option_map (judged_row (n + 1)) (slice_get judged n)
    go true t = at (slice_get judged n) (here ((Decides-ltb n (last_of uploads)).0 t))
    go false t =
        let not_below : n < last_of uploads → ⊥ = λ k. true≢false (sym ((Decides-ltb n (last_of uploads)).1 k) ∙ t) in
        let past : last_of uploads < n + 1 = omega (arith, not_below) in
        let beyond : length judged ≤ n = omega (arith, count, not_below) in
        none_past uploads (n + 1) past ∙ sym (ap (option_map (judged_row (n + 1))) (slice_get_past judged n beyond))

-- ---- only one list of judged uploads fits

module _ (uploads : Numbered UploadRow) (judged : List Judgement)
    (places : (n : ℕ) → find (is_placed (n + 1)) (rows_of uploads) ≡ option_map (judged_row (n + 1)) (slice_get judged n)) where
  at_all : (n : ℕ) → judged_at uploads (1 + n) ≡ slice_get judged n
  at_all n =
      let next : n + 1 ≡ 1 + n = omega arith in
      subst (λ m. judged_at uploads m ≡ slice_get judged n) next (judged_back uploads (n + 1) (slice_get judged n) (places n))

  -- a place that an upload has is one of those of the judged
  has_place : (n : ℕ) (u : UploadRow) → find (is_placed (n + 1)) (rows_of uploads) ≡ Some u → n < length judged
  has_place n u e = go (slice_get judged n) refl
    where
      go : (o : Option Judgement) → slice_get judged n ≡ o → n < length judged
      go None t = let k : None ≡ Some u = sym (ap (option_map (judged_row (n + 1))) t) ∙ sym (places n) ∙ e in cc
      go (Some j) t = slice_get_within judged n j t

  bounded : All (λ u. (m : ℕ) → u.place ≡ Some m → m ≤ length judged) (rows_of uploads)
  bounded k d within zero e = omega arith
  bounded k d within (suc n) e = go (find (is_placed (n + 1)) (rows_of uploads)) refl
    where
      u : UploadRow
      u = get_or (rows_of uploads) k d

      go : (o : Option UploadRow) → find (is_placed (n + 1)) (rows_of uploads) ≡ o → suc n ≤ length judged
      go None t =
          let no = All-from_recursion (λ v. is_placed (n + 1) v ≡ false) (rows_of uploads) (none_passes (is_placed (n + 1)) (rows_of uploads) t) k d within in
          let next : suc n ≡ n + 1 = omega arith in
          absurd (true≢false (sym (at_place (n + 1) (get_or (rows_of uploads) k d) (e ∙ ap Some next)) ∙ no))
      go (Some v) t = let h = has_place n v t in omega (arith, h)

  last_is : last_of uploads ≡ length judged
  last_is =
      let least : last_of uploads ≤ length judged = last_least uploads 0 (length judged) (omega arith) (unrowed uploads (recursion_from_All (λ u. (m : ℕ) → u.place ≡ Some m → m ≤ length judged) (rows_of uploads) bounded)) in
      let most : length judged ≤ last_of uploads = go (nat_lt (last_of uploads) (length judged)) refl in
      omega arith
    where
      unrowed : (xs : Numbered UploadRow) → AllByRecursion (λ u. (m : ℕ) → u.place ≡ Some m → m ≤ length judged) (rows_of xs) → AllByRecursion (IsBound (length judged)) xs
      unrowed [] h = tt
      unrowed (x ∷ xs) h = (h.0, unrowed xs h.1)

      filler : (js : List Judgement) → last_of uploads < length js → Judgement
      filler [] h = absurd (omega arith)
      filler (j ∷ js) h = j

      past : (o : Option Judgement) → slice_get judged (last_of uploads) ≡ o → last_of uploads < length judged → ⊥
      past None t below = let k : None ≡ Some (get_or judged (last_of uploads) (filler judged below)) = sym t ∙ slice_get-get_or judged (last_of uploads) (filler judged below) below in cc
      past (Some j) t below =
          let nobody = none_past uploads (last_of uploads + 1) (omega arith) in
          let k : None ≡ Some (judged_row (last_of uploads + 1) j) = sym nobody ∙ places (last_of uploads) ∙ ap (option_map (judged_row (last_of uploads + 1))) t in
          cc

      go : (b : Bool) → nat_lt (last_of uploads) (length judged) ≡ b → length judged ≤ last_of uploads
      go true t = absurd (past (slice_get judged (last_of uploads)) refl ((Decides-ltb (last_of uploads) (length judged)).0 t))
      go false t =
          let not_below : last_of uploads < length judged → ⊥ = λ k. true≢false (sym ((Decides-ltb (last_of uploads) (length judged)).1 k) ∙ t) in
          omega (arith, not_below)

  all_judged : map (judged_at uploads) (range_with_len 1 (last_of uploads)) ≡ map (λ (j : Judgement). Some j) judged
  all_judged = ap (λ n. map (judged_at uploads) (range_with_len 1 n)) last_is ∙ from_slices (judged_at uploads) 1 judged at_all

  pub is_judged_list : (other : List Judgement) → map (λ (j : Judgement). Some j) other ≡ map (judged_at uploads) (range_with_len 1 (last_of uploads)) → other ≡ judged
  is_judged_list other e = same_somes other judged (e ∙ all_judged)

  pub none_misses : Contains (map (judged_at uploads) (range_with_len 1 (last_of uploads))) None → ⊥
  none_misses has = none_among judged (subst (λ l. Contains l None) all_judged has)
