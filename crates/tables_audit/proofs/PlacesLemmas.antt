-- The uploads by place: as they are listed, and as they are sorted.
use Rattle.std.proofs.Common.{◌≡◌, ℕ, ◌+◌, ◌<◌, Bool, true, false, cond, not, ◌&&◌, nat_eq, Option, Some, None, option_map, List, [], ◌∷◌, ◌++◌, map, filter, find, take, length, get_or, All, refl, sym, ap, ap₂, subst, ◌∙◌, arith}
use Rattle.std.specs.List.Sorted.{IsPermutation, IsStableByKey}
use Rattle.std.specs.Option.{option_and_then, option_map_or, option_or}
use Rattle.std.specs.Ordering.{is_lt, nat_cmp}
use Rattle.std.proofs.lemmas.Bool.{eqb-true}
use Rattle.std.proofs.lemmas.List.{append-nil, map-append, nil_from_length}
use Rattle.std.proofs.lemmas.List.Elements.{filter_agree, filter_passes}
use Rattle.std.proofs.lemmas.List.Folds.{find-append}
use Rattle.std.proofs.lemmas.List.Sorted.{length_permutation}
use Rattle.sqlite_keyed.proofs.ListLemmas.{IsPermutation-filter, filter-map}
use Rattle.tables_meaning.specs.Kept.{is_placed}
use Rattle.tables_meaning.proofs.NumberOrders.{tie_is}
use Rattle.tables.specs.Rows.{Numbered, rows_of}
use Rattle.tables.specs.declared.rows.UploadRow.{UploadRow}
use Rattle.tables_audit.specs.Places.{ArePlaced, first_at, placed_view, placed_with}
use Rattle.tables_audit.specs.Uploads.{judged_at, judgement_in}
use Rattle.tables_audit.specs.declared.uploads.places.Placed.{Placed}
use Rattle.tables_audit.proofs.KeyedLemmas.{find_same}
use Rattle.tables_audit.proofs.UploadsLists.{rows_more}

-- ---- one more upload

-- at first there are none
pub none_placed : (uploads : Numbered UploadRow) (placed : List Placed) → placed ≡ [] → ArePlaced (take 0 uploads) (map placed_view placed)
none_placed uploads placed none place = ap (λ (l : List Placed). first_at (map placed_view l) place) none

-- one more is added, if it has a place
pub added : (old : List Placed) (p : Placed) {new : List Placed} (o : Option ℕ) → o ≡ Some p.place → new ≡ old ++ p ∷ [] → map placed_view new ≡ map placed_view old ++ placed_with p.upload.now o
added old p o is pushed =
    ap (map placed_view) pushed
    ∙ map-append placed_view old (p ∷ [])
    ∙ ap (λ (q : Option ℕ). map placed_view old ++ placed_with p.upload.now q) (sym is)

pub not_added : (old : List Placed) (u : UploadRow) (o : Option ℕ) → o ≡ None → map placed_view old ≡ map placed_view old ++ placed_with u o
not_added old u o is = sym (append-nil (map placed_view old)) ∙ ap (λ (q : Option ℕ). map placed_view old ++ placed_with u q) (sym is)

either_mapped : {X Y : Type 0} (f : X → Y) (o p : Option X) → option_map f (option_or o p) ≡ option_or (option_map f o) (option_map f p)
either_mapped f None p = refl
either_mapped f (Some x) p = refl

first_append : (xs ys : List (ℕ × UploadRow)) (place : ℕ) → first_at (xs ++ ys) place ≡ option_or (first_at xs place) (first_at ys place)
first_append xs ys place =
    let test : ℕ × UploadRow → Bool = λ x. nat_eq x.0 place in
    ap (option_map (λ (x : ℕ × UploadRow). x.1)) (find-append test xs ys)
    ∙ either_mapped (λ (x : ℕ × UploadRow). x.1) (find test xs) (find test ys)

one_placed : (u : UploadRow) (place : ℕ) → first_at (placed_with u u.place) place ≡ find (is_placed place) (u ∷ [])
one_placed u place = go u.place
  where
    told : (n : ℕ) (b : Bool) → option_map (λ (x : ℕ × UploadRow). x.1) (cond b (Some (n, u)) None) ≡ cond b (Some u) None
    told n true = refl
    told n false = refl

    go : (o : Option ℕ) → first_at (placed_with u o) place ≡ cond (option_map_or (λ p. nat_eq p place) o false) (Some u) None
    go None = refl
    go (Some n) = told n (nat_eq n place)

pub placed_more : (uploads : Numbered UploadRow) (i : ℕ) (x : ℕ × UploadRow) (placed : List (ℕ × UploadRow)) {now : List (ℕ × UploadRow)} → i < length uploads → x ≡ get_or uploads i x
    → now ≡ placed ++ placed_with x.1 x.1.place → ArePlaced (take i uploads) placed → ArePlaced (take (i + 1) uploads) now
placed_more uploads i x placed within is pushed so_far place =
    ap (λ (l : List (ℕ × UploadRow)). first_at l place) pushed
    ∙ first_append placed (placed_with x.1 x.1.place) place
    ∙ ap₂ option_or (so_far place) (one_placed x.1 place)
    ∙ sym (ap (find (is_placed place)) (rows_more uploads i x within is) ∙ find-append (is_placed place) (rows_of (take i uploads)) (x.1 ∷ []))

-- ---- the uploads in the order of their places

-- the first at a place depends on those at the place alone
pub first_same : (place : ℕ) (xs ys : List Placed) → filter (λ (p : Placed). nat_eq p.place place) xs ≡ filter (λ (p : Placed). nat_eq p.place place) ys
    → first_at (map placed_view xs) place ≡ first_at (map placed_view ys) place
first_same place xs ys e =
    let test : ℕ × UploadRow → Bool = λ x. nat_eq x.0 place in
    ap (option_map (λ (x : ℕ × UploadRow). x.1))
    (find_same test (map placed_view xs) (map placed_view ys) (filter-map test placed_view xs ∙ ap (map placed_view) e ∙ sym (filter-map test placed_view ys)))

module _ (old new : List Placed) (same : IsPermutation old new) (stable : IsStableByKey (λ (p : Placed). p.place) nat_cmp old new) where
  stays : (place : ℕ) → filter (λ (p : Placed). nat_eq p.place place) new ≡ filter (λ (p : Placed). nat_eq p.place place) old
  stays place = go (filter (λ (p : Placed). nat_eq p.place place) old) refl
    where
      go : (l : List Placed) → filter (λ (p : Placed). nat_eq p.place place) old ≡ l → filter (λ (p : Placed). nat_eq p.place place) new ≡ filter (λ (p : Placed). nat_eq p.place place) old
      go [] none =
          let at : Placed → Bool = λ p. nat_eq p.place place in
          nil_from_length (filter at new) (length_permutation (filter at old) (filter at new) (IsPermutation-filter at old new same) ∙ ap length none) ∙ sym none
      go (x ∷ l) some =
          let at : Placed → Bool = λ p. nat_eq p.place place in
          let tie : Placed → Bool = λ y. not (is_lt (nat_cmp x.place y.place)) && not (is_lt (nat_cmp y.place x.place)) in
          let here : nat_eq x.place place ≡ true = subst (All (λ (p : Placed). nat_eq p.place place ≡ true)) some (filter_passes at old) 0 x (omega arith) in
          let alike : (y : Placed) → at y ≡ tie y = λ y. sym (tie_is x.place y.place ∙ ap (nat_eq y.place) (eqb-true x.place place here)) in
          filter_agree at tie alike new ∙ stable x ∙ sym (filter_agree at tie alike old)

  pub sorted_placed : (uploads : Numbered UploadRow) → ArePlaced uploads (map placed_view old) → ArePlaced uploads (map placed_view new)
  sorted_placed uploads are place = first_same place new old (stays place) ∙ are place

-- what is judged at a place depends on the upload there alone
pub judged_by : (uploads : Numbered UploadRow) (placed rows : List Placed) → rows ≡ placed → ArePlaced uploads (map placed_view placed) → (place : ℕ)
    → option_and_then judgement_in (first_at (map placed_view rows) place) ≡ judged_at uploads place
unfolding judged_at
judged_by uploads placed rows same are place =
    ap (λ (l : List Placed). option_and_then judgement_in (first_at (map placed_view l) place)) same
    ∙ ap (option_and_then judgement_in) (are place)
