-- Judged uploads, by their numbers.
use Rattle.std.proofs.Common.{◌≡◌, ℕ, Bool, true, false, cond, nat_eq, List, [], ◌∷◌, ◌&&◌, ◌||◌, map, filter, refl, sym, ap, ap₂, ◌∙◌}
use Rattle.std.specs.List.{list_any}
use Rattle.std.specs.List.Sorted.{IsPermutation}
use Rattle.std.proofs.Math.Bool.{and-true}
use Rattle.std.proofs.lemmas.List.Sorted.{list_any-IsPermutation}
use Rattle.tables.specs.Rows.{Numbered, without}
use Rattle.tables.specs.Uploads.{is_judged as has_place}
use Rattle.tables.specs.declared.rows.UploadRow.{UploadRow}
use Rattle.tables.specs.declared.rows.Want.{Want}
use Rattle.old_book.specs.Settling.{has_judged, judged_ids}

-- a test and false is false
none : (a r : Bool) → r ≡ ((a && false) || r)
none true r = refl
none false r = refl

-- one more number
one_more : (x : ℕ × UploadRow) (rest : Numbered UploadRow) (id : ℕ) (b r : Bool) → list_any (λ n. nat_eq n id) (map (λ x. x.0) rest) ≡ r
    → list_any (λ n. nat_eq n id) (map (λ x. x.0) (cond b (x ∷ rest) rest)) ≡ ((nat_eq x.0 id && b) || r)
one_more x rest id true r same = ap₂ ◌||◌ (sym (and-true (nat_eq x.0 id))) same
one_more x rest id false r same = same ∙ none (nat_eq x.0 id) r

judged_here : (uploads : Numbered UploadRow) (id : ℕ) → list_any (λ n. nat_eq n id) (judged_ids uploads) ≡ has_judged uploads id
unfolding has_judged
judged_here [] id = refl
judged_here (x ∷ uploads) id = one_more x (filter (λ y. has_place y.1) uploads) id (has_place x.1) (has_judged uploads id) (judged_here uploads id)

-- the wants of uploads with these numbers are those of judged ones
pub settled_wants : (uploads : Numbered UploadRow) (ids numbers : List ℕ) (wants : Numbered Want) → ids ≡ judged_ids uploads → IsPermutation ids numbers
    → without (λ w. list_any (λ n. nat_eq n w.1.upload) numbers) wants ≡ without (λ w. has_judged uploads w.1.upload) wants
settled_wants uploads ids numbers wants are order = λ i. without (λ w. same w.1.upload i) wants
  where
    same : (id : ℕ) → list_any (λ n. nat_eq n id) numbers ≡ has_judged uploads id
    same id = sym (list_any-IsPermutation (λ n. nat_eq n id) ids numbers order) ∙ ap (list_any (λ n. nat_eq n id)) are ∙ judged_here uploads id
