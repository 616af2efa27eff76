-- What waits and lacks nothing is due.
use Rattle.std.proofs.Common.{◌≡◌, ℕ, Bool, true, false, ◌&&◌, not, cond, List, [], ◌∷◌, filter, map, refl, ap, ◌∙◌}
use Rattle.std.specs.List.{list_all}
use Rattle.std.specs.Ordering.{is_gt}
use Rattle.std.proofs.lemmas.List.Elements.{filter_agree}
use Rattle.std.proofs.lemmas.Simd.{map-map}
use Rattle.para.specs.Bytes.{is_nil}
use Rattle.sums.specs.declared.entries.Entry.{Entry}
use Rattle.suites.proofs.ListTests.{filter-map}
use Rattle.suites.specs.Keys.{text_order}
use Rattle.book.specs.Book.{Book, Candidate, at_moment, by_name, due, is_complete, is_there, lack_of, lacks_of, put_by_name, unjudged, waiting_list, waiting_of}
use Rattle.book.specs.Keeping.{sign_of}
use Rattle.book.specs.declared.arrival.Arrival.{Arrival}
use Rattle.book.specs.declared.change.Lack.{Lack}
use Rattle.telling.specs.Whole.{is_whole, sign_of_waiting}

and_swap : (a b c : Bool) → (a && (b && c)) ≡ (b && (a && c))
and_swap true b c = refl
and_swap false true c = refl
and_swap false false c = refl

-- the order of the entries is all the same
module _ (there : Entry → Bool) where
  put_all : (e : Entry) (es : List Entry) → list_all there (put_by_name e es) ≡ (there e && list_all there es)
  put_all e [] = refl
  put_all e (f ∷ fs) = by (is_gt (text_order e.name f.name)) (put_all e fs)
    where
      by : (b : Bool) → list_all there (put_by_name e fs) ≡ (there e && list_all there fs)
          → list_all there (cond b (f ∷ put_by_name e fs) (e ∷ f ∷ fs)) ≡ (there e && list_all there (f ∷ fs))
      by true rest = ap (λ b. there f && b) rest ∙ and_swap (there f) (there e) (list_all there fs)
      by false rest = refl

  all_by_name : (es : List Entry) → list_all there (by_name es) ≡ list_all there es
  all_by_name [] = refl
  all_by_name (e ∷ es) = put_all e (by_name es) ∙ ap (λ b. there e && b) (all_by_name es)

-- nothing lacks if and only if each listed file is there
none_lack : (made : Entry → Lack) (there : Entry → Bool) (es : List Entry) → is_nil (map made (filter (λ e. not (there e)) es)) ≡ list_all there es
none_lack made there [] = refl
none_lack made there (e ∷ es) = by (there e) (none_lack made there es)
  where
    by : (b : Bool) → is_nil (map made (filter (λ x. not (there x)) es)) ≡ list_all there es
        → is_nil (map made (cond (not b) (e ∷ filter (λ x. not (there x)) es) (filter (λ x. not (there x)) es))) ≡ (b && list_all there es)
    by true rest = rest
    by false rest = refl

whole_complete : (came counts : List Arrival) (c : Candidate) → is_whole (waiting_of came counts c) ≡ is_complete counts c
unfolding lacks_of is_complete
whole_complete came counts c =
    none_lack (lack_of came) (is_there counts) (by_name c.changes.entries) ∙ all_by_name (is_there counts) c.changes.entries

module _ (moment : ℕ) (book : Book) where
  pub whole_due : map sign_of_waiting (filter is_whole (waiting_list moment book)) ≡ map sign_of (due (at_moment moment book))
  unfolding due waiting_list
  whole_due =
      ap (map sign_of_waiting) (filter-map is_whole (waiting_of book.arrivals (at_moment moment book).arrivals) (unjudged (at_moment moment book)))
      ∙ map-map sign_of_waiting (waiting_of book.arrivals (at_moment moment book).arrivals) (filter (λ c. is_whole (waiting_of book.arrivals (at_moment moment book).arrivals c)) (unjudged (at_moment moment book)))
      ∙ ap (map sign_of) (filter_agree (λ c. is_whole (waiting_of book.arrivals (at_moment moment book).arrivals c)) (is_complete (at_moment moment book).arrivals)
      (whole_complete book.arrivals (at_moment moment book).arrivals) (unjudged (at_moment moment book)))
