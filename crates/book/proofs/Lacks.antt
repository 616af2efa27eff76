-- How many files an upload lacks.
use Rattle.std.proofs.Common.{◌≡◌, Bool, true, false, cond, if◌then◌else◌, not, List, [], ◌∷◌, filter, length, refl, ◌∙◌, arith}
use Rattle.std.specs.Ordering.{is_gt}
use Rattle.std.proofs.lemmas.List.{length-map}
use Rattle.sums.specs.declared.entries.Entry.{Entry}
use Rattle.suites.specs.Keys.{text_order}
use Rattle.book.specs.Book.{by_name, is_there, lack_of, lacks_of, put_by_name}
use Rattle.book.specs.declared.arrival.Arrival.{Arrival}

module _ (test : Entry → Bool) where
  -- one more in its place is one more of those that pass, if it passes
  count_more : (e : Entry) (fs : List Entry) → length (filter test (put_by_name e fs)) ≡ length (filter test (e ∷ fs))
  count_more e [] = refl
  count_more e (f ∷ fs) = by_order (is_gt (text_order e.name f.name)) (count_more e fs)
    where
      swapped : (b c : Bool) (n : List Entry) → length (cond c (f ∷ cond b (e ∷ n) n) (cond b (e ∷ n) n)) ≡ length (cond b (e ∷ cond c (f ∷ n) n) (cond c (f ∷ n) n))
      swapped true true n = refl
      swapped true false n = refl
      swapped false true n = refl
      swapped false false n = refl

      after : (c : Bool) (a b : List Entry) → length a ≡ length b → length (cond c (f ∷ a) a) ≡ length (cond c (f ∷ b) b)
      after true a b h = omega (arith, h)
      after false a b h = h

      by_order : (b : Bool) → length (filter test (put_by_name e fs)) ≡ length (filter test (e ∷ fs))
          → length (filter test (if b then f ∷ put_by_name e fs else e ∷ f ∷ fs)) ≡ length (filter test (e ∷ f ∷ fs))
      by_order true h = after (test f) (filter test (put_by_name e fs)) (filter test (e ∷ fs)) h ∙ swapped (test e) (test f) (filter test fs)
      by_order false h = refl

  -- in the order of the names as many pass
  count_by_name : (es : List Entry) → length (filter test (by_name es)) ≡ length (filter test es)
  count_by_name [] = refl
  count_by_name (e ∷ es) = count_more e (by_name es) ∙ after (test e) (count_by_name es)
    where
      after : (b : Bool) → length (filter test (by_name es)) ≡ length (filter test es)
          → length (cond b (e ∷ filter test (by_name es)) (filter test (by_name es))) ≡ length (cond b (e ∷ filter test es) (filter test es))
      after true h = omega (arith, h)
      after false h = h

-- what is lacking are as many as the listed files of which no arrival counts
pub lacks_count : (all now : List Arrival) (entries : List Entry) → length (lacks_of all now entries) ≡ length (filter (λ e. not (is_there now e)) entries)
unfolding lacks_of
lacks_count all now entries = length-map _ (lack_of all) ∙ count_by_name (λ e. not (is_there now e)) entries
