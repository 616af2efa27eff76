-- What is read of arrivals, and the texts of an upload entry by entry.
use Rattle.std.proofs.Common.{◌≡◌, ℕ, ◌+◌, ◌<◌, Bool, true, false, ◌&&◌, cond, List, [], ◌∷◌, ◌++◌, bytes_eq, drop, find, get_or, length, Option, Some, None, option_map, refl, sym, ap, ◌∙◌}
use Rattle.std.specs.Option.{option_and_then}
use Rattle.std.proofs.lemmas.List.{append_assoc, drop_more}
use Rattle.sums.specs.Prints.{print as print_of, same_print}
use Rattle.sums.specs.declared.print.Print.{Print}
use Rattle.sums.specs.declared.entries.Entry.{Entry}
use Rattle.book.specs.Book.{is_arrival_of}
use Rattle.book.proofs.Prints.{same_print-Decides}
use Rattle.book.specs.declared.arrival.Arrival.{Arrival}
use Rattle.inquiry.specs.Reading.{body_of, kept_text, kept_texts}

-- ---- a body that is read

printed_found : (name : List ℕ) (print : Print) (body : List ℕ) (arrivals : List Arrival) → body_of arrivals name print ≡ Some body → print_of body ≡ print
printed_found name print body [] e = cc
printed_found name print body (a ∷ rest) e = by (bytes_eq a.name name) (same_print (print_of a.body) print) refl (printed_found name print body rest) e
  where
    by : (n p : Bool) → same_print (print_of a.body) print ≡ p → (body_of rest name print ≡ Some body → print_of body ≡ print)
        → option_map (λ (x : Arrival). x.body) (cond (n && p) (Some a) (find (is_arrival_of name print) rest)) ≡ Some body → print_of body ≡ print
    by true true same more is = let its : a.body ≡ body = cc in ap print_of (sym its) ∙ (same_print-Decides (print_of a.body) print).0 same
    by true false same more is = more is
    by false p same more is = more is

-- what is found under a name and print has this print
pub printed : (arrivals : List Arrival) (name : List ℕ) (print : Print) (body : List ℕ) → body_of arrivals name print ≡ Some body → print_of body ≡ print
printed arrivals name print body e = printed_found name print body arrivals e

-- ---- texts, entry by entry

pub none_before : (o : Option (List (List ℕ))) → option_map (λ rest. [] ++ rest) o ≡ o
none_before None = refl
none_before (Some rest) = refl

one_before : (done : List (List ℕ)) (text : List ℕ) (o : Option (List (List ℕ))) → option_map (λ rest. (done ++ text ∷ []) ++ rest) o ≡ option_map (λ rest. done ++ rest) (option_map (λ texts. text ∷ texts) o)
one_before done text None = refl
one_before done text (Some rest) = ap Some (append_assoc done (text ∷ []) rest)

module _ (arrivals : List Arrival) (entries : List Entry) (i : ℕ) (e : Entry) (done : List (List ℕ)) (within : i < length entries) (at : e ≡ get_or entries i e)
    (so_far : option_map (λ rest. done ++ rest) (kept_texts arrivals (drop i entries)) ≡ kept_texts arrivals entries) where
  -- with the text of the next entry in front of those that are left
  next : option_map (λ rest. done ++ rest) (kept_texts arrivals (e ∷ drop (i + 1) entries)) ≡ kept_texts arrivals entries
  next = ap (λ es. option_map (λ rest. done ++ rest) (kept_texts arrivals es)) (sym (drop_more entries i e within ∙ ap (λ x. x ∷ drop (i + 1) entries) (sym at))) ∙ so_far

  pub kept_more : {now : List (List ℕ)} (text : List ℕ) → now ≡ done ++ text ∷ [] → kept_text arrivals e ≡ Some text
      → option_map (λ rest. now ++ rest) (kept_texts arrivals (drop (i + 1) entries)) ≡ kept_texts arrivals entries
  kept_more {now} text pushed is =
      ap (λ ts. option_map (λ rest. ts ++ rest) (kept_texts arrivals (drop (i + 1) entries))) pushed
      ∙ one_before done text (kept_texts arrivals (drop (i + 1) entries))
      ∙ ap (λ o. option_map (λ rest. done ++ rest) (option_and_then (λ t. option_map (λ texts. t ∷ texts) (kept_texts arrivals (drop (i + 1) entries))) o)) (sym is)
      ∙ next

  -- if the next text is not there, not all are
  pub kept_none : kept_text arrivals e ≡ None → None ≡ kept_texts arrivals entries
  kept_none is = ap (λ o. option_map (λ rest. done ++ rest) (option_and_then (λ t. option_map (λ texts. t ∷ texts) (kept_texts arrivals (drop (i + 1) entries))) o)) (sym is) ∙ next
