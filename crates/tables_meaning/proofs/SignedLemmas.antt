-- The uploads that a change judges may have been delivered.
use Rattle.std.proofs.Common.{◌≡◌, ℕ, Bool, true, false, not, if◌then◌else◌, List, [], ◌∷◌, ◌++◌, map, filter, length, take, None, Result, Ok, Err, All, refl, sym, subst}
use Rattle.std.specs.List.{AllByRecursion, cons_option}
use Rattle.std.specs.Option.{option_map}
use Rattle.std.specs.Result.{result_ok}
use Rattle.std.proofs.lemmas.List.Elements.{All-append, All-from_recursion, recursion_from_All}
use Rattle.sqlite_keyed.proofs.ListLemmas.{all-filter, all_map}
use Rattle.records.specs.Records.{changes_in}
use Rattle.records.specs.Values.{ChangesValue}
use Rattle.records.specs.declared.fault.RecordFault.{RecordFault}
use Rattle.records.proofs.RecordRead.{changes_of_read}
use Rattle.sums.specs.Prints.{print as print_of}
use Rattle.sums.specs.declared.print.Print.{Print}
use Rattle.sums.proofs.DigestLengths.{length-md5, length-sha1, length-sha256}
use Rattle.book.specs.Book.{Book, Candidate, candidate_of, candidates, due, in_order, is_complete, is_judged, judgements, unjudged}
use Rattle.sums.specs.FileNames.{is_changes_name}
use Rattle.book.specs.Keeping.{IsDeliverable, sign_of, sign_on}
use Rattle.book.specs.declared.arrival.Arrival.{Arrival}
use Rattle.book.specs.declared.change.Judgement.{Judgement}
use Rattle.book.specs.declared.change.Step.{Step}
use Rattle.tables.specs.Real.{IsRealPrint}
use Rattle.tables_meaning.specs.Kept.{AreSigned, IsSigned}
use Rattle.tables_meaning.proofs.JudgedSteps.{all_in_order, all_taken}

pub real_print : (body : List ℕ) → IsRealPrint (print_of body)
real_print body = record { md5 = length-md5 body; sha1 = length-sha1 body; sha256 = length-sha256 body }

-- the name and the print may be those of a delivered .changes
abbrev IsSignedAs : List ℕ × Print → Type 0
IsSignedAs s = IsSigned s.0 s.1

signed_record : (a : Arrival) (c : ChangesValue) → is_changes_name a.name ≡ true → IsDeliverable a.name a.body → changes_in a.body ≡ Ok c → IsSigned a.name (print_of a.body)
signed_record a c named deliverable read = let made = changes_of_read _ a.body c read in record {
  named = named;
  file_name = deliverable.file_name;
  small = made.within;
  digests = real_print a.body;
}

signed_candidate : (a : Arrival) → IsDeliverable a.name a.body → (b : Bool) → is_changes_name a.name ≡ b → (cs : List Candidate) → AllByRecursion (λ c. IsSignedAs (sign_of c)) cs
    → AllByRecursion (λ c. IsSignedAs (sign_of c)) (cons_option (if b then option_map (λ c. record { name = a.name; body = a.body; changes = c }) (result_ok (changes_in a.body)) else None) cs)
signed_candidate a deliverable false named cs rest = rest
signed_candidate a deliverable true named cs rest = go (changes_in a.body) refl
  where
    made : ChangesValue → Candidate
    made c = record { name = a.name; body = a.body; changes = c }

    go : (r : Result ChangesValue RecordFault) → changes_in a.body ≡ r → AllByRecursion (λ c. IsSignedAs (sign_of c)) (cons_option (option_map made (result_ok (changes_in a.body))) cs)
    go (Ok c) is = subst (λ r. AllByRecursion (λ c. IsSignedAs (sign_of c)) (cons_option (option_map made (result_ok r)) cs)) (sym is) (signed_record a c named deliverable is, rest)
    go (Err e) is = subst (λ r. AllByRecursion (λ c. IsSignedAs (sign_of c)) (cons_option (option_map made (result_ok r)) cs)) (sym is) rest

signed_candidates : (arrivals : List Arrival) → AllByRecursion (λ a. IsDeliverable a.name a.body) arrivals → AllByRecursion (λ c. IsSignedAs (sign_of c)) (candidates arrivals)
unfolding candidate_of
signed_candidates [] all = tt
signed_candidates (a ∷ arrivals) all = signed_candidate a all.0 (is_changes_name a.name) refl (candidates arrivals) (signed_candidates arrivals all.1)

-- the first of those that are due
signed_due : (book : Book) (n : ℕ) → AllByRecursion (λ a. IsDeliverable a.name a.body) book.arrivals → AllByRecursion IsSignedAs (map sign_of (take n (due book)))
unfolding due unjudged
signed_due book n all =
    let P : Candidate → Type 0 = λ c. IsSignedAs (sign_of c) in
    let waiting = filter (λ c. not (is_judged book.judged c)) (candidates book.arrivals) in
    all_map IsSignedAs sign_of (take n (filter (is_complete book.arrivals) (in_order waiting)))
    (all_taken P n (filter (is_complete book.arrivals) (in_order waiting))
    (all-filter P (is_complete book.arrivals) (in_order waiting) (all_in_order P waiting (all-filter P (λ c. not (is_judged book.judged c)) (candidates book.arrivals) (signed_candidates book.arrivals all)))))

all_unmapped : (js : List Judgement) → AllByRecursion IsSignedAs (map sign_on js) → AllByRecursion (λ j. IsSigned j.name j.print) js
all_unmapped [] all = tt
all_unmapped (j ∷ js) all = (all.0, all_unmapped js all.1)

-- The judged uploads after the steps of a change whose judged uploads are the first of those that are due.
pub signed_after : (book : Book) (judged : List Judgement) (steps : List Step) → All (λ a. IsDeliverable a.name a.body) book.arrivals → AreSigned judged
    → map sign_on (judgements steps) ≡ map sign_of (take (length (judgements steps)) (due book)) → AreSigned (judged ++ judgements steps)
signed_after book judged steps deliverable before first =
    All-append (λ j. IsSigned j.name j.print) judged (judgements steps) before
    (All-from_recursion (λ j. IsSigned j.name j.print) (judgements steps)
    (all_unmapped (judgements steps) (subst (AllByRecursion IsSignedAs) (sym first)
    (signed_due book (length (judgements steps)) (recursion_from_All (λ a. IsDeliverable a.name a.body) book.arrivals deliverable)))))
