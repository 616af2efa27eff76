-- An upload whose listed files have all arrived comes with its bodies.
use Rattle.std.proofs.Common.{◌≡◌, ◌≢◌, ℕ, Bool, true, List, [], ◌∷◌, map, zip, find, Option, Some, None, option_map, unwrap_or, refl, sym, ap, ◌∙◌, subst, inl, inr}
use Rattle.std.specs.Prelude.{AllPairs, Contains, bytes_eq}
use Rattle.std.specs.List.{list_any}
use Rattle.std.specs.Result.{result_ok}
use Rattle.std.proofs.lemmas.List.{length-map}
use Rattle.book.specs.Book.{Candidate, body_for, is_body_of, is_complete, is_there, upload_of}
use Rattle.book.specs.declared.arrival.Arrival.{Arrival}
use Rattle.sums.specs.Lines.{greatest_size}
use Rattle.records.proofs.RecordRead.{changes_of_read}
use Rattle.records.specs.Records.{changes_in}
use Rattle.records.specs.Values.{ChangesValue}
use Rattle.sums.proofs.Booleans.{both}
use Rattle.sums.proofs.Members.{here, there, which, no_member, from_map, all_from, all_true, any_some}
use Rattle.sums.specs.Prints.{print as print_of, same_print}
use Rattle.sums.specs.declared.entries.Entry.{Entry}
use Rattle.history.specs.Archives.{whole_of}
use Rattle.history.proofs.Contents.{AreBrought}
use Rattle.history.proofs.ContentsListed.{HasItsBodies, find_member, find_none}
use Rattle.suites.proofs.Prints.{same_print-equal}
use Rattle.suites.proofs.Refusals.{was_read}

pub found_by : {X : Type 0} (p : X → Bool) (xs : List X) → list_any p xs ≡ true → (o : Option X) → find p xs ≡ o → (x : X) × (find p xs ≡ Some x) × Contains xs x × (p x ≡ true)
found_by p xs h None e = let m = any_some p xs h in absurd (find_none p xs m.0 e m.1 m.2)
found_by p xs h (Some x) e = let m = find_member p xs x e in (x, e, m.0, m.1)

-- the body that arrived for an entry
pub record HasArrived (arrivals : List Arrival) (e : Entry) : Type 0 where
  pub arrival : Arrival
  pub within : Contains arrivals arrival
  pub body : body_for arrivals e ≡ arrival.body
  pub print : print_of (body_for arrivals e) ≡ e.print

pub has_arrived : (arrivals : List Arrival) (e : Entry) → is_there arrivals e ≡ true → HasArrived arrivals e
unfolding is_there body_for is_body_of
has_arrived arrivals e h =
    let m = found_by (is_body_of e) arrivals h (find (is_body_of e) arrivals) refl in
    let body : body_for arrivals e ≡ (m.0).body = ap (λ o. unwrap_or (option_map (λ (a : Arrival). a.body) o) []) m.1 in
    record {
      arrival = m.0;
      within = m.2;
      body = body;
      print = ap print_of body ∙ same_print-equal (print_of (m.0).body) e.print (both (bytes_eq (m.0).name e.name) (same_print (print_of (m.0).body) e.print) m.3).1;
    }

entry_arrived : (arrivals : List Arrival) (c : Candidate) → is_complete arrivals c ≡ true → (e : Entry) → Contains c.changes.entries e → HasArrived arrivals e
unfolding is_complete
entry_arrived arrivals c h e at = has_arrived arrivals e (all_true (is_there arrivals) c.changes.entries e h at)

from_zip_map : {A B : Type 0} (f : A → B) (xs : List A) (p : A × B) → Contains (zip xs (map f xs)) p → Contains xs p.0 × (f p.0 ≡ p.1)
from_zip_map f [] p at = no_member p at
from_zip_map f (x ∷ xs) p at = elim (which (x, f x) p (zip xs (map f xs)) at) [
  | inl is ↦ (subst (λ z. Contains (x ∷ xs) z) (ap (λ q. q.0) is) (here x xs), ap f (sym (ap (λ q. q.0) is)) ∙ ap (λ q. q.1) is)
  | inr rest ↦ let m = from_zip_map f xs p rest in (there x p.0 xs m.0, m.1)
]

-- a record that was read has no two entries of one name
pub read_names : (text : List ℕ) (c : ChangesValue) → result_ok (changes_in text) ≡ Some c → AllPairs (λ a b. a.name ≢ b.name) c.entries
read_names text c h = let read = changes_of_read greatest_size text c (was_read (changes_in text) c h) in read.made.entries.listed.names

-- an upload that is complete comes with its bodies
pub whole_of-bodies : (arrivals : List Arrival) (c : Candidate) → result_ok (changes_in c.body) ≡ Some c.changes → is_complete arrivals c ≡ true → HasItsBodies (whole_of arrivals c)
unfolding whole_of upload_of
whole_of-bodies arrivals c read complete = record {
  count = length-map c.changes.entries (body_for arrivals);
  prints = all_from (λ (p : Entry × List ℕ). print_of p.1 ≡ p.0.print) (zip c.changes.entries (map (body_for arrivals) c.changes.entries))
      (λ p at. let m = from_zip_map (body_for arrivals) c.changes.entries p at in
      let arrived = entry_arrived arrivals c complete p.0 m.0 in ap print_of (sym m.1) ∙ arrived.print);
  names = read_names c.body c.changes read;
}

-- each of its bodies has arrived
pub whole_of-arrived : (arrivals : List Arrival) (c : Candidate) → is_complete arrivals c ≡ true → (body : List ℕ) → Contains (whole_of arrivals c).bodies body
    → (a : Arrival) × Contains arrivals a × (a.body ≡ body)
unfolding whole_of
whole_of-arrived arrivals c complete body at =
    let m = from_map (body_for arrivals) body c.changes.entries at in
    let arrived = entry_arrived arrivals c complete m.0 m.1 in
    (arrived.arrival, arrived.within, sym arrived.body ∙ m.2)

pub whole_of-brought : (bodies : List (List ℕ)) (arrivals : List Arrival) (c : Candidate) → ((a : Arrival) → Contains arrivals a → Contains bodies a.body)
    → is_complete arrivals c ≡ true → AreBrought bodies (whole_of arrivals c)
whole_of-brought bodies arrivals c known complete body at =
    let m = whole_of-arrived arrivals c complete body at in
    subst (λ b. Contains bodies b) m.2 (known m.0 m.1)
