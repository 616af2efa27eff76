-- The bodies that an upload brings for its entries.
use Rattle.std.proofs.Common.{◌≡◌, ◌≢◌, ◌⊎◌, ℕ, Bool, true, false, cond, List, [], ◌∷◌, length, zip, find, Option, Some, None, option_map, refl, sym, ap, ◌∙◌, subst, inl, inr, arith}
use Rattle.std.specs.Prelude.{All, AllPairs, Contains}
use Rattle.std.specs.Str.{bytes_eq}
use Rattle.std.proofs.lemmas.Slice.Eq.{bytes_eq-Decides}
use Rattle.sums.proofs.Members.{here, there, which, no_member, by_name, all_at}
use Rattle.sums.specs.Prints.{print as print_of}
use Rattle.sums.specs.declared.entries.Entry.{Entry}
use Rattle.suites.specs.Upload.{entry_named}
use Rattle.book.proofs.Finds.{found_in, found_passes}
use Rattle.history.specs.Archives.{WholeUpload, listed_body}

-- An upload has a body for each of its entries, of the print that the entry lists, and no two entries have one name.
pub record HasItsBodies (w : WholeUpload) : Type 0 where
  pub count : length w.bodies ≡ length w.upload.changes.entries
  pub prints : All (λ p. print_of p.1 ≡ p.0.print) (zip w.upload.changes.entries w.bodies)
  pub names : AllPairs (λ a b. a.name ≢ b.name) w.upload.changes.entries

-- ---- searches

-- what a search finds is a member that passes
pub find_member : {X : Type 0} (p : X → Bool) (xs : List X) (y : X) → find p xs ≡ Some y → Contains xs y × (p y ≡ true)
find_member p xs y h = (found_in p xs y h, found_passes p xs y h)

missed : {X : Type 0} (p : X → Bool) (x y : X) (xs : List X) (b : Bool) → p x ≡ b → cond b (Some x) (find p xs) ≡ None → p y ≡ true → Contains (x ∷ xs) y
    → (find p xs ≡ None → Contains xs y → ⊥) → ⊥
missed p x y xs true t h e at more = cc
missed p x y xs false t h e at more = elim (which x y xs at) [
  | inl same ↦ cc (sym t ∙ (ap p same ∙ e))
  | inr rest ↦ more h rest
]

-- a search that finds nothing passes over no member that passes
pub find_none : {X : Type 0} (p : X → Bool) (xs : List X) (y : X) → find p xs ≡ None → Contains xs y → p y ≡ true → ⊥
find_none p [] y h at e = no_member y at
find_none p (x ∷ xs) y h at e = missed p x y xs (p x) refl h e at (λ n r. find_none p xs y n r e)

pub from_zip : {A B : Type 0} (p : A × B) (xs : List A) (ys : List B) → Contains (zip xs ys) p → Contains xs p.0 × Contains ys p.1
from_zip p [] ys h = no_member p h
from_zip p (x ∷ xs) [] h = no_member p h
from_zip p (x ∷ xs) (y ∷ ys) h = elim (which (x, y) p (zip xs ys) h) [
  | inl same ↦ (subst (λ z. Contains (x ∷ xs) z) (ap (λ q. q.0) same) (here x xs), subst (λ z. Contains (y ∷ ys) z) (ap (λ q. q.1) same) (here y ys))
  | inr rest ↦ let m = from_zip p xs ys rest in (there x p.0 xs m.0, there y p.1 ys m.1)
]

find-zip : {A B : Type 0} (t : A → Bool) (xs : List A) (ys : List B) → length ys ≡ length xs → option_map (λ p. p.0) (find (λ p. t p.0) (zip xs ys)) ≡ find t xs
find-zip t [] ys h = refl
find-zip t (x ∷ xs) [] h = absurd (omega arith)
find-zip t (x ∷ xs) (y ∷ ys) h =
    elim (t x) as (λ b. option_map (λ p. p.0) (cond b (Some (x, y)) (find (λ p. t p.0) (zip xs ys))) ≡ cond b (Some x) (find t xs)) [
      | true ↦ refl
      | false ↦ find-zip t xs ys (omega arith)
    ]

-- ---- the body of a listed file

-- a listed file of the name, and its body
pub record HasListed (w : WholeUpload) (name : List ℕ) : Type 0 where
  pub entry : Entry
  pub body : List ℕ
  pub found : listed_body w name ≡ Some body
  pub named : entry_named name w.upload.changes.entries ≡ Some entry
  pub entry_in : Contains w.upload.changes.entries entry
  pub body_in : Contains w.bodies body
  pub name_is : entry.name ≡ name
  pub print : print_of body ≡ entry.print

-- no file of the name is listed
pub record HasNoListed (w : WholeUpload) (name : List ℕ) : Type 0 where
  pub found : listed_body w name ≡ None
  pub named : entry_named name w.upload.changes.entries ≡ None

abbrev pairs_of : WholeUpload → List (Entry × List ℕ)
pairs_of w = zip w.upload.changes.entries w.bodies

abbrev found_pair : WholeUpload → List ℕ → Option (Entry × List ℕ)
found_pair w name = find (λ p. bytes_eq p.0.name name) (pairs_of w)

entry_of_pair : (w : WholeUpload) (name : List ℕ) → HasItsBodies w → option_map (λ p. p.0) (found_pair w name) ≡ entry_named name w.upload.changes.entries
unfolding entry_named
entry_of_pair w name whole = find-zip (λ (e : Entry). bytes_eq e.name name) w.upload.changes.entries w.bodies whole.count

body_of_pair : (w : WholeUpload) (name : List ℕ) → listed_body w name ≡ option_map (λ p. p.1) (found_pair w name)
unfolding listed_body
body_of_pair w name = refl

cases_by : (w : WholeUpload) (name : List ℕ) → HasItsBodies w → (o : Option (Entry × List ℕ)) → found_pair w name ≡ o → HasListed w name ⊎ HasNoListed w name
cases_by w name whole None h = inr (record {
  found = body_of_pair w name ∙ ap (option_map (λ p. p.1)) h;
  named = sym (entry_of_pair w name whole) ∙ ap (option_map (λ p. p.0)) h;
})
cases_by w name whole (Some p) h =
    let m = find_member (λ (p : Entry × List ℕ). bytes_eq p.0.name name) (pairs_of w) p h in
    let parts = from_zip p w.upload.changes.entries w.bodies m.0 in
    inl (record {
      entry = p.0;
      body = p.1;
      found = body_of_pair w name ∙ ap (option_map (λ p. p.1)) h;
      named = sym (entry_of_pair w name whole) ∙ ap (option_map (λ p. p.0)) h;
      entry_in = parts.0;
      body_in = parts.1;
      name_is = (bytes_eq-Decides p.0.name name).0 m.1;
      print = all_at (λ (p : Entry × List ℕ). print_of p.1 ≡ p.0.print) (pairs_of w) p whole.prints m.0;
    })

pub listed_cases : (w : WholeUpload) (name : List ℕ) → HasItsBodies w → HasListed w name ⊎ HasNoListed w name
listed_cases w name whole = cases_by w name whole (found_pair w name) refl

pub unnamed_entry : (name : List ℕ) (entries : List Entry) (e : Entry) → entry_named name entries ≡ None → Contains entries e → e.name ≡ name → ⊥
unfolding entry_named
unnamed_entry name entries e h at same = find_none (λ (e : Entry). bytes_eq e.name name) entries e h at ((bytes_eq-Decides e.name name).1 same)

-- the body of an entry of the upload has the entry's print
pub record HasBody (w : WholeUpload) (e : Entry) : Type 0 where
  pub body : List ℕ
  pub found : listed_body w e.name ≡ Some body
  pub body_in : Contains w.bodies body
  pub print : print_of body ≡ e.print

pub entry_body : (w : WholeUpload) (e : Entry) → HasItsBodies w → Contains w.upload.changes.entries e → HasBody w e
entry_body w e whole at = elim (listed_cases w e.name whole) [
  | inl l ↦ record {
    body = l.body;
    found = l.found;
    body_in = l.body_in;
    print = l.print ∙ ap (λ x. x.print) (by_name (λ x. x.name) w.upload.changes.entries l.entry e whole.names l.entry_in at l.name_is);
  }
  | inr n ↦ absurd (unnamed_entry e.name w.upload.changes.entries e n.named at refl)
]
