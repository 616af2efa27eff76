-- What arrived and the files of the pool have bodies: by numbers in order, and in an archive.
use Rattle.std.proofs.Common.{◌≡◌, ℕ, Bool, true, nat_eq, ◌&&◌, List, [], ◌∷◌, map, refl, sym, ap, ◌∙◌}
use Rattle.std.specs.List.{list_all, list_any}
use Rattle.std.specs.List.Sorted.{IsPermutation}
use Rattle.std.proofs.lemmas.List.Sorted.{list_any-IsPermutation}
use Rattle.std.proofs.lemmas.List.Sums.{list_all-from_AllPass}
use Rattle.rules.specs.Values.{ConfigValue}
use Rattle.suites.specs.Shelves.{ShelvesValue}
use Rattle.book.specs.declared.change.Judgement.{Judgement}
use Rattle.tables.specs.Rows.{Numbered, Tables, rows_of}
use Rattle.tables.specs.declared.rows.ArrivalRow.{ArrivalRow}
use Rattle.tables.specs.declared.rows.BodyRow.{BodyRow}
use Rattle.tables.specs.declared.rows.File.{File}
use Rattle.tables_meaning.specs.Kept.{IsBook, has_body}
use Rattle.sums.proofs.Words.{list_any-map}
use Rattle.old_book.specs.Bodied.{have_bodies}
use Rattle.old_book.specs.Settling.{settled, with_meta_row}

-- the number is that of a body exactly if it is among these numbers
among_bodies : (t : Tables) (ids rising : List ℕ) → ids ≡ map (λ x. x.0) t.bodies → IsPermutation ids rising → (id : ℕ) → list_any (λ n. nat_eq n id) rising ≡ has_body t id
unfolding has_body
among_bodies t ids rising is same id =
    sym (list_any-IsPermutation (λ n. nat_eq n id) ids rising same) ∙ ap (list_any (λ n. nat_eq n id)) is ∙ list_any-map (λ (x : ℕ × BodyRow). x.0) (λ n. nat_eq n id) t.bodies

with_bodies : (t : Tables) (rising : List ℕ) → ((id : ℕ) → list_any (λ n. nat_eq n id) rising ≡ has_body t id) → {X : Type 0} (body : X → ℕ) (xs : Numbered X)
    → list_all (λ x. list_any (λ n. nat_eq n (body x.1)) rising) xs ≡ list_all (λ r. has_body t (body r)) (rows_of xs)
with_bodies t rising is body [] = refl
with_bodies t rising is body (x ∷ xs) = rw (is (body x.1)) (ap (λ b. has_body t (body x.1) && b) (with_bodies t rising is body xs))

-- both tests, by the numbers of the bodies in order
pub both_have : (t : Tables) (ids rising : List ℕ) (bodies : Numbered BodyRow) (arrivals : Numbered ArrivalRow) (files : Numbered File) (a f : Bool)
    → ids ≡ map (λ x. x.0) bodies → bodies ≡ t.bodies → IsPermutation ids rising → arrivals ≡ t.arrivals → files ≡ t.files
    → a ≡ list_all (λ x. list_any (λ n. nat_eq n x.1.body) rising) arrivals → f ≡ list_all (λ x. list_any (λ n. nat_eq n x.1.body) rising) files → (a && f) ≡ have_bodies t
unfolding have_bodies
both_have t ids rising bodies arrivals files a f is same order came filed one other =
    let known = among_bodies t ids rising (is ∙ ap (map (λ (x : ℕ × BodyRow). x.0)) same) order in
    let first = one ∙ ap (list_all (λ x. list_any (λ n. nat_eq n x.1.body) rising)) came ∙ with_bodies t rising known (λ (r : ArrivalRow). r.body) t.arrivals in
    let second = other ∙ ap (list_all (λ x. list_any (λ n. nat_eq n x.1.body) rising)) filed ∙ with_bodies t rising known (λ (r : File). r.body) t.files in
    λ i. first i && second i

-- in an archive each arrival and each file has a body
pub book_has_bodies : (t : Tables) (text : List ℕ) (config : ConfigValue) (judged : List Judgement) (shown : ShelvesValue) (dates : List ℕ)
    → IsBook (with_meta_row text (settled t)) config judged shown dates → have_bodies t ≡ true
unfolding have_bodies has_body
book_has_bodies t text config judged shown dates kept =
    rw (list_all-from_AllPass (λ a. has_body t a.body) (rows_of t.arrivals) kept.arrivals.bodies) (list_all-from_AllPass (λ f. has_body t f.body) (rows_of t.files) kept.files.bodies)
