-- Arrivals are found by their prints, if no two bodies have the same print.
use Rattle.std.proofs.Common.{◌≡◌, ℕ, Bool, true, false, not, ◌||◌, ◌&&◌, if◌then◌else◌, List, [], ◌∷◌, ◌++◌, map, refl, ap, sym, ◌∙◌, bytes_eq, Contains}
use Rattle.std.proofs.lemmas.Bool.Decides.{Decides-and, Decides-like, same_from_decides}
use Rattle.std.proofs.lemmas.Slice.Eq.{bytes_eq-Decides}
use Rattle.std.proofs.lemmas.List.Elements.{Contains-append_left, Contains-append_right, Contains-push}
use Rattle.std.specs.List.{list_any}
use Rattle.sums.specs.Prints.{print as print_of}
use Rattle.sums.specs.declared.print.Print.{Print}
use Rattle.indices.proofs.Pairs.{same_map_over}
use Rattle.book.specs.Book.{at_latest, has_arrival, is_arrival_of, is_same_pair, with_arrival}
use Rattle.book.specs.Keeping.{NoCollision}
use Rattle.book.specs.Scan.{marked}
use Rattle.book.specs.declared.arrival.Arrival.{Arrival}
use Rattle.book.proofs.Prints.{same_print-Decides}

-- two tests that agree on the elements, and two functions
pub any_same : {X : Type 0} (p q : X → Bool) (xs : List X) → ((x : X) → Contains xs x → p x ≡ q x) → list_any p xs ≡ list_any q xs
any_same p q [] h = refl
any_same p q (x ∷ xs) h =
    ap (λ b. b || list_any p xs) (h x (Contains-append_left (x ∷ []) xs x (Contains-push [] x)))
    ∙ ap (λ b. q x || b) (any_same p q xs (λ y c. h y (Contains-append_right (x ∷ []) xs y c)))

same_pair : (bodies : List (List ℕ)) → NoCollision bodies → (a b : Arrival) → Contains bodies a.body → Contains bodies b.body
    → is_arrival_of a.name (print_of a.body) b ≡ is_same_pair a b
unfolding is_same_pair
same_pair bodies apart a b has_a has_b =
    same_from_decides {P = (b.name ≡ a.name) × (b.body ≡ a.body)} (is_arrival_of a.name (print_of a.body) b) (bytes_eq a.name b.name && bytes_eq a.body b.body)
    (Decides-like (is_arrival_of a.name (print_of a.body) b) (λ s. (s.0, apart b.body a.body has_b has_a s.1)) (λ s. (s.0, ap print_of s.1))
    (Decides-and _ _ (bytes_eq-Decides b.name a.name) (same_print-Decides (print_of b.body) (print_of a.body))))
    (Decides-like (bytes_eq a.name b.name && bytes_eq a.body b.body) (λ s. (sym s.0, sym s.1)) (λ s. (sym s.0, sym s.1))
    (Decides-and _ _ (bytes_eq-Decides a.name b.name) (bytes_eq-Decides a.body b.body)))

-- bodies of which no two have the same print, with those of these arrivals and this one among them
pub record Apart (arrivals : List Arrival) (a : Arrival) : Type 0 where
  pub bodies : List (List ℕ)
  pub apart : NoCollision bodies
  pub arrived : (b : Arrival) → Contains arrivals b → Contains bodies b.body
  pub body : Contains bodies a.body

pub has_arrival_by_print : (arrivals : List Arrival) (a : Arrival) → Apart arrivals a
    → list_any (is_arrival_of a.name (print_of a.body)) arrivals ≡ has_arrival arrivals a
unfolding has_arrival
has_arrival_by_print arrivals a k =
    any_same (is_arrival_of a.name (print_of a.body)) (is_same_pair a) arrivals (λ b c. same_pair k.bodies k.apart a b k.body (k.arrived b c))

-- an arrival that is there already
pub with_known : (arrivals : List Arrival) (a : Arrival) → Apart arrivals a → list_any (is_arrival_of a.name (print_of a.body)) arrivals ≡ true
    → map (marked a.name (print_of a.body) a.moment) arrivals ≡ with_arrival arrivals a
unfolding with_arrival
with_known arrivals a k there =
    same_map_over (marked a.name (print_of a.body) a.moment) (λ b. if is_same_pair a b then at_latest a.moment b else b) arrivals
    (λ b c. ap (λ t. if t then at_latest a.moment b else b) (same_pair k.bodies k.apart a b k.body (k.arrived b c)))
    ∙ ap (λ t. if t then map (λ b. if is_same_pair a b then at_latest a.moment b else b) arrivals else arrivals ++ a ∷ []) (sym there ∙ has_arrival_by_print arrivals a k)

-- a new arrival
pub with_new : (arrivals : List Arrival) (a : Arrival) → Apart arrivals a → list_any (is_arrival_of a.name (print_of a.body)) arrivals ≡ false
    → arrivals ++ a ∷ [] ≡ with_arrival arrivals a
unfolding with_arrival
with_new arrivals a k absent =
    ap (λ t. if t then map (λ b. if is_same_pair a b then at_latest a.moment b else b) arrivals else arrivals ++ a ∷ []) (sym absent ∙ has_arrival_by_print arrivals a k)

-- whether a search by a print finds one of the name and print of an arrival
pub by_print : {answer b : Bool} {print : Print} {arrivals all : List Arrival} (a : Arrival)
    → answer ≡ list_any (is_arrival_of a.name print) arrivals → print ≡ print_of a.body → arrivals ≡ all → answer ≡ b
    → list_any (is_arrival_of a.name (print_of a.body)) all ≡ b
by_print {answer} {b} {print} {arrivals} {all} a found is_print is_all is =
    sym (found ∙ ap (λ p. list_any (is_arrival_of a.name p) arrivals) is_print ∙ ap (list_any (is_arrival_of a.name (print_of a.body))) is_all) ∙ is

-- whether a search by a print says that an arrival is new
pub new_by_print : {answer : Bool} {print : Print} {arrivals all : List Arrival} (a : Arrival) → Apart all a
    → answer ≡ list_any (is_arrival_of a.name print) arrivals → print ≡ print_of a.body → arrivals ≡ all → not answer ≡ not (has_arrival all a)
new_by_print {answer} {print} {arrivals} {all} a told found is_print is_all =
    ap not (sym (by_print {answer = answer} {b = answer} {print = print} {arrivals = arrivals} {all = all} a found is_print is_all refl)
    ∙ has_arrival_by_print all a told)

-- what is so of all arrivals is so of some of them
pub apart_part : {some all : List Arrival} {a : Arrival} → ((b : Arrival) → Contains some b → Contains all b) → Apart all a → Apart some a
apart_part part told = record { bodies = told.bodies; apart = told.apart; arrived = λ b h. told.arrived b (part b h); body = told.body }
