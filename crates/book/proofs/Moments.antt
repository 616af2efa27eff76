-- What counts at a moment, of arrivals and of a book.
use Rattle.std.proofs.Common.{◌≡◌, ℕ, Bool, true, false, cond, List, [], ◌∷◌, filter, Option, None, Contains, refl, ap, subst, ◌∙◌, inl, inr}
use Rattle.sums.proofs.Members.{here, there, which}
use Rattle.book.specs.Book.{Book, at_moment, counts, counts_since, current, span}
use Rattle.book.specs.Keeping.{HasBodies}
use Rattle.book.specs.declared.arrival.Arrival.{Arrival}

-- ---- arrivals

-- an arrival that counts stands before what counts of the others
pub current_more : (span : Option ℕ) (moment : ℕ) (a : Arrival) (arrivals : List Arrival) → counts span moment a ≡ true
    → current span moment (a ∷ arrivals) ≡ a ∷ current span moment arrivals
unfolding current
current_more span moment a arrivals e = ap (λ b. cond b (a ∷ filter (counts span moment) arrivals) (filter (counts span moment) arrivals)) e

-- an arrival that does not count is passed over
pub current_passed : (span : Option ℕ) (moment : ℕ) (a : Arrival) (arrivals : List Arrival) → counts span moment a ≡ false
    → current span moment (a ∷ arrivals) ≡ current span moment arrivals
unfolding current
current_passed span moment a arrivals e = ap (λ b. cond b (a ∷ filter (counts span moment) arrivals) (filter (counts span moment) arrivals)) e

-- without a span all count
pub current-none : (moment : ℕ) (arrivals : List Arrival) → current None moment arrivals ≡ arrivals
unfolding current counts_since
current-none moment [] = refl
current-none moment (a ∷ arrivals) = ap (λ xs. a ∷ xs) (current-none moment arrivals)

-- all that counts at a moment counts at the same moment
pub current-current : (span : Option ℕ) (moment : ℕ) (arrivals : List Arrival) → current span moment (current span moment arrivals) ≡ current span moment arrivals
unfolding current
current-current span moment [] = refl
current-current span moment (a ∷ more) = by_kind (current-current span moment more) (counts span moment a) refl
  where
    by_kind : filter (counts span moment) (filter (counts span moment) more) ≡ filter (counts span moment) more → (b : Bool) → counts span moment a ≡ b → filter (counts span moment) (cond b (a ∷ filter (counts span moment) more) (filter (counts span moment) more)) ≡ cond b (a ∷ filter (counts span moment) more) (filter (counts span moment) more)
    by_kind rest true is = ap (λ b. cond b (a ∷ filter (counts span moment) (filter (counts span moment) more)) (filter (counts span moment) (filter (counts span moment) more))) is ∙ ap (λ xs. a ∷ xs) rest
    by_kind rest false is = rest

kept_or_not : {X : Type 0} (x y : X) (xs kept : List X) (b : Bool) → (Contains kept y → Contains xs y) → Contains (cond b (x ∷ kept) kept) y → Contains (x ∷ xs) y
kept_or_not x y xs kept true rest h = elim (which x y kept h) [
  | inl same ↦ subst (λ z. Contains (x ∷ xs) z) same (here x xs)
  | inr more ↦ there x y xs (rest more)
]
kept_or_not x y xs kept false rest h = there x y xs (rest h)

part_of_filter : {X : Type 0} (p : X → Bool) (y : X) (xs : List X) → Contains (filter p xs) y → Contains xs y
part_of_filter p y [] h = h
part_of_filter p y (x ∷ xs) h = kept_or_not x y xs (filter p xs) (p x) (part_of_filter p y xs) h

-- what counts is part of all
pub current-part : (span : Option ℕ) (moment : ℕ) (arrivals : List Arrival) (a : Arrival) → Contains (current span moment arrivals) a → Contains arrivals a
unfolding current
current-part span moment arrivals a h = part_of_filter (counts span moment) a arrivals h

-- ---- a book

pub at_moment-config : (moment : ℕ) (book : Book) → (at_moment moment book).config ≡ book.config
unfolding at_moment
at_moment-config moment book = refl

pub at_moment-arrivals : (moment : ℕ) (book : Book) → (at_moment moment book).arrivals ≡ current (span book.config) moment book.arrivals
unfolding at_moment
at_moment-arrivals moment book = refl

pub at_moment-judged : (moment : ℕ) (book : Book) → (at_moment moment book).judged ≡ book.judged
unfolding at_moment
at_moment-judged moment book = refl

pub at_moment-shown : (moment : ℕ) (book : Book) → (at_moment moment book).shown ≡ book.shown
unfolding at_moment
at_moment-shown moment book = refl

pub at_moment-files : (moment : ℕ) (book : Book) → (at_moment moment book).files ≡ book.files
unfolding at_moment
at_moment-files moment book = refl

pub at_moment-dates : (moment : ℕ) (book : Book) → (at_moment moment book).dates ≡ book.dates
unfolding at_moment
at_moment-dates moment book = refl

-- bodies that are those of the book are also those of what counts of it
pub bodies-at_moment : (moment : ℕ) (bodies : List (List ℕ)) (book : Book) → HasBodies bodies book → HasBodies bodies (at_moment moment book)
unfolding at_moment
bodies-at_moment moment bodies book has = record {
  arrivals = λ a h. has.arrivals a (current-part (span book.config) moment book.arrivals a h);
  files = has.files;
}
