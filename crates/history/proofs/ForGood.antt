-- If the configuration has no number of days, all that has arrived counts for good.
use Rattle.std.proofs.Common.{◌≡◌, ◌≤◌, ◌*◌, ℕ, List, [], ◌∷◌, length, Option, None, Result, Ok, Err, if◌then◌else◌, refl, ap, ◌∙◌}
use Rattle.std.specs.Prelude.{option_map}
use Rattle.std.proofs.lemmas.Bool.{le-ltb}
use Rattle.rules.specs.Values.{ConfigValue}
use Rattle.book.specs.Book.{Book, at_moment, counts, counts_since, current, ended, latest, span}
use Rattle.book.specs.declared.arrival.Arrival.{Arrival}
use Rattle.book.proofs.Moments.{current-none}
use Rattle.history.specs.Answers.{answer}
use Rattle.history.specs.Archives.{book_from, book_of}
use Rattle.history.specs.Histories.{Cleaning, Count, History, Reply, Turn, arrived, counting, followed}
use Rattle.history.specs.declared.fault.Fault.{Fault}
use Rattle.history.specs.declared.fault.Fault.TheVariants.{Moment}
use Rattle.history.proofs.Steps.{book_of-cleaned, book_of-refused}

no_span : (config : ConfigValue) → config.keep_days ≡ None → span config ≡ None
no_span config none = ap (option_map (λ (days : ℕ). days * 86400)) none

-- all arrivals count if there is no number of seconds
all_current : (seconds : Option ℕ) (moment : ℕ) (arrivals : List Arrival) → seconds ≡ None → current seconds moment arrivals ≡ arrivals
all_current seconds moment arrivals none = ap (λ (s : Option ℕ). current s moment arrivals) none ∙ current-none moment arrivals

pub all_count : (opening : Book) (steps : List Turn) (moment : ℕ) → opening.config.keep_days ≡ None → counting opening steps moment ≡ arrived opening steps
unfolding counting
all_count opening steps moment none = all_current (span opening.config) moment (arrived opening steps) (no_span opening.config none)

ended-none : (moment : ℕ) (arrivals : List Arrival) → ended None moment arrivals ≡ []
unfolding ended counts_since
ended-none moment [] = refl
ended-none moment (a ∷ rest) = ended-none moment rest

count_of_ended : (seconds : Option ℕ) (moment : ℕ) (arrivals : List Arrival) → seconds ≡ None → length (ended seconds moment arrivals) ≡ 0
count_of_ended seconds moment arrivals none = ap (λ (s : Option ℕ). length (ended s moment arrivals)) none ∙ ap length (ended-none moment arrivals)

pub none_ends : (h : History) (moment : ℕ) → h.opening.config.keep_days ≡ None → moment ≤ latest → answer h (Cleaning moment) ≡ Ok (Count 0)
unfolding answer
none_ends h moment none in_time =
    ap (λ b. if b then Err Moment else Ok (Count (length (ended (span h.opening.config) moment (arrived h.opening h.steps))))) (le-ltb latest moment in_time)
    ∙ ap (λ n. Ok (Count n)) (count_of_ended (span h.opening.config) moment (arrived h.opening h.steps) (no_span h.opening.config none))

all_at_moment : (moment : ℕ) (book : Book) → book.config.keep_days ≡ None → at_moment moment book ≡ book
unfolding at_moment
all_at_moment moment book none = ap (λ (xs : List Arrival). record book { arrivals = xs }) (all_current (span book.config) moment book.arrivals (no_span book.config none))

pub stays_whole : (h : History) (moment : ℕ) (outcome : Result Reply Fault) → h.opening.config.keep_days ≡ None → book_of (followed h (Cleaning moment) outcome) ≡ book_of h
unfolding book_of book_from
stays_whole h moment (Ok reply) none = book_of-cleaned h moment reply ∙ all_at_moment moment (book_of h) none
stays_whole h moment (Err fault) none = book_of-refused h (Cleaning moment) fault
