-- The calendar by counting against the day numbers of dates.
use Rattle.std.proofs.Common.{◌≡◌, ℕ, zero, suc, ◌+◌, ◌-◌, ◌*◌, ◌/◌, ◌<◌, ◌≤◌, ◌==◌, nat_lt, Bool, true, false, List, [], ◌∷◌, length, take, get_or, sum, refl, sym, ap, ◌∙◌, arith, inl, inr, ℤ, pos, negsuc, ◌<ℤ◌, if◌then◌else◌, ◌^◌, to_z, of_z, bytes_eq}
use Rattle.std.specs.Fmt.{styled_decimal, format_spec, digits, padded_integral, char_count}
use Rattle.std.specs.Int.{Width}
use mir.Val.{hbits}
use Rattle.sums.proofs.Agree.{same_bytes}
use Rattle.std.specs.List.{list_all, range_with_len, fold}
use Rattle.std.proofs.lemmas.Bool.Decides.{nat_tests, leb_tells}
use Rattle.std.proofs.lemmas.List.Folds.{list_all_at}
use Rattle.jiff_core.specs.Calendar.{days_in_year, days_in_month, days_of_months, day_count}
use Rattle.std.proofs.lemmas.List.FromFn.{length-range_with_len, get_or-range_with_len}
use Rattle.std.proofs.lemmas.Bool.{lt-ltb}
use Rattle.jiff_core.specs.Date.{epoch_day}
use Rattle.jiff_core.specs.DateTime.{civil_nanos}
use Rattle.jiff_core.specs.declared.civil.datetime.DateTime.{DateTime}
use Rattle.jiff_core.proofs.DateTimeLemmas.{civil_nanos-parts, time_nanos_bound}
use Rattle.jiff_core.specs.declared.civil.date.Date.{Date}
use Rattle.jiff_core.proofs.CalendarLemmas.{day_count-epoch, days_from_civil-day_count, day_count-day_of_year, day_count-next_year, day_count-later_year, day_count-lt_year, day_of_year_bound, days_in_month_bounds}
use Rattle.jiff_core.proofs.DateLemmas.{civil}
use Rattle.jiff_core.proofs.SignedLemmas.{signed_arith, back_small}
use Rattle.indices.specs.Calendar.{is_leap, year_length, month_lengths, year_and_day, month_and_day, year_of, month_of, day_of, two_digits}

not_less : (a b : ℕ) → b ≤ a → nat_lt a b ≡ false
not_less a b h = grind (arith, nat_tests)

pair : {a b x y : ℕ} → a ≡ x → b ≡ y → ◌≡◌ {A = ℕ × ℕ} (a, b) (x, y)
pair e f = λ i. (e i, f i)

-- The days before a year, from that of -10000 on.
abbrev first_day : ℕ → ℕ
first_day year = day_count (pos year) 1 1

next_year : (year : ℕ) → first_day (year + 1) ≡ first_day year + year_length year
next_year year = day_count-next_year (pos year) (pos (year + 1)) (omega (arith, signed_arith)) (omega (arith, signed_arith))

later_year : (year later : ℕ) → year < later → first_day year + year_length year ≤ first_day later
later_year year later h = day_count-later_year (pos year) (pos later) (omega (arith, signed_arith)) (omega (arith, signed_arith))

some_days : (b : Bool) → 1 ≤ (if b then 366 else 365)
some_days true = omega arith
some_days false = omega arith

year_here : (most start day : ℕ) → nat_lt day (year_length start) ≡ true → year_and_day (suc most) start day ≡ (start, day)
unfolding year_and_day
year_here most start day h = rw h refl

year_on : (most start day : ℕ) → nat_lt day (year_length start) ≡ false → year_and_day (suc most) start day ≡ year_and_day most (start + 1) (day - year_length start)
unfolding year_and_day
year_on most start day h = rw h refl

walk : (most start year day place : ℕ) → day ≤ most → start ≤ year → day + first_day start ≡ first_day year + place → place < year_length year
    → year_and_day most start day ≡ (year, place)
unfolding year_and_day
walk zero start year day place few low e h = elim (leb_tells year start) [
  | inl below ↦
      let le = below.1 in
      let same : start ≡ year = omega arith in
      let count = ap first_day same in
      pair same (omega arith)
  | inr above ↦
      let later = later_year start year above.1 in
      let some = some_days (is_leap start) in
      absurd (omega arith)
]
walk (suc most) start year day place few low e h = elim (leb_tells year start) [
  | inl below ↦
      let le = below.1 in
      let same : start ≡ year = omega arith in
      let count = ap first_day same in
      let lengths = ap year_length same in
      let here : day ≡ place = omega arith in
      year_here most start day (lt-ltb day (year_length start) (omega arith)) ∙ pair same here
  | inr above ↦
      let later = later_year start year above.1 in
      let more = above.1 in
      let some = some_days (is_leap start) in
      let next = next_year start in
      year_on most start day (not_less day (year_length start) (omega arith))
      ∙ walk most (start + 1) year (day - year_length start) place (omega arith) (omega arith) (omega arith) h
]

month_here : (l : ℕ) (ls : List ℕ) (day : ℕ) → nat_lt day l ≡ true → month_and_day (l ∷ ls) day ≡ (0, day)
unfolding month_and_day
month_here l ls day h = rw h refl

month_on : (l : ℕ) (ls : List ℕ) (day : ℕ) → nat_lt day l ≡ false → month_and_day (l ∷ ls) day ≡ ((month_and_day ls (day - l)).0 + 1, (month_and_day ls (day - l)).1)
unfolding month_and_day
month_on l ls day h = rw h refl

sum_onto : (a : ℕ) (xs : List ℕ) → fold ◌+◌ a xs ≡ a + fold ◌+◌ 0 xs
sum_onto a [] = omega arith
sum_onto a (x ∷ xs) =
    let more = sum_onto (a + x) xs in
    let alone = sum_onto (0 + x) xs in
    omega arith

sum-cons : (x : ℕ) (xs : List ℕ) → sum (x ∷ xs) ≡ x + sum xs
sum-cons x xs = let more = sum_onto (0 + x) xs in omega arith

walk_months : (ls : List ℕ) (month day place : ℕ) → month < length ls → place < get_or ls month 0 → day ≡ sum (take month ls) + place → month_and_day ls day ≡ (month, place)
walk_months [] month day place k h e = absurd (omega arith)
walk_months (l ∷ ls) zero day place k h e =
    let same : day ≡ place = omega arith in
    month_here l ls day (lt-ltb day l (omega arith)) ∙ pair refl same
walk_months (l ∷ ls) (suc month) day place k h e =
    let all : sum (take (suc month) (l ∷ ls)) ≡ l + sum (take month ls) = sum-cons l (take month ls) in
    let rest = walk_months ls month (day - l) place (omega arith) h (omega arith) in
    month_on l ls day (not_less day l (omega arith))
    ∙ pair (ap (λ p. p.0 + 1) rest ∙ omega arith) (ap (λ p. p.1) rest)

months_by : (year : ℕ) (leap : Bool) → is_leap year ≡ leap
    → list_all (λ n. (days_of_months (pos year) n == sum (take n (month_lengths year)))) (range_with_len 0 12) ≡ true
unfolding days_of_months
months_by year true e = rw e refl
months_by year false e = rw e refl

lengths_by : (year : ℕ) (leap : Bool) → is_leap year ≡ leap
    → list_all (λ n. (days_in_month (pos year) (n + 1) == get_or (month_lengths year) n 0)) (range_with_len 0 12) ≡ true
lengths_by year true e = rw e refl
lengths_by year false e = rw e refl

-- what a table says of a row
row_by : (p : ℕ → Bool) (n k : ℕ) (b : Bool) → list_all p (range_with_len 0 n) ≡ true → k < n → p k ≡ b → b ≡ true
row_by p n k true h lt e = refl
row_by p n k false h lt e =
    let here : get_or (range_with_len 0 n) k 0 ≡ k = get_or-range_with_len 0 n k 0 lt ∙ omega arith in
    sym (list_all_at p (range_with_len 0 n) k 0 (rw (length-range_with_len 0 n) lt) (ap p here ∙ e)) ∙ h

same : (a b : ℕ) → (a == b) ≡ true → a ≡ b
same a b h = grind (arith, nat_tests)

months : (year n : ℕ) → n < 12 → days_of_months (pos year) n ≡ sum (take n (month_lengths year))
months year n lt = same _ _ (row_by (λ k. (days_of_months (pos year) k == sum (take k (month_lengths year)))) 12 n _ (months_by year (is_leap year) refl) lt refl)

month_length : (year n : ℕ) → n < 12 → days_in_month (pos year) (n + 1) ≡ get_or (month_lengths year) n 0
month_length year n lt = same _ _ (row_by (λ k. (days_in_month (pos year) (k + 1) == get_or (month_lengths year) k 0)) 12 n _ (lengths_by year (is_leap year) refl) lt refl)

-- the year, the month and the day that counting finds for a date of a year from 1970 on
pub record IsFound (d : Date) (number : ℕ) : Type 0 where
  pub year : d.year ≡ pos (year_of number)
  pub month : d.month ≡ month_of number + 1
  pub day : d.day ≡ day_of number

found : (d : Date) (day year place : ℕ) → d.year ≡ pos year → 1 ≤ d.month → 1 ≤ d.day
    → year_and_day day 1970 day ≡ (year, place) → month_and_day (month_lengths year) place ≡ (d.month - 1, d.day - 1) → IsFound d day
unfolding year_of month_of day_of
found d day year place e low first by_year by_month =
    let found_year : (year_and_day day 1970 day).0 ≡ year = ap (λ p. p.0) by_year in
    let found_place : (year_and_day day 1970 day).1 ≡ place = ap (λ p. p.1) by_year in
    let found_month : month_and_day (month_lengths (year_and_day day 1970 day).0) (year_and_day day 1970 day).1 ≡ (d.month - 1, d.day - 1) =
    rw (found_year, found_place) by_month in
    let month : (month_and_day (month_lengths (year_and_day day 1970 day).0) (year_and_day day 1970 day).1).0 ≡ d.month - 1 = ap (λ p. p.0) found_month in
    let day_in : (month_and_day (month_lengths (year_and_day day 1970 day).0) (year_and_day day 1970 day).1).1 ≡ d.day - 1 = ap (λ p. p.1) found_month in
    record { year = e ∙ ap pos (sym found_year); month = omega arith; day = omega arith }

by_year : (d : Date) (day year : ℕ) → epoch_day d ≡ pos day → d.year ≡ pos year → 1970 ≤ year → IsFound d day
by_year d day year e y late =
    let c = civil d in
    let month_in = c.1 in
    let first = c.2.0 in
    let last = c.2.1 in
    let low = month_in.0 in
    let high = month_in.1 in
    let n : ℕ = d.month - 1 in
    let next : n + 1 ≡ d.month = omega arith in
    let count = days_from_civil-day_count d.year d.month d.day in
    let total : day + 4_371_953 ≡ day_count d.year d.month d.day = omega (arith, signed_arith) in
    let in_year = day_count-day_of_year d.year d.month d.day first in
    let start : day_count d.year 1 1 ≡ first_day year = ap (λ z. day_count z 1 1) y in
    let epoch : first_day 1970 ≡ 4_371_953 = day_count-epoch in
    let before : days_of_months d.year n ≡ sum (take n (month_lengths year)) = ap (λ z. days_of_months z n) y ∙ months year n (omega arith) in
    let length_of : days_in_month d.year d.month ≡ get_or (month_lengths year) n 0 =
    ap (λ z. days_in_month z d.month) y ∙ ap (days_in_month (pos year)) (sym next) ∙ month_length year n (omega arith) in
    let bound = day_of_year_bound d.year d.month d.day c in
    let year_days : days_in_year d.year ≡ year_length year = ap days_in_year y in
    let place : ℕ = sum (take n (month_lengths year)) + (d.day - 1) in
    found d day year place y low first
    (walk day 1970 year day place (omega arith) late (omega arith) (omega arith))
    (walk_months (month_lengths year) n place (d.day - 1) (omega arith) (omega arith) refl)

natural : (z : ℤ) → ((z <ℤ pos 1970) → ⊥) → (n : ℕ) × (z ≡ pos n) × (1970 ≤ n)
natural (pos n) h = elim (leb_tells 1970 n) [
  | inl late ↦ (n, refl, late.1)
  | inr early ↦ let before = early.1 in absurd (h (omega (arith, signed_arith)))
]
natural (negsuc n) h = absurd (h (omega (arith, signed_arith)))

-- no day number from 0 on is that of a date before 1970
not_before : (d : Date) (day : ℕ) → epoch_day d ≡ pos day → (d.year <ℤ pos 1970) → ⊥
not_before d day e h =
    let lt-ltb = day_count-lt_year d.year d.month d.day (pos 1970) 1 1 (civil d) (omega arith) h in
    let count = days_from_civil-day_count d.year d.month d.day in
    let epoch : first_day 1970 ≡ 4_371_953 = day_count-epoch in
    absurd (omega (arith, signed_arith))

-- The date of a day number is what counting finds.
date_found : (d : Date) (day : ℕ) → epoch_day d ≡ pos day → IsFound d day
date_found d day e = let n = natural d.year (not_before d day e) in by_year d day n.0 e n.1 n.2

-- The date that a clock at UTC shows at a moment.
pub shown : (dt : DateTime) (moment : ℕ) → civil_nanos dt ≡ pos (moment * 1_000_000_000) → IsFound dt.date (moment / 86400)
shown dt moment e =
    let parts = civil_nanos-parts dt in
    let bound = time_nanos_bound dt.time in
    date_found dt.date (moment / 86400) (omega (arith, signed_arith))

-- The numbers of a date fit small types.
pub day_small : (d : Date) → d.day ≤ 31
day_small d = let high = (civil d).2.1 in let bound = (days_in_month_bounds d.year d.month).0 in omega arith

pub month_small : (d : Date) → d.month ≤ 12
month_small d = (civil d).1.1

pub year_small : (d : Date) (year : ℕ) → d.year ≡ pos year → year ≤ 9999
year_small d year e = let high = (civil d).0.1 in omega (arith, signed_arith)

pub back : (w : Width) (z : ℤ) (n : ℕ) → z ≡ pos n → n < 2 ^ hbits w → to_z w (of_z w z) ≡ pos n
back w z n e h = ap (λ (x : ℤ). to_z w (of_z w x)) e ∙ back_small w (pos n) h

-- Two digits of a number.
twos : list_all (λ n. bytes_eq (styled_decimal (format_spec 32 0 4 2 18446744073709551615) n) (two_digits n)) (range_with_len 0 100) ≡ true
unfolding digits padded_integral char_count
twos = refl

pub two : (n : ℕ) → n < 100 → styled_decimal (format_spec 32 0 4 2 18446744073709551615) n ≡ two_digits n
two n lt = same_bytes _ _ (row_by (λ k. bytes_eq (styled_decimal (format_spec 32 0 4 2 18446744073709551615) k) (two_digits k)) 100 n _ twos lt refl)
