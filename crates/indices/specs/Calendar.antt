-- UTC civil time (ISO 8601) of the moments from 1970 on, by counting days.
use Rattle.std.specs.Prelude.{ℕ, zero, suc, ◌+◌, ◌-◌, ◌/◌, ◌%◌, ◌==◌, nat_lt, Bool, ◌&&◌, ◌||◌, not, if◌then◌else◌, List, [], ◌∷◌, ◌++◌, codes, get_or}
use Rattle.std.specs.Fmt.{decimal}

-- the last moment that may be given, 2099-12-31 23:59:59 UTC
abbrev pub latest : ℕ
latest = 4102444799

-- a multiple of 4, but not a multiple of 100 unless it is one of 400
abbrev pub is_leap : ℕ → Bool
is_leap year = (year % 4 == 0) && (not (year % 100 == 0) || (year % 400 == 0))

-- the days of a year
abbrev pub year_length : ℕ → ℕ
year_length year = if is_leap year then 366 else 365

-- the days of the months of a year
abbrev pub month_lengths : ℕ → List ℕ
month_lengths year =
    31 ∷ (if is_leap year then 29 else 28) ∷ 31 ∷ 30 ∷ 31 ∷ 30 ∷ 31 ∷ 31 ∷ 30 ∷ 31 ∷ 30 ∷ 31 ∷ []

-- The year in which a day lies, and its place in that year from 0. The day is counted from 0, from the first day of
-- `year`. The first argument bounds how many years are passed; the number of the day is always enough.
unfoldable pub year_and_day : ℕ → ℕ → ℕ → ℕ × ℕ
year_and_day zero year day = (year, day)
year_and_day (suc most) year day =
    if nat_lt day (year_length year) then (year, day) else year_and_day most (year + 1) (day - year_length year)

-- the month in which a day lies, of months of these lengths, and its place in that month, all counted from 0
unfoldable pub month_and_day : List ℕ → ℕ → ℕ × ℕ
month_and_day [] day = (0, day)
month_and_day (length ∷ lengths) day =
    if nat_lt day length then (0, day)
    else (let later = month_and_day lengths (day - length) in (later.0 + 1, later.1))

abbrev pub two_digits : ℕ → List ℕ
two_digits n = (48 + n / 10) ∷ (48 + n % 10) ∷ []

-- the name of a day since 1970-01-01, which was a Thursday
unfoldable pub weekday_name : ℕ → List ℕ
weekday_name day = get_or
    (codes "Thu" ∷ codes "Fri" ∷ codes "Sat" ∷ codes "Sun" ∷ codes "Mon" ∷ codes "Tue" ∷ codes "Wed" ∷ []) (day % 7) []

-- the name of a month, counted from 0
unfoldable pub month_name : ℕ → List ℕ
month_name month = get_or
    (codes "Jan" ∷ codes "Feb" ∷ codes "Mar" ∷ codes "Apr" ∷ codes "May" ∷ codes "Jun" ∷ codes "Jul"
    ∷ codes "Aug" ∷ codes "Sep" ∷ codes "Oct" ∷ codes "Nov" ∷ codes "Dec" ∷ []) month []

-- the year of a day since 1970-01-01
unfoldable pub year_of : ℕ → ℕ
year_of day = (year_and_day day 1970 day).0

-- which month of its year, counted from 0, and which day of its month, counted from 1
unfoldable pub month_of : ℕ → ℕ
month_of day = (month_and_day (month_lengths (year_of day)) (year_and_day day 1970 day).1).0

unfoldable pub day_of : ℕ → ℕ
day_of day = (month_and_day (month_lengths (year_of day)) (year_and_day day 1970 day).1).1 + 1

-- a day of a month of a year, as `01 Jan 1970`
unfoldable pub day_text : ℕ → ℕ → ℕ → List ℕ
day_text year month day = two_digits day ++ codes " " ++ month_name month ++ codes " " ++ decimal year

-- a time of day, as `00:00:00`
unfoldable pub time_text : ℕ → ℕ → ℕ → List ℕ
time_text hour minute second = two_digits hour ++ codes ":" ++ two_digits minute ++ codes ":" ++ two_digits second

-- The date of a moment, in seconds since 1970-01-01 00:00:00 UTC, as `Thu, 01 Jan 1970 00:00:00 UTC`.
unfoldable pub date_text : ℕ → List ℕ
date_text moment =
    let day = moment / 86400 in
    let second = moment % 86400 in
    weekday_name day ++ codes ", " ++ day_text (year_of day) (month_of day) (day_of day)
    ++ codes " " ++ time_text (second / 3600) (second / 60 % 60) (second % 60) ++ codes " UTC"
