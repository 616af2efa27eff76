-- What the parts of a cleaning make of the tables.
use Rattle.std.proofs.Common.{◌≡◌, ℕ, if◌then◌else◌, List, find, fold, Option, sym, ap}
use Rattle.std.specs.Option.{option_map_or}
use Rattle.sums.specs.declared.print.Print.{Print}
use Rattle.tables.specs.Arrivals.{without_arrival}
use Rattle.tables.specs.Rows.{Numbered, Tables}
use Rattle.tables.specs.Uploads.{is_judged, is_upload, without_upload}
use Rattle.tables.specs.Wants.{with_away, without_wants}
use Rattle.tables.specs.declared.rows.ArrivalRow.{ArrivalRow}
use Rattle.tables.specs.declared.rows.UploadRow.{UploadRow}
use Rattle.tables_meaning.specs.Cleaning.{ended_rows, with_cleaned, with_gone, without_request}
use Rattle.tables_meaning.specs.Kept.{print_at}
use Rattle.tables_meaning.specs.Sweeping.{swept}

-- the rows without a request, by what the search for its upload found
pub request_as : (name : List ℕ) (print : Print) (t : Tables) (o : Option (ℕ × UploadRow)) → find (λ x. is_upload name print x.1) t.uploads ≡ o
    → option_map_or (λ x. if is_judged x.1 then t else without_upload x.0 (without_wants x.0 t)) o t ≡ without_request name print t
unfolding without_request
request_as name print t o is = ap (λ o. option_map_or (λ x. if is_judged x.1 then t else without_upload x.0 (without_wants x.0 t)) o t) (sym is)

-- the rows without an arrival, by what the search for the print of its body found
pub gone_as : (x : ℕ × ArrivalRow) (t : Tables) (o : Option Print) → print_at t x.1.body ≡ o
    → option_map_or (λ print. without_request x.1.name print (with_away x.1.name print (without_arrival x.0 t))) o t ≡ with_gone x t
unfolding with_gone
gone_as x t o is = ap (λ o. option_map_or (λ print. without_request x.1.name print (with_away x.1.name print (without_arrival x.0 t))) o t) (sym is)

-- the rows after a cleaning, by what the search for the arrivals that do not count found
pub cleaned_as : (span : Option ℕ) (moment : ℕ) (t : Tables) (ended : Numbered ArrivalRow) → ended ≡ ended_rows span moment t
    → swept (fold (λ now x. with_gone x now) t ended) ≡ with_cleaned span moment t
unfolding with_cleaned
cleaned_as span moment t ended is = ap (λ xs. swept (fold (λ now x. with_gone x now) t xs)) is
