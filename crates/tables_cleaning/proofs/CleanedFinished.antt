-- A cleaning passes over a body that is not whole, which goes with the unused ones. It makes the same of all rows as of the finished
-- ones.
use Rattle.std.proofs.Common.{◌≡◌, ℕ, Bool, true, false, not, if◌then◌else◌, List, [], ◌∷◌, filter, find, fold, length, All, Option, Some, None, IsTrue, refl, sym, ap, subst, ◌∙◌}
use Rattle.std.specs.List.{AllByRecursion}
use Rattle.std.specs.Option.{option_map_or}
use Rattle.std.proofs.lemmas.List.{length-map}
use Rattle.sqlite_keyed.proofs.ListLemmas.{all-filter, all_weaker, filter-map, filter_same}
use Rattle.rules.specs.Values.{ConfigValue}
use Rattle.sums.specs.declared.print.Print.{Print}
use Rattle.suites.specs.Shelves.{ShelvesValue}
use Rattle.book.specs.Book.{counts, ended, span}
use Rattle.book.specs.declared.change.Judgement.{Judgement}
use Rattle.tables.specs.Rows.{Numbered, Rises, Tables, rows_of, without}
use Rattle.tables.specs.Uploads.{is_judged as has_place, is_upload, without_upload}
use Rattle.tables.specs.Wants.{with_away, without_wants}
use Rattle.tables.specs.Arrivals.{without_arrival}
use Rattle.tables.specs.declared.rows.ArrivalRow.{ArrivalRow}
use Rattle.tables.specs.declared.rows.BodyRow.{BodyRow}
use Rattle.tables.specs.declared.rows.Piece.{Piece}
use Rattle.tables.specs.declared.rows.UploadRow.{UploadRow}
use Rattle.tables_meaning.specs.Cleaning.{cleaned, counts_row, ended_rows, with_cleaned, with_current, with_gone, without_request}
use Rattle.tables_meaning.specs.Finished.{finished, is_of_unfinished, is_unfinished}
use Rattle.tables_meaning.specs.Kept.{AreArrivals, AreNumbered, IsBook, arrival_in, arrivals_in, book_in, has_body, print_at, print_in}
use Rattle.tables_meaning.specs.Sweeping.{swept}
use Rattle.tables_meaning.proofs.ArrivalLemmas.{counts_as}
use Rattle.tables_meaning.proofs.BodyLemmas.{are_stored}
use Rattle.tables_meaning.proofs.FinishedLemmas.{finished_numbered, print_finished}
use Rattle.tables_meaning.proofs.PassingLemmas.{beside}
use Rattle.tables_meaning.proofs.Searches.{all_of_rows}
use Rattle.tables_meaning.proofs.SweptFinished.{swept_finished, use_whole}
use Rattle.tables_cleaning.proofs.CleanedArchive.{current_unswept}
use Rattle.tables_cleaning.proofs.CleanedRows.{gone_current}

-- ---- arrivals pass over bodies that are not whole

request_beside : (name : List ℕ) (print : Print) (u : Tables) (bodies : Numbered BodyRow) (pieces : Numbered Piece)
    → without_request name print (beside u bodies pieces) ≡ beside (without_request name print u) bodies pieces
unfolding without_request
request_beside name print u bodies pieces = by (find (λ x. is_upload name print x.1) u.uploads)
  where
    one : (x : ℕ × UploadRow) (b : Bool) → (if b then beside u bodies pieces else without_upload x.0 (without_wants x.0 (beside u bodies pieces)))
        ≡ beside (if b then u else without_upload x.0 (without_wants x.0 u)) bodies pieces
    one x true = refl
    one x false = refl

    by : (o : Option (ℕ × UploadRow))
        → option_map_or (λ x. if has_place x.1 then beside u bodies pieces else without_upload x.0 (without_wants x.0 (beside u bodies pieces))) o (beside u bodies pieces)
        ≡ beside (option_map_or (λ x. if has_place x.1 then u else without_upload x.0 (without_wants x.0 u)) o u) bodies pieces
    by None = refl
    by (Some x) = one x (has_place x.1)

gone_beside : (x : ℕ × ArrivalRow) (u : Tables) (bodies : Numbered BodyRow) (pieces : Numbered Piece) → print_in bodies x.1.body ≡ print_in u.bodies x.1.body
    → with_gone x (beside u bodies pieces) ≡ beside (with_gone x u) bodies pieces
unfolding with_gone
gone_beside x u bodies pieces same =
    ap (λ o. option_map_or (λ print. without_request x.1.name print (with_away x.1.name print (without_arrival x.0 (beside u bodies pieces)))) o (beside u bodies pieces)) same
    ∙ by (print_at u x.1.body)
  where
    by : (o : Option Print) → option_map_or (λ print. without_request x.1.name print (with_away x.1.name print (without_arrival x.0 (beside u bodies pieces)))) o (beside u bodies pieces)
        ≡ beside (option_map_or (λ print. without_request x.1.name print (with_away x.1.name print (without_arrival x.0 u))) o u) bodies pieces
    by None = refl
    by (Some print) = request_beside x.1.name print (with_away x.1.name print (without_arrival x.0 u)) bodies pieces

-- bodies and pieces are left
gone_leaves : (x : ℕ × ArrivalRow) (u : Tables) → with_gone x u ≡ beside (with_gone x u) u.bodies u.pieces
gone_leaves x u = gone_beside x u u.bodies u.pieces refl

abbrev all_gone : Tables → Numbered ArrivalRow → Tables
all_gone u gone = fold (λ now x. with_gone x now) u gone

all_leave : (gone : Numbered ArrivalRow) (u : Tables) → all_gone u gone ≡ beside (all_gone u gone) u.bodies u.pieces
all_leave [] u = refl
all_leave (x ∷ gone) u =
    all_leave gone (with_gone x u)
    ∙ (λ i. beside (all_gone (with_gone x u) gone) (ap (λ (s : Tables). s.bodies) (gone_leaves x u) i) (ap (λ (s : Tables). s.pieces) (gone_leaves x u) i))

all_beside : (gone : Numbered ArrivalRow) (u : Tables) (bodies : Numbered BodyRow) (pieces : Numbered Piece) → AllByRecursion (λ x. print_in bodies x.1.body ≡ print_in u.bodies x.1.body) gone
    → all_gone (beside u bodies pieces) gone ≡ beside (all_gone u gone) bodies pieces
all_beside [] u bodies pieces h = refl
all_beside (x ∷ gone) u bodies pieces h =
    ap (λ s. all_gone s gone) (gone_beside x u bodies pieces h.0)
    ∙ all_beside gone (with_gone x u) bodies pieces
    (subst (λ (own : Numbered BodyRow). AllByRecursion (λ y. print_in bodies y.1.body ≡ print_in own y.1.body) gone) (sym (ap (λ (s : Tables). s.bodies) (gone_leaves x u))) h.1)

-- ---- the rows after a cleaning

module _ (t : Tables) (config : ConfigValue) (judged : List Judgement) (shown : ShelvesValue) (dates : List ℕ) (up : AreNumbered t) (kept : IsBook (finished t) config judged shown dates) (moment : ℕ) where
  abbrev seconds : Option ℕ
  seconds = span config

  abbrev gone : Numbered ArrivalRow
  gone = ended_rows seconds moment t

  -- the rows once the arrivals have gone, and the finished rows once they have gone
  abbrev after : Tables
  after = all_gone t gone

  abbrev after_whole : Tables
  after_whole = all_gone (finished t) gone

  -- a body that has arrived has its print among the whole ones
  print_whole : (id : ℕ) → has_body (finished t) id ≡ true → print_in (finished t).bodies id ≡ print_in t.bodies id
  print_whole id there = print_finished t up.bodies id there

  whole_prints : AllByRecursion (λ x. print_in (finished t).bodies x.1.body ≡ print_in t.bodies x.1.body) gone
  unfolding finished
  whole_prints =
      all-filter (λ x. print_in (finished t).bodies x.1.body ≡ print_in t.bodies x.1.body) (λ x. not (counts_row seconds moment x.1)) t.arrivals
      (all_weaker (λ x. IsTrue (has_body (finished t) x.1.body)) (λ x. print_in (finished t).bodies x.1.body ≡ print_in t.bodies x.1.body) (λ x h. print_whole x.1.body h) t.arrivals
      (all_of_rows (λ a. IsTrue (has_body (finished t) a.body)) t.arrivals kept.arrivals.bodies))

  whole_beside : after_whole ≡ beside after (finished t).bodies (finished t).pieces
  unfolding finished
  whole_beside = all_beside gone t (finished t).bodies (finished t).pieces whole_prints

  -- the finished rows become the finished ones
  after_finished : finished after ≡ after_whole
  unfolding finished
  after_finished =
      (λ i. beside after (without is_unfinished (ap (λ (s : Tables). s.bodies) (all_leave gone t) i))
      (without (λ (p : ℕ × Piece). is_of_unfinished (all_leave gone t i) p.1) (ap (λ (s : Tables). s.pieces) (all_leave gone t) i)))
      ∙ sym whole_beside

  after_current : after_whole ≡ with_current seconds moment (finished t)
  unfolding finished
  after_current =
      gone_current (finished t) (are_stored (finished t) kept.bodies) kept.arrivals seconds moment judged (finished_numbered t up).uploads kept.uploads (finished_numbered t up).arrivals

  -- a cleaning of all rows is one of the finished rows
  pub cleaned_finished : with_cleaned seconds moment t ≡ cleaned seconds moment (finished t)
  unfolding with_cleaned cleaned
  cleaned_finished =
      let unswept = current_unswept (finished t) config judged shown dates (finished_numbered t up) kept moment in
      let same : finished after ≡ with_current seconds moment (finished t) = after_finished ∙ after_current in
      let rises : Rises after.bodies = subst Rises (sym (ap (λ (s : Tables). s.bodies) (all_leave gone t))) up.bodies in
      swept_finished after rises
      (use_whole after (subst AreArrivals (sym same) unswept.arrivals)
      (subst (λ (u : Tables). All (λ f. IsTrue (has_body u f.body)) (rows_of u.files)) (sym same) unswept.files.bodies))
      ∙ ap swept same

  -- how many do not count
  pub count_ended : length (ended_rows seconds moment t) ≡ length (ended seconds moment (book_in config judged shown dates (finished t)).arrivals)
  unfolding ended book_in arrivals_in finished
  count_ended =
      sym (length-map gone (λ x. x.1))
      ∙ ap length (sym (filter-map (λ a. not (counts_row seconds moment a)) (λ (x : ℕ × ArrivalRow). x.1) t.arrivals)
      ∙ filter_same (λ a. not (counts_row seconds moment a)) (λ a. not (counts seconds moment (arrival_in (finished t) a))) (λ a. ap not (counts_as (finished t) seconds moment a)) (rows_of t.arrivals))
      ∙ sym (length-map (filter (λ a. not (counts seconds moment (arrival_in (finished t) a))) (rows_of t.arrivals)) (arrival_in (finished t)))
      ∙ ap length (sym (filter-map (λ a. not (counts seconds moment a)) (arrival_in (finished t)) (rows_of t.arrivals)))
