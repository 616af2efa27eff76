-- A promotion leaves and answers what a copy of each of its source packages in turn leaves and answers.
use Rattle.std.proofs.Common.{◌≡◌, ◌≤◌, ◌+◌, ℕ, Bool, true, false, cond, ◌&&◌, List, [], ◌∷◌, ◌++◌, map, filter, flat_map, fold, Option, Some, None, option_to_list, slice_get, nat_eq, nat_lt, Result, Ok, Err, refl, sym, ap, ◌∙◌, append-nil, if◌then◌else◌}
use Rattle.std.specs.FinMap.{entries}
use Rattle.std.specs.List.{enumerate_from, list_any}
use Rattle.std.proofs.lemmas.Bool.{le-ltb}
use Rattle.std.proofs.lemmas.Slice.Eq.{bytes_eq-Decides}
use Rattle.sums.proofs.Booleans.{neither}
use Rattle.book.specs.Book.{latest}
use Rattle.rules.specs.Values.{ConfigValue}
use Rattle.rules.specs.declared.suite.Suite.{Suite}
use Rattle.suites.specs.Items.{on_shelf}
use Rattle.suites.specs.Shelves.{ShelvesWith, shown}
use Rattle.suites.specs.declared.key.ShelfKey.{ShelfKey}
use Rattle.history.specs.Answers.{answer, copies_in, count_of_new, new_items}
use Rattle.history.specs.Archives.{BodyItem, PlainArchive, acted, acts_of, archive, book_from, book_of, copied, copied_all, has_more, is_changed, is_kept_by, is_shown_of, items_copied, shown_in, sources_in, suite_named, version_with, with_admitted, with_items}
use Rattle.history.specs.Copies.{AreSuites}
use Rattle.history.specs.Histories.{Copies, Copying, Count, History, Promoting, Reply, arrivals_after, arrived, followed}
use Rattle.history.specs.Promotions.{answered_copies, items_new, with_copies, with_copy}
use Rattle.history.specs.declared.fault.Fault.{Fault}
use Rattle.history.specs.declared.fault.Fault.TheVariants.{NothingToCopy}
use Rattle.history.proofs.Dates.{has_version, no_more}
use Rattle.history.proofs.SimulationCopies.{answer_copied}
use Rattle.history.proofs.SimulationPromotions.{answer_promoted}
use Rattle.history.proofs.Steps.{archive-push, arrived-push, book_of-followed}

-- ---- a copy of nothing

-- equal shelves have not changed
nothing_changed : (suite : ℕ) (shelves : ShelvesWith BodyItem) → is_changed suite shelves shelves ≡ false
unfolding is_changed
nothing_changed suite shelves =
    let none : has_more suite shelves shelves ≡ false =
    no_more suite shelves shelves (λ q y now at. ap (λ o. has_version o y) now ∙ (bytes_eq-Decides y.version y.version).1 refl) in
    rw none refl

dates_stay : (moment : ℕ) (shelves : ShelvesWith BodyItem) (n : ℕ) (dates : List ℕ) → map (λ (d : ℕ × ℕ). if is_changed d.0 shelves shelves then moment else d.1) (enumerate_from n dates) ≡ dates
dates_stay moment shelves n [] = refl
dates_stay moment shelves n (date ∷ dates) =
    λ i. (if nothing_changed n shelves i then moment else date) ∷ dates_stay moment shelves (n + 1) dates i

with_none : (moment : ℕ) (a : PlainArchive) → with_items moment [] a ≡ a
unfolding with_admitted
with_none moment a =
    let dates : map (λ (d : ℕ × ℕ). if is_changed d.0 (shown_in a) (shown version_with (a.admitted ++ [])) then moment else d.1) (enumerate_from 0 a.dates) ≡ a.dates =
    ap (λ xs. map (λ (d : ℕ × ℕ). if is_changed d.0 (shown_in a) (shown version_with xs) then moment else d.1) (enumerate_from 0 a.dates)) (append-nil a.admitted)
    ∙ dates_stay moment (shown_in a) 0 a.dates in
    λ i. record { admitted = append-nil a.admitted i; judged = a.judged; dates = dates i }

none_pass : {X : Type 0} (p q : X → Bool) (xs : List X) → list_any p xs ≡ false → filter (λ x. p x && q x) xs ≡ []
none_pass p q [] h = refl
none_pass p q (x ∷ xs) h =
    let parts = neither (p x) (list_any p xs) h in
    ap (λ b. cond (b && q x) (x ∷ filter (λ x. p x && q x) xs) (filter (λ x. p x && q x) xs)) parts.0 ∙ none_pass p q xs parts.1

none_on : (to : ℕ) (target : Option Suite) (from : ℕ) (source : List ℕ) (es : List (ShelfKey × BodyItem)) → list_any (is_shown_of from source) es ≡ false
    → flat_map (λ target. map (λ (e : ShelfKey × BodyItem). on_shelf to e.1) (filter (λ e. is_shown_of from source e && is_kept_by target e) es)) (option_to_list target) ≡ []
none_on to None from source es none = refl
none_on to (Some target) from source es none =
    append-nil (map (λ (e : ShelfKey × BodyItem). on_shelf to e.1) (filter (λ e. is_shown_of from source e && is_kept_by target e) es))
    ∙ ap (map (λ (e : ShelfKey × BodyItem). on_shelf to e.1)) (none_pass (is_shown_of from source) (is_kept_by target) es none)

none_copied : (config : ConfigValue) (moment : ℕ) (a : PlainArchive) (from to : ℕ) (source : List ℕ) → list_any (is_shown_of from source) (entries (shown_in a)) ≡ false
    → copied config moment a from to source ≡ a
unfolding items_copied
none_copied config moment a from to source none =
    ap (λ items. with_items moment items a) (none_on to (slice_get config.suites to) from source (entries (shown_in a)) none) ∙ with_none moment a

-- ---- one copy

answer_nothing : (h : History) (from to source : List ℕ) (moment f t : ℕ) → nat_lt latest moment ≡ false → suite_named h.opening.config from ≡ Some f → suite_named h.opening.config to ≡ Some t
    → nat_eq f t ≡ false → list_any (is_shown_of f source) (entries (shown_in (archive h))) ≡ false
    → answer h (Copying from to source moment) ≡ Err NothingToCopy
unfolding answer
answer_nothing h from to source moment f t in_time first second other none = rw (in_time, first, second, other, none) refl

-- what its step leaves of the plain archive, for each of its outcomes
archive_done : (h : History) (from to source : List ℕ) (moment f t : ℕ) (reply : Reply) → suite_named h.opening.config from ≡ Some f → suite_named h.opening.config to ≡ Some t
    → archive (followed h (Copying from to source moment) (Ok reply)) ≡ copied h.opening.config moment (archive h) f t source
unfolding acts_of
archive_done h from to source moment f t reply first second =
    archive-push h (Copying from to source moment) (Ok reply)
    ∙ (let acts : fold (acted h.opening.config) (archive h) (acts_of h.opening h.steps (Copying from to source moment) (Ok reply)) ≡ copied h.opening.config moment (archive h) f t source =
    rw (first, second) refl in acts)

archive_refused : (h : History) (from to source : List ℕ) (moment : ℕ) (fault : Fault) → archive (followed h (Copying from to source moment) (Err fault)) ≡ archive h
unfolding acts_of
archive_refused h from to source moment fault = archive-push h (Copying from to source moment) (Err fault)

arrived_same : (h : History) (from to source : List ℕ) (moment : ℕ) (outcome : Result Reply Fault)
    → arrived h.opening (followed h (Copying from to source moment) outcome).steps ≡ arrived h.opening h.steps
unfolding arrivals_after
arrived_same h from to source moment outcome = arrived-push h.opening h.steps (Copying from to source moment) outcome

module _ (from to : List ℕ) (moment f t : ℕ) where
  -- the suites are there and differ, and the moment is not too late
  pub record MayCopy (h : History) : Type 0 where
    pub in_time : nat_lt latest moment ≡ false
    pub first : suite_named h.opening.config from ≡ Some f
    pub second : suite_named h.opening.config to ≡ Some t
    pub other : nat_eq f t ≡ false

  -- what it leaves and answers, whether the first suite shows an item of the source package or not
  one_by : (h : History) (source : List ℕ) → MayCopy h → (b : Bool) → list_any (is_shown_of f source) (entries (shown_in (archive h))) ≡ b
      → (archive (with_copy h from to moment source) ≡ copied h.opening.config moment (archive h) f t source)
      × (items_new (answer h (Copying from to source moment)) ≡ new_items h.opening.config moment f t (archive h) source)
  one_by h source may true shows =
      let config = h.opening.config in
      let is = answer_copied h from to source moment f t may.in_time may.first may.second may.other shows in (
        ap (λ (o : Result Reply Fault). archive (followed h (Copying from to source moment) o)) is
            ∙ archive_done h from to source moment f t (Count (count_of_new t (archive h) (copied config moment (archive h) f t source))) may.first may.second,
        ap items_new is ∙ ap (λ b. if b then Some (count_of_new t (archive h) (copied config moment (archive h) f t source)) else None) (sym shows),
      )
  one_by h source may false none =
      let config = h.opening.config in
      let is = answer_nothing h from to source moment f t may.in_time may.first may.second may.other none in (
        ap (λ (o : Result Reply Fault). archive (followed h (Copying from to source moment) o)) is
            ∙ archive_refused h from to source moment NothingToCopy
            ∙ sym (none_copied config moment (archive h) f t source none),
        ap items_new is ∙ ap (λ b. if b then Some (count_of_new t (archive h) (copied config moment (archive h) f t source)) else None) (sym none),
      )

  one_left : (h : History) (source : List ℕ) → MayCopy h → archive (with_copy h from to moment source) ≡ copied h.opening.config moment (archive h) f t source
  one_left h source may = (one_by h source may (list_any (is_shown_of f source) (entries (shown_in (archive h)))) refl).0

  one_answered : (h : History) (source : List ℕ) → MayCopy h → items_new (answer h (Copying from to source moment)) ≡ new_items h.opening.config moment f t (archive h) source
  one_answered h source may = (one_by h source may (list_any (is_shown_of f source) (entries (shown_in (archive h)))) refl).1

  -- the longer history opens with the book of the shorter one
  may_more : (h : History) (source : List ℕ) → MayCopy h → MayCopy (with_copy h from to moment source)
  may_more h source may = record { in_time = may.in_time; first = may.first; second = may.second; other = may.other }

  -- ---- all in turn

  pub row_archive : (sources : List (List ℕ)) (h : History) → MayCopy h → archive (with_copies h from to moment sources) ≡ copied_all h.opening.config moment f t (archive h) sources
  row_archive [] h may = refl
  row_archive (source ∷ sources) h may =
      row_archive sources (with_copy h from to moment source) (may_more h source may)
      ∙ ap (λ (a : PlainArchive). copied_all h.opening.config moment f t a sources) (one_left h source may)

  pub row_arrived : (sources : List (List ℕ)) (h : History) → arrived (with_copies h from to moment sources).opening (with_copies h from to moment sources).steps ≡ arrived h.opening h.steps
  row_arrived [] h = refl
  row_arrived (source ∷ sources) h =
      row_arrived sources (with_copy h from to moment source) ∙ arrived_same h from to source moment (answer h (Copying from to source moment))

  pub row_config : (sources : List (List ℕ)) (h : History) → (with_copies h from to moment sources).opening.config ≡ h.opening.config
  row_config [] h = refl
  row_config (source ∷ sources) h = row_config sources (with_copy h from to moment source)

  pub row_answered : (sources : List (List ℕ)) (h : History) → MayCopy h → answered_copies h from to moment sources ≡ copies_in h.opening.config moment f t (archive h) sources
  row_answered [] h may = refl
  row_answered (source ∷ sources) h may =
      (λ i. (source, one_answered h source may i) ∷ row_answered sources (with_copy h from to moment source) (may_more h source may) i)
      ∙ ap (λ (a : PlainArchive). (source, new_items h.opening.config moment f t (archive h) source) ∷ copies_in h.opening.config moment f t a sources) (one_left h source may)

-- ---- the promotion

may_promote : (h : History) (from to : List ℕ) (moment f t : ℕ) → moment ≤ latest → AreSuites h.opening.config from to f t → MayCopy from to moment f t h
may_promote h from to moment f t in_time suites =
    record { in_time = le-ltb latest moment in_time; first = suites.from_named; second = suites.to_named; other = suites.other }

pub promoted_answers : (h : History) (from to : List ℕ) (sources : Option (List (List ℕ))) (moment f t : ℕ) → moment ≤ latest → AreSuites h.opening.config from to f t
    → answer h (Promoting from to sources moment) ≡ Ok (Copies (answered_copies h from to moment (sources_in (archive h) f sources)))
promoted_answers h from to sources moment f t in_time suites =
    let may = may_promote h from to moment f t in_time suites in
    answer_promoted h from to sources moment f t may.in_time may.first may.second may.other
    ∙ ap (λ copies. Ok (Copies copies)) (sym (row_answered from to moment f t (sources_in (archive h) f sources) h may))

-- what the step of a promotion that is done leaves of the plain archive
book_done : (h : History) (from to : List ℕ) (sources : Option (List (List ℕ))) (moment f t : ℕ) (reply : Reply) → suite_named h.opening.config from ≡ Some f → suite_named h.opening.config to ≡ Some t
    → book_of (followed h (Promoting from to sources moment) (Ok reply))
    ≡ book_from h.opening.config (arrived h.opening h.steps) (copied_all h.opening.config moment f t (archive h) (sources_in (archive h) f sources))
unfolding acts_of arrivals_after
book_done h from to sources moment f t reply first second =
    book_of-followed h (Promoting from to sources moment) (Ok reply)
    ∙ ap (book_from h.opening.config (arrived h.opening h.steps))
    (let acts : fold (acted h.opening.config) (archive h) (acts_of h.opening h.steps (Promoting from to sources moment) (Ok reply)) ≡ copied_all h.opening.config moment f t (archive h) (sources_in (archive h) f sources) =
    rw (first, second) refl in acts)

row_book : (h : History) (from to : List ℕ) (moment f t : ℕ) (sources : List (List ℕ)) → MayCopy from to moment f t h
    → book_of (with_copies h from to moment sources) ≡ book_from h.opening.config (arrived h.opening h.steps) (copied_all h.opening.config moment f t (archive h) sources)
unfolding book_of
row_book h from to moment f t sources may =
    λ i. book_from (row_config from to moment f t sources h i) (row_arrived from to moment f t sources h i) (row_archive from to moment f t sources h may i)

pub promoted_book : (h : History) (from to : List ℕ) (sources : Option (List (List ℕ))) (moment f t : ℕ) → moment ≤ latest → AreSuites h.opening.config from to f t
    → book_of (followed h (Promoting from to sources moment) (answer h (Promoting from to sources moment)))
    ≡ book_of (with_copies h from to moment (sources_in (archive h) f sources))
promoted_book h from to sources moment f t in_time suites =
    let may = may_promote h from to moment f t in_time suites in
    ap (λ (o : Result Reply Fault). book_of (followed h (Promoting from to sources moment) o)) (promoted_answers h from to sources moment f t in_time suites)
    ∙ book_done h from to sources moment f t (Copies (answered_copies h from to moment (sources_in (archive h) f sources))) may.first may.second
    ∙ sym (row_book h from to moment f t (sources_in (archive h) f sources) may)
