-- What an archive turns into by a change.
use Rattle.std.proofs.Common.{◌≡◌, ◌<◌, ◌≤◌, ℕ, List, [], Option, is_some, length, All, sym, subst, ◌∙◌, Result, Ok, Err, OnOk, IsTrue, Bool, true, false, if◌then◌else◌, ap, arith}
use Rattle.std.specs.Prelude.{nat_lt}
use Rattle.std.specs.List.{list_all, list_any}
use Rattle.std.proofs.lemmas.Bool.Decides.{nat_tests}
use Rattle.std.proofs.lemmas.List.Elements.{All-weaker}
use Rattle.std.proofs.lemmas.List.Sums.{AllPass-from_list_all}
use Rattle.sums.specs.declared.print.Print.{Print}
use Rattle.sqlite.specs.Effect.{Database}
use Rattle.sqlite.specs.State.{State, Survives}
use Rattle.sqlite.proofs.StateLemmas.{survives_weaker}
use Rattle.rules.specs.Values.{ConfigValue}
use Rattle.rules.specs.declared.suite.Suite.{Suite}
use Rattle.suites.specs.Shelves.{ShelvesValue}
use Rattle.tables.specs.Rows.{Tables, Holds, Rises, rows_of, tables_in}
use Rattle.tables.proofs.BookLemmas.{held_tables}
use Rattle.book.specs.Book.{latest}
use Rattle.book.specs.Keeping.{IsSound}
use Rattle.book.specs.declared.change.Change.{Change}
use Rattle.book.specs.declared.change.Judgement.{Judgement}
use Rattle.book.specs.declared.change.Step.{Step}
use Rattle.tables_meaning.specs.Amending.{HasAllBodies}
use Rattle.tables_meaning.specs.Archives.{Amends, KeepsArchive, book_in_database}
use Rattle.tables_meaning.specs.Changing.{is_within, puts_within}
use Rattle.tables_meaning.specs.Coming.{Comes, HasComing}
use Rattle.tables_meaning.specs.Finished.{AreUnderWay, finished}
use Rattle.tables_meaning.specs.Kept.{AreArrivals, has_body}
use Rattle.tables_meaning.specs.Making.{takes_file, with_change, with_written}
use Rattle.tables_meaning.specs.Planned.{KeepsChange}
use Rattle.tables_meaning.specs.Sweeping.{swept}
use Rattle.tables_meaning.specs.Transactions.{IsDone, MayCommit}
use Rattle.tables_meaning.proofs.AmendLemmas.{swept_as, unswept_as}
use Rattle.tables_meaning.proofs.AmendedLemmas.{IsWritten}
use Rattle.tables_meaning.proofs.ChangeLemmas.{kept_after, written_after}
use Rattle.tables_meaning.proofs.ComingLemmas.{change_beside, none_coming, number_by_bodies, whole_rows}
use Rattle.tables_meaning.proofs.FinishedLemmas.{body_finished, finished_numbered, finished_rises, finished_twice, kept_finished}
use Rattle.tables_meaning.proofs.PassingLemmas.{bodies_left, finished_passes, passes_written, pieces_left}
use Rattle.tables_meaning.proofs.SweptFinished.{UseWhole, swept_finished, use_whole}
use Rattle.tables_meaning.proofs.SweptLemmas.{bodies_swept}
use Rattle.tables_meaning.proofs.UnderWayLemmas.{finished_under_way, like_under_way}
use Rattle.tables_meaning.proofs.DeliveredLemmas.{numbered}

-- ---- what a change puts stands in the suites

is_below : (a b : ℕ) → nat_lt a b ≡ true → a < b
is_below a b h = grind (arith, nat_tests, h)

each_within : (suites : ℕ) (steps : List Step) → list_all (puts_within suites) steps ≡ true → All (λ s. All (λ e. e.0.suite < suites) s.plan.put) steps
unfolding puts_within is_within
each_within suites steps h =
    All-weaker (λ s. list_all (λ e. nat_lt e.0.suite suites) s.plan.put ≡ true) (λ s. All (λ e. e.0.suite < suites) s.plan.put)
    (λ s each. All-weaker (λ e. nat_lt e.0.suite suites ≡ true) (λ e. e.0.suite < suites) (λ e below. is_below e.0.suite suites below) s.plan.put (AllPass-from_list_all (λ e. nat_lt e.0.suite suites) s.plan.put each))
    steps (AllPass-from_list_all (λ s. list_all (λ e. nat_lt e.0.suite suites) s.plan.put) steps h)

-- if the test of these steps passed, they put items into these suites alone
pub all_within : (suites now : List Suite) (steps made : List Step) (test : Bool) → test ≡ list_all (puts_within (length now)) made → now ≡ suites → made ≡ steps → test ≡ true
    → All (λ s. All (λ e. e.0.suite < length suites) s.plan.put) steps
all_within suites now steps made test tests same are passed =
    each_within (length suites) steps (ap (λ xs. list_all (puts_within (length suites)) xs) (sym are) ∙ ap (λ xs. list_all (puts_within (length xs)) made) (sym same) ∙ sym tests ∙ passed)

-- ---- the archive after a change

-- what a change makes of a database, whatever archive of this configuration it was, with this number of judgements
abbrev pub AmendsBy : Database → Database → ConfigValue → ℕ → Change → Type 0
AmendsBy before after config judged change = (prior : List Judgement) (shown : ShelvesValue) (dates : List ℕ)
    → KeepsArchive before config prior shown dates → length prior ≡ judged → IsSound (book_in_database before config prior shown dates) change
    → Amends before after config prior shown dates change

-- what has come stays if a change is made
abbrev pub KeepsComing : Database → Database → Type 0
KeepsComing before after = (body : Option ℕ) (count : ℕ) (bytes : List ℕ) → Comes (tables_in before) body count bytes → Comes (tables_in after) body count bytes

bodies_arrived : (t : Tables) (steps : List Step) → HasAllBodies t steps → HasAllBodies (finished t) steps
bodies_arrived t steps h =
    subst (λ (look : Print → Option ℕ). All (λ (s : Step). All (λ f. IsTrue (is_some (look f.print))) s.plan.files_added) steps) (λ i p. sym (body_finished p t) i) h

-- if a change takes no file away, what comes stays
module _ (config : ConfigValue) (judged : ℕ) (change : Change) (none : list_any takes_file change.steps ≡ false) where
  comes_beside : (before after : Database) → ((t : Tables) → Holds before t → Holds after (with_change config judged change t)) → {prior : List Judgement} {shown : ShelvesValue} {dates : List ℕ}
      → KeepsArchive before config prior shown dates → KeepsComing before after
  comes_beside before after held archive body count bytes comes =
      let f = with_written config judged change in
      let passes = passes_written config judged change in
      let t = tables_in before in
      let rows : tables_in after ≡ f t = held_tables after (with_change config judged change t) (held t archive.held) ∙ sym (unswept_as config judged change t none) in
      let whole = whole_rows (finished t) (finished_rises t archive.held.rows.bodies.rise) archive.kept.bodies in
      let same : finished (tables_in after) ≡ f (finished t) = ap finished rows ∙ finished_passes f passes t in
      record {
        coming = subst (λ u. HasComing u bytes) (sym rows) (change_beside f passes t bytes whole (finished_twice t) comes.coming);
        number = comes.number ∙ sym (number_by_bodies bytes (finished (tables_in after)) (finished t) (ap (λ (u : Tables). u.bodies) same ∙ bodies_left f passes (finished t)));
        count = comes.count;
      }

  pub done_keeps : {X E : Type 0} (r : Result X E) (old new : State) → (IsTrue old.is_open → old.now ≡ old.committed) → OnOk r (IsDone old new (with_change config judged change))
      → OnOk r ((prior : List Judgement) (shown : ShelvesValue) (dates : List ℕ) → KeepsArchive old.committed config prior shown dates → KeepsComing old.committed new.committed)
  done_keeps (Ok x) old new same done = λ prior shown dates archive. comes_beside old.committed new.committed (λ t was. done.held t (subst (λ db. Holds db t) (sym (same done.was_open)) was)) archive
  done_keeps (Err e) old new same done = tt

-- ---- the rows that a change leaves

module _ (config : ConfigValue) (judged : ℕ) (change : Change) (t : Tables) (up : Rises t.bodies) {prior : List Judgement} {shown : ShelvesValue} {dates : List ℕ}
    (written : IsWritten (finished t) (with_written config judged change (finished t)) config prior shown dates change) where
  abbrev made : Tables
  made = with_written config judged change t

  abbrev made_whole : Tables
  made_whole = with_written config judged change (finished t)

  whole_is : finished made ≡ made_whole
  whole_is = finished_passes (with_written config judged change) (passes_written config judged change) t

  uses : UseWhole made
  uses =
      use_whole made (subst AreArrivals (sym whole_is) written.unswept.arrivals)
      (subst (λ (u : Tables). All (λ f. IsTrue (has_body u f.body)) (rows_of u.files)) (sym whole_is) written.unswept.files.bodies)

  swept_is : swept made ≡ swept made_whole
  swept_is = swept_finished made (subst Rises (sym (bodies_left (with_written config judged change) (passes_written config judged change) t)) up) uses ∙ ap swept whole_is

  swept_whole : finished (swept made_whole) ≡ swept made_whole
  swept_whole = kept_finished (swept made_whole) (bodies_swept made_whole written.unswept.stored)

  -- the finished rows become the finished ones
  change_finished : finished (with_change config judged change t) ≡ with_change config judged change (finished t)
  unfolding with_change
  change_finished = by (list_any takes_file change.steps)
    where
      by : (b : Bool) → finished (if b then swept made else made) ≡ (if b then swept made_whole else made_whole)
      by true = ap finished swept_is ∙ swept_whole
      by false = whole_is

  -- the pieces of bodies that are not whole stay as they are, or go
  change_under_way : AreUnderWay t → AreUnderWay (with_change config judged change t)
  unfolding with_change
  change_under_way coming = by (list_any takes_file change.steps)
    where
      by : (b : Bool) → AreUnderWay (if b then swept made else made)
      by true = finished_under_way (swept made) (ap finished swept_is ∙ swept_whole ∙ sym swept_is)
      by false = like_under_way t made (bodies_left (with_written config judged change) (passes_written config judged change) t) (pieces_left (with_written config judged change) (passes_written config judged change) t) coming

  -- if a file goes all rows are finished
  change_ends : list_any takes_file change.steps ≡ true → with_change config judged change t ≡ with_change config judged change (finished t)
  change_ends takes = sym (swept_as config judged change t takes) ∙ swept_is ∙ swept_as config judged change (finished t) takes

module _ (config : ConfigValue) (judged : ℕ) (change : Change) (small : change.moment ≤ latest)
    (inside : All (λ s. All (λ e. e.0.suite < length config.suites) s.plan.put) change.steps) where
  module _ (before after : Database) (arrived : (t : Tables) → Holds before t → HasAllBodies t change.steps) (held : (t : Tables) → Holds before t → Holds after (with_change config judged change t))
      (prior : List Judgement) (shown : ShelvesValue) (dates : List ℕ) (archive : KeepsArchive before config prior shown dates) (count : length prior ≡ judged)
      (sound : IsSound (book_in_database before config prior shown dates) change) where
    abbrev rows_before : Tables
    rows_before = tables_in before

    abbrev whole_before : Tables
    whole_before = finished rows_before

    written : IsWritten whole_before (with_written config judged change whole_before) config prior shown dates change
    written =
        subst (λ n. IsWritten whole_before (with_written config n change whole_before) config prior shown dates change) count
        (written_after whole_before config prior shown dates change archive.kept (finished_numbered rows_before (numbered before rows_before archive.held)) archive.kept.read sound small inside (bodies_arrived rows_before change.steps (arrived rows_before archive.held)))

    whole : KeepsChange whole_before (with_change config judged change whole_before) config prior shown dates change
    whole =
        subst (λ n. IsWritten whole_before (with_written config n change whole_before) config prior shown dates change → KeepsChange whole_before (with_change config n change whole_before) config prior shown dates change) count
        (kept_after whole_before config prior shown dates change archive.kept) written

    rows : tables_in after ≡ with_change config judged change rows_before
    rows = held_tables after (with_change config judged change rows_before) (held rows_before archive.held)

    same : finished (tables_in after) ≡ with_change config judged change whole_before
    same = ap finished rows ∙ change_finished config judged change rows_before archive.held.rows.bodies.rise written

    amends : Amends before after config prior shown dates change
    amends =
        let there : KeepsChange whole_before (finished (tables_in after)) config prior shown dates change = subst (λ s. KeepsChange whole_before s config prior shown dates change) (sym same) whole in
        record {
          kept = record {
            held = subst (Holds after) (sym rows) (held rows_before archive.held);
            kept = there.kept;
            coming = subst AreUnderWay (sym rows) (change_under_way config judged change rows_before archive.held.rows.bodies.rise written archive.coming);
          };
          book = there.book;
        }

    ends : list_any takes_file change.steps ≡ true → HasComing (tables_in after) []
    ends takes = none_coming (tables_in after) (same ∙ sym (rows ∙ change_ends config judged change rows_before archive.held.rows.bodies.rise written takes))

  -- if the connection has no transaction, what it shows is what is committed
  module _ (old new : State) (settled : IsTrue old.is_open → old.now ≡ old.committed) where
    now_held : IsTrue old.is_open → (t : Tables) → Holds old.committed t → Holds old.now t
    now_held up t was = subst (λ db. Holds db t) (sym (settled up)) was

    pub done_amends : {X E : Type 0} (r : Result X E) → OnOk r (IsDone old new (with_change config judged change)) → OnOk r ((t : Tables) → Holds old.now t → HasAllBodies t change.steps)
        → OnOk r (AmendsBy old.committed new.committed config judged change)
    done_amends (Ok x) done arrived = amends old.committed new.committed (λ t was. arrived t (now_held done.was_open t was)) (λ t was. done.held t (now_held done.was_open t was))
    done_amends (Err e) done arrived = tt

    -- if a file goes nothing is coming any more
    pub done_ends : list_any takes_file change.steps ≡ true → {X E : Type 0} (r : Result X E) → OnOk r (IsDone old new (with_change config judged change))
        → OnOk r ((t : Tables) → Holds old.now t → HasAllBodies t change.steps)
        → OnOk r ((prior : List Judgement) (shown : ShelvesValue) (dates : List ℕ) → KeepsArchive old.committed config prior shown dates → length prior ≡ judged
        → IsSound (book_in_database old.committed config prior shown dates) change → HasComing (tables_in new.committed) [])
    done_ends takes (Ok x) done arrived = λ prior shown dates archive count sound.
        ends old.committed new.committed (λ t was. arrived t (now_held done.was_open t was)) (λ t was. done.held t (now_held done.was_open t was)) prior shown dates archive count sound takes
    done_ends takes (Err e) done arrived = tt

    pub crash_amends : Survives old new (λ trees. MayCommit old (with_change config judged change) trees × ((t : Tables) → Holds old.now t → HasAllBodies t change.steps))
        → Survives old new (λ trees. (db : Database) × (trees ≡ db.trees) × IsTrue old.is_open × AmendsBy old.committed db config judged change)
    crash_amends h = survives_weaker old new _ _ (λ clean trees may.
        (may.0.0, may.0.1, may.0.2, amends old.committed may.0.0 (λ t was. may.1 t (now_held may.0.2 t was)) (λ t was. may.0.3 t (now_held may.0.2 t was)))) h
