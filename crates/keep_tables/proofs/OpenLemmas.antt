-- The archive of a database, and what is left of it once the bodies that are not whole are removed.
use Rattle.std.proofs.Common.{◌≡◌, ◌≢◌, ℕ, filter, not, cond, List, [], ◌∷◌, Option, None, Some, IfSome, is_some, map, refl, sym, ap, subst, ◌∙◌}
use Rattle.std.proofs.Math.Logic.{∥∥₁_map}
use Rattle.std.specs.List.{AllByRecursion}
use Rattle.std.proofs.lemmas.List.Elements.{All-from_recursion, recursion_from_All}
use Rattle.sums.specs.declared.print.Print.{Print}
use Rattle.sqlite.specs.Effect.{Database}
use Rattle.sqlite.specs.State.{State, IsUnchanged}
use Rattle.sqlite.specs.Tree.{Trees}
use Rattle.rules.specs.Values.{ConfigValue}
use Rattle.suites.specs.Shelves.{ShelvesValue}
use Rattle.book.specs.Book.{Book}
use Rattle.book.specs.declared.change.Judgement.{Judgement}
use Rattle.tables.proofs.BookLemmas.{held_tables, is_archive}
use Rattle.tables.specs.Rows.{Tables, Holds, IsArchive, Numbered, Rises, rows_of, tables_in, without}
use Rattle.tables.specs.Others.{IsArchiveSchema}
use Rattle.tables.specs.declared.rows.BodyRow.{BodyRow}
use Rattle.tables.specs.Real.{AreReal, IsRealBody, IsRealPrint}
use Rattle.tables_meaning.specs.Archives.{KeepsArchive, KeepsFinished, book_in_database}
use Rattle.tables_meaning.specs.Kept.{AreReadable, IsBook, book_in}
use Rattle.tables_meaning.specs.Shown.{shown_in}
use Rattle.tables_meaning.proofs.CallLemmas.{kept_here, shown_here}
use Rattle.tables_meaning.proofs.RealRows.{kept_readable, kept_real}
use Rattle.tables_meaning.proofs.ComingLemmas.{none_coming}
use Rattle.tables_meaning.proofs.FinishedLemmas.{finished_twice, shown_finished}
use Rattle.indices.proofs.Paths.{config_codenames}
use Rattle.tables_meaning.proofs.ShownLemmas.{shown_is}
use Rattle.tables_meaning.proofs.UnderWayLemmas.{finished_under_way}
use Rattle.tables_meaning.specs.Coming.{HasComing}
use Rattle.tables_meaning.specs.Finished.{AreUnderWay, finished, is_unfinished, without_all}
use Rattle.tables_meaning.specs.Transactions.{IsDone, IsUndone, MayCommit}
use Rattle.keep_tables.specs.Finishing.{unfinished_ids}
use Rattle.tables_audit.specs.TextRows.{ArePrintsOf, texts_in}
use Rattle.tables_audit.specs.Whole.{KeepsNone, KeepsSome}
use Rattle.tables_audit.specs.declared.text_print.TextPrint.{TextPrint}
use Rattle.keep_tables.specs.AtHand.{AreKnown}
use Rattle.keep_tables.specs.Opened.{HasUnfinished, IsArchiveOf, IsFinished, IsFound, IsNoArchive}
use Rattle.keep_tables.proofs.AtHandLemmas.{printed_known}
use Rattle.keep_tables.proofs.FinishLemmas.{finished_as}

-- ---- of a database

pub archive_here : (db : Database) (t : Tables) (config : ConfigValue) (judged : List Judgement) (dates : List ℕ) → Holds db t → KeepsSome (finished t) config judged dates → AreUnderWay t
    → IsArchiveOf db config judged dates
archive_here db t config judged dates held some under =
    let same = sym (held_tables db t held) in
    (subst (Holds db) same held, subst (λ u. KeepsSome (finished u) config judged dates) same some, subst AreUnderWay same under)

-- a body without a print can be held
real_more : (x : ℕ × BodyRow) (bodies : Numbered BodyRow) → (AllByRecursion IsRealBody (rows_of (without is_unfinished bodies)) → AllByRecursion IsRealBody (rows_of bodies))
    → (print : Option Print) → x.1.print ≡ print
    → AllByRecursion IsRealBody (rows_of (cond (not (not (is_some print))) (x ∷ without is_unfinished bodies) (without is_unfinished bodies))) → AllByRecursion IsRealBody (rows_of (x ∷ bodies))
real_more x bodies rest None is real = (subst (λ o. IfSome o IsRealPrint) (sym is) tt, rest real)
real_more x bodies rest (Some p) is real = (real.0, rest real.1)

real_bodies : (bodies : Numbered BodyRow) → AllByRecursion IsRealBody (rows_of (without is_unfinished bodies)) → AllByRecursion IsRealBody (rows_of bodies)
real_bodies [] real = tt
real_bodies (x ∷ bodies) real = real_more x bodies (real_bodies bodies) x.1.print refl real

real_unfinished : (t : Tables) → AreReal (finished t) → AreReal t
unfolding finished
real_unfinished t h = record {
  bodies = All-from_recursion IsRealBody (rows_of t.bodies) (real_bodies t.bodies (recursion_from_All IsRealBody (rows_of (without is_unfinished t.bodies)) h.bodies));
  arrivals = h.arrivals;
  uploads = h.uploads;
  wants = h.wants;
  items = h.items;
  refs = h.refs;
  files = h.files;
  texts = h.texts;
  dates = h.dates;
}

pub no_archive : (db : Database) (t : Tables) → Holds db t → (AreReadable t → AreUnderWay t → KeepsNone (finished t)) → IsNoArchive db
unfolding finished
no_archive db t held none archive under config judged shown dates h =
    let same = held_tables db t held in
    let here : IsBook (finished t) config judged shown dates = subst (λ u. IsBook (finished u) config judged shown dates) same h in
    none (kept_readable (finished t) config judged shown dates here) (subst AreUnderWay same under) config judged shown dates here

pub no_rows : (db : Database) → ((t : Tables) → AreReal t → Holds db t → ⊥) → IsNoArchive db
no_rows db none archive under config judged shown dates h =
    none (tables_in db) (real_unfinished (tables_in db) (kept_real (finished (tables_in db)) config judged shown dates h)) archive

pub no_tables : (db : Database) → ¬ IsArchiveSchema db.schema → IsNoArchive db
no_tables db other archive under config judged shown dates h = other archive.schema

-- the archive of a database, with what the rows show
archive_shown : (db : Database) (config : ConfigValue) (judged : List Judgement) (dates : List ℕ) → IsArchive db → KeepsSome (finished (tables_in db)) config judged dates
    → AreUnderWay (tables_in db) → ∥ KeepsArchive db config judged (shown_in config.suites (tables_in db)) dates ∥₁
archive_shown db config judged dates held keeps under = ∥∥₁_map keeps (λ some. kept_here db (record { held = held; kept = some.1; coming = under }))

-- what the whole rows are found to show is what all rows show
pub found_shown : (t whole : Tables) → whole ≡ finished t → (config : ConfigValue) (judged : List Judgement) (shown : ShelvesValue) (dates : List ℕ) → IsBook whole config judged shown dates
    → shown ≡ shown_in config.suites t
found_shown t whole is config judged shown dates kept =
    sym (shown_is whole config.suites shown kept.items kept.sound.at_home (config_codenames config kept.read))
    ∙ ap (shown_in config.suites) is ∙ shown_finished config.suites t

-- the whole rows have all texts
pub printed_whole : (t whole : Tables) → whole ≡ finished t → (prints : List TextPrint) → ArePrintsOf (texts_in whole.texts) prints → ArePrintsOf (texts_in t.texts) prints
unfolding finished
printed_whole t whole is prints printed = subst (λ (u : Tables). ArePrintsOf (texts_in u.texts) prints) is printed

printed_finished : (t : Tables) (prints : List TextPrint) → ArePrintsOf (texts_in t.texts) prints → ArePrintsOf (texts_in (finished t).texts) prints
unfolding finished
printed_finished t prints printed = printed

-- ---- once the bodies that are not whole are removed

rising : (db : Database) (t : Tables) → Holds db t → Rises t.bodies
rising db t held = held.rows.bodies.rise

module _ (s : State) (config : ConfigValue) (judged : List Judgement) (dates ids : List ℕ) (found : IsFound s config judged dates ids) where
  -- the rows without those of these numbers are the finished ones
  without_ids : (t : Tables) → Holds s.now t → without_all ids t ≡ finished t
  without_ids t held =
      let same : ids ≡ unfinished_ids t.bodies = found.are ∙ ap (λ u. unfinished_ids u.bodies) (held_tables s.now t held) in
      ap (λ l. without_all l t) same ∙ finished_as t (rising s.now t held)

  -- a database with those rows holds the finished ones
  pub finished_now : (new : Database) (t : Tables) → Holds s.now t → Holds new (without_all ids t) → Holds new (finished t)
  finished_now new t held now = subst (Holds new) (without_ids t held) now

  rows_are : (new : Database) → ((t : Tables) → Holds s.now t → Holds new (without_all ids t)) → tables_in new ≡ finished (tables_in s.now)
  rows_are new now =
      let t = tables_in s.now in
      held_tables new (finished t) (finished_now new t found.archive.0 (now t found.archive.0))

  rows_finished_are : (new : Database) → ((t : Tables) → Holds s.now t → Holds new (without_all ids t)) → finished (tables_in new) ≡ finished (tables_in s.now)
  rows_finished_are new now = ap finished (rows_are new now) ∙ finished_twice (tables_in s.now)

  -- each body of the database is whole
  rows_under_way : (new : Database) → ((t : Tables) → Holds s.now t → Holds new (without_all ids t)) → AreUnderWay (tables_in new)
  rows_under_way new now = finished_under_way (tables_in new) (rows_finished_are new now ∙ sym (rows_are new now))

  -- the database shows what was shown
  pub shown_still : (new : Database) → ((t : Tables) → Holds s.now t → Holds new (without_all ids t)) → shown_in config.suites (tables_in new) ≡ shown_in config.suites (tables_in s.now)
  shown_still new now = ap (shown_in config.suites) (rows_are new now) ∙ shown_finished config.suites (tables_in s.now)

  -- the database keeps the archive
  pub keeps_finished : (new : Database) → ((t : Tables) → Holds s.now t → Holds new (without_all ids t)) → ∥ KeepsArchive new config judged (shown_in config.suites (tables_in new)) dates ∥₁
  keeps_finished new now =
      let t = tables_in s.now in
      let held = finished_now new t found.archive.0 (now t found.archive.0) in
      archive_shown new config judged dates (is_archive new (finished t) held) (subst (λ u. KeepsSome u config judged dates) (sym (rows_finished_are new now)) found.archive.1)
      (rows_under_way new now)

  -- the prints of texts in the rows are known
  pub known_finished : (prints : List TextPrint) → ArePrintsOf (texts_in (tables_in s.now).texts) prints → (new : Database) → ((t : Tables) → Holds s.now t → Holds new (without_all ids t))
      → ∥ AreKnown config (shown_in config.suites (tables_in new)) dates prints ∥₁
  known_finished prints printed new now =
      let here : ArePrintsOf (texts_in (finished (tables_in new)).texts) prints =
      subst (λ (u : Tables). ArePrintsOf (texts_in u.texts) prints) (sym (rows_finished_are new now)) (printed_finished (tables_in s.now) prints printed) in
      ∥∥₁_map (keeps_finished new now) (λ kept. printed_known (finished (tables_in new)) config judged (shown_in config.suites (tables_in new)) dates prints kept.kept here)

  -- no body is coming
  pub whole_finished : (new : Database) → ((t : Tables) → Holds s.now t → Holds new (without_all ids t)) → HasComing (tables_in new) []
  whole_finished new now = none_coming (tables_in new) (rows_finished_are new now ∙ sym (rows_are new now))

  -- the book of the database is that of the finished rows
  pub finished_book : (new : Database) → ((t : Tables) → Holds s.now t → Holds new (without_all ids t))
      → KeepsFinished s.committed config (book_in_database new config judged (shown_in config.suites (tables_in new)) dates)
  finished_book new now =
      let t = tables_in s.now in
      let held : Holds new (finished t) = finished_now new t found.archive.0 (now t found.archive.0) in
      let is : finished (tables_in new) ≡ finished t = rows_finished_are new now in
      subst (λ db. KeepsFinished db config (book_in_database new config judged (shown_in config.suites (tables_in new)) dates)) found.rests
      (∥∥₁_map found.archive.1 (λ some.
      let kept : IsBook (finished (tables_in new)) config judged some.0 dates = subst (λ u. IsBook u config judged some.0 dates) (sym is) some.1 in
      let shows : shown_in config.suites (tables_in new) ≡ some.0 = shown_here new (record { held = is_archive new (finished t) held; kept = kept; coming = rows_under_way new now }) in
      (judged, some.0, dates, found.archive.0, some.1, found.archive.2, λ i. book_in config judged (shows i) dates (is i))))

  -- there are no numbers if each body is whole
  none_if_whole : (t : Tables) → Holds s.committed t → filter is_unfinished t.bodies ≡ [] → ids ≡ []
  none_if_whole t held none =
      found.are ∙ ap (λ u. unfinished_ids u.bodies) (held_tables s.now t (subst (λ db. Holds db t) (sym found.rests) held)) ∙ ap (map (λ x. x.0)) none

  pub has_unfinished : ids ≢ [] → HasUnfinished s.now
  has_unfinished some none = some (found.are ∙ ap (map (λ x. x.0)) none)

  -- nothing is to be taken away
  pub finished_same : ids ≡ [] → IsFinished s s
  finished_same none = record {
    is_open = found.is_open;
    held = λ t held. finished_now s.committed t (subst (λ db. Holds db t) (sym found.rests) held) (subst (λ l. Holds s.committed (without_all l t)) (sym none) held);
    same = λ t held whole. refl;
  }

  -- the bodies of these numbers are taken away
  pub finished_done : (new : State) → ids ≢ [] → IsDone s new (without_all ids) → IsFinished s new
  finished_done new some done = record {
    is_open = done.is_open;
    held = λ t held. let now = subst (λ db. Holds db t) (sym found.rests) held in finished_now new.committed t now (done.held t now);
    same = λ t held whole. absurd (some (none_if_whole t held whole));
  }

  pub may_finish : (trees : Trees) → MayCommit s (without_all ids) trees → MayCommit s finished trees
  may_finish trees h = (h.0, h.1, h.2, λ t held. finished_now h.0 t held (h.3 t held))

  -- without any numbers the database has the book itself
  pub same_book_finished : ids ≡ [] → KeepsFinished s.committed config (book_in_database s.committed config judged (shown_in config.suites (tables_in s.committed)) dates)
  same_book_finished none = finished_book s.committed (λ t held. subst (λ l. Holds s.committed (without_all l t)) (sym none) (subst (λ db. Holds db t) found.rests held))

  -- without any numbers the database is the archive's
  pub keeps_same : ids ≡ [] → ∥ KeepsArchive s.committed config judged (shown_in config.suites (tables_in s.committed)) dates ∥₁
  keeps_same none = keeps_finished s.committed (λ t held. subst (λ l. Holds s.committed (without_all l t)) (sym none) (subst (λ db. Holds db t) found.rests held))

  -- without any numbers the prints are known
  pub known_same : ids ≡ [] → (prints : List TextPrint) → ArePrintsOf (texts_in (tables_in s.now).texts) prints → ∥ AreKnown config (shown_in config.suites (tables_in s.committed)) dates prints ∥₁
  known_same none prints printed =
      known_finished prints printed s.committed (λ t held. subst (λ l. Holds s.committed (without_all l t)) (sym none) (subst (λ db. Holds db t) found.rests held))

  -- what is committed shows what was found
  pub shown_same : shown_in config.suites (tables_in s.committed) ≡ shown_in config.suites (tables_in s.now)
  shown_same = ap (λ db. shown_in config.suites (tables_in db)) (sym found.rests)

  pub whole_same : ids ≡ [] → HasComing (tables_in s.committed) []
  whole_same none = whole_finished s.committed (λ t held. subst (λ l. Holds s.committed (without_all l t)) (sym none) (subst (λ db. Holds db t) found.rests held))

-- ---- what was found before

module _ (old mid : State) (same : IsUnchanged old mid) where
  pub found_after : (config : ConfigValue) (judged : List Judgement) (dates ids : List ℕ) → old.now ≡ old.committed → IsArchiveOf old.now config judged dates → ids ≡ unfinished_ids (tables_in old.now).bodies
      → IsFound mid config judged dates ids
  found_after config judged dates ids rests archive are = record {
    is_open = same.0.is_open;
    rests = same.0.now_is ∙ rests ∙ sym same.0.committed_is;
    archive = subst (λ db. IsArchiveOf db config judged dates) (sym same.0.now_is) archive;
    are = are ∙ ap (λ db. unfinished_ids (tables_in db).bodies) (sym same.0.now_is);
  }

  pub finished_from : (new : State) → IsFinished mid new → IsFinished old new
  finished_from new h = record {
    is_open = h.is_open;
    held = λ t held. h.held t (subst (λ db. Holds db t) (sym same.0.committed_is) held);
    same = λ t held whole. h.same t (subst (λ db. Holds db t) (sym same.0.committed_is) held) whole ∙ same.0.committed_is;
  }

  pub book_from : {config : ConfigValue} {b : Book} → KeepsFinished mid.committed config b → KeepsFinished old.committed config b
  book_from {config} {b} h = subst (λ db. KeepsFinished db config b) same.0.committed_is h

  pub undone_after : (new : State) → IsUndone mid new → IsUndone old new
  undone_after new h = record { was_open = λ _. same.0.was_open; committed = λ up. h.committed up ∙ same.0.committed_is }

  pub unfinished_from : HasUnfinished mid.now → HasUnfinished old.now
  unfinished_from = subst HasUnfinished same.0.now_is

  pub may_from : (trees : Trees) → MayCommit mid finished trees → MayCommit old finished trees
  may_from trees h = (h.0, h.1, same.0.was_open, λ t held. h.3 t (subst (λ db. Holds db t) (sym same.0.now_is) held))
