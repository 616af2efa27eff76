-- The plain archive, to which each upload is handed whole and once.
use Rattle.std.specs.Prelude.{◌≡◌, ℕ, nat_eq, Bool, false, ◌&&◌, ◌||◌, not, if◌then◌else◌, List, [], ◌∷◌, ◌++◌, map, filter, find, zip, bytes_eq, Option, Some, None, option_map, option_to_list, unwrap_or, Result, Ok, slice_get}
use Rattle.std.specs.Option.{option_map_or, option_or}
use Rattle.std.specs.List.{list_any, flat_map, fold, enumerate_from}
use Rattle.std.specs.FinMap.{entries, values, get}
use Rattle.std.specs.Ordering.{match_ordering}
use Rattle.rules.specs.Values.{ConfigValue}
use Rattle.rules.specs.Judgement.{component}
use Rattle.rules.specs.Suites.{keeps_architecture, keeps_component}
use Rattle.rules.specs.declared.suite.Suite.{Suite}
use Rattle.rules.specs.Suites as rules
use Rattle.sums.specs.Prints.{print as print_of}
use Rattle.sums.specs.declared.entries.Entry.{Entry}
use Rattle.suites.specs.Items.{ItemWith, Admitted, on_shelf, item_with, item_of}
use Rattle.suites.specs.Keys.{text_order}
use Rattle.suites.specs.Plan.{given, admitted_if, is_removed}
use Rattle.suites.specs.Pool.{PoolWith, pool_of, files_with, pool_path}
use Rattle.suites.specs.Shelves.{ShelvesWith, ShelvesValue, shown}
use Rattle.suites.specs.Upload.{UploadValue, items_of}
use Rattle.suites.specs.Verdict.{Telling, verdict_with}
use Rattle.suites.specs.declared.item.Item.{Item}
use Rattle.suites.specs.declared.key.ShelfKey.{ShelfKey}
use Rattle.book.specs.Book.{Book, Candidate, body_for, upload_of}
use Rattle.book.specs.declared.arrival.Arrival.{Arrival}
use Rattle.book.specs.declared.change.Judgement.{Judgement}
use Rattle.history.specs.Before.{before_each}
use Rattle.history.specs.Histories.{Call, QueueRun, Copying, Removing, Promoting, Reply, Turn, History, arrived, counting, due_after}
use Rattle.history.specs.declared.fault.Fault.{Fault}

-- ---- what the plain archive has

-- an item with the bodies of its files
abbrev pub BodyItem : Type 0
BodyItem = ItemWith (List ℕ)

abbrev pub version_with : BodyItem → List ℕ
version_with item = item.version

-- All items that suites were ever given, in order, each with its shelf; the judged uploads; for each suite the moment at
-- which what it shows last changed.
pub record PlainArchive : Type 0 where
  pub admitted : List (Admitted (List ℕ))
  pub judged : List Judgement
  pub dates : List ℕ

-- what the suites show
abbrev pub shown_in : PlainArchive → ShelvesWith BodyItem
shown_in a = shown version_with a.admitted

-- the bodies of the files that they show
abbrev pub pool_in : PlainArchive → PoolWith (List ℕ)
pool_in a = pool_of (files_with (values (shown_in a)))

-- ---- dates

-- the second shows an item of the suite that the first does not show, by its shelf and the text of its version
unfoldable pub has_more : ℕ → ShelvesWith BodyItem → ShelvesWith BodyItem → Bool
has_more suite old new =
    list_any (λ e. nat_eq e.0.suite suite && not (option_map_or (λ x. bytes_eq x.version e.1.version) (get old e.0) false)) (entries new)

-- what the suite shows differs
unfoldable pub is_changed : ℕ → ShelvesWith BodyItem → ShelvesWith BodyItem → Bool
is_changed suite old new = has_more suite old new || has_more suite new old

-- the archive with these as all its items: the date of each suite whose shown items change becomes the moment
unfoldable pub with_admitted : ℕ → List (Admitted (List ℕ)) → PlainArchive → PlainArchive
with_admitted moment all a = record {
  admitted = all;
  judged = a.judged;
  dates = map (λ d. if is_changed d.0 (shown_in a) (shown version_with all) then moment else d.1) (enumerate_from 0 a.dates);
}

-- the archive with more items
abbrev pub with_items : ℕ → List (Admitted (List ℕ)) → PlainArchive → PlainArchive
with_items moment items a = with_admitted moment (a.admitted ++ items) a

-- ---- uploads

-- An upload handed over whole: its .changes, and a body for each entry.
pub record WholeUpload : Type 0 where
  pub upload : UploadValue
  pub bodies : List (List ℕ)

-- the body of the listed file of a name
unfoldable pub listed_body : WholeUpload → List ℕ → Option (List ℕ)
listed_body w name =
    option_map (λ p. p.1) (find (λ p. bytes_eq p.0.name name) (zip w.upload.changes.entries w.bodies))

-- the contents of a file: the body that the upload brings, or else that of the pool
unfoldable pub contents_of : WholeUpload → PoolWith (List ℕ) → Entry → List ℕ
contents_of w pool e = unwrap_or
    (option_or (listed_body w e.name) (get pool (pool_path (component w.upload.changes) w.upload.changes.source e.name))) []

-- each body describes itself, and a listed file has the body that the upload brings
abbrev pub by_body : WholeUpload → Telling (List ℕ)
by_body w = record { print = print_of; same = bytes_eq; of_entry = λ e. unwrap_or (listed_body w e.name) [] }

-- what an upload gives the plain archive: its items on the shelves of its suite
unfoldable pub items_given : ConfigValue → PlainArchive → WholeUpload → List (Admitted (List ℕ))
items_given config a w =
    given config w.upload (items_of (contents_of w (pool_in a)) w.upload (component w.upload.changes))

-- an upload is judged, and if it is accepted its suite is given its items
unfoldable pub whole : ConfigValue → ℕ → PlainArchive → WholeUpload → PlainArchive
whole config moment a w =
    let v = verdict_with (by_body w) (pool_in a) config w.upload in
    let b = with_items moment (admitted_if v (items_given config a w)) a in
    record b { judged = b.judged ++ record { name = w.upload.name; print = w.upload.print; verdict = v } ∷ [] }

-- ---- copies

-- the position of the suite with a codename
abbrev pub suite_named : ConfigValue → List ℕ → Option ℕ
suite_named config name = rules.suite_named config.suites name

-- the suite shows the item, which is of the source package
unfoldable pub is_shown_of : ℕ → List ℕ → ShelfKey × BodyItem → Bool
is_shown_of from source e = nat_eq e.0.suite from && bytes_eq e.1.source source

unfoldable pub is_kept_by : Suite → ShelfKey × BodyItem → Bool
is_kept_by target e = keeps_component target e.1.component && keeps_architecture target e.1.architecture

-- the items of the source package that the suite `from` shows and `to` keeps, on the shelves of `to`
unfoldable pub items_copied : ConfigValue → PlainArchive → ℕ → ℕ → List ℕ → List (Admitted (List ℕ))
items_copied config a from to source = flat_map
    (λ target. map (λ e. on_shelf to e.1) (filter (λ e. is_shown_of from source e && is_kept_by target e) (entries (shown_in a))))
    (option_to_list (slice_get config.suites to))

abbrev pub copied : ConfigValue → ℕ → PlainArchive → ℕ → ℕ → List ℕ → PlainArchive
copied config moment a from to source = with_items moment (items_copied config a from to source) a

-- ---- promotions

-- the names with one more at its place by the order of the bytes, unless it is among them
abbrev pub with_name : List (List ℕ) → List ℕ → List (List ℕ)
with_name [] name = name ∷ []
with_name (n ∷ names) name = match_ordering (text_order name n) (name ∷ n ∷ names) (n ∷ names) (n ∷ with_name names name)

-- these names in the order of their bytes, each once
unfoldable pub each_once : List (List ℕ) → List (List ℕ)
each_once names = fold with_name [] names

-- the source packages of which the suite shows an item, once for each item
unfoldable pub sources_shown : PlainArchive → ℕ → List (List ℕ)
sources_shown a from = map (λ e. e.1.source) (filter (λ e. nat_eq e.0.suite from) (entries (shown_in a)))

-- the source packages of a promotion: those that are named, else all of which the suite shows an item
abbrev pub sources_in : PlainArchive → ℕ → Option (List (List ℕ)) → List (List ℕ)
sources_in a from (Some sources) = each_once sources
sources_in a from None = each_once (sources_shown a from)

-- what copies of source packages in a row leave, each made from what those before it leave
abbrev pub copied_all : ConfigValue → ℕ → ℕ → ℕ → PlainArchive → List (List ℕ) → PlainArchive
copied_all config moment from to a sources = fold (λ now source. copied config moment now from to source) a sources

-- ---- removals

-- all items of the package leave the suite, superseded ones too
unfoldable pub removed : ℕ → PlainArchive → ℕ → List ℕ → PlainArchive
removed moment a suite name = with_admitted moment (filter (λ e. not (is_removed suite name e)) a.admitted) a

-- ---- the plain archive of a history

-- what is done to the plain archive
pub data Act : Type 0 where
  Whole : (upload : WholeUpload) (moment : ℕ) → Act
  Copy : (from : ℕ) (to : ℕ) (source : List ℕ) (moment : ℕ) → Act
  Remove : (suite : ℕ) (name : List ℕ) (moment : ℕ) → Act
  Promote : (from : ℕ) (to : ℕ) (sources : Option (List (List ℕ))) (moment : ℕ) → Act

abbrev pub acted : ConfigValue → PlainArchive → Act → PlainArchive
acted config a (Whole upload moment) = whole config moment a upload
acted config a (Copy from to source moment) = copied config moment a from to source
acted config a (Remove suite name moment) = removed moment a suite name
acted config a (Promote from to sources moment) = copied_all config moment from to a (sources_in a from sources)

-- an upload handed over whole: a .changes, and for each file that it lists the body that is among the arrivals
unfoldable pub whole_of : List Arrival → Candidate → WholeUpload
whole_of arrivals c = record { upload = upload_of arrivals c; bodies = map (body_for arrivals) c.changes.entries }

-- What a call after those before it does to the plain archive. A run that was done hands over each upload that is due at its
-- moment. A copy that was done copies, a removal that was done removes, and a promotion that was done copies each of its
-- source packages in turn. No other call does anything, not even a cleaning.
unfoldable pub acts_of : Book → List Turn → Call → Result Reply Fault → List Act
acts_of opening before (QueueRun moment) (Ok reply) =
    map (λ c. Whole (whole_of (counting opening before moment) c) moment) (due_after opening before moment)
acts_of opening before (Copying from to source moment) (Ok reply) = flat_map
    (λ f. map (λ t. Copy f t source moment) (option_to_list (suite_named opening.config to)))
    (option_to_list (suite_named opening.config from))
acts_of opening before (Removing suite name moment) (Ok reply) =
    map (λ s. Remove s name moment) (option_to_list (suite_named opening.config suite))
acts_of opening before (Promoting from to sources moment) (Ok reply) = flat_map
    (λ f. map (λ t. Promote f t sources moment) (option_to_list (suite_named opening.config to)))
    (option_to_list (suite_named opening.config from))
acts_of opening before call outcome = []

unfoldable pub all_acts : Book → List Turn → List Act
all_acts opening steps = flat_map (λ p. acts_of opening p.0 p.1.call p.1.outcome) (before_each steps)

-- an item with the bodies that a book has for its files
unfoldable pub with_bodies : Book → Item → BodyItem
with_bodies book item = record {
  kind = item.kind;
  «package» = item.package;
  architecture = item.architecture;
  version = item.version;
  component = item.component;
  source = item.source;
  paragraph = item.paragraph;
  files = map (λ f. record { path = f.path; contents = unwrap_or (book.files f.path) [] }) item.files;
}

-- the plain archive of a book: its shown items with the bodies of their files
unfoldable pub archive_of : Book → PlainArchive
archive_of book = record {
  admitted = map (λ e. (e.0, with_bodies book e.1)) (entries book.shown);
  judged = book.judged;
  dates = book.dates;
}

-- the plain archive of a history
unfoldable pub archive : History → PlainArchive
archive h = fold (acted h.opening.config) (archive_of h.opening) (all_acts h.opening h.steps)

-- ---- the view of an archive

-- an item by the prints of its files
abbrev pub printed : Admitted (List ℕ) → ShelfKey × Item
printed e = (e.0, item_of (item_with print_of e.1))

-- what the suites show, by prints
unfoldable pub shown_by_print : PlainArchive → ShelvesValue
shown_by_print a = shown (λ item. item.version) (map printed a.admitted)

-- the book of these arrivals and this plain archive
unfoldable pub book_from : ConfigValue → List Arrival → PlainArchive → Book
book_from config arrivals a = record {
  config = config;
  arrivals = arrivals;
  judged = a.judged;
  shown = shown_by_print a;
  files = get (pool_in a);
  dates = a.dates;
}

-- the book that a history leaves
unfoldable pub book_of : History → Book
book_of h = book_from h.opening.config (arrived h.opening h.steps) (archive h)

-- the book is the one that the history leaves
abbrev pub Stands : Book → History → Type 0
Stands book h = book ≡ book_of h
