-- The archive after a delivery.
use Rattle.std.proofs.Common.{◌≡◌, ◌≢◌, ◌≤◌, ℕ, true, if◌then◌else◌, List, map, find, zip, All, AllPairs, Option, Some, None, option_map, option_and_then, IsTrue, IsPermutation, refl, sym, ap, subst, ◌∙◌}
use Rattle.std.proofs.Math.Path.{fun_ext}
use Rattle.std.specs.Result.{result_ok}
use Rattle.std.proofs.lemmas.List.Elements.{All-weaker, recursion_from_All}
use Rattle.records.specs.Records.{changes_in}
use Rattle.rules.specs.Values.{ConfigValue}
use Rattle.sums.specs.Prints.{print as print_of}
use Rattle.sums.specs.declared.entries.Entry.{Entry}
use Rattle.suites.specs.Shelves.{ShelvesValue}
use Rattle.book.specs.Book.{latest, with_arrival, with_delivery}
use Rattle.sums.specs.FileNames.{is_changes_name}
use Rattle.book.specs.Keeping.{IsDeliverable}
use Rattle.book.specs.declared.arrival.Arrival.{Arrival}
use Rattle.book.specs.declared.change.Judgement.{Judgement}
use Rattle.tables.specs.Bodies.{body_with}
use Rattle.tables.specs.Files.{is_file_at}
use Rattle.tables.specs.Rows.{Tables, rows_of}
use Rattle.tables.specs.declared.rows.File.{File}
use Rattle.indices.specs.Indices.{all_texts}
use Rattle.tables_meaning.specs.Kept.{AreFiles, AreNumbered, IsBook, arrivals_in, book_in, bytes_of, date_row, files_in, has_body, print_at}
use Rattle.tables_meaning.specs.Making.{with_delivered}
use Rattle.tables_meaning.proofs.ArrivalLemmas.{delivered_bodies, here_is_there}
use Rattle.tables_meaning.proofs.DeliveryRows.{delivery_leaves}
use Rattle.tables_meaning.proofs.LikeLemmas.{items_like}
use Rattle.tables_meaning.proofs.RowLists.{found_holds}
use Rattle.tables_meaning.proofs.UploadLemmas.{delivered_uploads}

-- what two functions make of a file that is found, if they make the same of each file
alike_of_found : {Y : Type 0} (f g : File → Y) (files : List File) (path : List ℕ) → All (λ x. f x ≡ g x) files → option_map f (find (is_file_at path) files) ≡ option_map g (find (is_file_at path) files)
alike_of_found {Y} f g files path all = go (find (is_file_at path) files) refl
  where
    go : (o : Option File) → find (is_file_at path) files ≡ o → option_map f o ≡ option_map g o
    go None e = refl
    go (Some x) e = ap Some (found_holds (is_file_at path) (λ x. f x ≡ g x) files x (recursion_from_All (λ x. f x ≡ g x) files all) e)

joined : {X Y : Type 0} (f : X → Option Y) (o : Option X) → option_and_then f o ≡ option_and_then (λ x. x) (option_map f o)
joined f None = refl
joined f (Some x) = refl

-- each body that is there stays, with its bytes and its print
record BodiesStay (old new : Tables) : Type 0 where
  bytes : (id : ℕ) → has_body old id ≡ true → bytes_of new id ≡ bytes_of old id
  print : (id : ℕ) → has_body old id ≡ true → print_at new id ≡ print_at old id
  there : (id : ℕ) → has_body old id ≡ true → has_body new id ≡ true

files_stay : (old new : Tables) (shown : ShelvesValue) → BodiesStay old new → new.files ≡ old.files → AreFiles old shown → AreFiles new shown
files_stay old new shown stay files h = record {
  are = λ path.
      ap (λ l. option_and_then (λ f. print_at new f.body) (find (is_file_at path) (rows_of l))) files
      ∙ joined (λ f. print_at new f.body) (find (is_file_at path) (rows_of old.files))
      ∙ ap (option_and_then (λ x. x)) (alike_of_found (λ f. print_at new f.body) (λ f. print_at old f.body) (rows_of old.files) path
      (All-weaker (λ f. IsTrue (has_body old f.body)) (λ f. print_at new f.body ≡ print_at old f.body) (λ f. stay.print f.body) (rows_of old.files) h.bodies))
      ∙ sym (joined (λ f. print_at old f.body) (find (is_file_at path) (rows_of old.files)))
      ∙ h.are path;
  bodies = subst (λ l. All (λ f. IsTrue (has_body new f.body)) (rows_of l)) (sym files)
      (All-weaker (λ f. IsTrue (has_body old f.body)) (λ f. IsTrue (has_body new f.body)) (λ f. stay.there f.body) (rows_of old.files) h.bodies);
  apart = subst (λ l. AllPairs (λ f g. f.path ≢ g.path) (rows_of l)) (sym files) h.apart;
}

same_files : (old new : Tables) (shown : ShelvesValue) → BodiesStay old new → new.files ≡ old.files → AreFiles old shown → files_in new ≡ files_in old
unfolding files_in
same_files old new shown stay files h = fun_ext (λ path.
    ap (λ l. option_map (λ f. bytes_of new f.body) (find (is_file_at path) (rows_of l))) files
    ∙ alike_of_found (λ f. bytes_of new f.body) (λ f. bytes_of old f.body) (rows_of old.files) path
    (All-weaker (λ f. IsTrue (has_body old f.body)) (λ f. bytes_of new f.body ≡ bytes_of old f.body) (λ f. stay.bytes f.body) (rows_of old.files) h.bodies))

same_book : (config : ConfigValue) (judged : List Judgement) (shown : ShelvesValue) (dates : List ℕ) (old new : Tables) (a : Arrival)
    → arrivals_in new ≡ with_arrival (arrivals_in old) a → files_in new ≡ files_in old → book_in config judged shown dates new ≡ with_delivery (book_in config judged shown dates old) a
unfolding book_in
same_book config judged shown dates old new a arrivals files = λ i. record { config = config; arrivals = arrivals i; judged = judged; shown = shown; files = files i; dates = dates }

-- The tables keep the archive with the delivery.
pub record IsDelivered (old new : Tables) (config : ConfigValue) (judged : List Judgement) (shown : ShelvesValue) (dates : List ℕ) (a : Arrival) : Type 0 where
  pub kept : IsBook new config judged shown dates
  pub numbered : AreNumbered new
  pub book : book_in config judged shown dates new ≡ with_delivery (book_in config judged shown dates old) a

pub delivered_archive : (t : Tables) (config : ConfigValue) (judged : List Judgement) (shown : ShelvesValue) (dates : List ℕ) (name bytes : List ℕ) (moment : ℕ) (listed : Option (List Entry))
    → AreNumbered t → IsBook t config judged shown dates → moment ≤ latest → IsDeliverable name bytes
    → ((found : ℕ) → body_with (print_of bytes) t.bodies ≡ Some found → bytes_of t found ≡ bytes)
    → listed ≡ (if is_changes_name name then option_map (λ c. c.entries) (result_ok (changes_in bytes)) else None)
    → IsDelivered t (with_delivered name (print_of bytes) bytes moment listed t) config judged shown dates (record { name = name; body = bytes; moment = moment })
delivered_archive t config judged shown dates name bytes moment listed numbered kept in_range deliverable stored is_listed =
    let new = with_delivered name (print_of bytes) bytes moment listed t in
    let core = delivered_bodies t numbered kept.bodies kept.arrivals name bytes moment in_range deliverable stored listed in
    let leaves = delivery_leaves name (print_of bytes) bytes moment listed t in
    let stay : BodiesStay t new = record { bytes = core.bytes_kept; print = core.print_kept; there = core.body_kept } in
    record {
      kept = record {
        meta = ap rows_of leaves.meta ∙ kept.meta;
        read = kept.read;
        sound = kept.sound;
        told = kept.told;
        signed = kept.signed;
        bodies = core.bodies;
        arrivals = core.arrivals;
        uploads = delivered_uploads t judged name bytes moment listed numbered kept.uploads kept.bodies kept.arrivals stored is_listed core.arrived (here_is_there new core.bodies core.arrivals);
        items = items_like t new config.suites shown leaves.items leaves.refs kept.items;
        files = files_stay t new shown stay leaves.files kept.files;
        texts = subst (λ l. IsPermutation (map (λ x. (x.path, x.body)) (rows_of l)) (all_texts config shown dates)) (sym leaves.texts) kept.texts;
        date_rows = subst (λ l. IsPermutation (rows_of l) (map date_row (zip config.suites dates))) (sym leaves.dates) kept.date_rows;
        dated = kept.dated;
        in_range = kept.in_range;
      };
      numbered = leaves.numbered numbered;
      book = same_book config judged shown dates t new (record { name = name; body = bytes; moment = moment }) core.arrived (same_files t new shown stay leaves.files kept.files);
    }
