-- The verdict on an upload that is handed over whole is the one by prints.
use Rattle.std.proofs.Common.{◌≡◌, ℕ, Bool, false, not, ◌&&◌, codes, is_some, List, [], ◌∷◌, ◌++◌, Option, Some, None, option_map, unwrap_or, refl, sym, ap, ap₂, ◌∙◌}
use Rattle.std.specs.Prelude.{Contains}
use Rattle.std.specs.FinMap.{get}
use Rattle.std.specs.List.{list_any}
use Rattle.std.specs.Option.{option_map_or}
use Rattle.std.specs.Str.{bytes_eq}
use mathlib.Core.Path.{fun_ext}
use Rattle.std.proofs.lemmas.Slice.Eq.{bytes_eq-Decides}
use Rattle.book.proofs.Arrivals.{any_same}
use Rattle.book.specs.Keeping.{NoCollision}
use Rattle.book.proofs.Prints.{same_print-Decides}
use Rattle.records.specs.Records.{dsc_in}
use Rattle.records.specs.Values.{ChangesValue, DscValue}
use Rattle.rules.specs.Judgement.{rule_rows}
use Rattle.rules.specs.Sizes.{largest}
use Rattle.rules.specs.Values.{ConfigValue}
use Rattle.rules.specs.Verdicts.{first_row}
use Rattle.rules.specs.declared.verdict.Verdict.TheVariants as verdict
use Rattle.sums.proofs.Members.{there}
use Rattle.sums.specs.Prints.{print as print_of, same_print}
use Rattle.sums.specs.declared.entries.Entry.{Entry}
use Rattle.sums.specs.declared.print.Print.{Print}
use Rattle.suites.proofs.Prints.{same_print-equal}
use Rattle.suites.specs.Shelves.{pool}
use Rattle.suites.specs.Upload.{UploadValue, Part, dsc_parts, entry_named, has_suffix}
use Rattle.suites.specs.Verdict.{by_print, has_bad_dsc, has_bad_listing, has_bad_sidecar, has_other_contents, is_missing_file, is_taken, lacks_source_file, match_ok, path_of, verdict_on, verdict_with}
use Rattle.suites.proofs.ListTests.{same_tests}
use Rattle.history.specs.Archives.{PlainArchive, WholeUpload, by_body, listed_body, pool_in, shown_by_print}
use Rattle.history.proofs.ContentsListed.{HasItsBodies, entry_body}
use Rattle.history.proofs.PoolPrints.{get-pool}

-- The bodies of the upload and of the pool are among these, and no two of these have one print.
pub record AreKnown (bodies : List (List ℕ)) (a : PlainArchive) (w : WholeUpload) : Type 0 where
  pub apart : NoCollision bodies
  pub pooled : (path body : List ℕ) → get (pool_in a) path ≡ Some body → Contains bodies body
  pub brought : (body : List ℕ) → Contains w.bodies body → Contains bodies body

-- ---- tests

map_or-map : {X Y : Type 0} (f : X → Y) (test : Y → Bool) (o : Option X) → option_map_or test (option_map f o) false ≡ option_map_or (λ x. test (f x)) o false
map_or-map f test None = refl
map_or-map f test (Some x) = refl

-- ---- row 8

missing-printed : (a : PlainArchive) (w : WholeUpload) (c : ChangesValue) (e : Entry)
    → is_missing_file by_print (pool (shown_by_print a)) c e ≡ is_missing_file (by_body w) (pool_in a) c e
unfolding is_missing_file
missing-printed a w c e =
    ap (λ b. not (is_some (entry_named e.name c.entries)) && not b)
    (ap (λ o. option_map_or (λ there. same_print there e.print) o false) (get-pool a (path_of c e))
    ∙ map_or-map print_of (λ there. same_print there e.print) (get (pool_in a) (path_of c e)))

pub lacks-printed : (a : PlainArchive) (w : WholeUpload) (u : UploadValue) → lacks_source_file by_print (pool (shown_by_print a)) u ≡ lacks_source_file (by_body w) (pool_in a) u
unfolding lacks_source_file
lacks-printed a w u =
    ap (λ (missing : Entry → Bool). list_any (λ (part : Part). match_ok (dsc_in part.1) (λ (d : DscValue). list_any missing d.entries)) (dsc_parts u))
    (fun_ext (missing-printed a w u.changes))

-- ---- row 9

-- a body of the pool is the entry's if its print is
same_body : (bodies : List (List ℕ)) (there body : List ℕ) (print : Print) → NoCollision bodies → Contains bodies there → Contains bodies body → print_of body ≡ print
    → same_print (print_of there) print ≡ bytes_eq there body
same_body bodies there body print apart p q is = same_tests _ _
    (λ h. (bytes_eq-Decides there body).1 (apart there body p q (same_print-equal (print_of there) print h ∙ sym is)))
    (λ h. ((same_print-Decides (print_of there) print).1 (ap print_of ((bytes_eq-Decides there body).0 h) ∙ is)))

taken_held : (bodies : List (List ℕ)) (a : PlainArchive) (w : WholeUpload) (e : Entry) → AreKnown bodies a w → HasItsBodies w → Contains w.upload.changes.entries e
    → (path : List ℕ) (held : Option (List ℕ)) → get (pool_in a) path ≡ held
    → option_map_or (λ there. not (same_print there e.print)) (option_map print_of held) false ≡ option_map_or (λ there. not (bytes_eq there (unwrap_or (listed_body w e.name) []))) held false
taken_held bodies a w e known whole at path None h = refl
taken_held bodies a w e known whole at path (Some there) h =
    let mine = entry_body w e whole at in
    ap not (same_body bodies there mine.body e.print known.apart (known.pooled path there h) (known.brought mine.body mine.body_in) mine.print)
    ∙ ap (λ o. not (bytes_eq there (unwrap_or o []))) (sym mine.found)

taken-printed : (bodies : List (List ℕ)) (a : PlainArchive) (w : WholeUpload) → AreKnown bodies a w → HasItsBodies w → (e : Entry) → Contains w.upload.changes.entries e
    → is_taken by_print (pool (shown_by_print a)) w.upload.changes e ≡ is_taken (by_body w) (pool_in a) w.upload.changes e
unfolding is_taken
taken-printed bodies a w known whole e at =
    let path = path_of w.upload.changes e in
    ap (λ b. not (has_suffix (codes ".control") e.name) && b)
    (ap (λ o. option_map_or (λ there. not (same_print there e.print)) o false) (get-pool a path)
    ∙ taken_held bodies a w e known whole at path (get (pool_in a) path) refl)

pub other-printed : (bodies : List (List ℕ)) (a : PlainArchive) (w : WholeUpload) → AreKnown bodies a w → HasItsBodies w
    → has_other_contents by_print (pool (shown_by_print a)) w.upload ≡ has_other_contents (by_body w) (pool_in a) w.upload
unfolding has_other_contents
other-printed bodies a w known whole =
    any_same (is_taken by_print (pool (shown_by_print a)) w.upload.changes) (is_taken (by_body w) (pool_in a) w.upload.changes) w.upload.changes.entries (taken-printed bodies a w known whole)

-- ---- the verdict

-- The verdict by prints is that by bodies, if no two of the known bodies have one print.
pub verdict-printed : (bodies : List (List ℕ)) (config : ConfigValue) (a : PlainArchive) (w : WholeUpload) → AreKnown bodies a w → HasItsBodies w
    → verdict_on config (shown_by_print a) w.upload ≡ verdict_with (by_body w) (pool_in a) config w.upload
verdict-printed bodies config a w known whole =
    let u = w.upload in
    ap₂ (λ lacks other. first_row (rule_rows config u.changes
    ++ (has_bad_listing u.changes, verdict.BadListing)
    ∷ (has_bad_dsc (largest config) u, verdict.BadDsc)
    ∷ (has_bad_sidecar u, verdict.BadSidecar)
    ∷ (lacks, verdict.NotInPool)
    ∷ (other, verdict.OtherContents)
    ∷ []))
    (lacks-printed a w u) (other-printed bodies a w known whole)
