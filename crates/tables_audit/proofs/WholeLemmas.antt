-- From the parts of an archive to the whole, and back.
use Rattle.std.proofs.Common.{◌≡◌, ℕ, true, false, true≢false, refl, List, [], ◌∷◌, Option, None, Some, Result, Ok, Err, IfErr, IfOk, IfSome, IsTrue, is_some, length, map, IsPermutation, sym, ap, subst, ◌∙◌, arith}
use Rattle.std.specs.List.{zip}
use Rattle.rules.specs.Configuration.{config_in}
use Rattle.rules.specs.Values.{ConfigValue}
use Rattle.suites.specs.Told.{AreTold}
use Rattle.suites.specs.Shelves.{AreSound, ShelvesValue}
use Rattle.std.proofs.lemmas.List.Sorted.{IsPermutation-sym, IsPermutation-trans}
use Rattle.indices.specs.Indices.{all_texts}
use Rattle.indices.proofs.Paths.{config_codenames}
use Rattle.book.specs.declared.change.Judgement.{Judgement}
use Rattle.tables.specs.Rows.{Tables, rows_of}
use Rattle.tables.specs.declared.rows.Meta.{Meta}
use Rattle.tables.specs.declared.meta.TheConstants.{VERSION}
use Rattle.tables_read.specs.All.{AreConstrained}
use Rattle.tables_meaning.specs.Kept.{AreFiles, AreItems, AreReadable, AreSigned, AreUploads, IsBook, date_row, has_body}
use Rattle.tables_meaning.specs.OneBook.{first_same, one_configuration, same_dates, same_judged, same_shown}
use Rattle.tables_audit.specs.Whole.{KeepsNone, RestFits, ShownFits}
use Rattle.tables_audit.specs.Parts.{ArrivalsFit, BodiesFit, UploadsFit}

-- ---- answers

pub if_ok : {X E : Type 0} (P Q : X → Type 0) (r : Result X E) → ((x : X) → P x → Q x) → IfOk r P → IfOk r Q
if_ok P Q (Ok x) f h = f x h
if_ok P Q (Err e) f h = h

pub if_some : {X : Type 0} (P Q : X → Type 0) (o : Option X) → ((x : X) → P x → Q x) → IfSome o P → IfSome o Q
if_some P Q (Some x) f h = f x h
if_some P Q None f h = h

pub if_err : {X E : Type 0} (P Q : E → Type 0) (r : Result X E) → ((e : E) → P e → Q e) → IfErr r P → IfErr r Q
if_err P Q (Ok x) f h = h
if_err P Q (Err e) f h = f e h

pub ok_both : {X E : Type 0} (P Q R : X → Type 0) (r : Result X E) → ((x : X) → P x → Q x → R x) → IfOk r P → IfOk r Q → IfOk r R
ok_both P Q R (Ok x) f h k = f x h k
ok_both P Q R (Err e) f h k = h

pub err_both : {X E : Type 0} (P Q R : E → Type 0) (r : Result X E) → ((e : E) → P e → Q e → R e) → IfErr r P → IfErr r Q → IfErr r R
err_both P Q R (Ok x) f h k = h
err_both P Q R (Err e) f h k = f e h k

pub at_some : {X : Type 0} (P : X → Type 0) (o : Option X) (x : X) → o ≡ Some x → IfSome o P → P x
at_some P o x is h = subst (λ p. IfSome p P) is h

pub some_there : {X : Type 0} (o : Option X) (x : X) → o ≡ Some x → IsTrue (is_some o)
some_there o x is = subst (λ p. IsTrue (is_some p)) (sym is) refl

pub none_there : {X : Type 0} (o : Option X) → o ≡ None → IsTrue (is_some o) → ⊥
none_there o is some = true≢false (sym (subst (λ p. IsTrue (is_some p)) is some))

-- ---- the parts make the whole

fit_uploads : (t : Tables) (judged : List Judgement) → AreConstrained t → UploadsFit t judged → AreUploads t judged
fit_uploads t judged keys fit = record {
  waiting = fit.waiting;
  owned = fit.owned;
  unjudged = fit.unjudged;
  places = fit.places;
  from_one = fit.from_one;
  placed_apart = λ i j d lt within set. keys.places_apart i j d lt within (λ none. let both : false ≡ true = subst (λ p. IsTrue (is_some p)) none set in cc);
  apart = keys.uploads_apart;
}

pub whole : (t : Tables) (config : ConfigValue) (judged : List Judgement) (shown : ShelvesValue) (dates : List ℕ) → AreConstrained t
    → rows_of t.meta ≡ record { version = VERSION; configuration = config.text } ∷ [] → config_in config.text ≡ Ok config → BodiesFit t → ArrivalsFit t → RestFits t config judged shown dates
    → IsBook t config judged shown dates
unfolding has_body
whole t config judged shown dates keys meta read bodies arrivals rest = record {
  meta = meta;
  read = read;
  sound = rest.shows.sound;
  told = rest.shows.told;
  signed = rest.signed;
  bodies = record {
    whole = bodies.whole;
    pieces = bodies.pieces;
    apart = λ i j d lt within. keys.bodies_apart i j d lt within (λ none. let both : None ≡ Some _ = sym none ∙ bodies.whole i d (omega arith) in cc);
    used = bodies.used;
    owned = keys.pieces_owned;
  };
  arrivals = record { bodies = keys.arrivals_owned; apart = keys.arrivals_apart; deliverable = arrivals };
  uploads = fit_uploads t judged keys rest.uploads;
  items = rest.shows.items;
  files = rest.shows.files;
  texts = rest.shows.texts;
  date_rows = rest.date_rows;
  dated = rest.dated;
  in_range = rest.in_range;
}

-- ---- from the whole to the parts

module _ (t : Tables) (config : ConfigValue) (judged : List Judgement) (shown : ShelvesValue) (dates : List ℕ) (h : IsBook t config judged shown dates) where
  pub bodies_fit : BodiesFit t
  bodies_fit = record { whole = h.bodies.whole; pieces = h.bodies.pieces; used = h.bodies.used }

  pub shown_fits : ShownFits t config shown dates
  shown_fits = record { sound = h.sound; told = h.told; items = h.items; files = h.files; texts = h.texts }

  pub rest_fits : RestFits t config judged shown dates
  rest_fits = record {
    uploads = record { waiting = h.uploads.waiting; owned = h.uploads.owned; unjudged = h.uploads.unjudged; places = h.uploads.places; from_one = h.uploads.from_one };
    signed = h.signed;
    date_rows = h.date_rows;
    dated = h.dated;
    in_range = h.in_range;
    shows = shown_fits;
  }

-- the rows of items show one thing
pub same_as : (t : Tables) (config : ConfigValue) (shelves shown : ShelvesValue) (dates : List ℕ) → AreItems t config.suites shelves × AreSound shelves × AreReadable t → ShownFits t config shown dates → shown ≡ shelves
same_as t config shelves shown dates h fits = same_shown t config.suites shown shelves fits.items h.0 fits.sound.at_home h.1.at_home

-- if what the rows show is not as its records say, or lacks its files or its texts, nothing fits
pub not_told : (t : Tables) (config : ConfigValue) (shelves shown : ShelvesValue) (dates : List ℕ) → AreItems t config.suites shelves × AreSound shelves × AreReadable t → ShownFits t config shown dates
    → (AreTold config.suites shelves → ⊥) → ⊥
not_told t config shelves shown dates h fits none = none (subst (AreTold config.suites) (same_as t config shelves shown dates h fits) fits.told)

pub no_files : (t : Tables) (config : ConfigValue) (shelves shown : ShelvesValue) (dates : List ℕ) → AreItems t config.suites shelves × AreSound shelves × AreReadable t → ShownFits t config shown dates
    → (AreFiles t shelves → ⊥) → ⊥
no_files t config shelves shown dates h fits none = none (subst (AreFiles t) (same_as t config shelves shown dates h fits) fits.files)

pub no_texts : (t : Tables) (config : ConfigValue) (shelves shown : ShelvesValue) (dates : List ℕ) → AreItems t config.suites shelves × AreSound shelves × AreReadable t → ShownFits t config shown dates
    → (IsPermutation (map (λ x. (x.path, x.body)) (rows_of t.texts)) (all_texts config shelves dates) → ⊥) → ⊥
no_texts t config shelves shown dates h fits none =
    none (subst (λ s. IsPermutation (map (λ x. (x.path, x.body)) (rows_of t.texts)) (all_texts config s dates)) (same_as t config shelves shown dates h fits) fits.texts)

-- if the judged uploads may not have been delivered, nothing fits
pub not_signed : (t : Tables) (config : ConfigValue) (found judged : List Judgement) (shown : ShelvesValue) (dates : List ℕ) → AreConstrained t → UploadsFit t found
    → RestFits t config judged shown dates → (AreSigned found → ⊥) → ⊥
not_signed t config found judged shown dates keys fit rest none =
    none (subst AreSigned (same_judged t judged found (fit_uploads t judged keys rest.uploads) (fit_uploads t found keys fit)) rest.signed)

-- if nothing is shown with these dates, no dates will do
pub no_shown : (t : Tables) (config : ConfigValue) (judged : List Judgement) (shown : ShelvesValue) (dates others : List ℕ) → config_in config.text ≡ Ok config
    → RestFits t config judged shown others → IsPermutation (rows_of t.dates) (map date_row (zip config.suites dates)) → length dates ≡ length config.suites → ((s : ShelvesValue) → ShownFits t config s dates → ⊥) → ⊥
no_shown t config judged shown dates others read rest rows long none =
    let same : others ≡ dates =
    same_dates config.suites others dates (config_codenames config read) rest.dated long (IsPermutation-trans _ _ _ (IsPermutation-sym _ _ rest.date_rows) rows) in
    none shown (subst (ShownFits t config shown) same rest.shows)

-- if this configuration keeps no archive, no other does
pub no_other : (t : Tables) (config : ConfigValue) → rows_of t.meta ≡ record { version = VERSION; configuration = config.text } ∷ [] → config_in config.text ≡ Ok config
    → ((judged : List Judgement) (shown : ShelvesValue) (dates : List ℕ) → RestFits t config judged shown dates → ⊥) → KeepsNone t
no_other t config meta read none other judged shown dates h =
    let row : record { version = VERSION; configuration = other.text } ≡ record { version = VERSION; configuration = config.text } = first_same _ _ _ _ (sym h.meta ∙ meta) in
    let text : other.text ≡ config.text = ap (λ (m : Meta). m.configuration) row in
    let same : other ≡ config = one_configuration other config h.read read text in
    none judged shown dates (subst (λ c. RestFits t c judged shown dates) same (rest_fits t other judged shown dates h))
