-- The rows of an archive, under another configuration, are those of an archive.
use Rattle.std.proofs.Common.{◌≡◌, ◌≢◌, ◌≤◌, ℕ, true, Ok, List, [], ◌∷◌, map, fold, length, sym, ap, subst, ◌∙◌}
use Rattle.std.specs.Prelude.{All, AllPairs}
use Rattle.std.specs.List.{zip}
use Rattle.std.proofs.lemmas.List.{map-id}
use Rattle.std.proofs.lemmas.Simd.{map-map}
use Rattle.rules.specs.Configuration.{config_in}
use Rattle.rules.specs.Values.{ConfigValue}
use Rattle.suites.specs.Moved.{all_stay, moved}
use Rattle.suites.specs.Shelves.{ShelvesValue}
use Rattle.suites.proofs.MovedLemmas.{pool_moved, sound_moved, told_moved}
use Rattle.indices.specs.Indices.{all_texts}
use Rattle.book.specs.Book.{latest}
use Rattle.book.specs.Configured.{reconfigured}
use Rattle.book.specs.declared.change.Judgement.{Judgement}
use Rattle.tables.specs.Metas.{with_configuration}
use Rattle.sqlite.specs.Effect.{Database}
use Rattle.tables.specs.Rows.{Holds, Numbered, Tables, added, changed, rows_of, tables_in}
use Rattle.tables.specs.declared.rows.Meta.{Meta}
use Rattle.tables.specs.declared.meta.TheConstants.{VERSION}
use Rattle.tables_meaning.specs.Archives.{KeepsArchive}
use Rattle.tables_meaning.specs.Configuring.{Reconfigures, new_dates, new_texts, with_configured}
use Rattle.tables_meaning.specs.Finished.{AreUnderWay, finished}
use Rattle.tables_meaning.specs.Founding.{with_texts}
use Rattle.tables_meaning.specs.Kept.{AreArrivals, AreBodies, AreFiles, AreItems, AreUploads, IsBook, arrivals_in, book_in, bytes_of, date_row, files_in, has_body, is_used, wants_in}
use Rattle.indices.proofs.Paths.{config_codenames}
use Rattle.tables_meaning.proofs.ConfiguredItems.{items_moved}
use Rattle.tables_meaning.proofs.FoundKept.{dates_are, rows_all, same_pairs, text_row, texts_are}
use Rattle.sqlite_keyed.proofs.ListLemmas.{IsPermutation-same}
use Rattle.tables_meaning.proofs.UnderWayLemmas.{like_under_way}

-- only three tables have other rows
pub configured_are : (config : ConfigValue) (shown : ShelvesValue) (dates : List ℕ) (t : Tables)
    → with_configured config shown dates t ≡ record t { meta = (with_configuration config.text t).meta; texts = new_texts config shown dates; dates = new_dates config dates }
unfolding with_configured
configured_are config shown dates t =
    let bare : Tables = record t { meta = (with_configuration config.text t).meta; texts = []; dates = [] } in
    let rows = map date_row (zip config.suites dates) in
    dates_are rows (with_texts (all_texts config shown dates) bare)
    ∙ ap (λ (u : Tables). record u { dates = fold (λ now d. added now d) u.dates rows }) (texts_are (all_texts config shown dates) bare)

-- the one row of `meta` has the new text
meta_is : (text : List ℕ) (rows : Numbered Meta) (m : Meta) → rows_of rows ≡ m ∷ [] → rows_of (changed (λ _. true) (λ x. record x { configuration = text }) rows) ≡ record m { configuration = text } ∷ []
meta_is text [] m e = cc
meta_is text (x ∷ []) m e = let one : x.1 ≡ m = ap (λ (l : List Meta). first_or m l) e in ap (λ (y : Meta). record y { configuration = text } ∷ []) one
  where
    first_or : Meta → List Meta → Meta
    first_or d [] = d
    first_or d (y ∷ ys) = y
meta_is text (x ∷ y ∷ rows) m e = cc

module _ (t : Tables) (config other : ConfigValue) (judged : List Judgement) (shown : ShelvesValue) (was dates : List ℕ) (kept : IsBook t config judged shown was)
    (read : config_in other.text ≡ Ok other) (stay : all_stay config.suites other.suites shown ≡ true) (dated : length dates ≡ length other.suites) (in_range : All (λ d. d ≤ latest) dates) where
  abbrev now : ShelvesValue
  now = moved config.suites other.suites shown

  abbrev turned : Tables
  turned = record t { meta = (with_configuration other.text t).meta; texts = new_texts other now dates; dates = new_dates other dates }

  abbrev names : AllPairs (λ s r. s.codename ≢ r.codename) config.suites
  names = config_codenames config kept.read

  bodies_stay : AreBodies turned
  unfolding bytes_of has_body is_used
  bodies_stay = record { whole = kept.bodies.whole; pieces = kept.bodies.pieces; apart = kept.bodies.apart; used = kept.bodies.used; owned = kept.bodies.owned }

  arrivals_stay : AreArrivals turned
  unfolding bytes_of has_body arrivals_in
  arrivals_stay = record { bodies = kept.arrivals.bodies; apart = kept.arrivals.apart; deliverable = kept.arrivals.deliverable }

  uploads_stay : AreUploads turned judged
  unfolding wants_in arrivals_in bytes_of
  uploads_stay = record {
    waiting = kept.uploads.waiting;
    owned = kept.uploads.owned;
    unjudged = kept.uploads.unjudged;
    places = kept.uploads.places;
    from_one = kept.uploads.from_one;
    placed_apart = kept.uploads.placed_apart;
    apart = kept.uploads.apart;
  }

  items_turn : AreItems turned other.suites now
  items_turn =
      let h = items_moved t config.suites other.suites names (config_codenames other read) shown kept.items stay in
      record { are = h.are; all = h.all; within = h.within; rows = h.rows; apart = h.apart; owned = h.owned }

  files_turn : AreFiles turned now
  unfolding has_body
  files_turn = record {
    are = λ path. kept.files.are path ∙ sym (pool_moved config.suites other.suites names shown stay kept.sound.agreed path);
    bodies = kept.files.bodies;
    apart = kept.files.apart;
  }

  turned_kept : IsBook turned other judged now dates
  turned_kept = record {
    meta = meta_is other.text t.meta (record { version = VERSION; configuration = config.text }) kept.meta;
    read = read;
    sound = sound_moved config.suites other.suites names shown kept.sound;
    told = told_moved config.suites other.suites names shown stay config.suites kept.told;
    signed = kept.signed;
    bodies = bodies_stay;
    arrivals = arrivals_stay;
    uploads = uploads_stay;
    items = items_turn;
    files = files_turn;
    texts =
        IsPermutation-same _ _
        (ap (map (λ x. (x.path, x.body))) (rows_all text_row (all_texts other now dates) [])
        ∙ map-map (λ x. (x.path, x.body)) text_row (all_texts other now dates) ∙ same_pairs (all_texts other now dates));
    date_rows = IsPermutation-same _ _ (rows_all (λ d. d) (map date_row (zip other.suites dates)) [] ∙ map-id (map date_row (zip other.suites dates)));
    dated = dated;
    in_range = in_range;
  }

  -- THE ARCHIVE under another configuration
  pub configured_archive : IsBook (with_configured other now dates t) other judged now dates
  configured_archive = subst (λ (u : Tables). IsBook u other judged now dates) (sym (configured_are other now dates t)) turned_kept

  -- THE BOOK of the archive under another configuration
  pub configured_book : book_in other judged now dates (with_configured other now dates t) ≡ reconfigured other now dates (book_in config judged shown was t)
  unfolding book_in arrivals_in files_in bytes_of
  configured_book = ap (book_in other judged now dates) (configured_are other now dates t)

-- bodies that are not whole go as before
pub configured_finished : (other : ConfigValue) (shown : ShelvesValue) (dates : List ℕ) (t : Tables) → finished (with_configured other shown dates t) ≡ with_configured other shown dates (finished t)
unfolding finished
configured_finished other shown dates t = ap finished (configured_are other shown dates t) ∙ sym (configured_are other shown dates (finished t))

-- the pieces of bodies that are not whole stay
configured_under_way : (other : ConfigValue) (shown : ShelvesValue) (dates : List ℕ) (t : Tables) → AreUnderWay t → AreUnderWay (with_configured other shown dates t)
configured_under_way other shown dates t =
    let same = configured_are other shown dates t in
    like_under_way t (with_configured other shown dates t) (ap (λ (u : Tables). u.bodies) same) (ap (λ (u : Tables). u.pieces) same)

-- ONE DATABASE'S ARCHIVE under another configuration is what another database keeps
pub reconfigures : (before after : Database) (config other : ConfigValue) (judged : List Judgement) (shown : ShelvesValue) (was dates : List ℕ) → KeepsArchive before config judged shown was
    → config_in other.text ≡ Ok other → all_stay config.suites other.suites shown ≡ true → length dates ≡ length other.suites → All (λ d. d ≤ latest) dates
    → Holds after (tables_in after) → tables_in after ≡ with_configured other (moved config.suites other.suites shown) dates (tables_in before)
    → Reconfigures before after config other judged shown was (moved config.suites other.suites shown) dates
reconfigures before after config other judged shown was dates archive read stay dated in_range held rows =
    let now = moved config.suites other.suites shown in
    let t = finished (tables_in before) in
    let all : finished (tables_in after) ≡ with_configured other now dates t = ap finished rows ∙ configured_finished other now dates (tables_in before) in
    record {
      kept = record {
        held = held;
        kept = subst (λ (u : Tables). IsBook u other judged now dates) (sym all) (configured_archive t config other judged shown was dates archive.kept read stay dated in_range);
        coming = subst AreUnderWay (sym rows) (configured_under_way other now dates (tables_in before) archive.coming);
      };
      book = ap (book_in other judged now dates) all ∙ configured_book t config other judged shown was dates archive.kept read stay dated in_range;
    }
