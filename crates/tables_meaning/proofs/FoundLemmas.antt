-- The first rows of an archive: how they are added, and that they are those of an archive in which nothing is yet.
use Rattle.std.proofs.Common.{◌≡◌, ◌<◌, ℕ, zero, suc, ◌+◌, true, IsTrue, Result, Ok, Err, OnErr, List, [], ◌∷◌, ◌++◌, map, codes, length, replicate, take, get_or, Some, slice_get, append_assoc, refl, sym, ap, subst, ◌∙◌, arith}
use Rattle.std.specs.FinMap.{empty}
use Rattle.std.specs.List.{zip}
use Rattle.std.specs.Option.{option_map_or}
use Rattle.std.proofs.lemmas.List.{map-append, append-nil, take_more}
use Rattle.std.proofs.lemmas.List.Sums.{fold-append}
use Rattle.std.proofs.lemmas.Grind.{get_or_default_zero}
use Rattle.std.proofs.lemmas.Slice.Zip.{get_or-zip, length-zip}
use Rattle.std.proofs.lemmas.Simd.{map-map}
use Rattle.sqlite.specs.Held.{Held, state}
use Rattle.sqlite.specs.State.{State, KeepsCommit}
use Rattle.sqlite.specs.Store.{Ghosts}
use Rattle.rules.specs.Values.{ConfigValue}
use Rattle.rules.specs.declared.suite.Suite.{Suite}
use Rattle.suites.specs.Shelves.{ShelvesValue}
use Rattle.indices.specs.Indices.{PathText, all_texts, folder_texts, suite_texts, texts_from}
use Rattle.indices.specs.Positions.{indices_at, release_at}
use Rattle.indices.specs.Release.{indices_of, release_text}
use Rattle.indices.specs.Places.{place_entry, places_in}
use Rattle.indices.proofs.Walk.{listed_by_place}
use Rattle.tables.specs.Rows.{Tables, Holds, Changes, no_rows, with_date, with_meta}
use Rattle.tables.specs.Schema.{no_schema}
use Rattle.tables.specs.declared.rows.Date.{Date}
use Rattle.tables.proofs.TransactionLemmas.{as_old, keeps_then, keeps_if_changed}
use Rattle.tables.specs.declared.meta.TheConstants.{VERSION}
use Rattle.tables_meaning.specs.Kept.{date_row}
use Rattle.tables_meaning.specs.Transactions.{IsUndone}
use Rattle.tables_meaning.specs.Founding.{Continues, Founds, first_date, first_dates, founded, from_root, listed_at, suite_texts_at, with_dates, with_first_rows, with_path_text, with_texts}

-- ---- statements in a row

pub continues_none : (s : State) → IsTrue s.in_transaction → Continues s s (λ t. t)
continues_none s inside = record {
  held = λ t was. was;
  kept = record { was_open = λ up. up; committed = λ _. refl };
  stays = λ up. up;
  mode = inside;
}

pub continues_if_changed : (a b : State) (f : Tables → Tables) → Changes a b f → Continues a b f
continues_if_changed a b f h = record { held = h.held; kept = keeps_if_changed a b f h; stays = λ _. h.shown.is_open; mode = h.shown.mode }

pub continues_then : (a b c : State) (f g h : Tables → Tables) → ((t : Tables) → g (f t) ≡ h t) → Continues a b f → Continues b c g → Continues a c h
continues_then a b c f g h e p q = record {
  held = λ t was. subst (Holds c.now) (e t) (q.held (f t) (p.held t was));
  kept = keeps_then a b c p.kept q.kept;
  stays = λ up. q.stays (p.stays up);
  mode = q.mode;
}

-- statements whose effect another function describes
pub continues_as : (a b : State) (f g : Tables → Tables) → ((t : Tables) → f t ≡ g t) → Continues a b f → Continues a b g
continues_as a b f g e p = record { held = λ t was. subst (Holds b.now) (e t) (p.held t was); kept = p.kept; stays = p.stays; mode = p.mode }

-- a statement, and what follows it
pub changes_on : (a b c : State) (f g h : Tables → Tables) → ((t : Tables) → g (f t) ≡ h t) → Changes a b f → Continues b c g → Changes a c h
changes_on a b c f g h e p q =
    let up : IsTrue c.is_open = q.stays p.shown.is_open in
    record {
      held = λ t was. subst (Holds c.now) (e t) (q.held (f t) (p.held t was));
      shown = record { was_open = p.shown.was_open; is_open = up; now_is = refl; committed_is = q.kept.committed up ∙ p.shown.committed_is; mode = q.mode };
    }

-- the tables are made, and rows are added
pub founds_then : (a b c : State) (f : Tables → Tables) (rows : Tables) → f no_rows ≡ rows → (a.now.schema ≡ no_schema → Holds b.now no_rows) → KeepsCommit a b → Changes b c f → Founds a c rows
founds_then a b c f rows e laid p q = record {
  held = λ none. subst (Holds c.now) e (q.held no_rows (laid none));
  shown = record {
    was_open = p.was_open q.shown.was_open;
    is_open = q.shown.is_open;
    now_is = refl;
    committed_is = q.shown.committed_is ∙ p.committed q.shown.was_open;
    mode = q.shown.mode;
  };
}

pub keeps_if_founded : (a b : State) (rows : Tables) → Founds a b rows → KeepsCommit a b
keeps_if_founded a b rows h = record { was_open = λ _. h.shown.was_open; committed = λ _. h.shown.committed_is }

-- ---- texts and dates in a row

pub no_texts : (t : Tables) → t ≡ with_texts [] t
unfolding with_texts
no_texts t = refl

pub no_dates : (t : Tables) → t ≡ with_dates [] t
unfolding with_dates
no_dates t = refl

pub texts_then : (xs ys : List PathText) (t : Tables) → with_texts ys (with_texts xs t) ≡ with_texts (xs ++ ys) t
unfolding with_texts
texts_then xs ys t = sym (fold-append (λ now x. with_path_text x now) t xs ys)

pub text_then : (x : PathText) (xs : List PathText) (t : Tables) → with_texts xs (with_path_text x t) ≡ with_texts (x ∷ xs) t
unfolding with_texts
text_then x xs t = refl

then_text : (xs : List PathText) (x : PathText) (t : Tables) → with_path_text x (with_texts xs t) ≡ with_texts (xs ++ x ∷ []) t
unfolding with_texts
then_text xs x t = sym (fold-append (λ now x. with_path_text x now) t xs (x ∷ []))

then_date : (ds : List Date) (d : Date) (t : Tables) → with_date d (with_dates ds t) ≡ with_dates (ds ++ d ∷ []) t
unfolding with_dates
then_date ds d t = sym (fold-append (λ now d. with_date d now) t ds (d ∷ []))

module _ {X : Type 0} (xs : List X) (i : ℕ) (x : X) (inside : i < length xs) (is : x ≡ get_or xs i x) where
  front : take i xs ++ x ∷ [] ≡ take (i + 1) xs
  front = ap (λ u. take i xs ++ u ∷ []) is ∙ sym (take_more xs i x inside)

  pub text_more : (f : X → PathText) (t : Tables) → with_path_text (f x) (with_texts (map f (take i xs)) t) ≡ with_texts (map f (take (i + 1) xs)) t
  text_more f t =
      then_text (map f (take i xs)) (f x) t
      ∙ ap (λ ys. with_texts ys t) (sym (map-append f (take i xs) (x ∷ [])) ∙ ap (map f) front)

  date_more : (f : X → Date) (t : Tables) → with_date (f x) (with_dates (map f (take i xs)) t) ≡ with_dates (map f (take (i + 1) xs)) t
  date_more f t =
      then_date (map f (take i xs)) (f x) t
      ∙ ap (λ ys. with_dates ys t) (sym (map-append f (take i xs) (x ∷ [])) ∙ ap (map f) front)

-- the next suite with its date
next_date : (suites : List Suite) (dates : List ℕ) (i : ℕ) (s : Suite) → i < length suites → i < length dates → s ≡ get_or suites i s
    → (s, get_or dates i 0) ≡ get_or (zip suites dates) i (s, get_or dates i 0)
next_date suites dates i s within dated is =
    ap (λ (x : Suite). (x, get_or dates i 0)) is
    ∙ ap (λ (n : ℕ). (get_or suites i s, n)) (sym (get_or_default_zero dates i (get_or dates i 0) dated))
    ∙ sym (get_or-zip suites dates i (s, get_or dates i 0) within dated)

pub suite_date_more : (suites : List Suite) (dates : List ℕ) (i : ℕ) (s : Suite) → i < length suites → i < length dates → s ≡ get_or suites i s → (t : Tables)
    → with_date (date_row (s, get_or dates i 0)) (with_dates (map date_row (take i (zip suites dates))) t) ≡ with_dates (map date_row (take (i + 1) (zip suites dates))) t
suite_date_more suites dates i s within dated is =
    date_more (zip suites dates) i (s, get_or dates i 0) (omega (arith, length-zip suites dates, within, dated)) (next_date suites dates i s within dated is) date_row

-- ---- the texts of a suite

-- Release, and then the others
pub suite_texts_are : (shelves : ShelvesValue) (position : ℕ) (s : Suite) (date : ℕ)
    → from_root s (codes "Release", release_text s date (indices_of s shelves position)) ∷ listed_at shelves position s ≡ suite_texts shelves position s date
unfolding suite_texts folder_texts
suite_texts_are shelves position s date =
    ap (λ ys. from_root s (codes "Release", release_text s date (indices_of s shelves position)) ∷ ys)
    (sym (ap (map (from_root s)) (listed_by_place shelves position s) ∙ map-map (from_root s) (place_entry shelves position) (places_in s.components s.architectures)))

-- ---- the texts of all suites

-- the texts of the first suites with their dates, and of one more
texts_of_next : (shelves : ShelvesValue) (from : ℕ) (suites : List Suite) (dates : List ℕ) (i : ℕ) → i < length suites → i < length dates
    → texts_from shelves from (take i (zip suites dates)) ++ option_map_or (λ s. suite_texts shelves (from + i) s (get_or dates i 0)) (slice_get suites i) []
    ≡ texts_from shelves from (take (suc i) (zip suites dates))
unfolding texts_from
texts_of_next shelves from [] dates i within dated = absurd (omega arith)
texts_of_next shelves from (x ∷ xs) [] i within dated = absurd (omega arith)
texts_of_next shelves from (x ∷ xs) (d ∷ ds) zero within dated =
    let at : from + 0 ≡ from = omega arith in
    ap (λ n. suite_texts shelves n x d) at ∙ sym (append-nil (suite_texts shelves from x d))
texts_of_next shelves from (x ∷ xs) (d ∷ ds) (suc i) within dated =
    let rest = take i (zip xs ds) in
    let at : from + suc i ≡ (from + 1) + i = omega arith in
    append_assoc (suite_texts shelves from x d) (texts_from shelves (from + 1) rest) (option_map_or (λ s. suite_texts shelves (from + suc i) s (get_or ds i 0)) (slice_get xs i) [])
    ∙ ap (λ ys. suite_texts shelves from x d ++ ys)
    (ap (λ n. texts_from shelves (from + 1) rest ++ option_map_or (λ s. suite_texts shelves n s (get_or ds i 0)) (slice_get xs i) []) at
    ∙ texts_of_next shelves (from + 1) xs ds i (omega arith) (omega arith))

pub no_suites : (config : ConfigValue) (shelves : ShelvesValue) (dates : List ℕ) (t : Tables) → t ≡ with_texts (texts_from shelves 0 (take 0 (zip config.suites dates))) t
unfolding with_texts texts_from
no_suites config shelves dates t = refl

pub suite_more : (config : ConfigValue) (shelves : ShelvesValue) (dates : List ℕ) (i : ℕ) → i < length config.suites → i < length dates → (t : Tables)
    → with_texts (suite_texts_at config shelves i (get_or dates i 0)) (with_texts (texts_from shelves 0 (take i (zip config.suites dates))) t)
    ≡ with_texts (texts_from shelves 0 (take (i + 1) (zip config.suites dates))) t
suite_more config shelves dates i within dated t =
    let at : suc i ≡ i + 1 = omega arith in
    let here : i ≡ 0 + i = omega arith in
    let before : List PathText = texts_from shelves 0 (take i (zip config.suites dates)) in
    let more : before ++ suite_texts_at config shelves i (get_or dates i 0) ≡ texts_from shelves 0 (take (i + 1) (zip config.suites dates)) =
    ap (λ n. before ++ option_map_or (λ s. suite_texts shelves n s (get_or dates i 0)) (slice_get config.suites i) []) here
    ∙ texts_of_next shelves 0 config.suites dates i within dated ∙ ap (λ n. texts_from shelves 0 (take n (zip config.suites dates))) at in
    texts_then before (suite_texts_at config shelves i (get_or dates i 0)) t ∙ ap (λ ys. with_texts ys t) more

-- Release of a suite, and then the others
pub suite_then : (config : ConfigValue) (shelves : ShelvesValue) (moment i : ℕ) (s : Suite) (text : List ℕ) → slice_get config.suites i ≡ Some s
    → text ≡ release_at config i moment (indices_at config shelves i) → (t : Tables)
    → with_texts (listed_at shelves i s) (with_path_text (from_root s (codes "Release", text)) t) ≡ with_texts (suite_texts_at config shelves i moment) t
unfolding release_at indices_at
suite_then config shelves moment i s text here e t =
    let is : text ≡ release_text s moment (indices_of s shelves i) = e ∙ ap (λ o. option_map_or (λ s. release_text s moment (option_map_or (λ s. indices_of s shelves i) o [])) o []) here in
    text_then (from_root s (codes "Release", text)) (listed_at shelves i s) t
    ∙ ap (λ ys. with_texts ys t)
    (ap (λ x. from_root s (codes "Release", x) ∷ listed_at shelves i s) is
    ∙ suite_texts_are shelves i s moment
    ∙ ap (λ o. option_map_or (λ s. suite_texts shelves i s moment) o []) (sym here))

-- ---- all first rows

-- each suite has the one moment
pub one_date : (moment : ℕ) (suites : List Suite) → map (first_date moment) suites ≡ map date_row (zip suites (replicate (length suites) moment))
one_date moment [] = refl
one_date moment (s ∷ suites) = ap (λ ds. first_date moment s ∷ ds) (one_date moment suites)

pub first_rows_then : (a b c d : State) (config : ConfigValue) (moment : ℕ) → Changes a b (with_meta (record { version = VERSION; configuration = config.text }))
    → Continues b c (with_texts (all_texts config empty (first_dates config moment))) → Continues c d (with_dates (map date_row (zip config.suites (first_dates config moment))))
    → Changes a d (with_first_rows config moment)
unfolding with_first_rows
first_rows_then a b c d config moment one two three =
    let texts : Tables → Tables = with_texts (all_texts config empty (first_dates config moment)) in
    let dates : Tables → Tables = with_dates (map (first_date moment) config.suites) in
    changes_on a b d (with_meta (record { version = VERSION; configuration = config.text })) (λ t. dates (texts t)) (with_first_rows config moment)
    (λ t. refl) one
    (continues_then b c d texts (with_dates (map date_row (zip config.suites (first_dates config moment)))) (λ t. dates (texts t))
    (λ t. ap (λ ds. with_dates ds (texts t)) (sym (one_date moment config.suites))) two three)

pub first_of_none : (config : ConfigValue) (moment : ℕ) → with_first_rows config moment no_rows ≡ founded config moment
unfolding founded
first_of_none config moment = refl

-- ---- the whole transaction

module _ {S : Type 0} (g : Ghosts S) (old begun : Held S) (is : begun ≡ record old { in_transaction = true }) where
  -- what is undone since the transaction began is undone
  pub undone_since : (last : Held S)
      → (IsTrue (state g last).is_open → ((state g last).now ≡ (state g begun).committed) × ((state g last).committed ≡ (state g begun).committed) × IsTrue (state g begun).is_open)
      → IsUndone (state g old) (state g last)
  undone_since last h = record {
    was_open = λ up. (as_old g old begun begun begun is last (h up)).2;
    committed = λ up. (as_old g old begun begun begun is last (h up)).1;
  }

  -- the rows that are there before the commit are founded on what was there before the transaction
  pub founds_since : (two : State) (rows : Tables) → Founds (state g begun) two rows → (state g old).now.schema ≡ no_schema → Holds two.now rows
  founds_since two rows h = subst (λ (b : Held S). (state g b).now.schema ≡ no_schema → Holds two.now rows) is h.held

  pub undone_if_err : {X E : Type 0} (last : Held S) (r : Result X E)
      → (IsTrue (state g last).is_open → OnErr r (((state g last).now ≡ (state g begun).committed) × ((state g last).committed ≡ (state g begun).committed) × IsTrue (state g begun).is_open))
      → OnErr r (IsUndone (state g old) (state g last))
  undone_if_err last (Ok x) h = tt
  undone_if_err last (Err e) h = undone_since last h
