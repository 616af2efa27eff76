-- An arrival that is looked for: if the pairs of the rows are apart, the one that is found is the only one.
use Rattle.std.proofs.Common.{◌≡◌, ℕ, Bool, true, false, ◌&&◌, ◌||◌, cond, if◌then◌else◌, is_some, IsTrue, List, [], ◌∷◌, find, AllPairs, Option, Some, None, refl, sym, ap, subst, ◌∙◌}
use Rattle.std.specs.List.{list_any}
use Rattle.std.specs.Option.{option_map_or}
use Rattle.std.proofs.lemmas.Bool.{false≢true}
use Rattle.std.proofs.Math.Bool.{or-false}
use Rattle.sqlite.specs.State.{State}
use Rattle.sqlite_trees.specs.Tree.{IsAscending}
use Rattle.sqlite_keyed.proofs.ListLemmas.{all_weaker, any_from_none}
use Rattle.tables.specs.Arrivals.{is_arrival}
use Rattle.tables.specs.Bodies.{body_with, with_print}
use Rattle.tables.specs.Rows.{Numbered, Tables, Holds, next_in, rows_of, tables_in, with_body}
use Rattle.tables.specs.declared.rows.ArrivalRow.{ArrivalRow}
use Rattle.tables.proofs.BookLemmas.{held_tables}
use Rattle.sums.specs.declared.print.Print.{Print}
use Rattle.sums.proofs.Words.{list_any-map}
use Rattle.rules.specs.Values.{ConfigValue}
use Rattle.suites.specs.Shelves.{ShelvesValue}
use Rattle.book.specs.declared.change.Judgement.{Judgement}
use Rattle.tables_bodies.specs.Counting.{arrival_counts}
use Rattle.tables_meaning.specs.Archives.{KeepsArchive}
use Rattle.tables_meaning.specs.Cleaning.{counts_row, is_current}
use Rattle.tables_meaning.specs.Coming.{with_ended, with_whole}
use Rattle.tables_meaning.specs.Finished.{finished, without_whole}
use Rattle.tables_meaning.specs.Kept.{pieces_for}
use Rattle.tables_meaning.specs.Making.{with_bytes, with_pieces}
use Rattle.tables_meaning.proofs.BodyLemmas.{only_pieces}
use Rattle.tables_meaning.proofs.Searches.{pairs_of_rows}
use Rattle.tables_meaning.proofs.ArrivalLemmas.{alike}
use Rattle.tables_counting.specs.Moments.{found_current}

abbrev arrivals_of : Tables → Numbered ArrivalRow
arrivals_of t = t.arrivals

module _ (name : List ℕ) (id : ℕ) (q : ArrivalRow → Bool) where
  other : (x y : ℕ × ArrivalRow) → is_arrival name id x.1 ≡ true → is_arrival x.1.name x.1.body y.1 ≡ false → (is_arrival name id y.1 && q y.1) ≡ false
  other x y is apart = by (is_arrival name id y.1) refl
    where
      by : (b : Bool) → is_arrival name id y.1 ≡ b → (b && q y.1) ≡ false
      by true same = absurd (false≢true (sym apart ∙ alike name id x.1 y.1 is same))
      by false same = refl

  found_only : (xs : Numbered ArrivalRow) → IsAscending (λ x y. is_arrival x.1.name x.1.body y.1 ≡ false) xs
      → option_map_or (λ x. q x.1) (find (λ x. is_arrival name id x.1) xs) false ≡ list_any (λ x. is_arrival name id x.1 && q x.1) xs
  found_only [] up = refl
  found_only (x ∷ xs) up = go (is_arrival name id x.1) refl (found_only xs up.1)
    where
      go : (b : Bool) → is_arrival name id x.1 ≡ b
          → option_map_or (λ y. q y.1) (find (λ y. is_arrival name id y.1) xs) false ≡ list_any (λ y. is_arrival name id y.1 && q y.1) xs
          → option_map_or (λ y. q y.1) (cond b (Some x) (find (λ y. is_arrival name id y.1) xs)) false ≡ ((b && q x.1) || list_any (λ y. is_arrival name id y.1 && q y.1) xs)
      go true is more =
          let none = any_from_none (λ (y : ℕ × ArrivalRow). is_arrival name id y.1 && q y.1) xs
          (all_weaker (λ y. is_arrival x.1.name x.1.body y.1 ≡ false) (λ y. (is_arrival name id y.1 && q y.1) ≡ false) (λ y apart. other x y is apart) xs up.0) in
          sym (ap (λ b. q x.1 || b) none ∙ or-false (q x.1))
      go false is more = more

module _ (t : Tables) (apart : AllPairs (λ a b. is_arrival a.name a.body b ≡ false) (rows_of t.arrivals)) (span : Option ℕ) (moment : ℕ) where
  -- the arrival that is found counts exactly if some arrival of the pair does
  pub counts_if_some : (name : List ℕ) (id : ℕ) → arrival_counts span moment name id t ≡ list_any (λ x. is_arrival name id x.1 && counts_row span moment x.1) t.arrivals
  counts_if_some name id = found_only name id (counts_row span moment) t.arrivals (pairs_of_rows (λ a b. is_arrival a.name a.body b ≡ false) t.arrivals apart)

  pub current_if_found : (name : List ℕ) (print : Print) → found_current span moment t name print ≡ is_current span moment t name print
  unfolding found_current is_current
  current_if_found name print =
      ap (λ (f : ℕ → Bool). option_map_or f (body_with print t.bodies) false)
      (λ i id. (counts_if_some name id ∙ sym (list_any-map (λ (x : ℕ × ArrivalRow). x.1) (λ a. is_arrival name id a && counts_row span moment a) t.arrivals)) i)

-- ---- the arrivals beside a body that has come

pub bytes_keep : (print : Print) (bytes : List ℕ) (t : Tables) → (with_bytes print bytes t).arrivals ≡ t.arrivals
unfolding with_bytes
bytes_keep print bytes t =
    elim (is_some (body_with print t.bodies)) as (λ b. arrivals_of (if b then t else with_pieces (pieces_for (next_in t.bodies) bytes) (with_body (record { print = Some print }) t)) ≡ t.arrivals) [
      | true ↦ refl
      | false ↦ ap arrivals_of (only_pieces (pieces_for (next_in t.bodies) bytes) (with_body (record { print = Some print }) t))
    ]

ended_keeps : (body : Option ℕ) (print : Print) (t : Tables) → (with_ended body print t).arrivals ≡ t.arrivals
unfolding with_ended with_whole
ended_keeps (Some id) print t =
    elim (is_some (body_with print t.bodies)) as (λ b. arrivals_of (if b then without_whole id t else with_print id print t) ≡ t.arrivals) [ true ↦ refl | false ↦ refl ]
ended_keeps None print t = bytes_keep print [] t

abbrev pub AreApart : Numbered ArrivalRow → Type 0
AreApart arrivals = AllPairs (λ a b. is_arrival a.name a.body b ≡ false) (rows_of arrivals)

-- the pairs of an archive are apart, also beside a body that has come
pub apart_once_ended : (old : State) → (IsTrue old.is_open → old.now ≡ old.committed) → IsTrue old.is_open → {config : ConfigValue} {judged : List Judgement} {shown : ShelvesValue} {dates : List ℕ}
    → KeepsArchive old.committed config judged shown dates → (body : Option ℕ) (print : Print) (t : Tables) → Holds old.now t
    → AllPairs (λ a b. is_arrival a.name a.body b ≡ false) (rows_of (with_ended body print t).arrivals)
unfolding finished
apart_once_ended old settled up keeps body print t held =
    let same : tables_in old.committed ≡ t = ap tables_in (sym (settled up)) ∙ held_tables old.now t held in
    subst AreApart (sym (ended_keeps body print t)) (subst (λ (u : Tables). AreApart u.arrivals) same keeps.kept.arrivals.apart)
