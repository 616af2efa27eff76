-- The rows of a table, as the query for them shows them.
use Rattle.std.proofs.Common.{◌≡◌, ◌<◌, ◌^◌, ℕ, pos, true, List, [], ◌∷◌, map, refl, sym, ap, ap₂, ◌∙◌, subst, arith, Less}
use Rattle.std.proofs.lemmas.Int.{ints}
use Rattle.std.specs.List.{AllByRecursion, AllZip}
use Rattle.sqlite.specs.declared.types.Value.TheVariants.{Null, Int}
use Rattle.sqlite.specs.Order.{Row, column}
use Rattle.sqlite.specs.Program.{overlay}
use Rattle.sqlite.specs.Tree.{rowid, IsAscending}
use Rattle.sqlite.specs.State.{State, Shown}
use Rattle.sqlite.proofs.Callers.{reads_as}
use Rattle.sqlite_schema.specs.Rules.{Keeps}
use Rattle.sqlite_schema.specs.declared.schema.Constraint.TheVariants.{Datatype}
use Rattle.sqlite_trees.specs.Tree.{IsTable as IsRising}
use Rattle.sqlite_value.specs.Order.{value_cmp}
use Rattle.sqlite_value.proofs.OrderLemmas.{value_cmp-Int}
use Rattle.sqlite_keyed.proofs.KeyedLemmas.{lt_from_Less}
use Rattle.sqlite_keyed.proofs.ListLemmas.{map-map, filter_all, all_of, ascending-map, ascending_from_map}
use Rattle.tables.specs.Rows.{id_cell, id_int, Numbered, HasRows, Rises, stored}
use Rattle.tables.specs.Schema.{archive_schema}
use Rattle.tables.specs.Others.{IsArchiveSchema, others_in, with_others}
use Rattle.tables.proofs.SelectLemmas.{reads_rows}
use Rattle.tables_read.specs.Reading.{AsksForRows, Spells}
use Rattle.tables_read.specs.Layout.{Layout, IsLayout, HasTypes, AreRead, AreSmall, ids, show}
use Rattle.tables_read.proofs.AnswerLemmas.{each_shown}

numbered : (tree : List Row) (ns : List ℕ) → map rowid tree ≡ map id_cell ns → (zs : Numbered Row) × (tree ≡ map (stored (λ r. r)) zs) × (ids zs ≡ ns)
numbered [] [] e = ([], refl, refl)
numbered [] (n ∷ ns) e = absurd (cc)
numbered (r ∷ rs) [] e = absurd (cc)
numbered ([] ∷ rs) (n ∷ ns) e = absurd (let h : Null ∷ map rowid rs ≡ Int _ ∷ map id_cell ns = e in cc)
numbered ((v ∷ vs) ∷ rs) (n ∷ ns) e =
    let h : v ∷ map rowid rs ≡ id_cell n ∷ map id_cell ns = e in
    let here : v ≡ id_cell n = cc in
    let there : map rowid rs ≡ map id_cell ns = cc in
    let more = numbered rs ns there in
    ((n, vs) ∷ more.0, ap₂ ◌∷◌ (ap (λ w. w ∷ vs) here) more.1, ap (λ l. n ∷ l) more.2)

above : (m n : ℕ) → value_cmp (id_cell m) (id_cell n) ≡ Less → m < n
above m n h = let k = lt_from_Less (id_int m) (id_int n) (sym (value_cmp-Int (id_int m) (id_int n)) ∙ h) in omega (arith, ints, k)

above_all : (m : ℕ) (r : Row) (tree : List Row) (ns : List ℕ) → rowid r ≡ id_cell m → map rowid tree ≡ map id_cell ns
    → AllByRecursion (λ s. value_cmp (rowid r) (rowid s) ≡ Less) tree → AllByRecursion (λ n. m < n) ns
above_all m r [] [] is e all = tt
above_all m r [] (n ∷ ns) is e all = absurd (cc)
above_all m r (s ∷ tree) [] is e all = absurd (cc)
above_all m r (s ∷ tree) (n ∷ ns) is e all =
    let h : rowid s ∷ map rowid tree ≡ id_cell n ∷ map id_cell ns = e in
    let here : rowid s ≡ id_cell n = cc in
    let there : map rowid tree ≡ map id_cell ns = cc in
    (above m n (sym (ap₂ value_cmp is here) ∙ all.0), above_all m r tree ns is there all.1)

-- the numbers of a table rise
numbers_rise : (tree : List Row) (ns : List ℕ) → IsRising tree → map rowid tree ≡ map id_cell ns → IsAscending (λ m n. m < n) ns
numbers_rise [] [] up e = tt
numbers_rise [] (n ∷ ns) up e = absurd (cc)
numbers_rise (r ∷ tree) [] up e = absurd (cc)
numbers_rise (r ∷ tree) (n ∷ ns) up e =
    let h : rowid r ∷ map rowid tree ≡ id_cell n ∷ map id_cell ns = e in
    let here : rowid r ≡ id_cell n = cc in
    let there : map rowid tree ≡ map id_cell ns = cc in
    (above_all n r tree ns here there up.0, numbers_rise tree ns up.1 there)

-- the rowid is a number of code
abbrev HasNumber : Row → Type 0
HasNumber row = (n : ℕ) × (n < 2 ^ 64) × (column row 0 ≡ id_cell n)

collect : (tree : List Row) → AllByRecursion HasNumber tree → (ns : List ℕ) × (map rowid tree ≡ map id_cell ns) × AreSmall ns
collect [] h = ([], refl, tt)
collect (r ∷ rs) h = let more = collect rs h.1 in (h.0.0 ∷ more.0, ap₂ ◌∷◌ h.0.2 more.1, (h.0.1, more.2))

module _ {X : Type 0} (l : Layout X) (laid : IsLayout l) where
  spelled : (tree : List Row) (xs : Numbered X) → AllByRecursion (HasTypes l) tree → AllZip (Spells l.seen) (map (show l) tree) xs → map l.full tree ≡ map (stored l.cells) xs
  spelled [] [] typed zip = refl
  spelled [] (x ∷ xs) typed zip = absurd zip
  spelled (r ∷ rs) [] typed zip = absurd zip
  spelled (r ∷ rs) (x ∷ xs) typed zip = ap₂ ◌∷◌ (laid.fits x r typed.0 zip.0) (spelled rs xs typed.1 zip.1)

  spells_back : (tree : List Row) (xs : Numbered X) → map l.full tree ≡ map (stored l.cells) xs → AllZip (Spells l.seen) (map (show l) tree) xs
  spells_back [] [] e = tt
  spells_back [] (x ∷ xs) e = absurd (cc)
  spells_back (r ∷ rs) [] e = absurd (cc)
  spells_back (r ∷ rs) (x ∷ xs) e =
      let h : l.full r ∷ map l.full rs ≡ stored l.cells x ∷ map (stored l.cells) xs = e in
      let here : l.full r ≡ stored l.cells x = cc in
      let there : map l.full rs ≡ map (stored l.cells) xs = cc in
      (laid.back x r here, spells_back rs xs there)

  ids_in : (tree : List Row) (xs : Numbered X) → AllZip (Spells l.seen) (map (show l) tree) xs → map rowid tree ≡ map id_cell (ids xs)
  ids_in [] [] zip = refl
  ids_in [] (x ∷ xs) zip = absurd zip
  ids_in (r ∷ rs) [] zip = absurd zip
  ids_in (r ∷ rs) (x ∷ xs) zip = ap₂ ◌∷◌ (sym (laid.number r) ∙ zip.0.0) (ids_in rs xs zip.1)

  have_numbers : (rows : List Row) (xs : Numbered X) → AllZip (Spells l.seen) rows xs → AreSmall (ids xs) → AllByRecursion HasNumber rows
  have_numbers [] xs zip small = tt
  have_numbers (r ∷ rs) [] zip small = absurd zip
  have_numbers (r ∷ rs) (x ∷ xs) zip small = ((x.0, small.0, zip.0.0), have_numbers rs xs zip.1 small.1)

  module _ (sql : List ℕ) (asks : AsksForRows l.tree l.columns sql) (old mid : State) (rows : List Row) (schema : IsArchiveSchema old.now.schema) (shown : Shown sql [] old mid rows) where
    shown_if : (ns : List ℕ) → IsAscending (λ m n. m < n) ns → map rowid (old.now.trees l.tree) ≡ map id_cell ns → rows ≡ map (show l) (old.now.trees l.tree)
    shown_if ns up are =
        let zs = numbered (old.now.trees l.tree) ns are in
        let rise : Rises zs.0 = ascending_from_map (λ m n. m < n) (λ z. z.0) zs.0 (subst (IsAscending (λ m n. m < n)) (sym zs.2) up) in
        reads_rows (λ (r : Row). r) l.tree [] l.columns [] (λ _. true) (λ z. show l (stored (λ r. r) z)) (λ _. refl) (λ _. refl) sql asks.names asks.real old mid rows zs.0 asks.is asks.plain asks.unlisted schema (record { are = zs.1; rise = rise }) shown
        ∙ ap (map (λ z. show l (stored (λ r. r) z))) (filter_all (λ _. true) zs.0 (all_of _ (λ _. refl) zs.0))
        ∙ sym (map-map (show l) (stored (λ r. r)) zs.0) ∙ ap (map (show l)) (sym zs.1)

    numbers_if : AllByRecursion HasNumber rows → AllByRecursion HasNumber (old.now.trees l.tree)
    numbers_if all =
        let o = others_in old.now.schema in
        let read = reads_as sql [] old mid (with_others o) schema.is _ (asks.is o) (asks.plain o) (asks.unlisted o) rows shown in
        let each = each_shown (overlay old.now.trees []) l.tree l.columns HasNumber rows (read.answer Null) all in
        go (old.now.trees l.tree) (subst (AllByRecursion (λ r. HasNumber (show l r))) (asks.real old.now.trees) each)
      where
        go : (tree : List Row) → AllByRecursion (λ r. HasNumber (show l r)) tree → AllByRecursion HasNumber tree
        go [] h = tt
        go (r ∷ rs) h = ((h.0.0, h.0.1, sym (laid.number r) ∙ h.0.2), go rs h.1)

    -- rows that are those of the table are what the answer spells
    pub raw_spells : (xs : Numbered X) → HasRows l.cells xs (map l.full (old.now.trees l.tree)) → AllZip (Spells l.seen) rows xs
    raw_spells xs has =
        let zip = spells_back (old.now.trees l.tree) xs has.are in
        let are = shown_if (ids xs) (ascending-map (λ m n. m < n) (λ x. x.0) xs has.rise) (ids_in (old.now.trees l.tree) xs zip) in
        subst (λ rs. AllZip (Spells l.seen) rs xs) (sym are) zip

    -- If the rows of the table rise, those that the answer spells are those of the table.
    pub is_table : Keeps Datatype archive_schema old.now.trees → IsRising (old.now.trees l.tree) → (xs : Numbered X) → AreRead l rows xs → HasRows l.cells xs (map l.full (old.now.trees l.tree))
    is_table typed up xs read =
        let tree = old.now.trees l.tree in
        let got = collect tree (numbers_if (have_numbers rows xs read.spelled read.small)) in
        let shown_are = shown_if got.0 (numbers_rise tree got.0 up got.1) got.1 in
        let zip = subst (λ rs. AllZip (Spells l.seen) rs xs) shown_are read.spelled in
        record {
          are = spelled tree xs (laid.typed old.now.trees typed) zip;
          rise = ascending_from_map (λ m n. m < n) (λ x. x.0) xs (numbers_rise tree (ids xs) up (ids_in tree xs zip));
        }
