-- Which upload is the next that has entries.
use Rattle.std.proofs.Common.{◌≡◌, ℕ, pos, negsuc, ◌≤◌, [], ◌∷◌, List, Bool, true, false, ◌&&◌, cond, None, Some, Option, map, filter, take, slice_get, refl, sym, ap, subst, ◌∙◌, arith, int_cmp, is_lt, int_lt, All, IsPermutation, IsSorted, inl, inr, codes, true≢false}
use Rattle.std.specs.Prelude.{nat_eq, nat_lt}
use Rattle.std.specs.List.{list_all, list_any, AllByRecursion}
use Rattle.std.proofs.lemmas.Bool.{and_parts, or_cases, or_left, or_right}
use Rattle.std.proofs.lemmas.Bool.Decides.{nat_tests}
use Rattle.std.proofs.lemmas.Int.{ints}
use Rattle.std.proofs.lemmas.List.Elements.{All-from_recursion, All-head, All-nil, recursion_from_All}
use Rattle.std.proofs.lemmas.List.MinMax.{ranks_by}
use Rattle.std.proofs.lemmas.List.Sorted.{All-permutation, IsPermutation-sym, sorted_far}
use Rattle.sqlite_tied.specs.Compute.{everything}
use Rattle.sqlite.specs.Order.{Row, column}
use Rattle.sqlite.specs.Tree.{Trees}
use Rattle.sqlite.specs.State.{State, IsUnchanged}
use Rattle.sqlite.specs.Program.{overlay}
use Rattle.sqlite.specs.Command.TheVariants.{Select}
use Rattle.sqlite.specs.Listing.{understood, reads_listing}
use Rattle.sqlite.specs.Query.{Query, inner, end, IsAnswer}
use Rattle.sqlite.specs.Term.{Term, lit, col}
use Rattle.sqlite.specs.Collation.TheVariants.{Binary}
use Rattle.sqlite.specs.declared.types.Value.TheVariants.{Null, Int}
use Rattle.sqlite.proofs.Callers.{reads_as, command_of, IsPlain}
use Rattle.sqlite_sql.specs.Term.{holds, op2}
use Rattle.sqlite_sql.specs.Ops.{binary}
use Rattle.sqlite_sql.specs.Query.{Output, output, output_cmp}
use Rattle.sqlite_sql.specs.declared.ops.BinaryOp.TheVariants.{Compare}
use Rattle.sqlite_sql.specs.declared.ops.CompareOp.TheVariants.{Gt}
use Rattle.sqlite_sql.proofs.QueryLemmas.{output_cmp_total}
use Rattle.sqlite_value.specs.Keys.{ascending}
use Rattle.sqlite_value.proofs.OrderLemmas.{value_cmp-Int, then-Equal}
use Rattle.sqlite_keyed.proofs.ListLemmas.{all_map, all_unmap, all_weaker, map-map}
use Rattle.sqlite_typed.proofs.AnswerLemmas.{last_table, at_end, matches_are}
use Rattle.sqlite_typed.proofs.TestLemmas.{at_ints, last_term, truth_or}
use Rattle.tables.specs.Others.{Others, others_in, with_others}
use Rattle.tables.specs.Rows.{Numbered, Tables, Holds, HasRows, id_cell, id_int, id_of, rows_of, stored, want_cells}
use Rattle.tables.specs.Reading.{IsReadFirst}
use Rattle.tables.specs.Wants.{IsNextWanting, is_behind, is_wanted_by, wants_behind}
use Rattle.tables.specs.declared.rows.Want.{Want}
use Rattle.tables.specs.declared.wants.TheConstants.{SELECT_FIRST, SELECT_NEXT}
use Rattle.tables.proofs.EqualLemmas.{id_back}
use Rattle.tables.proofs.SelectLemmas.{keyed_if_rises}

-- the first of the uploads of the entries that pass the terms
abbrev next_query : List Term → Query
next_query where_ = record {
  from = inner 10 end;
  filter = where_;
  group = None;
  project = col 1 1 ∷ [];
  distinct = false;
  collations = [];
  order = (col 1 1, ascending Binary) ∷ [];
  limit = lit (Int (pos 1));
  offset = lit (Int (pos 0));
}

abbrev behind_terms : List Term
behind_terms = op2 (Compare Gt Binary) (col 1 1) (col 0 0) ∷ []

select_next_is : (o : Others) → (command_of (understood (with_others o) SELECT_NEXT.now) ≡ Select (record { lets = []; body = next_query behind_terms }) (codes "upload" ∷ [])) × (reads_listing (with_others o) SELECT_NEXT.now ≡ false)
unfolding understood everything
select_next_is o = (refl, refl)

pub select_next_plain : (o : Others) → IsPlain (understood (with_others o) SELECT_NEXT.now)
unfolding understood everything
select_next_plain o = (refl, refl)

select_first_is : (o : Others) → (command_of (understood (with_others o) SELECT_FIRST.now) ≡ Select (record { lets = []; body = next_query [] }) (codes "upload" ∷ [])) × (reads_listing (with_others o) SELECT_FIRST.now ≡ false)
unfolding understood everything
select_first_is o = (refl, refl)

pub select_first_plain : (o : Others) → IsPlain (understood (with_others o) SELECT_FIRST.now)
unfolding understood everything
select_first_plain o = (refl, refl)

behind_test : (n id : ℕ) → truth_or false (binary (Compare Gt Binary) (id_cell id) (id_cell n)) ≡ nat_lt n id
behind_test n id = at_ints false Gt (id_int id) (id_int n) ∙ same_lt
  where
    same_lt : int_lt (id_int n) (id_int id) ≡ nat_lt n id
    same_lt = grind (arith, ints, nat_tests)

-- a number that passes has a property, if all that pass have it
passing : (after : Option ℕ) (P : ℕ → Type 0) (xs : Numbered Want) → AllByRecursion (λ x. P x.1.upload) (filter (λ x. is_behind after x.1.upload) xs)
    → (id : ℕ) → is_behind after id ≡ true → list_any (is_wanted_by id) (rows_of xs) ≡ true → P id
passing after P [] all id behind h = absurd (true≢false (sym h))
passing after P (x ∷ xs) all id behind h = elim (or_cases (nat_eq x.1.upload id) (list_any (is_wanted_by id) (rows_of xs)) h) [
  | inl e ↦
      let same : x.1.upload ≡ id = grind (arith, nat_tests) in
      let passes : is_behind after x.1.upload ≡ true = subst (λ n. is_behind after n ≡ true) (sym same) behind in
      subst P same (rw passes at all).0
  | inr e ↦ passing after P xs (later (is_behind after x.1.upload) all) id behind e
]
  where
    later : (b : Bool) → AllByRecursion (λ y. P y.1.upload) (cond b (x ∷ filter (λ y. is_behind after y.1.upload) xs) (filter (λ y. is_behind after y.1.upload) xs))
        → AllByRecursion (λ y. P y.1.upload) (filter (λ y. is_behind after y.1.upload) xs)
    later true all = all.1
    later false all = all

-- each number that passes is that of an entry
own : (after : Option ℕ) (q : ℕ → Bool) (xs : Numbered Want) → ((id : ℕ) → list_any (is_wanted_by id) (rows_of xs) ≡ true → q id ≡ true)
    → AllByRecursion (λ x. is_behind after x.1.upload && q x.1.upload ≡ true) (filter (λ x. is_behind after x.1.upload) xs)
own after q [] f = tt
own after q (x ∷ xs) f =
    go (is_behind after x.1.upload) refl
    (f x.1.upload (or_left (nat_eq x.1.upload x.1.upload) (list_any (is_wanted_by x.1.upload) (rows_of xs)) (grind (arith, nat_tests))))
    (own after q xs (λ id h. f id (or_right (nat_eq x.1.upload id) (list_any (is_wanted_by id) (rows_of xs)) h)))
  where
    go : (b : Bool) → is_behind after x.1.upload ≡ b → q x.1.upload ≡ true
        → AllByRecursion (λ y. is_behind after y.1.upload && q y.1.upload ≡ true) (filter (λ y. is_behind after y.1.upload) xs)
        → AllByRecursion (λ y. is_behind after y.1.upload && q y.1.upload ≡ true) (cond b (x ∷ filter (λ y. is_behind after y.1.upload) xs) (filter (λ y. is_behind after y.1.upload) xs))
    go true e passes more = (rw e passes, more)
    go false e passes more = more

module _ (after : Option ℕ) (where_ : List Term) (params : Row) (tests : (x : ℕ × Want) → list_all (holds (params ∷ stored want_cells x ∷ [])) where_ ≡ is_behind after x.1.upload) (xs : Numbered Want) where
  abbrev some : Numbered Want
  some = filter (λ x. is_behind after x.1.upload) xs

  abbrev out : ℕ × Want → Output
  out x = output (next_query where_) (params ∷ stored want_cells x ∷ [])

  -- the output is that of an entry
  abbrev IsOut : Output → Type 0
  IsOut o = (x : ℕ × Want) × (o ≡ out x) × (wants_behind after (rows_of xs) x.1.upload ≡ true)

  abbrev lt : Output → Output → Bool
  lt a b = is_lt (output_cmp (next_query where_) a b)

  no_less : (x y : ℕ × Want) → lt (out x) (out y) ≡ false → y.1.upload ≤ x.1.upload
  no_less x y h = let k : is_lt (int_cmp (id_int x.1.upload) (id_int y.1.upload)) ≡ false = ap is_lt (sym (then-Equal _ ∙ value_cmp-Int _ _)) ∙ h in grind (arith, ints, k)

  -- an output that comes first is that of the least number
  first_out : (o : Output) (rest : List Output) → IsPermutation (map out some) (o ∷ rest) → IsSorted (output_cmp (next_query where_)) (o ∷ rest) → IsNextWanting after (rows_of xs) (Some (id_of (column o.1 0)))
  first_out o rest same sorted =
      let each = all_map IsOut out some (all_weaker (λ x. wants_behind after (rows_of xs) x.1.upload ≡ true) (λ x. IsOut (out x)) (λ x h. (x, refl, h)) some (own after (λ id. list_any (is_wanted_by id) (rows_of xs)) xs (λ id h. h))) in
      let mine = All-head IsOut o rest (All-permutation IsOut (map out some) (o ∷ rest) same (All-from_recursion IsOut (map out some) each)) in
      let number : id_of (column o.1 0) ≡ mine.0.1.upload = ap (λ r. id_of (column r.1 0)) mine.1 ∙ id_back mine.0.1.upload in
      let least : All (λ r. lt r o ≡ false) (o ∷ rest) = λ k d within. sorted_far lt (ranks_by (output_cmp_total (next_query where_)) (λ r. r)) (o ∷ rest) sorted 0 k d (omega arith) within in
      let past = all_unmap (λ r. lt r o ≡ false) out some (recursion_from_All _ (map out some) (All-permutation (λ r. lt r o ≡ false) (o ∷ rest) (map out some) (IsPermutation-sym _ _ same) least)) in
      let above = all_weaker (λ x. lt (out x) o ≡ false) (λ x. mine.0.1.upload ≤ x.1.upload) (λ x h. no_less x mine.0 (subst (λ r. lt (out x) r ≡ false) mine.1 h)) some past in
      subst (λ n. IsNextWanting after (rows_of xs) (Some n)) (sym number) (record {
        one = mine.2;
        first = λ id h.
            let parts = and_parts (is_behind after id) (list_any (is_wanted_by id) (rows_of xs)) h in
            passing after (λ n. mine.0.1.upload ≤ n) xs above id parts.0 parts.1;
      })

  no_out : IsPermutation (map out some) [] → IsNextWanting after (rows_of xs) None
  no_out same = record {
    one = tt;
    first = λ id h.
        let parts = and_parts (is_behind after id) (list_any (is_wanted_by id) (rows_of xs)) h in
        passing after (λ _. ⊥) xs (all_unmap (λ _. ⊥) out some (recursion_from_All (λ _. ⊥) (map out some) (All-permutation (λ _. ⊥) [] (map out some) (IsPermutation-sym _ _ same) (All-nil _)))) id parts.0 parts.1;
  }

  abbrev number_in : Row → ℕ
  number_in row = id_of (column row 0)

  first_of : (ordered : List Output) → IsPermutation (map out some) ordered → IsSorted (output_cmp (next_query where_)) ordered
      → IsNextWanting after (rows_of xs) (slice_get (map number_in (take 1 (map (λ o. o.1) ordered))) 0)
  first_of [] same sorted = no_out same
  first_of (o ∷ rest) same sorted = first_out o rest same sorted

  next_is : (db : Trees) → HasRows want_cells xs (db 10) → (rows : List Row) → IsAnswer (next_query where_) db params rows → IsNextWanting after (rows_of xs) (slice_get (map number_in rows) 0)
  next_is db has rows answer =
      let source = last_table db 10 (stored want_cells) (λ (x : ℕ × Want). id_int x.0) xs has.are (keyed_if_rises xs has.rise) (at_end db) in
      let all = matches_are (next_query where_) db params source (λ x. is_behind after x.1.upload) tests in
      let outs = answer.distinct ∙ ap (map (output (next_query where_))) (answer.grouped ∙ all) ∙ map-map (output (next_query where_)) _ some in
      subst (λ l. IsNextWanting after (rows_of xs) (slice_get (map number_in l) 0)) (sym answer.shown)
      (first_of answer.ordered (subst (λ l. IsPermutation l answer.ordered) outs answer.same) answer.sorted)

module _ (old new : State) (t : Tables) (found : Option ℕ) (was : Holds old.now t) where
  pub next_answer : (n : ℕ) → IsReadFirst (λ row. id_of (column row 0)) SELECT_NEXT.now (id_cell n ∷ []) old new found → IsNextWanting (Some n) (rows_of t.wants) found × IsUnchanged old new
  next_answer n h =
      let o = others_in old.now.schema in
      let read = reads_as SELECT_NEXT.now (id_cell n ∷ []) old new (with_others o) was.schema.is _ (select_next_is o).0 (select_next_plain o) (select_next_is o).1 h.read.rows h.read.shown in
      let is = next_is (Some n) behind_terms (id_cell n ∷ []) (λ x. last_term (behind_test n x.1.upload)) t.wants (overlay old.now.trees []) (record { are = was.rows.wants.are; rise = was.rows.wants.rise }) h.read.rows (read.answer Null) in
      (subst (IsNextWanting (Some n) (rows_of t.wants)) (sym (h.is ∙ ap (λ l. slice_get l 0) h.read.are)) is, h.read.same)

  pub first_answer : IsReadFirst (λ row. id_of (column row 0)) SELECT_FIRST.now [] old new found → IsNextWanting None (rows_of t.wants) found × IsUnchanged old new
  first_answer h =
      let o = others_in old.now.schema in
      let read = reads_as SELECT_FIRST.now [] old new (with_others o) was.schema.is _ (select_first_is o).0 (select_first_plain o) (select_first_is o).1 h.read.rows h.read.shown in
      let is = next_is None [] [] (λ _. refl) t.wants (overlay old.now.trees []) (record { are = was.rows.wants.are; rise = was.rows.wants.rise }) h.read.rows (read.answer Null) in
      (subst (IsNextWanting None (rows_of t.wants)) (sym (h.is ∙ ap (λ l. slice_get l 0) h.read.are)) is, h.read.same)
