-- Each layout is sound: a stored row of the right types is that of a value exactly if the columns show this value.
use Rattle.std.proofs.Common.{◌≡◌, ◌≢◌, ◌≤◌, ◌+◌, ℕ, true, List, [], ◌∷◌, drop, length, length-drop, refl, sym, ap, ap₂, subst, arith, add-one, Option, Some, None}
use Rattle.std.proofs.lemmas.Bool.{and_parts}
use Rattle.std.specs.List.{AllByRecursion}
use Rattle.sqlite.specs.declared.types.Value.{Value}
use Rattle.sqlite.specs.declared.types.Value.TheVariants.{Null, Int, Real, Text, Blob}
use Rattle.sqlite.specs.Order.{Row, column}
use Rattle.sqlite.specs.Table.{Table}
use Rattle.sqlite.specs.Tree.{Trees}
use Rattle.sqlite_schema.specs.declared.schema.Column.{Column}
use Rattle.sqlite_schema.specs.declared.schema.Constraint.TheVariants.{Datatype}
use Rattle.sqlite_schema.specs.Rules.{are_typed, passes}
use Rattle.sqlite_sql.specs.Ops.{is_null}
use Rattle.tables.specs.Schema as schema
use Rattle.tables.specs.Schema.{archive_schema}
use Rattle.tables_read.specs.Reading.{Agree}
use Rattle.tables_read.specs.Layout.{IsLayout}
use Rattle.tables_read.specs.Layouts.{meta_layout, body_layout, piece_layout, arrival_layout, upload_layout, want_layout, item_layout, ref_layout, file_layout, text_layout, date_layout}

-- the last value, if there is one, is not NULL
abbrev LastSome : Row → Type 0
LastSome [] = Unit {0}
LastSome (c ∷ []) = c ≢ Null
LastSome (c ∷ d ∷ cs) = LastSome (d ∷ cs)

lacking : (at : ℕ) (c : Value) (cs : Row) → LastSome (c ∷ cs) → Agree [] at (c ∷ cs) → ⊥
lacking at c [] last h = last (sym h.0)
lacking at c (d ∷ cs) last h = lacking (at + 1) d cs last h.1

behind_first : (v : Value) (vs : Row) (at : ℕ) (cs : Row) → Agree (v ∷ vs) (at + 1) cs → Agree vs at cs
behind_first v vs at [] h = tt
behind_first v vs at (c ∷ cs) h = (subst (λ n. column (v ∷ vs) n ≡ c) (add-one at) h.0, behind_first v vs (at + 1) cs h.1)

last_behind : (c : Value) (cs : Row) → LastSome (c ∷ cs) → LastSome cs
last_behind c [] last = tt
last_behind c (d ∷ cs) last = last

row_is : (vs cs : Row) → length vs ≤ length cs → LastSome cs → Agree vs 0 cs → vs ≡ cs
row_is [] [] n last h = refl
row_is [] (c ∷ cs) n last h = absurd (lacking 0 c cs last h)
row_is (v ∷ vs) [] n last h = absurd (omega arith)
row_is (v ∷ vs) (c ∷ cs) n last h = ap₂ ◌∷◌ h.0 (row_is vs cs (omega arith) (last_behind c cs last) (behind_first v vs 0 cs h.1))

longer : (c : Column) (v : Value) (cs : List Column) (vs : Row) → length vs ≤ length cs → length (v ∷ vs) ≤ length (c ∷ cs)
longer c v cs vs more = omega (arith, more)

within : (key : Option ℕ) (at : ℕ) (cs : List Column) (vs : Row) → are_typed key at cs vs ≡ true → length vs ≤ length cs
within key at [] [] h = omega arith
within key at [] (v ∷ vs) h = absurd (cc)
within key at (c ∷ cs) [] h = omega arith
within key at (c ∷ cs) (v ∷ vs) h = longer c v cs vs (within key (at + 1) cs vs (and_parts _ _ h).1)

-- a typed row whose columns are these
fits_as : (key : Option ℕ) (columns : List Column) (r cs : Row) → are_typed key 0 columns (drop 1 r) ≡ true → length columns + 1 ≡ length cs → LastSome cs → Agree r 0 cs → r ≡ cs
fits_as key columns r cs typed n last h = row_is r cs (let k = within key 0 columns (drop 1 r) typed in omega (arith, k, length-drop 1 r)) last h

is_null_is : (v : Value) → is_null v ≡ true → v ≡ Null
is_null_is Null h = refl
is_null_is (Int n) h = absurd (cc)
is_null_is (Real x) h = absurd (cc)
is_null_is (Text t) h = absurd (cc)
is_null_is (Blob b) h = absurd (cc)

-- an INTEGER PRIMARY KEY is stored as NULL
no_id : (columns : List Column) (r : Row) → are_typed (Some 0) 0 columns (drop 1 r) ≡ true → column r 1 ≡ Null
no_id columns [] h = refl
no_id columns (v ∷ []) h = refl
no_id [] (v ∷ w ∷ ws) h = absurd (cc)
no_id (c ∷ columns) (v ∷ w ∷ ws) h = is_null_is w (and_parts _ _ h).0

types : (db : Trees) (t : Table) (rows : List Row) → AllByRecursion (λ row. passes Datatype archive_schema db t row ≡ true) rows → AllByRecursion (λ r. are_typed t.key 0 t.columns (drop 1 r) ≡ true) rows
types db t [] h = tt
types db t (r ∷ rs) h = ((and_parts _ _ h.0).0, types db t rs h.1)

pub meta_laid : IsLayout meta_layout
meta_laid = record {
  placed = (0, _, refl, refl);
  number = λ r. refl;
  typed = λ db h. types db schema.meta (db 0) h.0;
  fits = λ x r t s. fits_as None schema.meta.columns r _ t refl (λ e. cc) s;
  back = λ x r e. (ap (λ l. column l 0) e, (ap (λ l. column l 1) e, (ap (λ l. column l 2) e, tt)));
}

pub body_laid : IsLayout body_layout
body_laid = record {
  placed = (1, _, refl, refl);
  number = λ r. refl;
  typed = λ db h. types db schema.bodies (db 1) h.1.0;
  fits = λ x r t s. let null = no_id schema.bodies.columns r t in λ i. s.0 i ∷ null i ∷ s.1.0 i ∷ s.1.1.0 i ∷ s.1.1.1.0 i ∷ s.1.1.1.1.0 i ∷ [];
  back = λ x r e. (ap (λ l. column l 0) e, (ap (λ l. column l 2) e, (ap (λ l. column l 3) e, (ap (λ l. column l 4) e, (ap (λ l. column l 5) e, tt)))));
}

pub piece_laid : IsLayout piece_layout
piece_laid = record {
  placed = (2, _, refl, refl);
  number = λ r. refl;
  typed = λ db h. types db schema.pieces (db 3) h.1.1.0;
  fits = λ x r t s. fits_as None schema.pieces.columns r _ t refl (λ e. cc) s;
  back = λ x r e. (ap (λ l. column l 0) e, (ap (λ l. column l 1) e, (ap (λ l. column l 2) e, (ap (λ l. column l 3) e, tt))));
}

pub arrival_laid : IsLayout arrival_layout
arrival_laid = record {
  placed = (3, _, refl, refl);
  number = λ r. refl;
  typed = λ db h. types db schema.arrivals (db 5) h.1.1.1.0;
  fits = λ x r t s. fits_as (Some 0) schema.arrivals.columns r _ t refl (λ e. cc) (s.0, (no_id schema.arrivals.columns r t, s.1));
  back = λ x r e. (ap (λ l. column l 0) e, (ap (λ l. column l 2) e, (ap (λ l. column l 3) e, (ap (λ l. column l 4) e, tt))));
}

pub upload_laid : IsLayout upload_layout
upload_laid = record {
  placed = (4, _, refl, refl);
  number = λ r. refl;
  typed = λ db h. types db schema.uploads (db 7) h.1.1.1.1.0;
  fits = λ x r t s. let null = no_id schema.uploads.columns r t in λ i. s.0 i ∷ null i ∷ s.1.0 i ∷ s.1.1.0 i ∷ s.1.1.1.0 i ∷ s.1.1.1.1.0 i ∷ s.1.1.1.1.1.0 i ∷ s.1.1.1.1.1.1.0 i ∷ s.1.1.1.1.1.1.1.0 i ∷ [];
  back = λ x r e. (ap (λ l. column l 0) e, (ap (λ l. column l 2) e, (ap (λ l. column l 3) e, (ap (λ l. column l 4) e, (ap (λ l. column l 5) e, (ap (λ l. column l 6) e, (ap (λ l. column l 7) e, (ap (λ l. column l 8) e, tt))))))));
}

pub want_laid : IsLayout want_layout
want_laid = record {
  placed = (5, _, refl, refl);
  number = λ r. refl;
  typed = λ db h. types db schema.wants (db 10) h.1.1.1.1.1.0;
  fits = λ x r t s. fits_as None schema.wants.columns r _ t refl (λ e. cc) s;
  back = λ x r e. (ap (λ l. column l 0) e, (ap (λ l. column l 1) e, (ap (λ l. column l 2) e, (ap (λ l. column l 3) e, (ap (λ l. column l 4) e, (ap (λ l. column l 5) e, (ap (λ l. column l 6) e, (ap (λ l. column l 7) e, tt))))))));
}

pub item_laid : IsLayout item_layout
item_laid = record {
  placed = (6, _, refl, refl);
  number = λ r. refl;
  typed = λ db h. types db schema.items (db 13) h.1.1.1.1.1.1.0;
  fits = λ x r t s. fits_as (Some 0) schema.items.columns r _ t refl (λ e. cc) (s.0, (no_id schema.items.columns r t, s.1));
  back = λ x r e. (ap (λ l. column l 0) e, (ap (λ l. column l 2) e, (ap (λ l. column l 3) e, (ap (λ l. column l 4) e, (ap (λ l. column l 5) e, (ap (λ l. column l 6) e, (ap (λ l. column l 7) e, (ap (λ l. column l 8) e, (ap (λ l. column l 9) e, tt)))))))));
}

pub ref_laid : IsLayout ref_layout
ref_laid = record {
  placed = (7, _, refl, refl);
  number = λ r. refl;
  typed = λ db h. types db schema.refs (db 15) h.1.1.1.1.1.1.1.0;
  fits = λ x r t s. fits_as None schema.refs.columns r _ t refl (λ e. cc) s;
  back = λ x r e. (ap (λ l. column l 0) e, (ap (λ l. column l 1) e, (ap (λ l. column l 2) e, (ap (λ l. column l 3) e, (ap (λ l. column l 4) e, (ap (λ l. column l 5) e, (ap (λ l. column l 6) e, (ap (λ l. column l 7) e, tt))))))));
}

pub file_laid : IsLayout file_layout
file_laid = record {
  placed = (8, _, refl, refl);
  number = λ r. refl;
  typed = λ db h. types db schema.files (db 17) h.1.1.1.1.1.1.1.1.0;
  fits = λ x r t s. fits_as None schema.files.columns r _ t refl (λ e. cc) s;
  back = λ x r e. (ap (λ l. column l 0) e, (ap (λ l. column l 1) e, (ap (λ l. column l 2) e, tt)));
}

pub text_laid : IsLayout text_layout
text_laid = record {
  placed = (9, _, refl, refl);
  number = λ r. refl;
  typed = λ db h. types db schema.texts (db 19) h.1.1.1.1.1.1.1.1.1.0;
  fits = λ x r t s. fits_as None schema.texts.columns r _ t refl (λ e. cc) s;
  back = λ x r e. (ap (λ l. column l 0) e, (ap (λ l. column l 1) e, (ap (λ l. column l 2) e, tt)));
}

pub date_laid : IsLayout date_layout
date_laid = record {
  placed = (10, _, refl, refl);
  number = λ r. refl;
  typed = λ db h. types db schema.dates (db 21) h.1.1.1.1.1.1.1.1.1.1.0;
  fits = λ x r t s. fits_as None schema.dates.columns r _ t refl (λ e. cc) s;
  back = λ x r e. (ap (λ l. column l 0) e, (ap (λ l. column l 1) e, (ap (λ l. column l 2) e, tt)));
}
