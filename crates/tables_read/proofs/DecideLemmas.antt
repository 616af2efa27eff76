-- Whether rows that were read are those of the table.
use Rattle.std.proofs.Common.{◌≡◌, true, Option, None, Some, MatchOption, Result, Ok, Err, IsTrue, refl, sym, subst, ap, ◌∙◌}
use Rattle.sqlite.specs.Effect.{Database}
use Rattle.sqlite.specs.declared.error.Error.{Error}
use Rattle.sqlite.specs.State.{State, IsLive}
use Rattle.sqlite_catalog.specs.Listing.{IsSound}
use Rattle.sqlite_catalog.specs.Reading.{IsTableShaped}
use Rattle.sqlite_catalog.proofs.LayoutLemmas.{objects_rise}
use Rattle.sqlite_catalog.proofs.ReadLemmas.{shaped_of}
use Rattle.sqlite_rules.proofs.ListLemmas.{all_has, has_got}
use Rattle.std.specs.List.{AllByRecursion}
use Rattle.sqlite_schema.specs.Rules.{Keeps, passes}
use Rattle.sqlite_schema.specs.declared.schema.Constraint.TheVariants.{Datatype}
use Rattle.sqlite_trees.specs.Tree.{Trees, IsTable as IsRising}
use Rattle.sqlite_trees.specs.View.{View, IsShaped}
use Rattle.tables.specs.Rows.{Numbered}
use Rattle.tables.specs.Schema.{archive_schema}
use Rattle.tables.specs.Others.{IsArchiveSchema, Others, others_in, with_others}
use Rattle.tables.proofs.OtherLemmas.{own_tables}
use Rattle.tables_read.specs.InOrder.{IsInOrder}
use Rattle.tables_read.specs.Layout.{Layout, IsLayout, AreRead, IsNotRead, HasAnswer, IsTable, IsNoTable}
use Rattle.tables_read.specs.Reading.{Tells}
use Rattle.tables_read.proofs.StepLemmas.{failed, told}
use Rattle.tables_read.proofs.TableLemmas.{raw_spells, is_table}

typed_in : (s : State) → IsLive s → IsTrue s.is_open → IsArchiveSchema s.now.schema → Keeps Datatype archive_schema s.now.trees
typed_in s live up is =
    own_tables (λ t. AllByRecursion (λ row. passes Datatype archive_schema s.now.trees t row ≡ true) (s.now.trees t.tree)) (others_in s.now.schema)
    ((subst (λ schema. IsSound schema s.now.trees) is.is (live up).0).obeys.rules Datatype)

-- what was committed, as a view shows what a transaction sees
abbrev committed_view : View → View
committed_view v = record v { trees = v.committed; shape = v.committed_shape; reals = v.committed_reals }

module _ {X : Type 0} (l : Layout X) (laid : IsLayout l) where
  -- the rows of the table rise
  committed_rises : (o : Others) (v : View) → IsInOrder v → IsSound (with_others o) v.committed → IsRising (v.committed l.tree)
  committed_rises o v order sound =
      let w = committed_view v in
      let rising = objects_rise w order.listed order.ordered in
      let shaped = shaped_of w (with_others o) order.listed rising sound.lists in
      let at = laid.placed in
      let shape : IsTableShaped w at.1 = all_has (IsTableShaped w) archive_schema.tables at.1 (own_tables (IsTableShaped w) o shaped.tables) (has_got archive_schema.tables at.0 at.1 at.2) in
      (subst (λ t. IsRising (v.committed t)) at.3 (subst (λ s. IsShaped s (v.committed at.1.tree)) shape.0 (order.ordered at.1.tree)).0)

  -- the rows of the table rise outside a transaction, when a connection shows what was committed
  pub rows_rise : (s : State) (v : View) → IsInOrder v → s.committed.trees ≡ v.committed → s.now ≡ s.committed → IsLive s → IsTrue s.is_open → IsArchiveSchema s.now.schema → IsRising (s.now.trees l.tree)
  rows_rise s v order same settled live up is =
      let trees : s.now.trees ≡ v.committed = ap (λ (d : Database). d.trees) settled ∙ same in
      let o = others_in s.now.schema in
      let sound : IsSound (with_others o) s.now.trees = subst (λ schema. IsSound schema s.now.trees) is.is (live up).0 in
      subst (λ (db : Trees). IsRising (db l.tree)) (sym trees) (committed_rises o v order (subst (IsSound (with_others o)) trees sound))

module _ {X V : Type 0} (l : Layout X) (laid : IsLayout l) (real : X → Type 0) (items : V → Numbered X) (a b : State) where
  -- what the query for the rows says
  abbrev Answers : Option V → Type 0
  Answers o = MatchOption o (HasAnswer l a b (IsNotRead l real)) (λ all. HasAnswer l a b (λ raw. AreRead l raw (items all)))

  -- what is known of the table
  abbrev Finds : Option V → Type 0
  Finds o = MatchOption o (IsNoTable l real a.now) (λ all. IsTable l a.now (items all))

  finds : IsLive a → IsTrue a.is_open → IsArchiveSchema a.now.schema → IsRising (a.now.trees l.tree) → (o : Option V) → Answers o → Finds o
  finds live up is rising None h = λ xs all has. h.is xs all (raw_spells l laid h.sql h.asks a b h.rows is h.shown xs has)
  finds live up is rising (Some all) h = is_table l laid h.sql h.asks a b h.rows is h.shown (typed_in a live up is) rising (items all) h.is

  pub table_told : (v : View) → (IsTrue a.is_open → IsInOrder v) → a.committed.trees ≡ v.committed → (IsTrue a.is_open → a.now ≡ a.committed) → IsLive a
      → (r : Result (Option V) Error) → Tells a b r Answers → Tells a b r Finds
  table_told v order same settled live (Err e) h = failed a b e e refl h
  table_told v order same settled live (Ok o) h =
      told a b o o h (λ clean is kept p. let up = kept.0.was_open in finds live up is (rows_rise l laid a v (order up) same (settled up) live up is) o p)
