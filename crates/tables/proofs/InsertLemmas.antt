-- What an INSERT of one row does to a table.
use Rattle.std.proofs.Common.{◌≡◌, ◌≢◌, ◌≤◌, ◌⊎◌, inl, inr, ℕ, ◌/◌, List, [], ◌∷◌, length, slice_get, Some, None, Option, unwrap_or, Ok, Err, Result, sym, ap, subst, ◌∙◌, append-nil}
use Rattle.std.specs.List.{AllByRecursion}
use Rattle.sqlite_value.specs.Order.{Row}
use Rattle.sqlite_trees.specs.Tree.{Trees, put_row}
use Rattle.sqlite_sql.specs.Term.{Term}
use Rattle.sqlite_schema.specs.declared.schema.Column.{Column}
use Rattle.sqlite_schema.specs.declared.schema.Reference.{Reference}
use Rattle.sqlite_schema.specs.declared.schema.Keys.TheVariants.{Enforced}
use Rattle.sqlite_rules.specs.Action.{works}
use Rattle.sqlite_rules.specs.Edit.{edit_of, edited, with_rowid, id_in}
use Rattle.sqlite_rules.specs.Cast.{cast_row}
use Rattle.sqlite_rules.specs.declared.error.Rowids.TheVariants.{Chosen}
use Rattle.sqlite.specs.Command.TheVariants.{Insert}
use Rattle.sqlite.specs.Source.TheVariants.{Values}
use Rattle.sqlite.specs.Table.{Table}
use Rattle.sqlite.specs.Effect.{Database, value_rows}
use Rattle.sqlite.specs.Does.{Tally, Does}
use Rattle.sqlite.specs.Rows.{Written, last_id}
use Rattle.sqlite.specs.Listing.{understood}
use Rattle.sqlite.specs.State.{State, mode_of, Executes}
use Rattle.sqlite.proofs.Callers.{IsPlain, command_of, statement_of, runs_as, one_step}
use Rattle.sqlite_trees.specs.Tree.{rowid}
use Rattle.tables.specs.Schema.{archive_schema, table}
use Rattle.tables.specs.Others.{IsArchiveSchema, Others, last_tree, others_in, with_others}
use Rattle.tables.proofs.CalmLemmas.{calm}
use Rattle.tables.proofs.OtherLemmas.{own_tables, stays}

-- a part that gave a value did not stop on the way
pub went : {B E R : Type 0} {b : B} {Stops : E → Type 0} → ((stop : E) × Stops stop × (Ok b ≡ Err stop)) ⊎ R → R
went (inl stopped) = absurd (let e = stopped.2 in cc)
went (inr on) = on

pub same_value : {B E : Type 0} {a b : B} → ◌≡◌ {A = Result B E} (Ok a) (Ok b) → a ≡ b
same_value e = cc

-- the row is put into the table, the other tables keep theirs, and the connection has the row's number
pub record PutsRow (into : Table) (row : Row) (old new : State) : Type 0 where
  pub schema_is : IsArchiveSchema new.now.schema
  pub rows : new.now.trees into.tree ≡ put_row (with_rowid Chosen (old.now.trees into.tree) (cast_row into row)) (old.now.trees into.tree)
  pub others : AllByRecursion (λ t. t.tree ≢ into.tree → new.now.trees t.tree ≡ old.now.trees t.tree) archive_schema.tables
  pub last : new.last_rowid ≡ id_in (rowid (with_rowid Chosen (old.now.trees into.tree) (cast_row into row)))

module _ (sql : List ℕ) (at : ℕ) (terms : List Term) (width : ℕ) (is : (o : Others) → command_of (understood (with_others o) sql) ≡ Insert at (Values terms width))
    (plain : (o : Others) → IsPlain (understood (with_others o) sql)) (name : List ℕ) (columns : List Column) (key : Option ℕ) (primary : List ℕ) (uniques : List (List ℕ)) (references : List Reference) (tree : ℕ) where
  abbrev into : Table
  into = record (table name columns key primary uniques references) { tree = tree }

  module _ (there : (o : Others) → slice_get (with_others o).tables at ≡ Some into) (low : tree ≤ last_tree) where
    pub puts : (old new : State) (params row : Row) (count : ℕ) → value_rows params width (length terms / width) terms ≡ row ∷ [] → IsArchiveSchema old.now.schema → Executes sql params old new (Ok count)
        → PutsRow into row old new
    puts old new params row count one was h =
        let o = others_in old.now.schema in
        let schema = with_others o in
        let has = was.is in
        let db = old.now.trees in
        let command = Insert at (Values terms width) in
        let w = runs_as sql params old new schema has command (is o) (plain o) count h in
        let text = statement_of sql (understood schema sql) in
        let change = subst (λ s. Does old.step_limit (mode_of old) params (record old.now { schema = s }) text None command (Ok (w.tally, new.now))) has w.changed in
        let done = went (rw (there o) at change) in
        let told = same_value (went (went done.2).2).2 in
        let now = ap (λ (p : Tally × Database). p.1) told in
        let given = went done.1 in
        let written = went (went given.2).2 in
        let counted = went written.2 in
        let trees : done.0.trees ≡ written.0 = ap (λ (it : Written). it.trees) (same_value counted.2) ∙ same_value counted.1 in
        let rows : given.0 ≡ row ∷ [] = given.1.1 ∙ ap (λ p. value_rows p width (length terms / width) terms) (append-nil params) ∙ one in
        let new_row = with_rowid Chosen (db tree) (cast_row into row) in
        let applied = one_step schema Enforced db written.0 (edit_of db into [] Chosen 0 given.0) (subst (λ all. works schema Enforced 0 tree [] (edit_of db into [] Chosen 0 all).news ≡ []) (sym rows) (calm o was.apart tree low [] (new_row ∷ []))) written.1 in
        let edit : edited db (edit_of db into [] Chosen 0 given.0) ≡ put_row new_row (db tree) = ap (λ all. edited db (edit_of db into [] Chosen 0 all)) rows in
        let last : last_id (edit_of db into [] Chosen 0 given.0).news ≡ Some (id_in (rowid new_row)) = ap (λ all. last_id (edit_of db into [] Chosen 0 all).news) rows in
        let all : new.now.trees ≡ written.0 = ap (λ (d : Database). d.trees) now ∙ trees in
        record {
          schema_is = stays old.now.schema new.now.schema was (ap (λ (d : Database). d.schema) now);
          rows = ap (λ (t : Trees). t tree) all ∙ applied.rows ∙ edit;
          others = subst (λ (n : Trees). AllByRecursion (λ t. t.tree ≢ tree → n t.tree ≡ db t.tree) archive_schema.tables) (sym all) (own_tables (λ t. t.tree ≢ tree → written.0 t.tree ≡ db t.tree) o applied.tables);
          last = w.last_rowid ∙ ap (λ o. unwrap_or o old.last_rowid) (ap (λ (p : Tally × Database). p.0.last) told ∙ ap (λ (it : Written). it.last) (same_value counted.2) ∙ last);
        }
