-- What a CREATE TABLE makes of a database whose tables are empty.
use Rattle.std.proofs.Common.{◌≡◌, ℕ, List, [], ◌∷◌, false, None, Ok, sym, ap, subst, ◌∙◌}
use Rattle.std.specs.List.{AllByRecursion}
use Rattle.sqlite_keyed.proofs.ListLemmas.{all-append}
use Rattle.sqlite.specs.Command.TheVariants.{CreateTable}
use Rattle.sqlite.specs.Compile.{table_defined_by}
use Rattle.sqlite.specs.Change.{created, next_tree}
use Rattle.sqlite.specs.Table.{Table}
use Rattle.sqlite.specs.Schema.{Schema}
use Rattle.sqlite.specs.Tree.{Trees}
use Rattle.sqlite.specs.Effect.{Database}
use Rattle.sqlite.specs.Does.{Tally, lacks_sequence}
use Rattle.sqlite.specs.Listing.{understood}
use Rattle.sqlite.specs.State.{State, Writes, Executes}
use Rattle.sqlite.proofs.Callers.{IsPlain, command_of, statement_of, runs_as}
use Rattle.tables.specs.Creating.{IsEmpty}
use Rattle.tables.proofs.InsertLemmas.{went, same_value}

-- the text makes the table under the schema
pub record Makes (schema : Schema) (sql : List ℕ) (table : Table) : Type 0 where
  pub is : command_of (understood schema sql) ≡ CreateTable
  pub plain : IsPlain (understood schema sql)
  pub text : statement_of sql (understood schema sql) ≡ sql
  pub defined : table_defined_by sql ≡ Ok table
  pub uncounted : lacks_sequence (created schema table) ≡ false

still_empty : (tables : List Table) (old new : Trees) → AllByRecursion (λ t. new t.tree ≡ old t.tree) tables → AllByRecursion (λ t. old t.tree ≡ []) tables → AllByRecursion (λ t. new t.tree ≡ []) tables
still_empty [] old new same none = tt
still_empty (t ∷ tables) old new same none = (same.0 ∙ none.0, still_empty tables old new same.1 none.1)

-- a table that is made empty, beside tables that keep their rows
one_more : (schema : Schema) (table : Table) (old new : Database) → IsEmpty schema old → new.schema ≡ created schema table → new.trees (next_tree schema) ≡ []
    → AllByRecursion (λ t. new.trees t.tree ≡ old.trees t.tree) schema.tables → IsEmpty (created schema table) new
one_more schema table old new was schema_is empty kept = record {
  schema_is = schema_is;
  empty = all-append (λ t. new.trees t.tree ≡ []) schema.tables (record table { tree = next_tree schema } ∷ []) (still_empty schema.tables old.trees new.trees kept was.empty) (empty, tt);
}

pub creates : (schema : Schema) (sql : List ℕ) (table : Table) → Makes schema sql table → (old new : State) (count : ℕ) → IsEmpty schema old.now → Executes sql [] old new (Ok count) → IsEmpty (created schema table) new.now
creates schema sql table m old new count was h =
    let w = subst (λ t. Writes old new None CreateTable t [] count) m.text (runs_as sql [] old new schema was.schema_is CreateTable m.is m.plain count h) in
    let all = went w.changed in
    let first = went all.1 in
    let made = first.1 in
    let both : Ok made.table ≡ Ok table = sym made.defined ∙ m.defined in
    let same : made.table ≡ table = cc in
    let schema_is : first.0.schema ≡ created schema table = made.is ∙ ap (λ s. created s made.table) was.schema_is ∙ ap (created schema) same in
    let plain : lacks_sequence first.0.schema ≡ false = ap lacks_sequence schema_is ∙ m.uncounted in
    let now : new.now ≡ first.0 = ap (λ (p : Tally × Database). p.1) (same_value all.2) ∙ same_value (rw plain at first.2) in
    let kept = subst (λ (s : Schema). AllByRecursion (λ t. first.0.trees t.tree ≡ old.now.trees t.tree) s.tables) was.schema_is made.others in
    let empty = subst (λ s. first.0.trees (next_tree s) ≡ []) was.schema_is made.empty in
    subst (IsEmpty (created schema table)) (sym now) (one_more schema table old.now first.0 was schema_is empty kept)
