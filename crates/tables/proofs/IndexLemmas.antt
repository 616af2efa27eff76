-- The two indexes of bodies, made after the tables of an archive.
use Rattle.std.proofs.Common.{◌≡◌, ℕ, List, [], ◌∷◌, ◌++◌, slice_get, None, Some, Ok, refl, sym, ap, subst, ◌∙◌}
use Rattle.sqlite_tied.specs.Compute.{everything}
use Rattle.sqlite_catalog.specs.Change.{indexed, KeepsRows}
use Rattle.sqlite_schema.specs.declared.schema.Index.{Index}
use Rattle.sqlite.specs.Command.TheVariants.{CreateIndex}
use Rattle.sqlite.specs.Compile.{index_defined_by}
use Rattle.sqlite.specs.Table.{Table}
use Rattle.sqlite.specs.Schema.{Schema}
use Rattle.sqlite.specs.Tree.{Trees}
use Rattle.sqlite.specs.Effect.{Database}
use Rattle.sqlite.specs.Does.{Does, Tally}
use Rattle.sqlite.specs.Listing.{understood}
use Rattle.sqlite.specs.State.{State, Writes, Executes, ExecutesInside, mode_of}
use Rattle.sqlite.proofs.Callers.{IsPlain, command_of, statement_of, runs_as}
use Rattle.tables.specs.Schema.{archive_schema, arrivals, files}
use Rattle.tables.specs.Others.{IsArchiveSchema, arrivals_by_body, files_by_body, is_apart_from, is_known, with_indexes}
use Rattle.tables.specs.Creating.{CreatesIndexes}
use Rattle.tables.specs.declared.schema.TheConstants.{CREATE_ARRIVALS_BY_BODY, CREATE_FILES_BY_BODY}
use Rattle.tables.proofs.HoldsLemmas.{with_all}
use Rattle.tables.proofs.InsertLemmas.{went, same_value}
use Rattle.tables.proofs.TransactionLemmas.{keeps_then}

-- the text makes the index of the table at this place under the schema
record MakesIndex (schema : Schema) (at : ℕ) (sql : List ℕ) (table : Table) (index : Index) : Type 0 where
  pub is : command_of (understood schema sql) ≡ CreateIndex at
  pub plain : IsPlain (understood schema sql)
  pub text : statement_of sql (understood schema sql) ≡ sql
  pub there : slice_get schema.tables at ≡ Some table
  pub defined : index_defined_by table sql ≡ Ok index

-- afterwards the schema has the index, and each table has the rows that it had
record Indexes (schema : Schema) (table : Table) (index : Index) (old new : Database) : Type 0 where
  pub schema_is : new.schema ≡ indexed schema table index
  pub rows : KeepsRows schema.tables old.trees new.trees

makes_index : (schema : Schema) (at : ℕ) (sql : List ℕ) (table : Table) (index : Index) → MakesIndex schema at sql table index → (old new : State) (count : ℕ) → old.now.schema ≡ schema → Executes sql [] old new (Ok count)
    → Indexes schema table index old.now new.now
makes_index schema at sql table index m old new count was h =
    let w = subst (λ t. Writes old new None (CreateIndex at) t [] count) m.text (runs_as sql [] old new schema was (CreateIndex at) m.is m.plain count h) in
    let change = subst (λ s. Does old.step_limit (mode_of old) [] (record old.now { schema = s }) sql None (CreateIndex at) (Ok (w.tally, new.now))) was w.changed in
    let done = went (rw m.there at change) in
    let made = done.1 in
    let both : Ok made.index ≡ Ok index = sym made.defined ∙ m.defined in
    let same : made.index ≡ index = cc in
    let now : new.now ≡ done.0 = ap (λ (p : Tally × Database). p.1) (same_value done.2) in
    record {
      schema_is = ap (λ (d : Database). d.schema) now ∙ made.is ∙ ap (indexed schema table) same;
      rows = subst (λ (n : Trees). KeepsRows schema.tables old.now.trees n) (sym (ap (λ (d : Database). d.trees) now)) made.rows;
    }

-- the tables of an archive with the first of the two
abbrev one_index : Schema
one_index = record archive_schema { indexes = archive_schema.indexes ++ record arrivals_by_body { tree = 23 } ∷ [] }

arrivals_by_body_made : MakesIndex archive_schema 3 CREATE_ARRIVALS_BY_BODY.now (record arrivals { tree = 5 }) arrivals_by_body
unfolding understood everything
arrivals_by_body_made = record { is = refl; plain = (refl, refl); text = refl; there = refl; defined = refl }

files_by_body_made : MakesIndex one_index 8 CREATE_FILES_BY_BODY.now (record files { tree = 17 }) files_by_body
unfolding understood everything
files_by_body_made = record { is = refl; plain = (refl, refl); text = refl; there = refl; defined = refl }

known : IsArchiveSchema with_indexes
unfolding is_apart_from is_known
known = record { is = refl; apart = record { tables = refl; indexes = refl } }

pub both_made : (old mid new : State) (m n : ℕ) → ExecutesInside 0 CREATE_ARRIVALS_BY_BODY.now [] old mid (Ok m) → ExecutesInside 0 CREATE_FILES_BY_BODY.now [] mid new (Ok n) → CreatesIndexes old new
both_made old mid new m n first second = record {
  held = λ is t was.
      let one = begins is in
      let two = ends is in
      record { schema = subst IsArchiveSchema (sym two.schema_is) known; rows = with_all mid.now.trees new.now.trees t (with_all old.now.trees mid.now.trees t was.rows one.rows) two.rows };
  made = λ is. (ends is).schema_is;
  kept = keeps_then old mid new (record { was_open = λ _. first.1.was_open; committed = λ _. first.1.committed_is }) (record { was_open = λ _. second.1.was_open; committed = λ _. second.1.committed_is });
  mode = second.1.mode;
}
  where
    begins : old.now.schema ≡ archive_schema → Indexes archive_schema (record arrivals { tree = 5 }) arrivals_by_body old.now mid.now
    begins is = makes_index archive_schema 3 CREATE_ARRIVALS_BY_BODY.now (record arrivals { tree = 5 }) arrivals_by_body arrivals_by_body_made old mid m is first.0

    ends : old.now.schema ≡ archive_schema → Indexes one_index (record files { tree = 17 }) files_by_body mid.now new.now
    ends is = makes_index one_index 8 CREATE_FILES_BY_BODY.now (record files { tree = 17 }) files_by_body files_by_body_made mid new n (begins is).schema_is second.0
