-- What reading leaves, and what it says.
use Rattle.std.specs.Prelude.{◌≡◌, ◌+◌, ℕ, true, false, List, [], ◌∷◌, Result, IfOk, IfErr, OnOk, OnErr, ⊤}
use Rattle.sqlite.specs.declared.error.Error.{Error}
use Rattle.sqlite.specs.Listing.{understood, reads_listing}
use Rattle.sqlite.specs.Order.{Row, column}
use Rattle.sqlite.specs.Program.{overlay}
use Rattle.sqlite.specs.Tree.{Trees}
use Rattle.sqlite.specs.Command.TheVariants.{Select}
use Rattle.sqlite.specs.Query.{Query}
use Rattle.sqlite.specs.Term.{Term}
use Rattle.sqlite.specs.State.{State, HasCleanDisk, IsUnchanged, Survives}
use Rattle.sqlite.proofs.Callers.{command_of, IsPlain}
use Rattle.sqlite_typing.specs.Types.{accepts_program}
use Rattle.tables.specs.Causes.{IsCaused}
use Rattle.tables.specs.Rows.{Fails, IsForeign, id_cell}
use Rattle.tables.specs.Others.{IsArchiveSchema, Others, with_others}
use Rattle.tables.proofs.CauseLemmas.{IsAlone}
use Rattle.tables.proofs.SelectLemmas.{rows_query}

-- the columns from this place on have these values
abbrev pub Agree : Row → ℕ → Row → Type 0
Agree row at [] = ⊤
Agree row at (v ∷ vs) = (column row at ≡ v) × Agree row (at + 1) vs

-- If the disk is clean and the tables are those of an archive, `Is` holds of what is read, and nothing changes. An error has
-- a cause, and no call commits.
pub record Tells {X : Type 0} (old new : State) (result : Result X Error) (Is : X → Type 0) : Type 0 where
  pub idle : old.in_transaction ≡ false → new.in_transaction ≡ false
  pub is : HasCleanDisk new → IsArchiveSchema old.now.schema → IfOk result Is
  pub unchanged : HasCleanDisk new → IsArchiveSchema old.now.schema → OnOk result (IsUnchanged old new)
  pub err : HasCleanDisk new → IsArchiveSchema old.now.schema → OnErr result (Fails old new)
  pub cause : HasCleanDisk new → IsArchiveSchema old.now.schema → IfErr result (IsCaused old new)
  pub survives : Survives old new (λ _. IsForeign old.now)

-- the text is one statement, and means this query
pub record Means (query : Query) (tree : ℕ) (sql : List ℕ) : Type 0 where
  pub names : List (List ℕ)
  pub is : (o : Others) → command_of (understood (with_others o) sql) ≡ Select (record { lets = []; body = query }) names
  pub plain : (o : Others) → IsPlain (understood (with_others o) sql)
  pub alone : (o : Others) → IsAlone sql (understood (with_others o) sql)
  pub accepted : (o : Others) → accepts_program (with_others o) [] query [] ≡ true
  pub unlisted : (o : Others) → reads_listing (with_others o) sql ≡ false
  pub real : (db : Trees) → overlay db [] tree ≡ db tree

-- the text asks for these columns of the rows of a table, by their rowids
abbrev pub AsksForRows : ℕ → List Term → List ℕ → Type 0
AsksForRows tree columns = Means (rows_query tree [] columns) tree

-- a row of an answer is that of this number, followed by these values
abbrev pub Spells : {X : Type 0} → (X → Row) → Row → ℕ × X → Type 0
Spells seen row x = (column row 0 ≡ id_cell x.0) × Agree row 1 (seen x.1)
