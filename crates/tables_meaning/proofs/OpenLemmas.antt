-- The schema of an archive is plain, and a database in memory fails for want of memory alone.
use Rattle.std.proofs.Common.{◌≡◌, [], None, true, false, inl, inr, IsTrue, IsSome, refl, sym, ap, subst, ◌∙◌, arith}
use Rattle.std.specs.List.{AllByRecursion}
use Rattle.std.specs.Prelude.{All}
use Rattle.std.proofs.lemmas.List.Elements.{All-from_recursion}
use Rattle.sqlite.specs.declared.error.Error.{Error}
use Rattle.sqlite.specs.declared.error.Error.TheVariants.{SqliteFailure}
use Rattle.sqlite.specs.declared.error.ErrorCode.TheVariants.{OutOfMemory}
use Rattle.sqlite.specs.State.{State}
use Rattle.sqlite.specs.Held.{Held, IsNew, state}
use Rattle.sqlite.specs.Steps.{FailsToCommit, IsEmpty, over_memory}
use Rattle.sqlite_trees.specs.declared.memory.MemStore.{MemStore}
use Rattle.sqlite_schema.specs.declared.schema.Column.{Column}
use Rattle.sqlite_schema.specs.declared.schema.Table.{Table}
use Rattle.sqlite_value.specs.declared.value.Value.TheVariants.{Null}
use Rattle.tables.specs.Causes.{IsCaused}
use Rattle.tables.specs.Schema.{archive_schema, no_schema}
use Rattle.tables.proofs.CauseLemmas.{store_failed}
use Rattle.tables_meaning.specs.Opening.{IsPlainTable, no_stamps}

plain : (t : Table) → AllByRecursion (λ c. c.default ≡ Null) t.columns → t.checks ≡ [] → t.stamps ≡ no_stamps → IsPlainTable t
plain t columns checks stamps = record { columns = All-from_recursion (λ (c : Column). c.default ≡ Null) t.columns columns; checks = checks; stamps = stamps }

plain_tables : AllByRecursion IsPlainTable archive_schema.tables
plain_tables = (
  plain _ (refl, (refl, tt)) refl refl,
  (
    plain _ (refl, (refl, (refl, (refl, (refl, tt))))) refl refl,
    (
      plain _ (refl, (refl, (refl, tt))) refl refl,
      (
        plain _ (refl, (refl, (refl, (refl, tt)))) refl refl,
        (
          plain _ (refl, (refl, (refl, (refl, (refl, (refl, (refl, (refl, tt)))))))) refl refl,
          (
            plain _ (refl, (refl, (refl, (refl, (refl, (refl, (refl, tt))))))) refl refl,
            (
              plain _ (refl, (refl, (refl, (refl, (refl, (refl, (refl, (refl, (refl, tt))))))))) refl refl,
              (
                plain _ (refl, (refl, (refl, (refl, (refl, (refl, (refl, tt))))))) refl refl,
                (
                  plain _ (refl, (refl, tt)) refl refl,
                  (
                    plain _ (refl, (refl, tt)) refl refl,
                    (
                      plain _ (refl, (refl, tt)) refl refl,
                      tt,
                    ),
                  ),
                ),
              ),
            ),
          ),
        ),
      ),
    ),
  ),
)

pub archive_is_plain : All IsPlainTable archive_schema.tables
archive_is_plain = All-from_recursion IsPlainTable archive_schema.tables plain_tables

-- an open connection without a limit, whose store counts no fault
want_of_memory : (old new : State) (e : Error) → IsTrue old.is_open → old.step_limit ≡ None → new.faults ≡ 0 → IsCaused old new e → e ≡ SqliteFailure OutOfMemory
want_of_memory old new e up unlimited faultless (inl memory) = memory
want_of_memory old new e up unlimited faultless (inr (inl more)) = absurd (omega (arith, faultless, more))
want_of_memory old new e up unlimited faultless (inr (inr (inl shut))) = absurd (let k : true ≡ false = sym up ∙ shut in cc)
want_of_memory old new e up unlimited faultless (inr (inr (inr limited))) = absurd (let k : false ≡ true = subst IsSome unlimited limited in cc)

-- the commit of a transaction that is not ended
pub commit_caused : (old new : State) (e : Error) → old.in_transaction ≡ true → FailsToCommit old new e → IsCaused old new e
commit_caused old new e inside (inl failed) = store_failed old new e failed
commit_caused old new e inside (inr ended) = absurd (let k : true ≡ false = sym inside ∙ ended.1 in cc)

-- a transaction on a new database in memory
module _ (conn begun : Held MemStore) (empty : IsEmpty (state over_memory conn)) (new : IsNew conn) (is : begun ≡ record conn { in_transaction = true }) where
  pub inside : begun.in_transaction ≡ true
  inside = ap (λ (h : Held MemStore). h.in_transaction) is

  pub no_table : begun.schema ≡ no_schema
  no_table = ap (λ (h : Held MemStore). h.schema) is ∙ empty.2

  pub wants_memory : (later : Held MemStore) (e : Error) → IsCaused (state over_memory begun) (state over_memory later) e → e ≡ SqliteFailure OutOfMemory
  wants_memory later e caused =
      let up : IsTrue (state over_memory begun).is_open = subst (λ (h : Held MemStore). IsTrue (state over_memory h).is_open) (sym is) empty.0.is_open in
      let unlimited : begun.step_limit ≡ None = ap (λ (h : Held MemStore). h.step_limit) is ∙ new.unlimited in
      want_of_memory (state over_memory begun) (state over_memory later) e up unlimited refl caused
