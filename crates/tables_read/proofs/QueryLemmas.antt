-- What a query that is no write leaves, and what it says.
use Rattle.std.proofs.Common.{◌≡◌, List, ℕ, [], Result, Ok, Err, IsErrAnd, false, sym, subst}
use Rattle.sqlite.specs.declared.error.Error.{Error}
use Rattle.sqlite.specs.Query.{Query}
use Rattle.sqlite.specs.Order.{Row}
use Rattle.sqlite.specs.State.{State, HasCleanDisk, Survives, Shown, FailsToQuery, CommitsShowing}
use Rattle.sqlite.proofs.Callers.{never_commits}
use Rattle.sqlite.proofs.StateLemmas.{survives_weaker}
use Rattle.tables.proofs.ReadLemmas.{fails_to_query, unchanged_if_plain, plain_in}
use Rattle.tables.specs.Rows.{IsForeign}
use Rattle.tables.specs.Causes.{IsCaused}
use Rattle.tables_read.specs.Reading.{Means, Tells}
use Rattle.tables_read.proofs.CauseLemmas.{IsSure, query_caused}

module _ {query : Query} {tree : ℕ} (old new : State) (sql : List ℕ) (asks : Means query tree sql) (sure : IsSure query) (idle : old.in_transaction ≡ false → new.in_transaction ≡ false)
    (survives : Survives old new (CommitsShowing sql [] old)) where
  pub survives_plain : Survives old new (λ _. IsForeign old.now)
  survives_plain = survives_weaker old new _ _ (λ _ db commits is. never_commits sql [] old db (plain_in sql asks.plain old is) commits) survives

  query_failed : {X : Type 0} {P : X → Type 0} (e f : Error) → f ≡ e → (HasCleanDisk new → FailsToQuery sql [] old new e) → Tells old new (Err f) P
  query_failed e f same h = record {
    idle = idle;
    is = λ _ _. tt;
    unchanged = λ _ _. tt;
    err = λ clean is. fails_to_query old new sql [] e (h clean);
    cause = λ clean is. subst (IsCaused old new) (sym same) (query_caused query tree sql asks sure old new is e (h clean));
    survives = survives_plain;
  }

  pub query_err : {X : Type 0} {P : X → Type 0} (r : Result X Error) (e : Error) → IsErrAnd r (λ f. f ≡ e) → (HasCleanDisk new → FailsToQuery sql [] old new e) → Tells old new r P
  query_err (Ok x) e is h = absurd is
  query_err (Err f) e is h = query_failed e f is h

  pub query_told : {X : Type 0} {P : X → Type 0} (rows : List Row) (x : X) → (HasCleanDisk new → Shown sql [] old new rows) → (Shown sql [] old new rows → P x) → Tells old new (Ok x) P
  query_told rows x shown f = record {
    idle = idle;
    is = λ clean is. f (shown clean);
    unchanged = λ clean is. unchanged_if_plain old new sql [] rows (plain_in sql asks.plain old is) (shown clean);
    err = λ _ _. tt;
    cause = λ _ _. tt;
    survives = survives_plain;
  }
