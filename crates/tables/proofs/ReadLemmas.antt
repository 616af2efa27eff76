-- What a query leaves of the connection.
use Rattle.std.proofs.Common.{◌⊎◌, ℕ, List, inl, inr, Option, None, Some, refl, sym, subst, arith}
use Rattle.sqlite_schema.specs.declared.command.Returning.{Returning}
use Rattle.sqlite_resolve.specs.declared.compiled.Compiled.{Compiled}
use Rattle.sqlite.specs.Order.{Row}
use Rattle.sqlite.specs.declared.error.Error.{Error}
use Rattle.sqlite.specs.Listing.{understood}
use Rattle.sqlite.specs.Given.{IsPlain}
use Rattle.sqlite.specs.State.{State, Shown, IsUnchanged, IsNotRun, FailsToQuery, FailsToShow, IsTooLate, Survives}
pub use Rattle.sums.proofs.Results.{on_err}
use Rattle.tables.specs.Others.{IsArchiveSchema, Others, others_in, with_others}
use Rattle.tables.specs.Rows.{Stands, Fails, IsForeign}
use Rattle.tables.specs.Reading.{IsPlainIn}
use Rattle.tables.proofs.SelectLemmas.{unchanged}

module _ (old new : State) where
  pub stands : IsUnchanged old new → Stands old new
  stands h = record { was_open = λ _. h.0.was_open; now_is = h.0.now_is; committed_is = h.0.committed_is; mode = h.0.mode }

  pub fails_unchanged : IsUnchanged old new → Fails old new
  fails_unchanged h = inl (stands h)

  not_run : (sql : List ℕ) (params : Row) (e : Error) → IsNotRun old new sql params e → Fails old new
  unfolding IsNotRun
  not_run sql params e (inl h) = fails_unchanged h.1
  not_run sql params e (inr h) = inr h.3

  not_shown : (sql : List ℕ) (c : Compiled) (params : Row) (e : Error) (o : Option Returning) → FailsToShow old new sql c params e o → Fails old new
  not_shown sql c params e None h = fails_unchanged h.3
  not_shown sql c params e (Some what) (inl h) = fails_unchanged h.1
  not_shown sql c params e (Some what) (inr h) = inr h.3

  pub fails_to_query : (sql : List ℕ) (params : Row) (e : Error) → FailsToQuery sql params old new e → Fails old new
  unfolding FailsToQuery
  fails_to_query sql params e (inl h) = not_run sql params e h
  fails_to_query sql params e (inr h) = not_shown sql h.0 _ e h.0.returning h.2

  pub fails_inside : (sql : List ℕ) (params : Row) (e : Error) → FailsToQuery sql params old new e ⊎ IsTooLate sql params old new e → Fails old new
  fails_inside sql params e (inl h) = fails_to_query sql params e h
  fails_inside sql params e (inr h) = fails_unchanged h.5

  pub unchanged_if_plain : (sql : List ℕ) (params : Row) (rows : List Row) → IsPlainIn old sql → Shown sql params old new rows → IsUnchanged old new
  unchanged_if_plain sql params rows plain h = unchanged old.now.schema sql params old new rows refl plain h

-- a text that is plain under each schema of an archive and is not plain here shows that the database is foreign
pub foreign : (sql : List ℕ) → ((o : Others) → IsPlain (understood (with_others o) sql)) → (s : State) → ¬ IsPlainIn s sql → IsForeign s.now
foreign sql plain s not_plain same = not_plain (subst (λ schema. IsPlain (understood schema sql)) (sym same.is) (plain (others_in s.now.schema)))

pub plain_in : (sql : List ℕ) → ((o : Others) → IsPlain (understood (with_others o) sql)) → (s : State) → IsArchiveSchema s.now.schema → IsPlainIn s sql
plain_in sql plain s same = subst (λ schema. IsPlain (understood schema sql)) (sym same.is) (plain (others_in s.now.schema))

-- if nothing is done, a crash leaves nothing new
pub survives_none : (s : State) → Survives s s (λ _. ⊥)
survives_none s = record {
  clean = omega arith;
  shield = λ h. h;
  counts = omega arith;
  limit = refl;
  closes = λ clean up. inl up;
  crash = λ clean db h. inl h;
}
