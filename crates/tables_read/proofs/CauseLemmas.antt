-- Why a read fails.
use Rattle.std.proofs.Common.{◌≡◌, pos, ◌⊎◌, ◌<◌, ◌≤◌, ℕ, List, [], ◌∷◌, ◌++◌, length, map, inl, inr, true, false, Ok, refl, sym, ap, subst, ◌∙◌, arith}
use Rattle.std.specs.Prelude.{Any}
use Rattle.std.specs.List.{AllByRecursion}
use Rattle.std.proofs.lemmas.List.{get_or_at, length-append, length-map}
use Rattle.std.proofs.lemmas.List.Elements.{All-from_recursion, recursion_from_All}
use Rattle.std.proofs.lemmas.List.Sorted.{All-permutation}
use Rattle.sqlite.specs.declared.error.Error.{Error}
use Rattle.sqlite.specs.declared.error.Error.TheVariants.{SqliteFailure}
use Rattle.sqlite.specs.declared.error.ErrorCode.TheVariants.{OutOfMemory}
use Rattle.sqlite.specs.declared.types.Value.TheVariants.{Null, Int}
use Rattle.sqlite.specs.Effect.{Database, RefusesQuery, RefusesToRead}
use Rattle.sqlite.specs.Given.{IsPlain}
use Rattle.sqlite.specs.Listing.{understood, reads_listing, IsSourceOf}
use Rattle.sqlite.specs.Order.{Row, column}
use Rattle.sqlite.specs.Program.{QueryOverflows, overlay}
use Rattle.sqlite.specs.Query.{Query, IsAnswer}
use Rattle.sqlite.specs.State.{State, FailsToQuery, Shown}
use Rattle.sqlite.specs.Command.{Command}
use Rattle.sqlite.specs.Command.TheVariants.{Select}
use Rattle.sqlite.specs.Term.{Term}
use Rattle.sqlite.specs.Tree.{Trees}
use Rattle.sqlite.proofs.Callers.{command_of, reads_as}
use Rattle.sqlite_keyed.proofs.ListLemmas.{all_map, all_of}
use Rattle.sqlite_sql.specs.Query.{Output, output}
use Rattle.sqlite_sql.specs.Term.{Env, eval_all}
use Rattle.sqlite_typing.specs.Types.{accepts_program}
use Rattle.tables.specs.Causes.{IsCaused}
use Rattle.tables.specs.Others.{IsArchiveSchema, others_in, with_others}
use Rattle.tables.proofs.CauseLemmas.{IsAlone, not_run}
use Rattle.tables.proofs.SelectLemmas.{rows_query}
use Rattle.tables_read.specs.Layout.{IsLayout, IsShort, Layout}
use Rattle.tables_read.specs.Reading.{AsksForRows, Means}

-- no sum of the query is too large
abbrev pub IsSure : Query → Type 0
IsSure query = (db : Trees) → QueryOverflows query db [] → ⊥

none_of : {X : Type 0} (xs : List X) → Any (λ _. ⊥) xs → ⊥
none_of xs any = any.4

pub rows_sure : (tree : ℕ) (columns : List Term) → IsSure (rows_query tree [] columns)
rows_sure tree columns db (inl bad) = bad
rows_sure tree columns db (inr bad) = none_of _ bad

module _ (query : Query) (tree : ℕ) (sql : List ℕ) (asks : Means query tree sql) (sure : IsSure query) (old new : State) (schema : IsArchiveSchema old.now.schema) (e : Error) where
  refused : (db : Database) → IsArchiveSchema db.schema → RefusesQuery old.step_limit db (record { lets = []; body = query }) [] e → IsCaused old new e
  refused db is (inl wrong) = absurd (let k : true ≡ false = sym (asks.accepted (others_in db.schema)) ∙ ap (λ s. accepts_program s [] query []) (sym is.is) ∙ wrong.1 in cc)
  refused db is (inr (inl large)) = absurd (sure (overlay db.trees []) large.1)
  refused db is (inr (inr limited)) = inr (inr (inr limited.1))

  not_shown : (command : Command) (db : Database) → command ≡ Select (record { lets = []; body = query }) asks.names → db ≡ old.now → RefusesToRead old.step_limit command db [] e → IsCaused old new e
  not_shown command db is same h = refused db (subst IsArchiveSchema (sym (ap (λ (d : Database). d.schema) same)) schema) (subst (λ k. RefusesToRead old.step_limit k db [] e) is h)

  pub query_caused : FailsToQuery sql [] old new e → IsCaused old new e
  unfolding FailsToQuery
  query_caused (inl h) = not_run old new sql e (subst (λ s. IsAlone sql (understood s sql)) (sym schema.is) (asks.alone (others_in old.now.schema))) (subst (λ s. IsPlain (understood s sql)) (sym schema.is) (asks.plain (others_in old.now.schema))) h
  query_caused (inr h) =
      let o = others_in old.now.schema in
      let same : Ok h.0 ≡ understood (with_others o) sql = sym h.1.is ∙ ap (λ s. understood s sql) schema.is in
      let bare = subst IsPlain (sym same) (asks.plain o) in
      let it = rw (bare.0, bare.1) at h.2 in
      let unlisted : reads_listing old.now.schema sql ≡ false = subst (λ s. reads_listing s sql ≡ false) (sym schema.is) (asks.unlisted o) in
      let db : it.0 ≡ old.now = subst (λ b. IsSourceOf b old.now it.0) unlisted it.1 in
      not_shown h.0.command it.0 (ap command_of same ∙ asks.is o) db it.2

-- ---- rows that are as long as the query is wide

some_column : (columns : List Term) → column (eval_all columns ([] ∷ (Int (pos 0) ∷ []) ∷ [])) 0 ≡ Int (pos 0) → 0 < length columns
some_column [] h = absurd (let e : Null ≡ Int (pos 0) = h in cc)
some_column (c ∷ columns) h = omega arith

module _ {X : Type 0} (l : Layout X) (laid : IsLayout l) where
  -- a row without the rowid lacks a column
  empty_is_short : (row : Row) → length row ≤ 0 → IsShort l row
  empty_is_short row none = omega (arith, none, some_column l.columns (laid.number (Int (pos 0) ∷ [])))

  pub lacks_number : (row : Row) (e : Error) → (e ≡ SqliteFailure OutOfMemory) ⊎ (length row ≤ 0) → (e ≡ SqliteFailure OutOfMemory) ⊎ IsShort l row
  lacks_number row e (inl memory) = inl memory
  lacks_number row e (inr none) = inr (empty_is_short row none)

-- a short row among others
pub short_among : {X : Type 0} (l : Layout X) (front : List Row) (row : Row) (tail : List Row) → IsShort l row → Any (IsShort l) (front ++ row ∷ tail)
short_among l front row tail short =
    (length front, row, omega (arith, length-append front (row ∷ tail)), get_or_at front row tail row (length front) refl, short)

answer_wide : (db : Trees) (tree : ℕ) (columns : List Term) (rows : List Row) → IsAnswer (rows_query tree [] columns) db [] rows → AllByRecursion (λ r. length r ≡ length columns) rows
answer_wide db tree columns rows a =
    let q = rows_query tree [] columns in
    let P : Output → Type 0 = λ o. length o.1 ≡ length columns in
    let outputs : AllByRecursion P (map (output q) a.staged) = all_map P (output q) a.staged (all_of _ (λ (env : Env). length-map columns _) a.staged) in
    let kept : AllByRecursion P a.kept = subst (AllByRecursion P) (sym a.distinct) outputs in
    let ordered : AllByRecursion P a.ordered = recursion_from_All P a.ordered (All-permutation P a.kept a.ordered a.same (All-from_recursion P a.kept kept)) in
    subst (AllByRecursion (λ r. length r ≡ length columns)) (sym a.shown) (all_map (λ r. length r ≡ length columns) (λ (o : Output). o.1) a.ordered ordered)

-- no row of the answer is short
pub none_short : {X : Type 0} (l : Layout X) (sql : List ℕ) → AsksForRows l.tree l.columns sql → (old new : State) → IsArchiveSchema old.now.schema → (rows : List Row) → Shown sql [] old new rows → Any (IsShort l) rows → ⊥
none_short l sql asks old new schema rows shown any =
    let o = others_in old.now.schema in
    let read = reads_as sql [] old new (with_others o) schema.is _ (asks.is o) (asks.plain o) (asks.unlisted o) rows shown in
    let wide = All-from_recursion (λ r. length r ≡ length l.columns) rows (answer_wide (overlay old.now.trees []) l.tree l.columns rows (read.answer Null)) in
    let here : length any.1 ≡ length l.columns = subst (λ r. length r ≡ length l.columns) any.3 (wide any.0 any.1 any.2) in
    absurd (omega (arith, here, any.4))
