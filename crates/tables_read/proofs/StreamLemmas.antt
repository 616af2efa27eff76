-- Rows that are typed as a query gives them.
use Rattle.std.proofs.Common.{◌≡◌, ◌⊎◌, ◌<◌, ◌^◌, inl, inr, ℕ, Bool, true, false, List, [], ◌∷◌, ◌++◌, append_assoc, Result, Ok, Err, Option, None, Some, IfSome, OnOk, IsErrAnd, MatchOption, refl, sym, ap, subst, ◌∙◌, arith}
use Rattle.sqlite.specs.declared.error.Error.{Error}
use Rattle.sqlite.specs.declared.error.Error.TheVariants.{SqliteFailure}
use Rattle.sqlite.specs.declared.error.ErrorCode.TheVariants.{OutOfMemory}
use Rattle.sqlite.specs.Clock.{timed}
use Rattle.sqlite.specs.Command.{Command}
use Rattle.sqlite.specs.Effect.{Database}
use Rattle.sqlite.specs.Given.{Advances, FailsToAdvance, GivesOn, HasBegun, HasGiven, IsPlain}
use Rattle.sqlite.specs.Held.{Held, state}
use Rattle.sqlite.specs.Listing.{understood, reads_listing, IsSourceOf}
use Rattle.sqlite.specs.Order.{Row}
use Rattle.sqlite.specs.State.{State, HasCleanDisk, Begins, CommitsShowing, FailsToQuery, IsStatement, IsUnchanged, Shown, ShowsRows, Survives}
use Rattle.sqlite.specs.Store.{Ghosts}
use Rattle.sqlite.proofs.Callers.{EndsIn, begins_shown, begun_plain, command_of, given_begin, unchanged_then}
use Rattle.sqlite.proofs.StateLemmas.{survives_then}
use Rattle.sqlite_resolve.specs.declared.compiled.Compiled.{Compiled}
use Rattle.tables.specs.Causes.{IsCaused}
use Rattle.tables.specs.Rows.{Fails, IsForeign, Numbered}
use Rattle.tables.specs.Others.{IsArchiveSchema, others_in}
use Rattle.tables.proofs.CauseLemmas.{caused_later}
use Rattle.tables.proofs.ReadLemmas.{fails_to_query, fails_unchanged, plain_in}
use Rattle.tables.proofs.SelectLemmas.{rows_query}
use Rattle.tables_read.specs.Layout.{AreRead, HasAnswer, IsNotRead, IsShort, Layout}
use Rattle.tables_read.specs.Reading.{AsksForRows, Spells, Tells}
use Rattle.tables_read.specs.Streams.{Adds, HasOneMore, Steps, Took}
use Rattle.tables_read.proofs.CauseLemmas.{none_short, query_caused, rows_sure, short_among}
use Rattle.tables_read.proofs.QueryLemmas.{survives_plain}
use Rattle.tables_read.proofs.RowsLemmas.{not_read_among, read_more}
use Rattle.tables_read.proofs.StepLemmas.{fails_then}

-- ---- one row

pub adds : {X : Type 0} (l : Layout X) (row : Row) (before : Numbered X) (o : Option (ℕ × X)) (x : ℕ × X) {after : Numbered X} → o ≡ Some x
    → IfSome o (λ y. (y.0 < 2 ^ 64) × Spells l.seen row y) → after ≡ before ++ x ∷ [] → Adds l row before after
adds {X} l row before o x is some pushed =
    let h = subst (λ (p : Option (ℕ × X)). IfSome p (λ y. (y.0 < 2 ^ 64) × Spells l.seen row y)) is some in
    record { one = x; is = pushed; small = h.0; spells = h.1 }

module _ {S X : Type 0} (g : Ghosts S) (l : Layout X) (real : X → Type 0) (old new : Held S) (before after : Numbered X) (idle : old.in_transaction ≡ false → new.in_transaction ≡ false)
    (survives : Survives (state g old) (state g new) (λ _. ⊥)) where
  -- the query fails
  pub stopped : (r : Result (Option Bool) Error) (e : Error) → IsErrAnd r (λ f. f ≡ e) → (HasCleanDisk (state g new) → FailsToAdvance g old new e) → Steps g l real old new before after r
  stopped (Ok o) e is fails = absurd is
  stopped (Err f) e is fails = record {
    idle = idle;
    same = λ _. tt;
    took = λ clean sql given has read. inl (subst (FailsToQuery sql [] (state g old) (state g new)) (sym is) (fails clean sql [] given has));
    survives = survives;
  }

  module _ (o : Option Row) (moves : HasCleanDisk (state g new) → Advances g old new o) (same : HasCleanDisk (state g new) → IsUnchanged (state g old) (state g new)) where
    -- it has no more rows
    pub ended : o ≡ None → after ≡ before → Steps g l real old new before after (Ok None)
    ended none kept = record {
      idle = idle;
      same = same;
      took = λ clean sql given has read. (subst (GivesOn g sql [] old new given) none (moves clean sql [] given has), subst (AreRead l given) (sym kept) read);
      survives = survives;
    }

    module _ (row : Row) (is : o ≡ Some row) where
      gives : HasCleanDisk (state g new) → (sql : List ℕ) (given : List Row) → HasGiven g sql [] old given → HasGiven g sql [] new (given ++ row ∷ [])
      gives clean sql given has = subst (GivesOn g sql [] old new given) is (moves clean sql [] given has)

      -- its next row cannot be read
      pub lacking : (r : Result (Option Bool) Error) (e : Error) → IsErrAnd r (λ f. f ≡ e) → (e ≡ SqliteFailure OutOfMemory) ⊎ IsShort l row → Steps g l real old new before after r
      lacking (Ok b) e at why = absurd at
      lacking (Err f) e at why = record {
        idle = idle;
        same = λ _. tt;
        took = λ clean sql given has read. inr (same clean, go clean sql given has why);
        survives = survives;
      }
        where
          go : HasCleanDisk (state g new) → (sql : List ℕ) (given : List Row) → HasGiven g sql [] old given → (e ≡ SqliteFailure OutOfMemory) ⊎ IsShort l row
              → (f ≡ SqliteFailure OutOfMemory) ⊎ HasOneMore g sql new given (IsShort l)
          go clean sql given has (inl memory) = inl (at ∙ memory)
          go clean sql given has (inr short) = inr (record { row = row; has = gives clean sql given has; is = short })

      -- its next row is read, or is not of an archive
      pub stepped : (b : Bool) → (b ≡ true → Adds l row before after) → (b ≡ false → (x : ℕ × X) → real x.1 → ¬ Spells l.seen row x) → Steps g l real old new before after (Ok (Some b))
      stepped true added other = record {
        idle = idle;
        same = same;
        took = λ clean sql given has read.
            let more = added refl in
            record { row = row; has = gives clean sql given has; is = read_more l given row before more.one more.small more.spells more.is read };
        survives = survives;
      }
      stepped false added other = record {
        idle = idle;
        same = same;
        took = λ clean sql given has read. record { row = row; has = gives clean sql given has; is = other refl };
        survives = survives;
      }

-- ---- the rows so far

-- The query has given rows that are read as these.
pub record IsRead {S X : Type 0} (g : Ghosts S) (l : Layout X) (sql : List ℕ) (now : Held S) (all : Numbered X) : Type 0 where
  pub given : List Row
  pub has : HasGiven g sql [] now given
  pub read : AreRead l given all

module _ (sql : List ℕ) (old mid : State) (rows : List Row) (same : IsUnchanged old mid) where
  -- a statement of one state is that of another with the same database
  statement_earlier : (c : Compiled) → IsStatement mid sql [] c → IsStatement old sql [] c
  statement_earlier c it = record { is = subst (λ (d : Database). understood d.schema sql ≡ Ok c) same.0.now_is it.is; whole = it.whole; given = it.given; now = it.now }

  source_earlier : (db : Database) → IsSourceOf (reads_listing mid.now.schema sql) mid.now db → IsSourceOf (reads_listing old.now.schema sql) old.now db
  source_earlier db = subst (λ (d : Database). IsSourceOf (reads_listing d.schema sql) d db) same.0.now_is

  begins_earlier : Begins sql [] mid rows → Begins sql [] old rows
  unfolding Begins statement_earlier
  begins_earlier h = (h.0, statement_earlier h.0 h.1, h.2, h.3, source_earlier h.3 h.4, h.5)

  shown_earlier : (new : State) → IsPlain (understood mid.now.schema sql) → Shown sql [] mid new rows → Shown sql [] old new rows
  unfolding Shown statement_earlier
  shown_earlier new plain h =
      let none = (subst IsPlain h.1.is plain).0 in
      let full = timed [] h.0.formats h.1.now in
      let it = subst (ShowsRows mid new sql h.0 full rows) none h.2 in (
        h.0,
        statement_earlier h.0 h.1,
        subst (ShowsRows old new sql h.0 full rows) (sym none) (it.0, source_earlier it.0 it.1, it.2, unchanged_then old mid new same it.3),
      )

module _ {S X : Type 0} (g : Ghosts S) (l : Layout X) (sql : List ℕ) (asks : AsksForRows l.tree l.columns sql) (first : Held S) where
  -- at first there are none
  pub begun : (now : Held S) (all : Numbered X) → all ≡ [] → (first.in_transaction ≡ false → now.in_transaction ≡ false) → (HasCleanDisk (state g now) → HasBegun g sql [] first now)
      → Survives (state g first) (state g now) (CommitsShowing sql [] (state g first)) → Tells (state g first) (state g now) (Ok all) (IsRead g l sql now)
  begun now all none idle starts survives = record {
    idle = idle;
    is = λ clean schema. record { given = []; has = (plainly clean schema).0; read = subst (AreRead l []) (sym none) (record { spelled = tt; small = tt }) };
    unchanged = λ clean schema. (plainly clean schema).1;
    err = λ _ _. tt;
    cause = λ _ _. tt;
    survives = survives_plain (state g first) (state g now) sql asks (rows_sure l.tree l.columns) idle survives;
  }
    where
      plainly : HasCleanDisk (state g now) → IsArchiveSchema (state g first).now.schema → HasGiven g sql [] now [] × IsUnchanged (state g first) (state g now)
      plainly clean schema = begun_plain g sql [] first now (plain_in sql asks.plain (state g first) schema) (starts clean)

  -- rows that were given are the first ones of an answer
  first_of : (now : Held S) (given : List Row) → IsArchiveSchema (state g first).now.schema → IsUnchanged (state g first) (state g now) → HasGiven g sql [] now given
      → (tail : List Row) × Shown sql [] (state g first) (state g now) (given ++ tail)
  first_of now given schema same has =
      begins_shown sql [] (state g first) (state g now) given (begins_earlier sql (state g first) (state g now) given same (given_begin g sql [] now given has)) same
      (λ c db it source. subst (λ (k : Command). EndsIn k db (timed [] c.formats it.now)) (sym (ap command_of (sym it.is ∙ ap (λ s. understood s sql) schema.is) ∙ asks.is (others_in (state g first).now.schema))) tt)

  -- they still are with one more
  one_more : (now : Held S) (given : List Row) (row : Row) → IsArchiveSchema (state g first).now.schema → IsUnchanged (state g first) (state g now) → HasGiven g sql [] now (given ++ row ∷ [])
      → (tail : List Row) × Shown sql [] (state g first) (state g now) (given ++ row ∷ tail)
  one_more now given row schema same has =
      let shown = first_of now (given ++ row ∷ []) schema same has in
      (shown.0, subst (Shown sql [] (state g first) (state g now)) (append_assoc given (row ∷ []) shown.0) shown.1)

  module _ (real : X → Type 0) (now new : Held S) (before after : Numbered X) (one : Tells (state g first) (state g now) (Ok before) (IsRead g l sql now)) (r : Result (Option Bool) Error)
      (two : Steps g l real now new before after r) where
    early : HasCleanDisk (state g new) → HasCleanDisk (state g now)
    early clean = let k = two.survives.clean in omega (arith, k, clean)

    survives_both : Survives (state g first) (state g new) (λ _. IsForeign (state g first).now)
    survives_both =
        survives_then (state g first) (state g now) (state g new) (λ _. IsForeign (state g first).now) (λ _. ⊥) (λ _. IsForeign (state g first).now) (λ _ db h. h) (λ _ db none. absurd none) one.survives two.survives

    -- what was made of the next row
    abbrev made : Result (Option Bool) Error → List Row → Type 0
    made s given = Took g l real now new after sql given s

    -- a step that says what it is
    then_took : {Z : Type 0} {R : Z → Type 0} (o : Option Bool) (z : Z) → r ≡ Ok o
        → (IsArchiveSchema (state g first).now.schema → IsUnchanged (state g first) (state g now) → IsUnchanged (state g first) (state g new) → (given : List Row) → made (Ok o) given → R z)
        → Tells (state g first) (state g new) (Ok z) R
    then_took o z is f = record {
      idle = λ i. two.idle (one.idle i);
      is = λ clean schema.
          let so = one.is (early clean) schema in
          f schema (one.unchanged (early clean) schema) (same clean schema) so.given (subst (λ s. made s so.given) is (two.took clean sql so.given so.has so.read));
      unchanged = same;
      err = λ _ _. tt;
      cause = λ _ _. tt;
      survives = survives_both;
    }
      where
        same : HasCleanDisk (state g new) → IsArchiveSchema (state g first).now.schema → IsUnchanged (state g first) (state g new)
        same clean schema =
            unchanged_then (state g first) (state g now) (state g new) (one.unchanged (early clean) schema)
            (subst (λ (s : Result (Option Bool) Error). OnOk s (IsUnchanged (state g now) (state g new))) is (two.same clean))

    -- one more row is read
    pub then_read : r ≡ Ok (Some true) → Tells (state g first) (state g new) (Ok after) (IsRead g l sql new)
    then_read is = then_took (Some true) after is (λ schema was same given took. record { given = given ++ took.row ∷ []; has = took.has; read = took.is })

    -- the step fails
    step_failed : {Z : Type 0} {R : Z → Type 0} (s : Result Z Error) (e : Error) → r ≡ Err e → IsErrAnd s (λ f. f ≡ e) → Tells (state g first) (state g new) s R
    step_failed (Ok z) e is at = absurd at
    step_failed (Err f) e is at = record {
      idle = λ i. two.idle (one.idle i);
      is = λ _ _. tt;
      unchanged = λ _ _. tt;
      err = λ clean schema. let so = one.is (early clean) schema in fails (one.unchanged (early clean) schema) so.given (subst (λ s. made s so.given) is (two.took clean sql so.given so.has so.read));
      cause = λ clean schema.
          let so = one.is (early clean) schema in
          subst (IsCaused (state g first) (state g new)) (sym at) (caused clean schema (one.unchanged (early clean) schema) so.given (subst (λ s. made s so.given) is (two.took clean sql so.given so.has so.read)));
      survives = survives_both;
    }
      where
        fails : IsUnchanged (state g first) (state g now) → (given : List Row) → made (Err e) given → Fails (state g first) (state g new)
        fails was given (inl refused) = fails_then (state g first) (state g now) (state g new) was (fails_to_query (state g now) (state g new) sql [] e refused)
        fails was given (inr read) = fails_unchanged (state g first) (state g new) (unchanged_then (state g first) (state g now) (state g new) was read.0)

        why : IsArchiveSchema (state g first).now.schema → IsUnchanged (state g first) (state g new) → (given : List Row) → (e ≡ SqliteFailure OutOfMemory) ⊎ HasOneMore g sql new given (IsShort l)
            → IsCaused (state g first) (state g new) e
        why schema same given (inl memory) = inl memory
        why schema same given (inr short) =
            let shown = one_more new given short.row schema same short.has in
            absurd (none_short l sql asks (state g first) (state g new) schema (given ++ short.row ∷ shown.0) shown.1 (short_among l given short.row shown.0 short.is))

        caused : HasCleanDisk (state g new) → IsArchiveSchema (state g first).now.schema → IsUnchanged (state g first) (state g now) → (given : List Row) → made (Err e) given
            → IsCaused (state g first) (state g new) e
        caused clean schema was given (inl refused) =
            caused_later (state g first) (state g now) (state g new) one.survives (early clean) e two.survives.counts
            (query_caused (rows_query l.tree [] l.columns) l.tree sql asks (rows_sure l.tree l.columns) (state g now) (state g new) (subst IsArchiveSchema (sym (ap (λ d. d.schema) was.0.now_is)) schema) e refused)
        caused clean schema was given (inr read) = why schema (unchanged_then (state g first) (state g now) (state g new) was read.0) given read.1

  module _ {V : Type 0} (held : V) (items : V → Numbered X) (real : X → Type 0) where
    -- what the whole answer says
    abbrev Says : State → Option V → Type 0
    Says new o = MatchOption o (HasAnswer l (state g first) new (IsNotRead l real)) (λ all. HasAnswer l (state g first) new (λ raw. AreRead l raw (items all)))

    -- the connection is left as the rows held it
    pub left : (r : Result (Option V) Error) (now : Held S) {last : State} → Tells (state g first) (state g now) r (Says (state g now)) → last ≡ state g now → Tells (state g first) last r (Says last)
    left r now told same = subst (λ (s : State). Tells (state g first) s r (Says s)) (sym same) told

    -- there are too many rows
    pub unread : (now : Held S) (all : Numbered X) → Tells (state g first) (state g now) (Ok all) (IsRead g l sql now) → Tells (state g first) (state g now) (Err (SqliteFailure OutOfMemory)) (Says (state g now))
    unread now all one = record {
      idle = one.idle;
      is = λ _ _. tt;
      unchanged = λ _ _. tt;
      err = λ clean schema. fails_unchanged (state g first) (state g now) (one.unchanged clean schema);
      cause = λ _ _. inl refl;
      survives = one.survives;
    }

    module _ (now new : Held S) (before after : Numbered X) (one : Tells (state g first) (state g now) (Ok before) (IsRead g l sql now)) (r : Result (Option Bool) Error)
        (two : Steps g l real now new before after r) where
      -- the step fails
      pub then_failed : (s : Result (Option V) Error) (e : Error) → r ≡ Err e → IsErrAnd s (λ f. f ≡ e) → Tells (state g first) (state g new) s (Says (state g new))
      then_failed s e is at = step_failed real now new before after one r two s e is at

      -- a row is not of an archive
      pub then_other : r ≡ Ok (Some false) → Tells (state g first) (state g new) (Ok None) (Says (state g new))
      then_other is =
          then_took real now new before after one r two (Some false) None is
          (λ schema was same given took.
          let shown = one_more new given took.row schema same took.has in
          record { rows = given ++ took.row ∷ shown.0; sql = sql; asks = asks; shown = shown.1; is = not_read_among l real given took.row shown.0 took.is })

      -- all rows are read
      pub then_ended : r ≡ Ok None → items held ≡ after → Tells (state g first) (state g new) (Ok (Some held)) (Says (state g new))
      then_ended is same_items =
          then_took real now new before after one r two None (Some held) is
          (λ schema was same given took. record {
            rows = given;
            sql = sql;
            asks = asks;
            shown = shown_earlier sql (state g first) (state g now) given was (state g new) (plain_in sql asks.plain (state g now) (subst IsArchiveSchema (sym (ap (λ d. d.schema) was.0.now_is)) schema)) took.0;
            is = subst (AreRead l given) (sym same_items) took.1;
          })
