-- How a read of a keeper joins: the database is asked whether it serves, and then for its rows.
use Rattle.std.proofs.Common.{◌≡◌, ℕ, Bool, List, [], ◌∷◌, map, find, Option, Some, None, option_map, true, false, bytes_eq, inl, inr, IsTrue, Result, Ok, Err, OnOk, OnErr, IfOk, refl, sym, subst, ap, ◌∙◌, arith}
use Rattle.std.proofs.Math.Logic.{∥∥₁_elim}
use Rattle.std.proofs.Props.{props}
use mathlib.Core.HLevel.{collapsible→set}
use Rattle.sqlite_value.specs.declared.value.Value.{Value}
use Rattle.sqlite_sql.specs.declared.ops.UnaryOp.{UnaryOp}
use Rattle.sqlite_sql.specs.declared.ops.BinaryOp.{BinaryOp}
use Rattle.sqlite_sql.specs.Term.{Term, lit, col, op1, op2, case}
use Rattle.sqlite.specs.Effect.{Database}
use Rattle.sqlite.specs.State.{State, HasCleanDisk, IsUnchanged, Survives}
use Rattle.rules.specs.Values.{ConfigValue}
use Rattle.suites.specs.Shelves.{ShelvesValue}
use Rattle.book.specs.declared.change.Judgement.{Judgement}
use Rattle.indices.specs.Indices.{PathText, text_at}
use Rattle.tables.specs.Rows.{Fails, Holds, IsArchive, tables_in}
use Rattle.tables.specs.Texts.{has_path}
use Rattle.tables.specs.declared.rows.TextRow.{TextRow}
use Rattle.tables_meaning.specs.Archives.{IsRead, KeepsArchive}
use Rattle.tables_meaning.specs.Transactions.{IsUndone}
use Rattle.tables_meaning.proofs.Orders.{found_permuted}
use Rattle.tables_meaning.proofs.ReadsLemmas.{undone_if_unchanged}
use Rattle.tables.proofs.Pairwise.{ascending_from_pairs}
use Rattle.indices.proofs.Apart.{PathsDiffer, not_equal}
use Rattle.sqlite_trees.specs.Tree.{IsAscending}
use Rattle.sqlite_keyed.proofs.ListLemmas.{ascending_weaker}
use Rattle.std.proofs.lemmas.Slice.Eq.{bytes_eq-Decides}
use Rattle.std.specs.Prelude.{AllPairs, IsPermutation}

-- an expression as what is put on a stack, one piece after the other
abbrev Piece : Type 0
Piece = Option Value × Option (ℕ × ℕ) × Option UnaryOp × Option BinaryOp

abbrev step : Piece → List Term → List Term
step (Some v, x, y, z) s = lit v ∷ s
step (None, Some p, y, z) s = col p.0 p.1 ∷ s
step (None, None, Some op, z) (a ∷ s) = op1 op a ∷ s
step (None, None, None, Some op) (b ∷ a ∷ s) = op2 op a b ∷ s
step (None, None, None, None) (b ∷ a ∷ t ∷ s) = case t a b ∷ s
step x s = s

abbrev pieces : Term → List Piece → List Piece
pieces (lit v) rest = (Some v, None, None, None) ∷ rest
pieces (col slot at) rest = (None, Some (slot, at), None, None) ∷ rest
pieces (op1 op a) rest = pieces a ((None, None, Some op, None) ∷ rest)
pieces (op2 op a b) rest = pieces a (pieces b ((None, None, None, Some op) ∷ rest))
pieces (case t a b) rest = pieces t (pieces a (pieces b ((None, None, None, None) ∷ rest)))

abbrev run : List Piece → List Term → List Term
run [] s = s
run (x ∷ xs) s = run xs (step x s)

runs : (t : Term) (rest : List Piece) (s : List Term) → run (pieces t rest) s ≡ run rest (t ∷ s)
runs (lit v) rest s = refl
runs (col slot at) rest s = refl
runs (op1 op a) rest s = runs a _ s
runs (op2 op a b) rest s = runs a _ s ∙ runs b _ (a ∷ s)
runs (case t a b) rest s = runs t _ s ∙ runs a _ (t ∷ s) ∙ runs b _ (a ∷ t ∷ s)

abbrev top : List Term → Term
top [] = col 0 0
top (t ∷ s) = t

abbrev spelled : Term → List Piece
spelled t = pieces t []

same_term : (x y : Term) → spelled x ≡ spelled y → x ≡ y
same_term x y p = ap top (sym (runs x [] [])) ∙ ap (λ ps. top (run ps [])) p ∙ ap top (runs y [] [])

pieces_set : IsSet (List Piece)
pieces_set = hlevel props

-- Expressions are a set: two expressions with the same pieces are equal.
pub terms_set : IsSet Term
terms_set = collapsible→set (λ x y p. same_term x y (ap spelled p)) (λ x y p q. ap (same_term x y) (pieces_set (spelled x) (spelled y) (ap spelled p) (ap spelled q)))

pub database_set : IsSet Database
database_set = hlevel (props, terms_set)

-- what follows from an answer
pub if_then : {X E : Type 0} {P Q : X → Type 0} (r : Result X E) → IfOk r P → ((x : X) → P x → Q x) → IfOk r Q
if_then (Ok x) h f = f x h
if_then (Err e) h f = tt

pub on_then : {X E : Type 0} {P : X → Type 0} {Q : Type 0} (r : Result X E) → IfOk r P → ((x : X) → P x → Q) → OnOk r Q
on_then (Ok x) h f = f x h
on_then (Err e) h f = tt

-- a read leaves what was committed, whether it answers or not
pub undone_either : {X E : Type 0} (a b : State) (r : Result X E) → OnOk r (IsUnchanged a b) → OnErr r (IsUndone a b) → IsUndone a b
undone_either a b (Ok x) done failed = undone_if_unchanged a b done
undone_either a b (Err e) done failed = failed

-- the text of the row at a path is the text at that path, in whatever order the rows stand
pub text_is : (path : List ℕ) (rows : List TextRow) (texts : List PathText) → AllPairs PathsDiffer texts → IsPermutation (map (λ (x : TextRow). (x.path, x.body)) rows) texts
    → option_map (λ (x : TextRow). x.body) (find (has_path path) rows) ≡ text_at path texts
unfolding text_at
text_is path rows texts apart are = of_rows rows ∙ ap (option_map (λ (e : PathText). e.1)) (found_permuted (λ (e : PathText). bytes_eq e.0 path) (pairs rows) texts (one_passes texts apart) are)
  where
    pairs : List TextRow → List PathText
    pairs = map (λ (x : TextRow). (x.path, x.body))

    -- at most one text stands at the path
    one_passes : (es : List PathText) → AllPairs PathsDiffer es → IsAscending (λ (d e : PathText). bytes_eq d.0 path ≡ true → bytes_eq e.0 path ≡ false) es
    one_passes es differ =
        ascending_weaker PathsDiffer (λ (d e : PathText). bytes_eq d.0 path ≡ true → bytes_eq e.0 path ≡ false)
        (λ d e other here. not_equal e.0 path (λ there. other ((bytes_eq-Decides d.0 path).0 here ∙ sym there)))
        es (ascending_from_pairs PathsDiffer es differ)

    one_more : (x : TextRow) (xs : List TextRow) (b : Bool) → bytes_eq x.path path ≡ b
        → option_map (λ (y : TextRow). y.body) (find (has_path path) xs) ≡ text_at path (pairs xs)
        → option_map (λ (y : TextRow). y.body) (find (has_path path) (x ∷ xs)) ≡ text_at path (pairs (x ∷ xs))
    one_more x xs true h rest = rw h refl
    one_more x xs false h rest = rw h rest

    of_rows : (xs : List TextRow) → option_map (λ (y : TextRow). y.body) (find (has_path path) xs) ≡ text_at path (pairs xs)
    of_rows [] = refl
    of_rows (x ∷ xs) = one_more x xs (bytes_eq x.path path) refl (of_rows xs)

module _ (a b : State) where
  open_before : Fails a b → IsTrue b.is_open → IsTrue a.is_open
  open_before (inl same) up = same.was_open up
  open_before (inr undone) up = undone.was_open up

  committed_before : Fails a b → IsTrue b.is_open → b.committed ≡ a.committed
  committed_before (inl same) up = same.committed_is
  committed_before (inr undone) up = (undone.undone up).1

  -- a database that does not serve
  pub read_refused : (HasCleanDisk b → Fails a b) → Survives a b (λ _. ⊥) → IsRead a b
  read_refused fails lasts = record {
    clean = λ h. omega (arith, lasts.clean, h);
    counts = lasts.counts;
    was_open = λ h up. open_before (fails h) up;
    closes = lasts.closes;
    committed = λ h is up. committed_before (fails h) up;
    crash = λ h is trees might. elim (lasts.crash h trees might) [ inl before ↦ before | inr none ↦ absurd none ];
  }

module _ (a b c : State) (same : HasCleanDisk b → IsUnchanged a b) (settled : IsTrue a.is_open → a.now ≡ a.committed) where
  -- a database that serves has the rows that were committed
  pub now_archive : HasCleanDisk b → IsArchive a.committed → IsArchive b.now
  now_archive h is = let s = same h in subst IsArchive (sym (s.0.now_is ∙ settled s.0.was_open)) is

  pub rows_after : {config : ConfigValue} {judged : List Judgement} {shown : ShelvesValue} {dates : List ℕ} → HasCleanDisk b → KeepsArchive a.committed config judged shown dates
      → Holds b.now (tables_in a.committed)
  rows_after h keeps = let s = same h in subst (λ db. Holds db (tables_in a.committed)) (sym (s.0.now_is ∙ settled s.0.was_open)) keeps.held

  -- the connection is open still
  pub is_open_after : HasCleanDisk b → (IsTrue a.is_open → ∥ IsArchive a.committed ∥₁) → (IsArchive b.now → IsUnchanged b c) → IsTrue c.is_open
  is_open_after h is unchanged = ∥∥₁_elim (is (same h).0.was_open) (hlevel props) (λ archive. (unchanged (now_archive h archive)).0.is_open)

  pub open_after : {X E : Type 0} (r : Result X E) → HasCleanDisk b → (IsTrue a.is_open → ∥ IsArchive a.committed ∥₁) → (IsArchive b.now → OnOk r (IsUnchanged b c)) → OnOk r (IsTrue c.is_open)
  open_after (Ok x) h is unchanged = is_open_after h is unchanged
  open_after (Err e) h is unchanged = tt

  pub read_after : {Q : Type 0} → (Q → ¬ IsArchive b.now) → Survives a b (λ _. ⊥) → Survives b c (λ _. Q) → (HasCleanDisk c → IsArchive b.now → IsUndone b c) → IsRead a c
  read_after foreign first later undone =
      let mid : HasCleanDisk c → HasCleanDisk b = λ h. omega (arith, later.clean, h) in (
      record {
        clean = λ h. omega (arith, first.clean, later.clean, h);
        counts = omega (arith, first.counts, later.counts);
        was_open = λ h up. (same (mid h)).0.was_open;
        closes = λ h up. elim (first.closes (mid h) up) [
          | inl still ↦ elim (later.closes h still) [ inl last ↦ inl last | inr fault ↦ inr (omega (arith, first.counts, fault)) ]
          | inr fault ↦ inr (omega (arith, later.counts, fault))
        ];
        committed = λ h is up.
            let s = same (mid h) in
            ∥∥₁_elim (is s.0.was_open) (database_set _ _) (λ archive. (undone h (now_archive (mid h) archive)).committed up ∙ s.0.committed_is);
        crash = λ h is trees might. elim (later.crash h trees might) [
          | inl before ↦ elim (first.crash (mid h) trees before) [ inl at_first ↦ at_first | inr none ↦ absurd none ]
          | inr other ↦ absurd (∥∥₁_elim (is (same (mid h)).0.was_open) (hlevel props) (λ archive. foreign other (now_archive (mid h) archive)))
        ];
      }
      )
