-- Statements in a row inside a transaction, and loops of them.
use Rattle.std.proofs.Common.{◌≡◌, ◌≤◌, ℕ, ◌+◌, ◌<◌, IsTrue, List, [], ◌∷◌, ◌++◌, length, take, get_or, fold, refl, sym, ap, subst, ◌∙◌}
use Rattle.std.proofs.Math.Seq.{take_all}
use Rattle.std.proofs.lemmas.List.{take_more}
use Rattle.std.proofs.lemmas.List.Sums.{fold-append}
use Rattle.sqlite.specs.State.{State, Survives}
use Rattle.sqlite.proofs.StateLemmas.{survives_then}
use Rattle.tables.specs.Rows.{Tables, Holds, Changes}
use Rattle.tables.proofs.TransactionLemmas.{keeps_then, keeps_if_changed}
use Rattle.old_book.specs.Placed.{Writes, each}

pub writes_none : (a : State) → IsTrue a.in_transaction → Writes a a (λ t. t)
writes_none a inside = record { held = λ t was. was; kept = record { was_open = λ up. up; committed = λ _. refl }; stays = λ up. up; mode = inside }

module _ (a b : State) where
  pub writes_if_changed : (f : Tables → Tables) → Changes a b f → Writes a b f
  writes_if_changed f h = record { held = h.held; kept = keeps_if_changed a b f h; stays = λ _. h.shown.is_open; mode = h.shown.mode }

  -- a change by another function that does the same to the rows
  pub writes_as : (f g : Tables → Tables) → ((t : Tables) → f t ≡ g t) → Writes a b f → Writes a b g
  writes_as f g same h = record { held = λ t was. subst (Holds b.now) (same t) (h.held t was); kept = h.kept; stays = h.stays; mode = h.mode }

module _ (a b c : State) where
  pub writes_then : (f g : Tables → Tables) → Writes a b f → Writes b c g → Writes a c (λ t. g (f t))
  writes_then f g p q = record { held = λ t was. q.held (f t) (p.held t was); kept = keeps_then a b c p.kept q.kept; stays = λ up. q.stays (p.stays up); mode = q.mode }

  pub survives_both : Survives a b (λ _. ⊥) → Survives b c (λ _. ⊥) → Survives a c (λ _. ⊥)
  survives_both = survives_then a b c (λ _. ⊥) (λ _. ⊥) (λ _. ⊥) (λ _ db none. none) (λ _ db none. none)

module _ {X : Type 0} (step : X → Tables → Tables) (xs : List X) where
  pub none_yet : (a : State) → IsTrue a.in_transaction → Writes a a (each step (take 0 xs))
  unfolding each
  none_yet a inside = writes_none a inside

  more : (i : ℕ) (x : X) → i < length xs → x ≡ get_or xs i x → (t : Tables) → step x (each step (take i xs) t) ≡ each step (take (i + 1) xs) t
  unfolding each
  more i x within is t =
      sym (fold-append (λ now y. step y now) t (take i xs) (x ∷ []))
      ∙ ap (λ ys. fold (λ now y. step y now) t ys) (ap (λ y. take i xs ++ y ∷ []) is ∙ sym (take_more xs i x within))

  pub one_more : (i : ℕ) (x : X) (a b c : State) → i < length xs → x ≡ get_or xs i x → Writes a b (each step (take i xs)) → Changes b c (step x) → Writes a c (each step (take (i + 1) xs))
  one_more i x a b c within is p q =
      writes_as a c (λ t. step x (each step (take i xs) t)) (each step (take (i + 1) xs)) (more i x within is)
      (writes_then a b c (each step (take i xs)) (step x) p (writes_if_changed b c (step x) q))

  pub all_written : (i : ℕ) (a b : State) → length xs ≤ i → Writes a b (each step (take i xs)) → Writes a b (each step xs)
  all_written i a b past = subst (λ ys. Writes a b (each step ys)) (take_all i xs past)
