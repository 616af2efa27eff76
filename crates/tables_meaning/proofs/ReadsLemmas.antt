-- How reads outside a transaction join.
use Rattle.std.proofs.Common.{◌≡◌, ℕ, ◌+◌, ◌<◌, take, get_or, List, [], ◌∷◌, ◌++◌, map, length, Option, Some, None, inl, inr, refl, sym, ap, subst, ◌∙◌, arith}
use Rattle.std.proofs.lemmas.List.{append-nil, append_assoc, length_push, map_more}
use Rattle.std.specs.List.{cons_option, filter_map}
use Rattle.sqlite.specs.State.{State, HasCleanDisk, IsUnchanged, Survives}
use Rattle.sqlite.proofs.Callers.{unchanged_then}
use Rattle.sqlite.proofs.StateLemmas.{survives_then, survives_weaker}
use Rattle.tables.proofs.ReadLemmas.{stands}
use Rattle.tables.specs.Rows.{Tables, Holds, Fails, IsForeign}
use Rattle.tables_meaning.specs.Reads.{Rests}
use Rattle.tables_meaning.specs.Transactions.{IsUndone}

-- the database is not that of an archive
abbrev HoldsNone : State → Type 0
HoldsNone s = (t : Tables) → ¬ Holds s.now t

module _ (old new : State) where
  pub undone_if_unchanged : IsUnchanged old new → IsUndone old new
  undone_if_unchanged h = record { was_open = λ _. h.0.was_open; committed = λ _. h.0.committed_is }

  pub undone_if_failed : Fails old new → IsUndone old new
  undone_if_failed (inl same) = record { was_open = same.was_open; committed = λ _. same.committed_is }
  undone_if_failed (inr back) = record { was_open = back.was_open; committed = λ up. (back.undone up).1 }

  pub undone_if_rested : Rests old new → IsUndone old new
  undone_if_rested h = record { was_open = h.stands.was_open; committed = λ _. h.stands.committed_is }

  pub rests_if_unchanged : IsUnchanged old new → Rests old new
  rests_if_unchanged h = record { stands = stands old new h; unchanged = λ _. h }

  -- the tables hold the rows that they held
  pub held_after : IsUnchanged old new → (t : Tables) → Holds old.now t → Holds new.now t
  held_after same t was = subst (λ db. Holds db t) (sym same.0.now_is) was

  pub held_if_rested : Rests old new → (t : Tables) → Holds old.now t → Holds new.now t
  held_if_rested same t was = subst (λ db. Holds db t) (sym same.stands.now_is) was

  pub survives_foreign : Survives old new (λ _. IsForeign old.now) → Survives old new (λ _. HoldsNone old)
  survives_foreign h = survives_weaker old new _ _ (λ _ db other t is. other is.schema) h

-- if nothing was read
pub rests_itself : (s : State) → Rests s s
rests_itself s = record {
  stands = record { was_open = λ up. up; now_is = refl; committed_is = refl; mode = refl };
  unchanged = λ up. (record { was_open = up; is_open = up; now_is = refl; committed_is = refl; mode = refl }, record { changes = refl; last_rowid = refl }, refl);
}

pub survives_itself : (s : State) → Survives s s (λ _. HoldsNone s)
survives_itself s = record {
  clean = omega arith;
  shield = λ h. h;
  counts = omega arith;
  limit = refl;
  closes = λ clean up. inl up;
  crash = λ clean db h. inl h;
}

module _ (a b c : State) where
  pub undone_rested : Rests a b → IsUndone b c → IsUndone a c
  undone_rested same back = record { was_open = λ up. same.stands.was_open (back.was_open up); committed = λ up. back.committed up ∙ same.stands.committed_is }

  pub undone_after : IsUnchanged a b → IsUndone b c → IsUndone a c
  undone_after same back = undone_rested (rests_if_unchanged a b same) back

  pub rests_then : Rests a b → Rests b c → Rests a c
  rests_then p q = record {
    stands = record {
      was_open = λ up. p.stands.was_open (q.stands.was_open up);
      now_is = q.stands.now_is ∙ p.stands.now_is;
      committed_is = q.stands.committed_is ∙ p.stands.committed_is;
      mode = q.stands.mode ∙ p.stands.mode;
    };
    unchanged = λ up. let first = p.unchanged up in unchanged_then a b c first (q.unchanged first.0.is_open);
  }

  -- a second read after one that changed nothing
  pub survives_rested : (HasCleanDisk b → (t : Tables) → Holds a.now t → Rests a b) → Survives a b (λ _. HoldsNone a) → Survives b c (λ _. HoldsNone b)
      → Survives a c (λ _. HoldsNone a)
  survives_rested same one two =
      survives_then a b c _ _ _ (λ _ db other. other)
      (λ clean db other t is. other t (held_if_rested a b (same (omega (arith, two.clean, clean)) t is) t is)) one two

  pub survives_after : (HasCleanDisk b → (t : Tables) → Holds a.now t → IsUnchanged a b) → Survives a b (λ _. HoldsNone a) → Survives b c (λ _. HoldsNone b)
      → Survives a c (λ _. HoldsNone a)
  survives_after same one two = survives_rested (λ clean t was. rests_if_unchanged a b (same clean t was)) one two

-- a list that is made item by item, one more
pub made_more : {X Y : Type 0} (f : X → Y) (done : List Y) (x : X) (left : List X) {now : List Y} {y : Y} {rest : List X} {whole : List Y}
    → now ≡ done ++ y ∷ [] → y ≡ f x → rest ≡ x ∷ left → done ++ map f rest ≡ whole → now ++ map f left ≡ whole
made_more f done x left {now} {y} {rest} {whole} pushed is next so_far =
    ap (λ ys. ys ++ map f left) pushed ∙ append_assoc done (y ∷ []) (map f left) ∙ ap (λ z. done ++ z ∷ map f left) is ∙ ap (λ xs. done ++ map f xs) (sym next) ∙ so_far

-- a list with one more
pub count_more : {Y : Type 0} (done : List Y) (y : Y) {now : List Y} {n : ℕ} → now ≡ done ++ y ∷ [] → length done ≡ n → length now ≡ n + 1
count_more done y {now} {n} pushed count = ap length pushed ∙ length_push done y ∙ ap (λ k. k + 1) count

-- a list that is made item by item, with one more, by places
pub mapped_more : {X Y : Type 0} (f : X → Y) (xs : List X) (i : ℕ) (x : X) (done : List Y) {now : List Y} {y : Y}
    → i < length xs → x ≡ get_or xs i x → now ≡ done ++ y ∷ [] → y ≡ f x → done ≡ map f (take i xs) → now ≡ map f (take (i + 1) xs)
mapped_more f xs i x done {now} {y} within at pushed is so_far =
    pushed ∙ ap (λ ys. ys ++ y ∷ []) so_far ∙ ap (λ z. map f (take i xs) ++ z ∷ []) (is ∙ ap f at) ∙ sym (map_more f xs i x within)

-- a list that is made item by item, once all items are done
pub made_all : {X Y : Type 0} (f : X → Y) (done : List Y) (rest : List X) {whole : List Y} → length rest ≡ 0 → done ++ map f rest ≡ whole → done ≡ whole
made_all f done [] none so_far = sym (append-nil done) ∙ so_far
made_all f done (x ∷ rest) none so_far = absurd (omega (arith, none))

-- a list that is made item by item, with one more, if some items give nothing
pub found_more : {X Y : Type 0} (h : X → Option Y) (done : List Y) (x : X) (left : List X) {now : List Y} {y : Y} {rest : List X} {whole : List Y}
    → now ≡ done ++ y ∷ [] → Some y ≡ h x → rest ≡ x ∷ left → done ++ filter_map h rest ≡ whole → now ++ filter_map h left ≡ whole
found_more h done x left {now} {y} {rest} {whole} pushed is next so_far =
    ap (λ ys. ys ++ filter_map h left) pushed ∙ append_assoc done (y ∷ []) (filter_map h left) ∙ ap (λ o. done ++ cons_option o (filter_map h left)) is
    ∙ ap (λ xs. done ++ filter_map h xs) (sym next) ∙ so_far

pub found_none : {X Y : Type 0} (h : X → Option Y) (done : List Y) (x : X) (left : List X) {rest : List X} {whole : List Y}
    → None ≡ h x → rest ≡ x ∷ left → done ++ filter_map h rest ≡ whole → done ++ filter_map h left ≡ whole
found_none h done x left {rest} {whole} is next so_far =
    ap (λ o. done ++ cons_option o (filter_map h left)) is ∙ ap (λ xs. done ++ filter_map h xs) (sym next) ∙ so_far

pub found_all : {X Y : Type 0} (h : X → Option Y) (done : List Y) (rest : List X) {whole : List Y} → length rest ≡ 0 → done ++ filter_map h rest ≡ whole → done ≡ whole
found_all h done [] none so_far = sym (append-nil done) ∙ so_far
found_all h done (x ∷ rest) none so_far = absurd (omega (arith, none))
