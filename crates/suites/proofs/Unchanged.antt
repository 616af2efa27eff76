-- A refused upload changes nothing.
use Rattle.std.proofs.Common.{◌≡◌, ◌⊎◌, ℕ, Bool, true, false, ◌&&◌, T, List, [], ◌∷◌, ◌++◌, refl, sym, ap, ◌∙◌, subst, inl, inr, append-nil, arith}
use Rattle.std.specs.Prelude.{Contains}
use Rattle.std.specs.Cmp.{eq_by_cmp_equiv}
use Rattle.std.specs.FinMap.{FinMap, entries, from_entries, get-entries, get-from_entries, same_map, is_sorted}
use Rattle.std.specs.FinMap.Entries.{below_all}
use Rattle.std.specs.FinMap as maps
use Rattle.std.specs.Ordering.{eq_by_cmp, is_eq, is_lt}
use Rattle.std.specs.declared.cmp.Ordering.{Ordering}
use Rattle.std.specs.declared.cmp.Ordering.TheVariants.{Less, Equal, Greater}
use Rattle.std.proofs.lemmas.List.Elements.{Contains-push_cases}
use Rattle.rules.specs.declared.verdict.Verdict.{Verdict}
use Rattle.sums.proofs.Members.{here, there, which, no_member, any_none}
use Rattle.suites.specs.Change.{IsChange, without, with_all}
use Rattle.suites.specs.Held.{held_behind}
use Rattle.suites.specs.Keys.{key_order}
use Rattle.suites.specs.KeyLemmas.{key_order_total, key_order-IsAntisymmetric}
use Rattle.suites.specs.Plan.{IsStep, references}
use Rattle.suites.specs.Shelves.{ShelvesValue, AreSound, covers, beats, shown, shown_after, version_of}
use Rattle.suites.specs.declared.key.ShelfKey.{ShelfKey}

-- ---- what is shown stays if nothing is admitted

left : (a b : Bool) → T (a && b) → T a
left true b h = tt
left false b h = h

right : (a b : Bool) → T (a && b) → T b
right true b h = h
right false b h = absurd h

less_apart : (o : Ordering) → T (is_lt o) → is_eq o ≡ false
less_apart Less h = refl
less_apart Equal h = absurd h
less_apart Greater h = absurd h

abbrev AreApart : {X : Type 0} → ShelfKey × X → ShelfKey × X → Type 0
AreApart a b = eq_by_cmp key_order a.0 b.0 ≡ false

above_apart : {X : Type 0} (x : ShelfKey × X) (es : List (ShelfKey × X)) → T (below_all key_order x.0 es) → (z : ShelfKey × X) → Contains es z → AreApart x z
above_apart x [] h z k = no_member z k
above_apart x (e ∷ es) h z k = elim (which e z es k) [
  | inl same ↦ subst (λ y. AreApart x y) same (less_apart (key_order x.0 e.0) (left (is_lt (key_order x.0 e.0)) (below_all key_order x.0 es) h))
  | inr more ↦ above_apart x es (right (is_lt (key_order x.0 e.0)) (below_all key_order x.0 es) h) z more
]

covers_apart : {X : Type 0} (version : X → List ℕ) (a b : ShelfKey × X) → AreApart a b → covers version a b ≡ false
unfolding covers
covers_apart version a b h = rw h refl

beats_apart : {X : Type 0} (version : X → List ℕ) (a b : ShelfKey × X) → AreApart a b → beats version a b ≡ false
unfolding beats
beats_apart version a b h = rw h refl

turned_apart : {X : Type 0} (a b : ShelfKey × X) → AreApart a b → AreApart b a
turned_apart a b h = (eq_by_cmp_equiv key_order_total).symm b.0 a.0 ∙ h

all_held : {X : Type 0} (version : X → List ℕ) (earlier items : List (ShelfKey × X))
    → ((y z : ShelfKey × X) → Contains earlier y → Contains items z → AreApart y z) → T (is_sorted key_order items)
    → held_behind (covers version) (beats version) earlier items ≡ items
all_held version earlier [] apart sorted = refl
all_held {X = X} version earlier (x ∷ later) apart sorted =
    let above = above_apart x later (left (below_all key_order x.0 later) (is_sorted key_order later) sorted) in
    let none_covers = any_none (λ y. covers version y x) earlier (λ y k. covers_apart version y x (apart y x k (here x later))) in
    let none_beats = any_none (λ y. beats version y x) later (λ y k. beats_apart version y x (turned_apart x y (above y k))) in
    let rest = all_held version (earlier ++ x ∷ []) later (λ y z p q. pushed y z q above (λ k. apart y z k (there x z later q)) (Contains-push_cases earlier x y p)) (right (below_all key_order x.0 later) (is_sorted key_order later) sorted) in
    rw (none_covers, none_beats) (ap (λ items. x ∷ items) rest)
  where
    pushed : (y z : ShelfKey × X) → Contains later z → ((z : ShelfKey × X) → Contains later z → AreApart x z) → (Contains earlier y → AreApart y z) → Contains earlier y ⊎ (x ≡ y) → AreApart y z
    pushed y z q above before (inl p) = before p
    pushed y z q above before (inr same) = subst (λ w. AreApart w z) same (above z q)

-- the entries of a map give it back
pub entries_again : (m : ShelvesValue) → from_entries (entries m) ≡ m
entries_again m =
    same_map key_order_total key_order-IsAntisymmetric (from_entries (entries m)) m (λ q. get-from_entries key_order_total (entries m) q ∙ sym (get-entries m q))

-- what is shown after nothing was admitted is what is shown
pub shown_again : (m : ShelvesValue) → shown_after version_of m [] ≡ m
unfolding shown
shown_again m =
    ap (λ es. from_entries (held_behind (covers version_of) (beats version_of) [] es)) (append-nil (entries m))
    ∙ ap from_entries (all_held version_of [] (entries m) (λ y z p q. no_member y p) (maps.entries_sorted m))
    ∙ entries_again m

-- ---- the plan that changes nothing

no_change : {K X : Type 0} {R : K → K → Ordering} (m : FinMap R X) → IsChange m m [] []
unfolding without with_all
no_change m = record {
  made = refl;
  absent = λ k d within. absurd (omega (arith, within));
  gone = λ k d within. absurd (omega (arith, within));
  put_in_order = tt;
  dropped_in_order = tt;
}

pub no_step : (shelves : ShelvesValue) (v : Verdict) → AreSound shelves
    → IsStep shelves shelves (record { verdict = v; put = []; dropped = []; references_put = []; references_dropped = []; files_added = []; files_removed = [] })
unfolding references
no_step shelves v sound = record {
  items = no_change shelves;
  files = no_change _;
  references_put = refl;
  references_dropped = refl;
  sound = sound;
}
