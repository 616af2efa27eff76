-- The step that admits items: what it changes, and that the shelves are sound after it.
use Rattle.std.proofs.Common.{◌≡◌, ◌⊎◌, inl, inr, ℕ, Bool, true, false, cond, List, ◌++◌, map, refl, sym, subst, ◌∙◌, Option, Some, None}
use Rattle.std.specs.Prelude.{Contains, T}
use Rattle.std.specs.FinMap.{find, get, entries, values, is_sorted}
use Rattle.std.proofs.lemmas.List.Elements.{All-contains, Contains-append_left, Contains-append_right}
use Rattle.sums.proofs.Members.{all_from, contains_map, from_map}
use Rattle.sums.specs.declared.print.Print.{Print}
use Rattle.suites.specs.Admission.{MayJoin, arriving, replaced}
use Rattle.suites.specs.Change.{IsChange}
use Rattle.suites.specs.Items.{standing, IsAtHome}
use Rattle.suites.specs.Keys.{key_order}
use Rattle.suites.specs.KeyLemmas.{key_order-IsAntisymmetric}
use Rattle.suites.specs.Plan.{IsStep, references}
use Rattle.suites.specs.Pool.{files_of}
use Rattle.suites.specs.PoolChange.{ListsExactly, gained, lost}
use Rattle.suites.specs.Shelves.{ShelvesValue, AreSound, shown_after, version_of}
use Rattle.suites.specs.declared.item.Item.{Item}
use Rattle.suites.specs.declared.key.ShelfKey.{ShelfKey}
use Rattle.suites.specs.declared.plan.Plan.{Plan}
use Rattle.suites.specs.declared.plan.Reference.{Reference}
use Rattle.suites.proofs.AdmissionLemmas.{apart_from_pairs, chosen, get-shown_after, admission}
use Rattle.suites.proofs.FileMembers.{files_contain, item_of_file, member_found, value_shown, shown_value, entry_shown, shown_entry}
use Rattle.suites.proofs.PoolStep.{pool-step}

-- what is shown came or was shown
came_or_shown : (came shown : Option Item) (x : Item) → chosen version_of came shown ≡ Some x → (came ≡ Some x) ⊎ (shown ≡ Some x)
came_or_shown None shown x e = inr e
came_or_shown (Some v) shown x e = by_kind _ e
  where
    by_kind : (b : Bool) → cond b shown (Some v) ≡ Some x → (Some v ≡ Some x) ⊎ (shown ≡ Some x)
    by_kind true f = inr f
    by_kind false f = inl f

module _ (old : ShelvesValue) (suite : ℕ) (items : List Item) (joins : MayJoin old (map (standing suite) items)) where
  origin : (k : ShelfKey) (x : Item) → get (shown_after version_of old (map (standing suite) items)) k ≡ Some x
      → (find key_order k (map (standing suite) items) ≡ Some x) ⊎ (get old k ≡ Some x)
  origin k x e = came_or_shown (find key_order k (map (standing suite) items)) (get old k) x
      (sym (get-shown_after version_of old (map (standing suite) items) k (apart_from_pairs (map (standing suite) items) joins.apart)) ∙ e)

  -- the files after are those before and those of the items
  files_after : (f : List ℕ × Print) → Contains (files_of (values (shown_after version_of old (map (standing suite) items)))) f
      → Contains (files_of (values old) ++ files_of (map (λ a. a.1) (map (standing suite) items))) f
  files_after f h =
      let x = item_of_file (values (shown_after version_of old (map (standing suite) items))) f h in
      let k = shown_value (shown_after version_of old (map (standing suite) items)) x.0 x.1 in
      elim (origin k.0 x.0 k.1) [
        | inl came ↦ Contains-append_right (files_of (values old)) (files_of (map (λ a. a.1) (map (standing suite) items))) f
            (files_contain (map (λ a. a.1) (map (standing suite) items)) x.0 f
            (contains_map (λ (a : ShelfKey × Item). a.1) (k.0, x.0) (map (standing suite) items) (member_found key_order-IsAntisymmetric k.0 x.0 (map (standing suite) items) came)) x.2)
        | inr shown ↦ Contains-append_left (files_of (values old)) (files_of (map (λ a. a.1) (map (standing suite) items))) f
            (files_contain (values old) x.0 f (value_shown old k.0 x.0 shown) x.2)
      ]

  files_before : (f : List ℕ × Print) → Contains (files_of (values old)) f
      → Contains (files_of (values old) ++ files_of (map (λ a. a.1) (map (standing suite) items))) f
  files_before f h = Contains-append_left (files_of (values old)) (files_of (map (λ a. a.1) (map (standing suite) items))) f h

  home_after : AreSound old → (e : ShelfKey × Item) → Contains (entries (shown_after version_of old (map (standing suite) items))) e → IsAtHome e
  home_after sound e h =
      elim (origin e.0 e.1 (shown_entry (shown_after version_of old (map (standing suite) items)) e h)) [
        | inl came ↦ (let i = from_map (standing suite) e items (member_found key_order-IsAntisymmetric e.0 e.1 (map (standing suite) items) came) in subst IsAtHome i.2 refl)
        | inr shown ↦ All-contains IsAtHome (entries old) e sound.at_home (entry_shown old e.0 e.1 shown)
      ]

  sound_after : AreSound old → AreSound (shown_after version_of old (map (standing suite) items))
  sound_after sound = record {
    at_home = all_from IsAtHome (entries (shown_after version_of old (map (standing suite) items))) (home_after sound);
    agreed = λ path a b p q. joins.agreed path a b (files_after (path, a) p) (files_after (path, b) q);
  }

  -- a plan of these parts is the step
  pub admission-step : (entries : List (ShelfKey × Item)) (plan : Plan) → AreSound old
      → T (is_sorted key_order entries) → ((q : ShelfKey) → find key_order q entries ≡ find key_order q (map (standing suite) items))
      → plan.put ≡ arriving version_of old entries → plan.dropped ≡ replaced old (arriving version_of old entries)
      → plan.references_put ≡ references plan.put → plan.references_dropped ≡ references plan.dropped
      → ListsExactly plan.files_added (gained old plan.references_put) → ListsExactly plan.files_removed (lost old plan.references_put plan.references_dropped)
      → IsStep old (shown_after version_of old (map (standing suite) items)) plan
  admission-step es plan sound sorted same put dropped references_put references_dropped added removed =
      let change : IsChange old (shown_after version_of old (map (standing suite) items)) plan.put plan.dropped =
      subst (λ (c : List (ShelfKey × Item) × List (ShelfKey × Item)). IsChange old (shown_after version_of old (map (standing suite) items)) c.0 c.1)
      (λ i. (sym put i, sym dropped i))
      (admission version_of old (map (standing suite) items) es (apart_from_pairs (map (standing suite) items) joins.apart) sorted same) in
      record {
        items = change;
        files = pool-step old (shown_after version_of old (map (standing suite) items)) plan.put plan.dropped
            (files_of (values old) ++ files_of (map (λ a. a.1) (map (standing suite) items))) plan.files_added plan.files_removed
            joins.agreed files_before files_after change
            (subst (λ (r : List Reference). ListsExactly plan.files_added (gained old r)) references_put added)
            (subst (λ (r : List Reference × List Reference). ListsExactly plan.files_removed (lost old r.0 r.1)) (λ i. (references_put i, references_dropped i)) removed);
        references_put = references_put;
        references_dropped = references_dropped;
        sound = sound_after sound;
      }
