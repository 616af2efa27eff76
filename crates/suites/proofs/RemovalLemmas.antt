-- A removal: what is shown of the items that are left, and the step that takes the others away.
use Rattle.std.proofs.Common.{◌≡◌, ◌≢◌, ℕ, Bool, true, false, cond, not, ◌&&◌, List, [], ◌∷◌, ◌++◌, filter, refl, sym, ap, subst, ◌∙◌, Option, Some, None}
use Rattle.std.specs.Prelude.{Contains, is_some, bytes_eq, nat_eq}
use Rattle.std.specs.Option.{option_map_or}
use Rattle.std.specs.Ordering.{eq_by_cmp}
use Rattle.std.specs.FinMap.{entries, values, find, get, insert, get-from_entries, get-insert, get-entries, entries_sorted, same_map}
use Rattle.std.proofs.lemmas.List.Elements.{All-contains, All-nil, filter-append}
use Rattle.sums.proofs.Members.{all_from}
use Rattle.sums.specs.declared.print.Print.{Print}
use Rattle.rules.specs.declared.suite.Suite.{Suite}
use Rattle.suites.specs.Change.{IsChange, with_all}
use Rattle.suites.specs.Items.{IsAtHome}
use Rattle.suites.specs.Keys.{key_order}
use Rattle.suites.specs.KeyLemmas.{key_order_total, key_order-IsAntisymmetric}
use Rattle.suites.specs.Plan.{IsStep, after_removal, is_removed, references, removed}
use Rattle.suites.specs.Pool.{files_of}
use Rattle.suites.specs.PoolChange.{IsPlanOf}
use Rattle.suites.specs.Shelves.{AreSound, ShelvesValue, ShelvesWith, is_at_least, is_covered, shown, version_of, with_admitted}
use Rattle.suites.specs.Told.{AreTold, IsTold, is_kept_by}
use Rattle.suites.specs.declared.item.Item.{Item}
use Rattle.suites.specs.declared.key.ShelfKey.{ShelfKey}
use Rattle.suites.specs.declared.plan.Plan.{Plan}
use Rattle.suites.proofs.EntryLemmas.{same_keys, sorted-filter}
use Rattle.suites.proofs.FileMembers.{entry_shown, files_contain, item_of_file, shown_entry, shown_value, value_shown}
use Rattle.suites.proofs.HeldLemmas.{append_nil, by_pushes}
use Rattle.suites.proofs.ListMembers.{from_filter}
use Rattle.suites.proofs.MapChanges.{get-without}
use Rattle.suites.proofs.PoolStep.{pool-step}
use Rattle.suites.proofs.ShownLemmas.{shown-push}

-- ---- the items of some shelves alone

module _ {X : Type 0} (version : X → List ℕ) (kept : ShelfKey → Bool) where
  abbrev left : List (ShelfKey × X) → List (ShelfKey × X)
  left xs = filter (λ e. kept e.0) xs

  -- two maps that agree on the shelves that are left
  abbrev AreAlike : ShelvesWith X → ShelvesWith X → Type 0
  AreAlike some all = (q : ShelfKey) → get some q ≡ cond (kept q) (get all q) None

  get-with_admitted : (m : ShelvesWith X) (a : ShelfKey × X) (q : ShelfKey)
      → get (with_admitted version m a) q ≡ cond (is_covered version m a) (get m q) (cond (eq_by_cmp key_order q a.0) (Some a.1) (get m q))
  get-with_admitted m a q = by_kind (is_covered version m a)
    where
      by_kind : (b : Bool) → get (cond b m (insert m a.0 a.1)) q ≡ cond b (get m q) (cond (eq_by_cmp key_order q a.0) (Some a.1) (get m q))
      by_kind true = refl
      by_kind false = get-insert key_order_total m a.0 a.1 q

  -- one more on a shelf that is left
  alike-kept : (some all : ShelvesWith X) (a : ShelfKey × X) → kept a.0 ≡ true → AreAlike some all → AreAlike (with_admitted version some a) (with_admitted version all a)
  alike-kept some all a is alike q =
      let here : get some a.0 ≡ get all a.0 = alike a.0 ∙ ap (λ b. cond b (get all a.0) None) is in
      let covered : is_covered version some a ≡ is_covered version all a = ap (λ o. option_map_or (λ x. is_at_least (version x) (version a.1)) o false) here in
      get-with_admitted some a q
      ∙ ap (λ b. cond b (get some q) (cond (eq_by_cmp key_order q a.0) (Some a.1) (get some q))) covered
      ∙ ap (λ o. cond (is_covered version all a) o (cond (eq_by_cmp key_order q a.0) (Some a.1) o)) (alike q)
      ∙ chosen (is_covered version all a) (eq_by_cmp key_order q a.0) (kept q) (λ tied. ap kept (same_keys key_order-IsAntisymmetric q a.0 tied) ∙ is)
      ∙ ap (λ o. cond (kept q) o None) (sym (get-with_admitted all a q))
    where
      chosen : (c s k : Bool) → (s ≡ true → k ≡ true) → cond c (cond k (get all q) None) (cond s (Some a.1) (cond k (get all q) None)) ≡ cond k (cond c (get all q) (cond s (Some a.1) (get all q))) None
      chosen true s true h = refl
      chosen true s false h = refl
      chosen false true true h = refl
      chosen false true false h = (let no : false ≡ true = h refl in cc)
      chosen false false true h = refl
      chosen false false false h = refl

  -- one more on another shelf
  alike-other : (some all : ShelvesWith X) (a : ShelfKey × X) → kept a.0 ≡ false → AreAlike some all → AreAlike some (with_admitted version all a)
  alike-other some all a is alike q =
      alike q
      ∙ chosen (is_covered version all a) (eq_by_cmp key_order q a.0) (kept q) (λ tied. ap kept (same_keys key_order-IsAntisymmetric q a.0 tied) ∙ is)
      ∙ ap (λ o. cond (kept q) o None) (sym (get-with_admitted all a q))
    where
      chosen : (c s k : Bool) → (s ≡ true → k ≡ false) → cond k (get all q) None ≡ cond k (cond c (get all q) (cond s (Some a.1) (get all q))) None
      chosen true s k h = refl
      chosen false true true h = (let no : true ≡ false = h refl in cc)
      chosen false true false h = refl
      chosen false false k h = refl

  nothing_shown : (q : ShelfKey) → get (shown version []) q ≡ None
  unfolding shown
  nothing_shown q = get-from_entries key_order_total [] q

  -- WHAT IS SHOWN of the items of some shelves alone is what all show, on these shelves alone.
  pub get-shown-left : (xs : List (ShelfKey × X)) → AreAlike (shown version (left xs)) (shown version xs)
  get-shown-left xs =
      by_pushes (λ done. AreAlike (shown version (left done)) (shown version done))
      (λ done a alike. subst (λ m. AreAlike (shown version (left (done ++ a ∷ []))) m) (sym (shown-push version done a))
      (subst (λ es. AreAlike (shown version es) (with_admitted version (shown version done) a)) (sym (filter-append (λ e. kept e.0) done (a ∷ []))) (one_more done a (kept a.0) refl alike)))
      [] xs
      (λ q. nothing_shown q ∙ sym (neither (kept q)) ∙ ap (λ o. cond (kept q) o None) (sym (nothing_shown q)))
    where
      neither : (b : Bool) → cond {A = Option X} b None None ≡ None
      neither true = refl
      neither false = refl

      one_more : (done : List (ShelfKey × X)) (a : ShelfKey × X) (b : Bool) → kept a.0 ≡ b → AreAlike (shown version (left done)) (shown version done)
          → AreAlike (shown version (left done ++ cond b (a ∷ []) [])) (with_admitted version (shown version done) a)
      one_more done a true is alike = subst (λ m. AreAlike m (with_admitted version (shown version done) a)) (sym (shown-push version (left done) a)) (alike-kept (shown version (left done)) (shown version done) a is alike)
      one_more done a false is alike = subst (λ es. AreAlike (shown version es) (with_admitted version (shown version done) a)) (sym (append_nil (left done))) (alike-other (shown version (left done)) (shown version done) a is alike)

-- ---- the step of a removal

-- the shelf is not one that a removal takes from
abbrev pub is_left : ℕ → List ℕ → ShelfKey → Bool
is_left suite name key = not (nat_eq key.suite suite && bytes_eq key.«package» name)

module _ (old : ShelvesValue) (suite : ℕ) (name : List ℕ) where
  -- what is shown without the items of the package
  pub get-after_removal : (q : ShelfKey) → get (after_removal old suite name) q ≡ cond (is_left suite name q) (get old q) None
  unfolding removed is_removed
  get-after_removal q =
      get-without key_order_total old (removed old suite name) q
      ∙ ap (λ o. cond (is_some o) None (get old q)) (among (entries old))
      ∙ ap (λ o. cond (is_some (cond (is_left suite name q) None o)) None (get old q)) (sym (get-entries old q))
      ∙ either (is_left suite name q) (get old q)
    where
      -- the entry of a shelf among those that a removal takes
      among : (es : List (ShelfKey × Item)) → find key_order q (filter (is_removed suite name) es) ≡ cond (is_left suite name q) None (find key_order q es)
      among [] = sym (neither (is_left suite name q))
        where
          neither : (b : Bool) → cond {A = Option Item} b None None ≡ None
          neither true = refl
          neither false = refl
      among (e ∷ es) = by_test (is_removed suite name e) (eq_by_cmp key_order q e.0) refl refl (among es)
        where
          by_test : (t s : Bool) → is_removed suite name e ≡ t → eq_by_cmp key_order q e.0 ≡ s → find key_order q (filter (is_removed suite name) es) ≡ cond (is_left suite name q) None (find key_order q es)
              → find key_order q (cond t (e ∷ filter (is_removed suite name) es) (filter (is_removed suite name) es)) ≡ cond (is_left suite name q) None (cond (eq_by_cmp key_order q e.0) (Some e.1) (find key_order q es))
          by_test true true is tied rest =
              let keys : q ≡ e.0 = same_keys key_order-IsAntisymmetric q e.0 tied in
              ap (λ b. cond b (Some e.1) (find key_order q (filter (is_removed suite name) es))) tied
              ∙ sym (ap (λ b. cond (not b) None (cond (eq_by_cmp key_order q e.0) (Some e.1) (find key_order q es))) (ap (λ (k : ShelfKey). nat_eq k.suite suite && bytes_eq k.«package» name) keys ∙ is)
              ∙ ap (λ b. cond b (Some e.1) (find key_order q es)) tied)
          by_test true false is apart rest =
              ap (λ b. cond b (Some e.1) (find key_order q (filter (is_removed suite name) es))) apart
              ∙ rest
              ∙ sym (ap (λ b. cond (is_left suite name q) None (cond b (Some e.1) (find key_order q es))) apart)
          by_test false true is tied rest =
              let keys : q ≡ e.0 = same_keys key_order-IsAntisymmetric q e.0 tied in
              let stays : is_left suite name q ≡ true = ap not (ap (λ (k : ShelfKey). nat_eq k.suite suite && bytes_eq k.«package» name) keys ∙ is) in
              rest
              ∙ ap (λ b. cond b None (find key_order q es)) stays
              ∙ sym (ap (λ b. cond b None (cond (eq_by_cmp key_order q e.0) (Some e.1) (find key_order q es))) stays)
          by_test false false is apart rest =
              rest ∙ sym (ap (λ b. cond (is_left suite name q) None (cond b (Some e.1) (find key_order q es))) apart)

      either : (b : Bool) (o : Option Item) → cond (is_some (cond b None o)) None o ≡ cond b o None
      either true o = refl
      either false None = refl
      either false (Some x) = refl

  shown_before : (k : ShelfKey) (x : Item) → get (after_removal old suite name) k ≡ Some x → get old k ≡ Some x
  shown_before k x e = by_kind (is_left suite name k) (sym (get-after_removal k) ∙ e)
    where
      by_kind : (b : Bool) → cond b (get old k) None ≡ Some x → get old k ≡ Some x
      by_kind true h = h
      by_kind false h = cc

  entry_before : (e : ShelfKey × Item) → Contains (entries (after_removal old suite name)) e → Contains (entries old) e
  entry_before e h = entry_shown old e.0 e.1 (shown_before e.0 e.1 (shown_entry (after_removal old suite name) e h))

  files_before : (f : List ℕ × Print) → Contains (files_of (values (after_removal old suite name))) f → Contains (files_of (values old)) f
  files_before f h =
      let x = item_of_file (values (after_removal old suite name)) f h in
      let k = shown_value (after_removal old suite name) x.0 x.1 in
      files_contain (values old) x.0 f (value_shown old k.0 x.0 (shown_before k.0 x.0 k.1)) x.2

  sound_after : AreSound old → AreSound (after_removal old suite name)
  sound_after sound = record {
    at_home = all_from IsAtHome (entries (after_removal old suite name)) (λ e h. All-contains IsAtHome (entries old) e sound.at_home (entry_before e h));
    agreed = λ path a b p q. sound.agreed path a b (files_before (path, a) p) (files_before (path, b) q);
  }

  -- what goes was shown, and is no longer shown
  gone : (e : ShelfKey × Item) → Contains (removed old suite name) e → (get old e.0 ≡ Some e.1) × (get (after_removal old suite name) e.0 ≢ Some e.1)
  unfolding removed is_removed
  gone e h =
      let m = from_filter (is_removed suite name) e (entries old) h in
      let none : get (after_removal old suite name) e.0 ≡ None = get-after_removal e.0 ∙ ap (λ b. cond (not b) (get old e.0) None) m.1 in
      (shown_entry old e m.0, λ back. (let both : None ≡ Some e.1 = sym none ∙ back in cc))

  change : IsChange old (after_removal old suite name) [] (removed old suite name)
  unfolding with_all removed
  change = record {
    made = refl;
    absent = All-nil _;
    gone = all_from (λ e. (get old e.0 ≡ Some e.1) × (get (after_removal old suite name) e.0 ≢ Some e.1)) (removed old suite name) gone;
    put_in_order = tt;
    dropped_in_order = sorted-filter key_order (is_removed suite name) (entries old) (entries_sorted old);
  }

  -- THE PLAN that drops these items is the step.
  pub removal-step : (plan : Plan) → AreSound old → IsPlanOf old [] (removed old suite name) plan → IsStep old (after_removal old suite name) plan
  removal-step plan sound is = record {
    items = subst (λ (c : List (ShelfKey × Item) × List (ShelfKey × Item)). IsChange old (after_removal old suite name) c.0 c.1) (λ i. (sym is.put_are i, sym is.dropped_are i)) change;
    files = pool-step old (after_removal old suite name) [] (removed old suite name) (files_of (values old)) plan.files_added plan.files_removed
        sound.agreed (λ f h. h) files_before change is.added is.removed;
    references_put = is.references_put ∙ ap references (sym is.put_are);
    references_dropped = is.references_dropped ∙ ap references (sym is.dropped_are);
    sound = sound_after sound;
  }

  -- what is left is as records say
  pub told_after_removal : (suites : List Suite) → AreTold suites old → AreTold suites (after_removal old suite name)
  told_after_removal suites are = record {
    told = all_from (λ e. IsTold e.1) (entries (after_removal old suite name)) (λ e h. All-contains (λ e. IsTold e.1) (entries old) e are.told (entry_before e h));
    kept = all_from (λ e. is_kept_by suites e ≡ true) (entries (after_removal old suite name)) (λ e h. All-contains (λ e. is_kept_by suites e ≡ true) (entries old) e are.kept (entry_before e h));
  }

-- IF ALL ITEMS of the package are taken out of those ever admitted, what is shown is what a removal leaves.
pub shown-removed : {X : Type 0} (version : X → List ℕ) (suite : ℕ) (name : List ℕ) (xs : List (ShelfKey × X)) (q : ShelfKey)
    → get (shown version (filter (λ e. is_left suite name e.0) xs)) q ≡ cond (is_left suite name q) (get (shown version xs) q) None
shown-removed version suite name xs q = get-shown-left version (is_left suite name) xs q

pub after_removal-shown : (suite : ℕ) (name : List ℕ) (xs : List (ShelfKey × Item))
    → shown version_of (filter (λ e. is_left suite name e.0) xs) ≡ after_removal (shown version_of xs) suite name
after_removal-shown suite name xs = same_map key_order_total key_order-IsAntisymmetric _ _
    (λ q. get-shown-left version_of (is_left suite name) xs q ∙ sym (get-after_removal (shown version_of xs) suite name q))
