-- What is shown under another configuration is what was shown, shelf by shelf, with the same pool.
use Rattle.std.proofs.Common.{◌≡◌, ◌≢◌, ◌<◌, inl, inr, ℕ, true, false, List, [], ◌∷◌, filter_map, Option, Some, None, option_map, length, get_or, slice_get, bytes_eq, refl, sym, ap, subst, ◌∙◌, arith}
use Rattle.std.specs.Prelude.{AllPairs, Contains}
use Rattle.std.specs.List.{cons_option}
use Rattle.std.specs.Option.{option_and_then, option_map_or}
use Rattle.std.specs.FinMap.{entries, values, get, get-from_entries}
use Rattle.std.proofs.lemmas.Bool.{cases_lt}
use Rattle.std.proofs.lemmas.List.Quantifiers.{position-Some}
use Rattle.std.proofs.lemmas.Option.{same_Some, slice_get-get_or, slice_get_within}
use Rattle.rules.specs.Suites.{suite_named}
use Rattle.rules.specs.declared.suite.Suite.{Suite}
use Rattle.sums.proofs.Members.{here, there, which, no_member, all_true, all_at, all_from}
use Rattle.sums.specs.declared.print.Print.{Print}
use Rattle.sums.proofs.Agree.{same_bytes}
use Rattle.suites.specs.Items.{IsAtHome, standing}
use Rattle.suites.specs.KeyLemmas.{key_order_total, key_order-IsAntisymmetric, text_order_total, text_order-IsAntisymmetric}
use Rattle.suites.specs.Moved.{all_stay, moved, moved_entry, place_in, stays_kept}
use Rattle.suites.specs.Pool.{AreAgreed, files_of}
use Rattle.suites.specs.Shelves.{AreSound, ShelvesValue, pool}
use Rattle.suites.specs.Told.{AreTold, IsTold, is_kept_by}
use Rattle.suites.specs.declared.item.Item.{Item}
use Rattle.suites.specs.declared.key.ShelfKey.{ShelfKey}
use Rattle.suites.proofs.FileMembers.{agreed_found, entry_shown, files_contain, found_member, item_of_file, member_found, shown_entry, shown_value, value_shown}
use Rattle.suites.proofs.ListMembers.{from_filter_map}

-- ---- members of a list that is mapped and filtered

pub to_filter_map : {X Y : Type 0} (f : X → Option Y) (x : X) (y : Y) (xs : List X) → Contains xs x → f x ≡ Some y → Contains (filter_map f xs) y
to_filter_map f x y [] h e = no_member x h
to_filter_map {X} {Y} f x y (z ∷ xs) h e = by_case (f z) refl (λ r. to_filter_map f x y xs r e)
  where
    by_case : (o : Option Y) → f z ≡ o → (Contains xs x → Contains (filter_map f xs) y) → Contains (cons_option o (filter_map f xs)) y
    by_case None none more = elim (which z x xs h) [
      | inl same ↦ let both : None ≡ Some y = sym none ∙ ap f same ∙ e in absurd cc
      | inr rest ↦ more rest
    ]
    by_case (Some w) is more = elim (which z x xs h) [
      | inl same ↦ subst (λ v. Contains (w ∷ filter_map f xs) v) (same_Some w y (sym is ∙ ap f same ∙ e)) (here w (filter_map f xs))
      | inr rest ↦ there w y (filter_map f xs) (more rest)
    ]

-- ---- suites by their codenames

-- there is a suite at each position below the number of suites
pub suite_there : (suites : List Suite) (i : ℕ) → i < length suites → (s : Suite) × (slice_get suites i ≡ Some s)
suite_there [] i h = absurd (omega arith)
suite_there (s ∷ ss) i h = (get_or (s ∷ ss) i s, slice_get-get_or (s ∷ ss) i s h)

-- the suite of a position, and the one that has its codename
place_suite : (old new : List Suite) (n k : ℕ) → place_in old new n ≡ Some k → (s : Suite) × (slice_get old n ≡ Some s) × (suite_named new s.codename ≡ Some k)
place_suite old new n k e = by_case (slice_get old n) refl e
  where
    by_case : (o : Option Suite) → slice_get old n ≡ o → option_and_then (λ s. suite_named new s.codename) o ≡ Some k
        → (s : Suite) × (slice_get old n ≡ Some s) × (suite_named new s.codename ≡ Some k)
    by_case None is e = cc
    by_case (Some s) is e = (s, is, e)

-- the suite at the place of a codename has it
has_name : (new : List Suite) (name : List ℕ) (k : ℕ) (d : Suite) → suite_named new name ≡ Some k → (get_or new k d).codename ≡ name
unfolding suite_named
has_name [] name k d e = cc
has_name (s ∷ ss) name k d e = same_bytes (get_or (s ∷ ss) k d).codename name (position-Some (λ (x : Suite). bytes_eq x.codename name) (s ∷ ss) k d e).1

module _ (old : List Suite) (apart : AllPairs (λ s t. s.codename ≢ t.codename) old) where
  before : (i j : ℕ) (s t : Suite) → i < j → j < length old → slice_get old i ≡ Some s → slice_get old j ≡ Some t → s.codename ≡ t.codename → ⊥
  before i j s t below within at_i at_j same =
      let first : get_or old i s ≡ s = same_Some (get_or old i s) s (sym (slice_get-get_or old i s (omega (arith, below, within))) ∙ at_i) in
      let second : get_or old j s ≡ t = same_Some (get_or old j s) t (sym (slice_get-get_or old j s within) ∙ at_j) in
      apart i j s below within (ap (λ (x : Suite). x.codename) first ∙ same ∙ sym (ap (λ (x : Suite). x.codename) second))

  one_place : (i j : ℕ) (s t : Suite) → slice_get old i ≡ Some s → slice_get old j ≡ Some t → s.codename ≡ t.codename → i ≡ j
  one_place i j s t at_i at_j same = elim (cases_lt i j) [
    | inl less ↦ absurd (before i j s t less (slice_get_within old j t at_j) at_i at_j same)
    | inr more ↦ elim (cases_lt j i) [
      | inl less ↦ absurd (before j i t s less (slice_get_within old i s at_i) at_j at_i (sym same))
      | inr other ↦ omega (arith, more, other)
    ]
  ]

  -- suites whose codenames are found at the same place are the same
  pub same_place : (new : List Suite) (i j k : ℕ) → place_in old new i ≡ Some k → place_in old new j ≡ Some k → i ≡ j
  same_place new i j k e f =
      let p = place_suite old new i k e in
      let q = place_suite old new j k f in
      one_place i j p.0 q.0 p.1 q.1 (sym (has_name new p.0.codename k p.0 p.2) ∙ has_name new q.0.codename k p.0 q.2)

module _ (old new : List Suite) (apart : AllPairs (λ s t. s.codename ≢ t.codename) old) (shown : ShelvesValue) where
  abbrev now : ShelvesValue
  now = moved old new shown

  -- the key to which an entry moves, and what it was
  pub key_of : (e d : ShelfKey × Item) → moved_entry old new e ≡ Some d → (place_in old new e.0.suite ≡ Some d.0.suite) × (d ≡ (record e.0 { suite = d.0.suite }, e.1))
  key_of e d h = by_case (place_in old new e.0.suite) refl h
    where
      by_case : (o : Option ℕ) → place_in old new e.0.suite ≡ o → option_map (λ n. (record e.0 { suite = n }, e.1)) o ≡ Some d
          → (place_in old new e.0.suite ≡ Some d.0.suite) × (d ≡ (record e.0 { suite = d.0.suite }, e.1))
      by_case None is f = cc
      by_case (Some n) is f =
          let same : (record e.0 { suite = n }, e.1) ≡ d = same_Some (record e.0 { suite = n }, e.1) d f in
          let at : n ≡ d.0.suite = ap (λ (x : ShelfKey × Item). x.0.suite) same in
          (is ∙ ap Some at, sym same ∙ ap (λ m. (record e.0 { suite = m }, e.1)) at)

  -- entries that move to the same shelf are of the same shelf
  pub one_shelf : (e f d g : ShelfKey × Item) → moved_entry old new e ≡ Some d → moved_entry old new f ≡ Some g → d.0 ≡ g.0 → e.0 ≡ f.0
  one_shelf e f d g h k same =
      let p = key_of e d h in
      let q = key_of f g k in
      let suite : e.0.suite ≡ f.0.suite = same_place old apart new e.0.suite f.0.suite d.0.suite p.0 (q.0 ∙ ap (λ (x : ShelfKey). Some x.suite) (sym same)) in
      let left : d.0 ≡ record e.0 { suite = d.0.suite } = ap (λ (x : ShelfKey × Item). x.0) p.1 in
      let right : g.0 ≡ record f.0 { suite = g.0.suite } = ap (λ (x : ShelfKey × Item). x.0) q.1 in
      let all : record e.0 { suite = d.0.suite } ≡ record f.0 { suite = g.0.suite } = sym left ∙ same ∙ right in
      let kind : e.0.kind ≡ f.0.kind = ap (λ (x : ShelfKey). x.kind) all in
      let name : e.0.«package» ≡ f.0.«package» = ap (λ (x : ShelfKey). x.«package») all in
      let architecture : e.0.architecture ≡ f.0.architecture = ap (λ (x : ShelfKey). x.architecture) all in
      λ i. record { suite = suite i; kind = kind i; «package» = name i; architecture = architecture i }

  -- what is shown then was shown
  pub was_shown : (key : ShelfKey) (x : Item) → get now key ≡ Some x → (e : ShelfKey × Item) × Contains (entries shown) e × (moved_entry old new e ≡ Some (key, x))
  unfolding moved
  was_shown key x h =
      from_filter_map (moved_entry old new) (key, x) (entries shown)
      (member_found key_order-IsAntisymmetric key x (filter_map (moved_entry old new) (entries shown))
      (sym (get-from_entries key_order_total (filter_map (moved_entry old new) (entries shown)) key) ∙ h))

  -- what was shown is shown then
  pub is_shown : (e d : ShelfKey × Item) → Contains (entries shown) e → moved_entry old new e ≡ Some d → get now d.0 ≡ Some e.1
  unfolding moved
  is_shown e d at h =
      let es = filter_map (moved_entry old new) (entries shown) in
      let w = found_member key_order_total d.0 d.1 es (to_filter_map (moved_entry old new) e d (entries shown) at h) in
      let from = from_filter_map (moved_entry old new) (d.0, w.0) (entries shown) (member_found key_order-IsAntisymmetric d.0 w.0 es w.1) in
      let shelf : from.0.0 ≡ e.0 = one_shelf from.0 e (d.0, w.0) d from.2 h refl in
      let item : from.0.1 ≡ e.1 = same_Some from.0.1 e.1 (sym (shown_entry shown from.0 from.1) ∙ ap (get shown) shelf ∙ shown_entry shown e at) in
      let own : w.0 ≡ from.0.1 = ap (λ (x : ShelfKey × Item). x.1) (key_of from.0 (d.0, w.0) from.2).1 in
      get-from_entries key_order_total es d.0 ∙ w.1 ∙ ap Some (own ∙ item)

  -- ---- files

  pub files_back : (f : List ℕ × Print) → Contains (files_of (values now)) f → Contains (files_of (values shown)) f
  files_back f h =
      let x = item_of_file (values now) f h in
      let k = shown_value now x.0 x.1 in
      let e = was_shown k.0 x.0 k.1 in
      let own : x.0 ≡ e.0.1 = ap (λ (y : ShelfKey × Item). y.1) (key_of e.0 (k.0, x.0) e.2).1 in
      files_contain (values shown) x.0 f (subst (Contains (values shown)) (sym own) (value_shown shown e.0.0 e.0.1 (shown_entry shown e.0 e.1))) x.2

  pub agreed_moved : AreAgreed (files_of (values shown)) → AreAgreed (files_of (values now))
  agreed_moved agreed path a b p q = agreed path a b (files_back (path, a) p) (files_back (path, b) q)

  -- ---- if all is kept

  module _ (stay : all_stay old new shown ≡ true) where
    -- each entry has its shelf, in a suite that keeps it
    pub stays : (e : ShelfKey × Item) → Contains (entries shown) e → (d : ShelfKey × Item) × (moved_entry old new e ≡ Some d) × (is_kept_by new d ≡ true)
    unfolding all_stay stays_kept
    stays e at = by_case (moved_entry old new e) refl (all_true (stays_kept old new) (entries shown) e stay at)
      where
        by_case : (o : Option (ShelfKey × Item)) → moved_entry old new e ≡ o → option_map_or (is_kept_by new) o false ≡ true
            → (d : ShelfKey × Item) × (moved_entry old new e ≡ Some d) × (is_kept_by new d ≡ true)
        by_case None is f = cc
        by_case (Some d) is f = (d, is, f)

    pub files_on : (f : List ℕ × Print) → Contains (files_of (values shown)) f → Contains (files_of (values now)) f
    files_on f h =
        let x = item_of_file (values shown) f h in
        let k = shown_value shown x.0 x.1 in
        let d = stays (k.0, x.0) (entry_shown shown k.0 x.0 k.1) in
        files_contain (values now) x.0 f (value_shown now d.0.0 x.0 (is_shown (k.0, x.0) d.0 (entry_shown shown k.0 x.0 k.1) d.1)) x.2

    -- the pool is the same
    pub pool_moved : AreAgreed (files_of (values shown)) → (path : List ℕ) → get (pool now) path ≡ get (pool shown) path
    pool_moved agreed path = by_case (get (pool shown) path) refl (get (pool now) path) refl
      where
        found : (m : ShelvesValue) (print : Print) → get (pool m) path ≡ Some print → Contains (files_of (values m)) (path, print)
        found m print e = member_found text_order-IsAntisymmetric path print (files_of (values m)) (sym (get-from_entries text_order_total (files_of (values m)) path) ∙ e)

        there_is : (m : ShelvesValue) (print : Print) → AreAgreed (files_of (values m)) → Contains (files_of (values m)) (path, print) → get (pool m) path ≡ Some print
        there_is m print are at = get-from_entries text_order_total (files_of (values m)) path ∙ agreed_found (files_of (values m)) path print are at

        by_case : (o : Option Print) → get (pool shown) path ≡ o → (p : Option Print) → get (pool now) path ≡ p → p ≡ o
        by_case (Some print) was p is = sym is ∙ there_is now print (agreed_moved agreed) (files_on (path, print) (found shown print was))
        by_case None was None is = refl
        by_case None was (Some print) is =
            let other : None ≡ Some print = sym was ∙ there_is shown print agreed (files_back (path, print) (found now print is)) in
            absurd cc

    -- each item is as its record says, in a suite that keeps it
    pub told_moved : (suites : List Suite) → AreTold suites shown → AreTold new now
    told_moved suites told = record {
      told = all_from (λ e. IsTold e.1) (entries now) (λ d at.
          let e = was_shown d.0 d.1 (shown_entry now d at) in
          let own : d.1 ≡ e.0.1 = ap (λ (y : ShelfKey × Item). y.1) (key_of e.0 d e.2).1 in
          subst IsTold (sym own) (all_at (λ (x : ShelfKey × Item). IsTold x.1) (entries shown) e.0 told.told e.1));
      kept = all_from (λ e. is_kept_by new e ≡ true) (entries now) (λ d at.
          let e = was_shown d.0 d.1 (shown_entry now d at) in
          let s = stays e.0 e.1 in
          subst (λ (x : ShelfKey × Item). is_kept_by new x ≡ true) (same_Some s.0 d (sym s.1 ∙ e.2)) s.2);
    }

  pub sound_moved : AreSound shown → AreSound now
  sound_moved sound = record {
    at_home = all_from IsAtHome (entries now) (λ d at.
        let e = was_shown d.0 d.1 (shown_entry now d at) in
        let home : e.0 ≡ standing e.0.0.suite e.0.1 = all_at IsAtHome (entries shown) e.0 sound.at_home e.1 in
        let moves : d ≡ (record e.0.0 { suite = d.0.suite }, e.0.1) = (key_of e.0 d e.2).1 in
        let item : e.0.1 ≡ d.1 = sym (ap (λ (x : ShelfKey × Item). x.1) moves) in
        moves ∙ ap (λ (x : ShelfKey × Item). (record x.0 { suite = d.0.suite }, x.1)) home ∙ ap (standing d.0.suite) item);
    agreed = agreed_moved sound.agreed;
  }
