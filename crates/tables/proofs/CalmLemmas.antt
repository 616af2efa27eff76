-- If a database has other tables too, no foreign key acts on those of an archive.
use Rattle.std.proofs.Common.{◌≡◌, ◌<◌, ◌≤◌, ℕ, Bool, true, false, not, List, [], ◌∷◌, ◌++◌, length, find, flat_map, filter_map, Option, Some, None, refl, sym, ap, subst, ◌∙◌, arith, ◌==◌, inl, inr, eqb-true, ltb-true}
use Rattle.std.specs.Prelude.{nat_lt, option_map, option_and_then}
use Rattle.std.specs.List.{list_all, list_any}
use Rattle.std.proofs.lemmas.Bool.{and_parts, cases_Bool}
use Rattle.sqlite_schema.specs.Names.{same_name}
use Rattle.sqlite_schema.specs.Rules.{parent_key, key_in, key_places, ParentKey, declared_order}
use Rattle.sqlite_schema.specs.declared.schema.Keys.TheVariants.{Enforced}
use Rattle.sqlite_schema.specs.declared.schema.Reference.{Reference}
use Rattle.sqlite_rules.specs.Action.{works, work_by, deed_for, pairs, Work}
use Rattle.sqlite_rules.specs.declared.action.Deed.{Deed}
use Rattle.sqlite.specs.Order.{Row}
use Rattle.sqlite.specs.Table.{Table}
use Rattle.tables.specs.Schema.{archive_schema}
use Rattle.tables.specs.Others.{Others, with_others, is_ours, is_apart, is_elsewhere, AreApart, last_tree}

-- a search that finds nothing among the first elements goes on after them
find_behind : {X : Type 0} (p : X → Bool) (xs ys : List X) → list_any p xs ≡ false → find p (xs ++ ys) ≡ find p ys
find_behind p [] ys none = refl
find_behind p (x ∷ xs) ys none = elim (cases_Bool (p x)) [
  | inl hit ↦ absurd (let e : true ≡ false = rw hit at none in cc)
  | inr miss ↦ rw miss (find_behind p xs ys (rw miss at none))
]

-- what a search finds passes a test that all elements pass
found_passes : {X : Type 0} (test p : X → Bool) (xs : List X) (x : X) → list_all test xs ≡ true → find p xs ≡ Some x → test x ≡ true
found_passes test p [] x all found = absurd cc
found_passes test p (y ∷ xs) x all found = elim (cases_Bool (p y)) [
  | inl hit ↦ let is : Some y ≡ Some x = rw hit at found in let same : y ≡ x = cc in subst (λ z. test z ≡ true) same (and_parts _ _ all).0
  | inr miss ↦ found_passes test p xs x (and_parts _ _ all).1 (rw miss at found)
]

not-false : (b : Bool) → not b ≡ true → b ≡ false
not-false true h = absurd cc
not-false false h = refl

-- a reference whose parent has no name of an archive's table points to no tree of one
key_behind : (o : Others) → AreApart o → (ref : Reference) → is_ours ref.parent ≡ false → (key : ParentKey) → parent_key (with_others o).tables ref ≡ Some key → last_tree < key.0
unfolding is_ours is_apart
key_behind o apart ref other key is =
    go (find (λ t. same_name t.name ref.parent) o.tables) refl
    (sym (ap (option_and_then (λ t. option_and_then (key_in t) (key_places t ref.parent_columns))) (find_behind (λ t. same_name t.name ref.parent) archive_schema.tables o.tables other)) ∙ is)
  where
    tree_of : (t : Table) (places : Option (List ℕ)) → option_and_then (key_in t) places ≡ Some key → t.tree ≡ key.0
    tree_of t None e = absurd cc
    tree_of t (Some at) e = elim (declared_order t at) as (λ d. option_map (λ o. (t.tree, at, o)) d ≡ Some key → t.tree ≡ key.0) [
      | None ↦ λ h. absurd cc
      | Some d ↦ λ h. let same : (t.tree, at, d) ≡ key = cc in ap (λ (k : ParentKey). k.0) same
    ] e

    go : (found : Option Table) → find (λ t. same_name t.name ref.parent) o.tables ≡ found → option_and_then (λ t. option_and_then (key_in t) (key_places t ref.parent_columns)) found ≡ Some key → last_tree < key.0
    go None at e = absurd cc
    go (Some t) at e = subst (λ n. last_tree < n) (tree_of t (key_places t ref.parent_columns) e) (ltb-true last_tree t.tree (and_parts _ _ (found_passes is_apart (λ t. same_name t.name ref.parent) o.tables t apart.tables at)).0)

no_work : (o : Others) → AreApart o → (tree : ℕ) → tree ≤ last_tree → (moves : List (Row × Row)) (child : Table) (ref : Reference) → is_ours ref.parent ≡ false → (deed : Option Deed)
    → work_by 0 tree moves child ref deed (parent_key (with_others o).tables ref) ≡ None
no_work o apart tree low moves child ref other None = refl
no_work o apart tree low moves child ref other (Some deed) = go (parent_key (with_others o).tables ref) refl
  where
    go : (key : Option ParentKey) → parent_key (with_others o).tables ref ≡ key → work_by 0 tree moves child ref (Some deed) key ≡ None
    go None is = refl
    go (Some key) is = elim (cases_Bool (key.0 == tree)) [
      | inl same ↦ absurd (omega (arith, key_behind o apart ref other key is, eqb-true key.0 tree same))
      | inr apart_from ↦ rw apart_from
    ]

module _ (o : Others) (apart : AreApart o) (tree : ℕ) (low : tree ≤ last_tree) (moves : List (Row × Row)) (deletes : Bool) where
  abbrev work_of : Table → Reference → Option Work
  work_of child ref = work_by 0 tree moves child ref (deed_for Enforced deletes ref) (parent_key (with_others o).tables ref)

  none_of : (child : Table) (refs : List Reference) → list_all is_elsewhere refs ≡ true → filter_map (work_of child) refs ≡ []
  none_of child [] h = refl
  none_of child (ref ∷ refs) h = rw (no_work o apart tree low moves child ref (not-false (is_ours ref.parent) (and_parts _ _ h).0) (deed_for Enforced deletes ref)) (none_of child refs (and_parts _ _ h).1)

  none_behind : (tables : List Table) → list_all is_apart tables ≡ true → flat_map (λ child. filter_map (work_of child) child.references) tables ≡ []
  unfolding is_apart
  none_behind [] h = refl
  none_behind (t ∷ tables) h =
      let all = and_parts (is_apart t) (list_all is_apart tables) h in
      let here = and_parts (nat_lt last_tree t.tree) (list_all is_elsewhere t.references) all.0 in
      rw (none_of t t.references here.1) (none_behind tables all.1)

-- no foreign key acts on a table of an archive
pub calm : (o : Others) → AreApart o → (tree : ℕ) → tree ≤ last_tree → (olds news : List Row) → works (with_others o) Enforced 0 tree olds news ≡ []
calm o apart tree low olds news =
    elim (length news == 0) as (λ b. flat_map (λ child. filter_map (work_of o apart tree low (pairs olds news) b child) child.references) (with_others o).tables ≡ []) [
      | true ↦ none_behind o apart tree low (pairs olds news) true o.tables apart.tables
      | false ↦ none_behind o apart tree low (pairs olds news) false o.tables apart.tables
    ]
