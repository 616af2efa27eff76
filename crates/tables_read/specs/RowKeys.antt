-- What the keys of one table keep true of its rows.
use Rattle.std.proofs.Common.{◌≡◌, ℕ, ◌<◌, pos, Bool, true, false, ◌&&◌, ◌||◌, List, [], ◌∷◌, map, Some, refl, sym, ap, subst, ◌∙◌, arith, AllPairs, All, nat_eq, IsTrue, inl, inr}
use Rattle.std.specs.List.{AllByRecursion, list_any}
use Rattle.std.proofs.lemmas.Bool.{and_from, both_ways, false_from_ne_true, not-true}
use Rattle.std.proofs.lemmas.Cmp.{tied_itself}
use Rattle.std.proofs.lemmas.Int.{ints}
use Rattle.std.proofs.lemmas.List.Elements.{All-from_recursion}
use Rattle.sqlite.specs.Collation.TheVariants.{Binary}
use Rattle.sqlite.specs.Order.{Row, column}
use Rattle.sqlite.specs.Tree.{IsAscending, Trees, rowid}
use Rattle.sqlite.specs.declared.types.Value.{Value}
use Rattle.sqlite.specs.declared.types.Value.TheVariants.{Null, Int, Real, Text, Blob}
use Rattle.sqlite_keyed.proofs.ListLemmas.{all_from_test, all_map, all_unmap, all_weaker, ascending-map, none_from_any}
use Rattle.sqlite_rules.proofs.ListLemmas.{all_from, all_has}
use Rattle.sqlite_rules.specs.Lists.{Has}
use Rattle.sqlite_schema.specs.Rules.{Keeps, agree, clashes, differ, equal, guards, has_null, is_held, parent_key, passes}
use Rattle.sqlite_schema.specs.declared.schema.Constraint.TheVariants.{ForeignKey, Unique}
use Rattle.sqlite_schema.specs.declared.schema.Index.{Index}
use Rattle.sqlite_schema.specs.declared.schema.Reference.{Reference}
use Rattle.sqlite_schema.specs.declared.schema.Schema.{Schema}
use Rattle.sqlite_schema.specs.declared.schema.Table.{Table}
use Rattle.sqlite_sql.specs.Ops.{binary, is_null}
use Rattle.sqlite_sql.specs.declared.ops.CompareOp.TheVariants.{Ne}
use Rattle.sqlite_typed.proofs.TestLemmas.{at_ints, last_term}
use Rattle.sqlite_value.proofs.OrderLemmas.{value_cmp_total}
use Rattle.sqlite_value.specs.Keys.{first_key, plain}
use Rattle.tables.proofs.EqualLemmas.{id_test}
use Rattle.tables.proofs.Pairwise.{pairs_from_ascending}
use Rattle.tables.specs.Rows.{HasRows, Numbered, rows_of, stored, id_cell, id_int}

-- ---- lists

-- a relation between each two elements of a list in one order holds between each element and the later ones
ascending_on : {X : Type 0} (S R : X → X → Type 0) (xs : List X) → ((x y : X) → Has xs x → Has xs y → S x y → R x y) → IsAscending S xs → IsAscending R xs
ascending_on S R [] h up = tt
ascending_on S R (x ∷ xs) h up = (
  all_from (R x) xs (λ y there. h x y (inl refl) (inr there) (all_has (S x) xs y up.0 there)),
  ascending_on S R xs (λ a b p q s. h a b (inr p) (inr q) s) up.1,
)

-- searching what a function makes of a list is searching the list
any_map : {X Y : Type 0} (p : Y → Bool) (f : X → Y) (xs : List X) → list_any p (map f xs) ≡ list_any (λ x. p (f x)) xs
any_map p f [] = refl
any_map p f (x ∷ xs) = ap (λ b. p (f x) || b) (any_map p f xs)

-- ---- cells

-- what is not NULL equals itself
equals_itself : (v : Value) → is_null v ≡ false → equal Binary v v ≡ true
unfolding binary
equals_itself Null some = absurd (both_ways true some refl)
equals_itself (Int n) some = rw (tied_itself value_cmp_total (Int n)) refl
equals_itself (Real x) some = rw (tied_itself value_cmp_total (Real x)) refl
equals_itself (Text t) some = rw (tied_itself value_cmp_total (Text t)) refl
equals_itself (Blob b) some = rw (tied_itself value_cmp_total (Blob b)) refl

-- the rows have equal values at the places, and no NULL
abbrev pub AreSame : List ℕ → Row → Row → Type 0
AreSame places a b = AllByRecursion (λ p. (column a p ≡ column b p) × (is_null (column b p) ≡ false)) places

-- rows with equal values at the places agree there
agree_if_same : (places : List ℕ) (a b : Row) → AreSame places a b → agree plain places a places b ≡ true
unfolding first_key
agree_if_same [] a b same = refl
agree_if_same (p ∷ ps) a b same = and_from _ _ (ap (λ v. equal Binary v (column b p)) same.0.0 ∙ equals_itself (column b p) same.0.1) (agree_if_same ps a b same.1)

-- ---- unique keys

-- no row of the tree has the key of another
abbrev pub HasNoClash : List ℕ → List Row → Type 0
HasNoClash places tree = AllByRecursion (λ row. clashes plain places tree row ≡ false) tree

-- the rows of a table have no clash in an index that guards it
pub guarded : (schema : Schema) (db : Trees) (t : Table) (i : Index) → Keeps Unique schema db → Has schema.tables t → Has schema.indexes i → guards i t ≡ true
    → AllByRecursion (λ row. clashes i.order i.columns (db t.tree) row ≡ false) (db t.tree)
guarded schema db t i keeps listed known on =
    all_weaker (λ row. passes Unique schema db t row ≡ true) (λ row. clashes i.order i.columns (db t.tree) row ≡ false)
    (λ row pass.
    let no = not-true _ (all_has _ schema.indexes i (all_from_test _ schema.indexes pass) known) in
    false_from_ne_true _ (λ clash. both_ways _ no (and_from _ _ on clash)))
    (db t.tree) (all_has _ schema.tables t keeps listed)

module _ {X : Type 0} (cells : X → Row) where
  -- rows whose rowids rise have two rowids
  differ_if_less : (x y : ℕ × X) → x.0 < y.0 → differ (rowid (stored cells x)) (rowid (stored cells y)) ≡ true
  differ_if_less x y below = at_ints false Ne (id_int x.0) (id_int y.0) ∙ grind (arith, ints)

  -- the tree has each row as it is stored
  has_stored : (xs : Numbered X) (x : ℕ × X) → Has xs x → Has (map (stored cells) xs) (stored cells x)
  has_stored [] x there = there
  has_stored (y ∷ ys) x (inl is) = inl (ap (stored cells) is)
  has_stored (y ∷ ys) x (inr more) = inr (has_stored ys x more)

  -- no two rows have equal values at the places of a key
  two_apart : (places : List ℕ) (xs : Numbered X) → HasNoClash places (map (stored cells) xs) → (x y : ℕ × X) → Has xs x → Has xs y → x.0 < y.0 → AreSame places (stored cells x) (stored cells y) → ⊥
  two_apart places xs none x y here there below same =
      let tree = map (stored cells) xs in
      let no = all_has (λ row. clashes plain places tree row ≡ false) tree (stored cells y) none (has_stored xs y there) in
      let each = all_has _ tree (stored cells x) (none_from_any _ tree no) (has_stored xs x here) in
      both_ways _ each (and_from _ _ (agree_if_same places _ _ same) (differ_if_less x y below))

  -- the rows of a table, two by two
  pub apart : (places : List ℕ) (tree : List Row) (xs : Numbered X) → HasRows cells xs tree → HasNoClash places tree
      → (R : ℕ × X → ℕ × X → Type 0) → ((x y : ℕ × X) → (AreSame places (stored cells x) (stored cells y) → ⊥) → R x y) → AllPairs R xs
  apart places tree xs has none R each =
      pairs_from_ascending R xs
      (ascending_on (λ a b. a.0 < b.0) R xs (λ x y here there below. each x y (two_apart places xs (subst (HasNoClash places) has.are none) x y here there below)) has.rise)

  -- the rows of a table, two by two, without their rowids
  pub rows_apart : (places : List ℕ) (tree : List Row) (xs : Numbered X) → HasRows cells xs tree → HasNoClash places tree
      → (R : X → X → Type 0) → ((x y : ℕ × X) → (AreSame places (stored cells x) (stored cells y) → ⊥) → R x.1 y.1) → AllPairs R (rows_of xs)
  rows_apart places tree xs has none R each =
      pairs_from_ascending R (rows_of xs) (ascending-map R (λ x. x.1) xs
      (ascending_on (λ a b. a.0 < b.0) (λ a b. R a.1 b.1) xs (λ x y here there below. each x y (two_apart places xs (subst (HasNoClash places) has.are none) x y here there below)) has.rise))

-- ---- references

-- some row of the parents' tree has the rowid that each row of the tree names at the place, unless this names NULL
abbrev pub HasParents : ℕ → List Row → List Row → Type 0
HasParents place parents tree = AllByRecursion (λ row. (has_null (place ∷ []) row || list_any (λ parent. agree plain (0 ∷ []) parent (place ∷ []) row) parents) ≡ true) tree

-- a reference by one column to the rowid of a table: the rows have their parents there
pub referred : (schema : Schema) (db : Trees) (t : Table) (ref : Reference) (place parent : ℕ) → Keeps ForeignKey schema db → Has schema.tables t → Has t.references ref
    → ref.columns ≡ place ∷ [] → parent_key schema.tables ref ≡ Some (parent, 0 ∷ [], plain) → HasParents place (db parent) (db t.tree)
referred schema db t ref place parent keeps listed known columns key =
    all_weaker (λ row. passes ForeignKey schema db t row ≡ true) (λ row. (has_null (place ∷ []) row || list_any (λ p. agree plain (0 ∷ []) p (place ∷ []) row) (db parent)) ≡ true)
    (λ row pass. subst (λ ps. (has_null ps row || is_held db ps row (Some (parent, 0 ∷ [], plain))) ≡ true) columns
    (subst (λ k. (has_null ref.columns row || is_held db ref.columns row k) ≡ true) key
    (all_has _ t.references ref (all_from_test _ t.references pass) known)))
    (db t.tree) (all_has _ schema.tables t keeps listed)

-- each row names the number of a row of the parents
pub owned : {X Y : Type 0} (cells : X → Row) (parent_cells : Y → Row) (tree parents : List Row) (xs : Numbered X) (ys : Numbered Y) (place : ℕ) (id : X → ℕ)
    → HasRows cells xs tree → HasRows parent_cells ys parents → ((x : ℕ × X) → column (stored cells x) place ≡ id_cell (id x.1)) → HasParents place parents tree
    → All (λ x. IsTrue (list_any (λ y. nat_eq y.0 (id x)) ys)) (rows_of xs)
unfolding first_key
owned {X} cells parent_cells tree parents xs ys place id has have names held =
    let IsOwned = λ (x : X). IsTrue (list_any (λ y. nat_eq y.0 (id x)) ys) in
    All-from_recursion IsOwned (rows_of xs) (all_map IsOwned (λ x. x.1) xs
    (all_weaker (λ x. (has_null (place ∷ []) (stored cells x) || list_any (λ parent. agree plain (0 ∷ []) parent (place ∷ []) (stored cells x)) parents) ≡ true) (λ x. IsOwned x.1)
    (λ x some. sym (found x) ∙ some)
    xs (all_unmap _ (stored cells) xs (subst (HasParents place parents) has.are held))))
  where
    found : (x : _) → (has_null (place ∷ []) (stored cells x) || list_any (λ parent. agree plain (0 ∷ []) parent (place ∷ []) (stored cells x)) parents) ≡ list_any (λ y. nat_eq y.0 (id x.1)) ys
    found x =
        ap (λ v. (is_null v || false) || list_any (λ parent. equal Binary (column parent 0) v && true) parents) (names x)
        ∙ ap (list_any (λ parent. equal Binary (column parent 0) (id_cell (id x.1)) && true)) have.are
        ∙ any_map _ (stored parent_cells) ys
        ∙ (λ i. list_any (λ y. last_term (id_test y.0 (id x.1)) i) ys)

-- ---- rows as they are read

module _ (read : Row → Row) where
  -- a key that the rows have as they are stored is one that they have as they are read
  pub no_clash_read : (places : List ℕ) → ((a b : Row) → agree plain places (read a) places (read b) ≡ agree plain places a places b) → ((a : Row) → rowid (read a) ≡ rowid a)
      → (tree : List Row) → HasNoClash places tree → HasNoClash places (map read tree)
  no_clash_read places same ids tree none =
      all_map (λ row. clashes plain places (map read tree) row ≡ false) read tree
      (all_weaker (λ row. clashes plain places tree row ≡ false) (λ row. clashes plain places (map read tree) (read row) ≡ false)
      (λ row no. any_map _ read tree ∙ (λ i. list_any (λ other. same other row i && differ (ids other i) (ids row i)) tree) ∙ no) tree none)

  -- the parents of a reference are also found if the rows are as they are read
  pub parents_read : ((a : Row) → rowid (read a) ≡ rowid a) → (place : ℕ) (parents tree : List Row) → HasParents place parents tree → HasParents place (map read parents) tree
  unfolding first_key
  parents_read ids place parents tree held =
      all_weaker (λ row. (has_null (place ∷ []) row || list_any (λ parent. agree plain (0 ∷ []) parent (place ∷ []) row) parents) ≡ true)
      (λ row. (has_null (place ∷ []) row || list_any (λ parent. agree plain (0 ∷ []) parent (place ∷ []) row) (map read parents)) ≡ true)
      (λ row some. ap (λ b. has_null (place ∷ []) row || b) (any_map _ read parents ∙ (λ i. list_any (λ parent. equal Binary (ids parent i) (column row place) && true) parents)) ∙ some)
      tree held
