-- Entries whose keys lead to files of the pool.
use Rattle.std.proofs.Common.{◌≡◌, ◌∙◌, ◌&&◌, ℕ, Bool, true, false, List, [], ◌∷◌, ◌++◌, Result, Ok, Err, refl, ap}
use Rattle.std.specs.Prelude.{cond, string_bytes, OnErr, OnOk}
use Rattle.std.specs.Ordering.{match_ordering}
use Rattle.std.specs.declared.cmp.Ordering.{Ordering}
use Rattle.std.specs.declared.cmp.Ordering.TheVariants.{Less, Equal, Greater}
use Rattle.std.specs.declared.alloc.Global.{Global}
use Rattle.std.specs.declared.string.String.{String}
use Rattle.std.specs.List.{list_all}
use Rattle.std.proofs.lemmas.List.Folds.{list_all-append}
use Rattle.std.specs.Map.{remove_entry}
use Rattle.std.specs.BTreeMap.{insert_entry}
use Rattle.exported.specs.Names.{have_pool_paths, is_pool_path}

pub both : (a b : Bool) → a ≡ true → b ≡ true → a && b ≡ true
both a b p q = rw (p, q) refl

pub first_true : (a b : Bool) → a && b ≡ true → a ≡ true
first_true true b h = refl
first_true false b h = h

pub second_true : (a b : Bool) → a && b ≡ true → b ≡ true
second_true true b h = h
second_true false true h = refl
second_true false false h = h

module _ {V : Type 0} where
  -- if an entry is added, or its value changes
  inserted_by : (order : Ordering) (e : String Global × V) (es : List (String Global × V)) (k : String Global) (v : V) (more : List (String Global × V))
      → is_pool_path (string_bytes k) ≡ true → have_pool_paths (e ∷ es) ≡ true → have_pool_paths more ≡ true
      → have_pool_paths (match_ordering order ((k, v) ∷ e ∷ es) ((e.0, v) ∷ es) (e ∷ more)) ≡ true
  inserted_by Less e es k v more within all rest = both _ _ within all
  inserted_by Equal e es k v more within all rest = all
  inserted_by Greater e es k v more within all rest = both _ _ (first_true _ _ all) rest

  pub inserted : (cmp : String Global → String Global → Ordering) (es : List (String Global × V)) (k : String Global) (v : V)
      → is_pool_path (string_bytes k) ≡ true → have_pool_paths es ≡ true → have_pool_paths (insert_entry cmp es k v) ≡ true
  inserted cmp [] k v within all = both _ _ within refl
  inserted cmp (e ∷ es) k v within all = inserted_by (cmp k e.0) e es k v (insert_entry cmp es k v) within all (inserted cmp es k v within (second_true _ _ all))

  removed_by : (is : Bool) (e : String Global × V) (es more : List (String Global × V)) → have_pool_paths (e ∷ es) ≡ true → have_pool_paths more ≡ true
      → have_pool_paths (cond is es (e ∷ more)) ≡ true
  removed_by true e es more all rest = second_true _ _ all
  removed_by false e es more all rest = both _ _ (first_true _ _ all) rest

  -- if an entry is removed
  pub removed : (test : String Global → Bool) (es : List (String Global × V)) → have_pool_paths es ≡ true → have_pool_paths (remove_entry test es) ≡ true
  removed test [] all = all
  removed test (e ∷ es) all = removed_by (test e.0) e es (remove_entry test es) all (removed test es (second_true _ _ all))

  -- if an entry was added, or nothing was
  pub inserted_or_not : {T E : Type 0} (result : Result T E) (cmp : String Global → String Global → Ordering) (es more : List (String Global × V)) (k : String Global) (v : V)
      → OnOk result (more ≡ insert_entry cmp es k v) → OnErr result (more ≡ es) → is_pool_path (string_bytes k) ≡ true → have_pool_paths es ≡ true → have_pool_paths more ≡ true
  inserted_or_not (Ok x) cmp es more k v done kept within all = ap have_pool_paths done ∙ inserted cmp es k v within all
  inserted_or_not (Err e) cmp es more k v done kept within all = ap have_pool_paths kept ∙ all

  -- for the first entry and the others
  pub first_within : (e : String Global × V) (es : List (String Global × V)) → have_pool_paths (e ∷ es) ≡ true → is_pool_path (string_bytes e.0) ≡ true
  first_within e es all = first_true _ _ all

  pub rest_within : (e : String Global × V) (es : List (String Global × V)) → have_pool_paths (e ∷ es) ≡ true → have_pool_paths es ≡ true
  rest_within e es all = second_true _ _ all

-- one more path of the pool
pub pushed_within : (paths : List (List ℕ)) (path : List ℕ) → list_all is_pool_path paths ≡ true → is_pool_path path ≡ true → list_all is_pool_path (paths ++ path ∷ []) ≡ true
pushed_within paths path all within = list_all-append is_pool_path paths (path ∷ []) ∙ both _ _ all (both _ _ within refl)
