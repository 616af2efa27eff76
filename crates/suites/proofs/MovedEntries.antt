-- The entries that move: each at home, no two on one shelf, and their files those that were shown.
use Rattle.std.proofs.Common.{◌≡◌, ◌≢◌, ℕ, true, List, [], ◌∷◌, ◌++◌, map, filter_map, get_or, Option, Some, None, refl, sym, ap, subst, ◌∙◌, bytes_eq, arith}
use Rattle.std.specs.Prelude.{All, AllPairs, Contains, T}
use Rattle.std.specs.List.{cons_option}
use Rattle.std.specs.FinMap.{entries, find, is_sorted, values}
use Rattle.std.specs.FinMap.Entries.{below_all}
use Rattle.std.specs.Cmp.{eq_by_cmp_equiv}
use Rattle.std.specs.Ordering.{eq_by_cmp}
use Rattle.std.specs.Option.{option_to_list}
use Rattle.std.proofs.lemmas.List.Kept.{AllPairs-cons}
use Rattle.std.proofs.lemmas.Slice.Eq.{bytes_eq-Decides}
use Rattle.rules.specs.Configuration.{ClaimApart}
use Rattle.rules.specs.Suites.{claims, distributions}
use Rattle.rules.specs.declared.suite.Suite.{Suite}
use Rattle.sums.proofs.Members.{all_at, all_from, any_true, from_map, here}
use Rattle.sums.specs.declared.print.Print.{Print}
use Rattle.suites.specs.Items.{IsAtHome, standing}
use Rattle.suites.specs.Keys.{key_order}
use Rattle.suites.specs.KeyLemmas.{key_order_total}
use Rattle.suites.specs.Moved.{moved_entry}
use Rattle.suites.specs.Pool.{AreAgreed, files_of}
use Rattle.suites.specs.Shelves.{ShelvesValue}
use Rattle.suites.specs.declared.item.Item.{Item}
use Rattle.suites.specs.declared.key.ShelfKey.{ShelfKey}
use Rattle.suites.proofs.EntryLemmas.{and_left, and_right, tied_behind}
use Rattle.suites.proofs.FileMembers.{files_contain, found_member, item_of_file, shown_entry, value_shown}
use Rattle.suites.proofs.MovedLemmas.{key_of, one_shelf}
use Rattle.suites.proofs.ListMembers.{from_filter_map}

pub claims_own : (s : Suite) → claims s.codename s ≡ true
unfolding claims
claims_own s = any_true (bytes_eq s.codename) (distributions s) s.codename (here s.codename (option_to_list s.suite ++ s.also_accept_for)) ((bytes_eq-Decides s.codename s.codename).1 refl)

-- suites of which no two claim the same name have different codenames
pub codenames_apart : (suites : List Suite) → ClaimApart suites → AllPairs (λ (s t : Suite). s.codename ≢ t.codename) suites
codenames_apart suites h = λ i j d below within e.
    let s : Suite = get_or suites i d in
    let t : Suite = get_or suites j d in
    h i j d below within s.codename (claims_own s) (subst (λ (name : List ℕ). claims name t ≡ true) (sym e) (claims_own t))

module _ (old new : List Suite) (apart : AllPairs (λ (s t : Suite). s.codename ≢ t.codename) old) (shown : ShelvesValue) where
  abbrev moves : List (ShelfKey × Item) → List (ShelfKey × Item)
  moves es = filter_map (moved_entry old new) es

  pub home_moved : All IsAtHome (entries shown) → All IsAtHome (moves (entries shown))
  home_moved home = all_from IsAtHome (moves (entries shown)) (λ d at.
      let e = from_filter_map (moved_entry old new) d (entries shown) at in
      let was : e.0 ≡ standing e.0.0.suite e.0.1 = all_at IsAtHome (entries shown) e.0 home e.1 in
      let now : d ≡ (record e.0.0 { suite = d.0.suite }, e.0.1) = (key_of old new apart shown e.0 d e.2).1 in
      let item : e.0.1 ≡ d.1 = sym (ap (λ (x : ShelfKey × Item). x.1) now) in
      now ∙ ap (λ (x : ShelfKey × Item). (record x.0 { suite = d.0.suite }, x.1)) was ∙ ap (standing d.0.suite) item)

  pub shelves_moved : (es : List (ShelfKey × Item)) → T (is_sorted key_order es) → AllPairs (λ (a b : ShelfKey × Item). a.0 ≢ b.0) (moves es)
  shelves_moved [] sorted = λ i j d below within. absurd (omega arith)
  shelves_moved (e ∷ es) sorted = by_case (moved_entry old new e) refl (shelves_moved es (and_right (below_all key_order e.0 es) _ sorted))
    where
      behind : (f : ShelfKey × Item) → Contains es f → e.0 ≡ f.0 → ⊥
      behind f at same =
          let tied : eq_by_cmp key_order f.0 e.0 ≡ true = ap (λ k. eq_by_cmp key_order k e.0) (sym same) ∙ (eq_by_cmp_equiv key_order_total).refl e.0 in
          let none : find key_order f.0 es ≡ None = tied_behind key_order_total e.0 f.0 es (and_left (below_all key_order e.0 es) _ sorted) tied in
          let there_is = found_member key_order_total f.0 f.1 es at in
          let both : None ≡ Some there_is.0 = sym none ∙ there_is.1 in
          absurd cc

      by_case : (o : Option (ShelfKey × Item)) → moved_entry old new e ≡ o → AllPairs (λ (a b : ShelfKey × Item). a.0 ≢ b.0) (moves es)
          → AllPairs (λ (a b : ShelfKey × Item). a.0 ≢ b.0) (cons_option o (moves es))
      by_case None is rest = rest
      by_case (Some d) is rest = AllPairs-cons (λ (a b : ShelfKey × Item). a.0 ≢ b.0) d (moves es) (all_from (λ (g : ShelfKey × Item). d.0 ≢ g.0) (moves es) (λ g at same.
          let f = from_filter_map (moved_entry old new) g es at in
          behind f.0 f.1 (one_shelf old new apart shown e f.0 d g is f.2 same))) rest

  pub files_moved : AreAgreed (files_of (values shown)) → AreAgreed (files_of (map (λ (e : ShelfKey × Item). e.1) (moves (entries shown))))
  files_moved agreed path a b p q = agreed path a b (back (path, a) p) (back (path, b) q)
    where
      back : (f : List ℕ × Print) → Contains (files_of (map (λ (e : ShelfKey × Item). e.1) (moves (entries shown)))) f → Contains (files_of (values shown)) f
      back f h =
          let x = item_of_file (map (λ (e : ShelfKey × Item). e.1) (moves (entries shown))) f h in
          let d = from_map (λ (e : ShelfKey × Item). e.1) x.0 (moves (entries shown)) x.1 in
          let e = from_filter_map (moved_entry old new) d.0 (entries shown) d.1 in
          let own : x.0 ≡ e.0.1 = sym d.2 ∙ ap (λ (y : ShelfKey × Item). y.1) (key_of old new apart shown e.0 d.0 e.2).1 in
          files_contain (values shown) x.0 f (subst (Contains (values shown)) (sym own) (value_shown shown e.0.0 e.0.1 (shown_entry shown e.0 e.1))) x.2
