use Rattle.std.proofs.Common.{◌≡◌, ◌≢◌, Bool, true, false, List, filter_map, map, Some, None, option_map, if◌then◌else◌, refl, sym, ap, subst, ◌∙◌}
use Rattle.std.specs.Prelude.{All, AllPairs}
use Rattle.std.specs.FinMap.{entries, entries_sorted, from_entries}
use Rattle.std.proofs.lemmas.Option.{same_Some}
use Rattle.rules.proofs.Apart.{claim_apart}
use Rattle.rules.specs.declared.suite.Suite.{Suite}
use Rattle.suites.specs.Items.{IsAtHome}
use Rattle.suites.specs.Moved.{all_stay, moved, moved_entry}
use Rattle.suites.specs.Pool.{AreAgreed, files_of}
use Rattle.suites.specs.Shelves.{ShelvesValue}
use Rattle.suites.specs.declared.item.Item.{Item}
use Rattle.suites.specs.declared.key.ShelfKey.{ShelfKey}
use Rattle.suites.proofs.MovedEntries.{codenames_apart, files_moved, home_moved, shelves_moved}
use Rattle.suites.proofs.moving.moved_shelves.Goals as goal

-- entries that were found are those that move, and all stay
found : (shown : ShelvesValue) (es : List (ShelfKey × Item)) (was now old new : List Suite) → was ≡ old → now ≡ new
    → Some es ≡ (if all_stay was now shown then Some (filter_map (moved_entry was now) (entries shown)) else None)
    → (all_stay old new shown ≡ true) × (es ≡ filter_map (moved_entry old new) (entries shown))
found shown es was now old new left right h =
    let h' = subst (λ (s : List Suite). Some es ≡ (if all_stay s now shown then Some (filter_map (moved_entry s now) (entries shown)) else None)) left h in
    by_test (all_stay old new shown) refl (subst (λ (s : List Suite). Some es ≡ (if all_stay old s shown then Some (filter_map (moved_entry old s) (entries shown)) else None)) right h')
  where
    by_test : (b : Bool) → all_stay old new shown ≡ b → Some es ≡ (if b then Some (filter_map (moved_entry old new) (entries shown)) else None)
        → (all_stay old new shown ≡ true) × (es ≡ filter_map (moved_entry old new) (entries shown))
    by_test true is f = (is, same_Some es (filter_map (moved_entry old new) (entries shown)) f)
    by_test false is f = cc

pub shelves_with-requires-clause-home : goal.shelves_with-requires-clause-home
shelves_with-requires-clause-home c =
    let old = c.args.old.now.suites in
    let new = c.args.new.now.suites in
    let apart = codenames_apart old (claim_apart c.args.old.now.text c.args.old.now c.text.ensures.read) in
    let at = found c.args.shelves.now c.in-Some.entries.items c.suites.result.now c.suites-2.result.now old new c.suites.ensures c.suites-2.ensures
    (ap (option_map (λ v. v.items)) (sym c.in-Some.is) ∙ c.in_ok-entries.ensures) in
    subst (All IsAtHome) (sym at.1) (home_moved old new apart c.args.shelves.now c.agree.ensures.at_home)

pub shelves_with-requires-clause-apart : goal.shelves_with-requires-clause-apart
shelves_with-requires-clause-apart c =
    let old = c.args.old.now.suites in
    let new = c.args.new.now.suites in
    let apart = codenames_apart old (claim_apart c.args.old.now.text c.args.old.now c.text.ensures.read) in
    let at = found c.args.shelves.now c.in-Some.entries.items c.suites.result.now c.suites-2.result.now old new c.suites.ensures c.suites-2.ensures
    (ap (option_map (λ v. v.items)) (sym c.in-Some.is) ∙ c.in_ok-entries.ensures) in
    subst (AllPairs (λ (a b : ShelfKey × Item). a.0 ≢ b.0)) (sym at.1) (shelves_moved old new apart c.args.shelves.now (entries c.args.shelves.now) (entries_sorted c.args.shelves.now))

pub shelves_with-requires-clause-agreed : goal.shelves_with-requires-clause-agreed
shelves_with-requires-clause-agreed c =
    let old = c.args.old.now.suites in
    let new = c.args.new.now.suites in
    let apart = codenames_apart old (claim_apart c.args.old.now.text c.args.old.now c.text.ensures.read) in
    let at = found c.args.shelves.now c.in-Some.entries.items c.suites.result.now c.suites-2.result.now old new c.suites.ensures c.suites-2.ensures
    (ap (option_map (λ v. v.items)) (sym c.in-Some.is) ∙ c.in_ok-entries.ensures) in
    subst (λ (es : List (ShelfKey × Item)). AreAgreed (files_of (map (λ (e : ShelfKey × Item). e.1) es))) (sym at.1) (files_moved old new apart c.args.shelves.now c.agree.ensures.agreed)

pub returns-in_ok-shelves_with-in-Some : goal.returns-in_ok-shelves_with-in-Some
unfolding moved
returns-in_ok-shelves_with-in-Some c =
    let old = c.args.old.now.suites in
    let new = c.args.new.now.suites in
    let at = found c.args.shelves.now c.in-Some.entries.items c.suites.result.now c.suites-2.result.now old new c.suites.ensures c.suites-2.ensures
    (ap (option_map (λ v. v.items)) (sym c.in-Some.is) ∙ c.in_ok-entries.ensures) in
    let made : c.in_ok-shelves_with-in-Some.field-0 ≡ from_entries (filter_map (moved_entry old new) (entries c.args.shelves.now)) = c.in_ok-shelves_with-in-Some.ensures ∙ ap from_entries at.1 in
    ap Some made ∙ ap (λ (b : Bool). if b then Some (from_entries (filter_map (moved_entry old new) (entries c.args.shelves.now))) else None) (sym at.0)
