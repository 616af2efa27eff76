use Rattle.std.proofs.Common.{◌≡◌, ℕ, List, [], ◌∷◌, ◌++◌, cond, bytes_eq, subst}
use Rattle.std.specs.Prelude.{OnOk}
use Rattle.std.specs.BTreeMap.{get_by_text}
use Rattle.book.specs.Groups.{group_in}
use Rattle.suites.specs.declared.key.ShelfKey.{ShelfKey}
use Rattle.history.proofs.promotion.add_key.Goals as goal

pub returns : goal.returns
returns c =
    subst (λ (key : ShelfKey). OnOk c.add_to_group.result ((q : List ℕ) → group_in (get_by_text c.add_to_group.new.groups q)
    ≡ group_in (get_by_text c.args.groups.now q) ++ cond (bytes_eq c.args.source.now q) (key ∷ []) [])) c.in_ok-try_clone.ensures c.add_to_group.ensures
