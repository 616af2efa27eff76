use Rattle.std.proofs.Common.{◌≡◌, ◌≢◌, ◌++◌, List, map, None, sym, ap, subst, ◌∙◌}
use Rattle.std.specs.Prelude.{All, AllPairs}
use Rattle.std.specs.FinMap.{find, get, values}
use Rattle.std.specs.Option.{option_or}
use Rattle.std.proofs.lemmas.List.Elements.{All-head, All-tail}
use Rattle.std.proofs.lemmas.List.{nil_from_length}
use Rattle.sums.proofs.Members.{pairs_head, pairs_tail}
use Rattle.suites.specs.Items.{IsAtHome}
use Rattle.suites.specs.Keys.{key_order}
use Rattle.suites.specs.Pool.{AreAgreed, files_of}
use Rattle.suites.specs.Shelves.{ShelvesValue}
use Rattle.suites.specs.declared.item.Item.{Item}
use Rattle.suites.specs.declared.key.ShelfKey.{ShelfKey}
use Rattle.suites.proofs.MovedLoops.{agreed_then, all_there, free_then, joins, left_then, start}
use Rattle.suites.proofs.moving.shelves_with.Goals as goal

pub loop-key-init : goal.loop-key-init
loop-key-init c =
    let given = c.into_iter-key-iterator.ensures.into_iter_gives.0 in
    let at = start c.args.entries.items c.new-shelves.result c.into_iter-key-iterator.result.rest.items c.new-shelves.ensures given c.requires.home c.requires.apart c.requires.agreed in
    record { left = at.left; free = at.free; apart = at.apart; home = at.home; agreed = at.agreed }

pub put-requires-clause-home : goal.put-requires-clause-home
put-requires-clause-home c =
    let steps = c.in-Some.ensures.steps.0 in
    All-head IsAtHome (c.in-Some.key, c.in-Some.item) c.next.new.self.rest.items (subst (All IsAtHome) steps c.loop-key.invariant.home)

pub put-requires-clause-free : goal.put-requires-clause-free
put-requires-clause-free c =
    let steps = c.in-Some.ensures.steps.0 in
    All-head (λ (e : ShelfKey × Item). get c.loop-key.shelves e.0 ≡ None) (c.in-Some.key, c.in-Some.item) c.next.new.self.rest.items
    (subst (All (λ (e : ShelfKey × Item). get c.loop-key.shelves e.0 ≡ None)) steps c.loop-key.invariant.free)

pub put-requires-clause-joins : goal.put-requires-clause-joins
put-requires-clause-joins c =
    let steps = c.in-Some.ensures.steps.0 in
    joins c.loop-key.shelves c.in-Some.key c.in-Some.item c.next.new.self.rest.items
    (subst (λ (es : List (ShelfKey × Item)). AreAgreed (files_of (values c.loop-key.shelves) ++ files_of (map (λ e. e.1) es))) steps c.loop-key.invariant.agreed)

pub loop-key-preserved : goal.loop-key-preserved
loop-key-preserved c =
    let steps = c.in-Some.ensures.steps.0 in
    let m = c.loop-key.shelves in
    let key = c.in-Some.key in
    let item = c.in-Some.item in
    let rest = c.next.new.self.rest.items in
    let made = c.in_ok-put.ensures.ok in
    let was = c.loop-key.invariant in
    let free = subst (All (λ (e : ShelfKey × Item). get m e.0 ≡ None)) steps was.free in
    let apart = subst (AllPairs (λ (a b : ShelfKey × Item). a.0 ≢ b.0)) steps was.apart in
    let home = subst (All IsAtHome) steps was.home in
    let agreed = subst (λ (es : List (ShelfKey × Item)). AreAgreed (files_of (values m) ++ files_of (map (λ e. e.1) es))) steps was.agreed in
    let none = All-head (λ (e : ShelfKey × Item). get m e.0 ≡ None) (key, item) rest free in
    record {
      left = λ k.
          ap (λ (s : ShelvesValue). option_or (get s k) (find key_order k rest)) made ∙ left_then m key item rest none k
          ∙ ap (λ (es : List (ShelfKey × Item)). option_or (get m k) (find key_order k es)) (sym steps) ∙ was.left k;
      free = subst (λ (s : ShelvesValue). All (λ (e : ShelfKey × Item). get s e.0 ≡ None) rest) (sym made)
          (free_then m key item rest (All-tail (λ (e : ShelfKey × Item). get m e.0 ≡ None) (key, item) rest free) (pairs_head (λ (a b : ShelfKey × Item). a.0 ≢ b.0) (key, item) rest apart));
      apart = pairs_tail (λ (a b : ShelfKey × Item). a.0 ≢ b.0) (key, item) rest apart;
      home = All-tail IsAtHome (key, item) rest home;
      agreed = subst (λ (s : ShelvesValue). AreAgreed (files_of (values s) ++ files_of (map (λ (e : ShelfKey × Item). e.1) rest))) (sym made) (agreed_then m key item rest agreed);
    }

pub returns : goal.returns
returns c =
    let rest = c.loop-key.key-iterator.rest.items in
    let none = nil_from_length rest (sym c.loop-key.key-iterator.rest.ok.0 ∙ c.in-None.ensures.steps.0) in
    all_there c.loop-key.shelves c.args.entries.items (λ k. ap (λ (es : List (ShelfKey × Item)). option_or (get c.loop-key.shelves k) (find key_order k es)) (sym none) ∙ c.loop-key.invariant.left k)
