use Rattle.std.proofs.Common.{◌≡◌, List, ◌++◌, ◌∷◌, [], map, ap, ◌∙◌, sym, subst, rules, Bor}
use Rattle.std.proofs.lemmas.List.{append-nil, map-append}
use Rattle.std.proofs.lemmas.Grind.{flat_map-append}
use Rattle.std.proofs.lemmas.Simd.{map-map}
use Rattle.std.proofs.lemmas.Map.Iter.{iter_end}
use Rattle.std.specs.Map.Iter.{deref_pair}
use Rattle.suites.specs.Pool.{files_of, pair_of}
use Rattle.suites.specs.declared.item.Item.{Item}
use Rattle.suites.specs.declared.key.ShelfKey.{ShelfKey}
use Rattle.keep.specs.Scan.{PoolHas}
use Rattle.keep.proofs.pool.pool_bodies.Goals as goal

abbrev Lent : Type 0
Lent = Bor ShelfKey × Bor Item

-- the files of one item more
files_more : (items : List Lent) (e : Lent) → files_of (map (λ (e : Lent). e.1.now) items) ++ map pair_of e.1.now.files ≡ files_of (map (λ (e : Lent). e.1.now) (items ++ e ∷ []))
files_more items e =
    ap (λ fs. files_of (map (λ (e : Lent). e.1.now) items) ++ fs) (sym (append-nil (map pair_of e.1.now.files)))
    ∙ sym (flat_map-append (λ (item : Item). map pair_of item.files) (map (λ (e : Lent). e.1.now) items) (e.1.now ∷ []))
    ∙ ap files_of (sym (map-append (λ (e : Lent). e.1.now) items (e ∷ [])))

pub loop-item-preserved : goal.loop-item-preserved
loop-item-preserved c =
    subst (PoolHas c.args.arrivals.now c.args.files.now c.add_files.new.bodies.items)
    (ap (λ fs. files_of (map (λ (e : Lent). e.1.now) c.loop-item.yielded) ++ map pair_of fs) c.as_slice.ensures ∙ files_more c.loop-item.yielded (c.in-Some.field-0-0, c.in-Some.item))
    (c.in_ok-add_files.ensures (files_of (map (λ (e : Lent). e.1.now) c.loop-item.yielded)) c.loop-item.invariant)

pub returns : goal.returns
returns c =
    let all : map deref_pair c.loop-item.yielded ≡ c.items-item-items.result.now.entries = search (rules, iter_end) in
    subst (λ items. PoolHas c.args.arrivals.now c.args.files.now c.loop-item.bodies.items (files_of items))
    (sym (map-map (λ (e : ShelfKey × Item). e.1) deref_pair c.loop-item.yielded) ∙ ap (map (λ (e : ShelfKey × Item). e.1)) (all ∙ c.items-item-items.ensures))
    c.loop-item.invariant
