use Rattle.std.proofs.Common.{◌≡◌, ◌<◌, List, fold, sym, ap, subst, ◌∙◌}
use Rattle.std.specs.Prelude.{IfSome}
use Rattle.std.specs.FinMap.{from_entries, insert, values}
use Rattle.suites.specs.Applying.{with_file, without_file}
use Rattle.suites.specs.Counts.{shared_at}
use Rattle.suites.specs.Keys.{key_order}
use Rattle.suites.specs.KeyLemmas.{key_order_total, key_order-IsAntisymmetric}
use Rattle.suites.specs.Pool.{files_of}
use Rattle.suites.specs.Shelves.{AreSound, ShelvesValue}
use Rattle.suites.specs.declared.item.Item.{Item}
use Rattle.suites.specs.declared.key.ShelfKey.{ShelfKey}
use Rattle.suites.proofs.MapLemmas.{insert-view}
use Rattle.suites.proofs.PutLemmas.{counted_put, sound_put, undone_files}
use Rattle.suites.proofs.ReferenceLemmas.{shared_positive}
use Rattle.suites.proofs.shelves.Shelves.put.Goals as goal

pub add_files-requires : goal.add_files-requires
add_files-requires c = λ path.
    subst (λ o. IfSome o (λ f. 0 < f.references)) (sym (c.self.invariant.2 path)) (shared_positive path (files_of (values (from_entries {R = key_order} c.self.inside.items.entries))))

pub invariant_of-self : goal.invariant_of-self
invariant_of-self c = (c.self.invariant.0, c.self.invariant.1, λ path. c.in_err-add_files.ensures.err path ∙ c.self.invariant.2 path)

pub returns-in-Ok-clause-ok : goal.returns-in-Ok-clause-ok
returns-in-Ok-clause-ok c =
    insert-view key_order_total key_order-IsAntisymmetric c.self.inside.items c.insert.new.self c.args.key c.args.item c.in-Ok.ensures.updates
    ∙ ap (λ (v : ShelvesValue). insert v c.args.key c.args.item) c.self.view_is

pub invariant_of-self-in-Ok : goal.invariant_of-self-in-Ok
invariant_of-self-in-Ok c =
    let sound = subst AreSound c.self.view_is c.self.invariant.0 in
    let now : insert c.args.self.now c.args.key c.args.item ≡ from_entries {R = key_order} c.insert.new.self.entries =
    sym (insert-view key_order_total key_order-IsAntisymmetric c.self.inside.items c.insert.new.self c.args.key c.args.item c.in-Ok.ensures.updates
    ∙ ap (λ (v : ShelvesValue). insert v c.args.key c.args.item) c.self.view_is) in (
      subst AreSound now (sound_put c.args.self.now c.args.key c.args.item c.requires.free sound c.requires.home c.requires.joins),
      c.in-Ok.ensures.ordered,
      λ path.
          c.in_ok-add_files.ensures.ok path
          ∙ (λ i. fold (with_file path) (c.self.invariant.2 path i) (c.as_slice.ensures i))
          ∙ ap (λ (v : ShelvesValue). fold (with_file path) (shared_at path (files_of (values v))) c.args.item.files) c.self.view_is
          ∙ counted_put c.args.self.now c.args.key c.args.item c.requires.free sound c.requires.home c.requires.joins path
          ∙ ap (λ (v : ShelvesValue). shared_at path (files_of (values v))) now,
    )

pub invariant_of-self-in-Err : goal.invariant_of-self-in-Err
invariant_of-self-in-Err c =
    let same : from_entries {R = key_order} c.insert.new.self.entries ≡ from_entries {R = key_order} c.self.inside.items.entries =
    ap (λ (es : List (ShelfKey × Item)). from_entries {R = key_order} es) c.in-Err.ensures.err in
    let files = c.args.item.files in (
      subst AreSound (sym same) c.self.invariant.0,
      c.in-Err.ensures.ordered,
      λ path.
          let start = shared_at path (files_of (values (from_entries {R = key_order} c.self.inside.items.entries))) in
          c.drop_files.ensures path
          ∙ ap (λ o. fold (without_file path) o c.as_slice-in-Err.result.now) (c.in_ok-add_files.ensures.ok path)
          ∙ (λ i. fold (without_file path) (fold (with_file path) (c.self.invariant.2 path i) (c.as_slice.ensures i))
          ((c.as_slice-in-Err.ensures ∙ ap (λ (e : ShelfKey × Item). e.1.files) c.in-Err.ensures.value_returned) i))
          ∙ undone_files path start files (shared_positive path (files_of (values (from_entries {R = key_order} c.self.inside.items.entries))))
          ∙ ap (λ (v : ShelvesValue). shared_at path (files_of (values v))) (sym same),
    )
