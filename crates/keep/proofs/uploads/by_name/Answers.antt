use Rattle.std.proofs.Common.{◌≡◌, ℕ, ◌<◌, ◌+◌, ◌-◌, ◌∷◌, ◌++◌, List, map, take, drop, get_or, length, ap, ◌∙◌, sym, subst, arith}
use Rattle.std.proofs.lemmas.List.{drop_more, map-append}
use Rattle.sums.specs.declared.entries.Entry.{Entry}
use Rattle.book.specs.Book.{by_name, put_by_name}
use Rattle.keep.specs.Scan.{entry_at}
use Rattle.keep.proofs.uploads.by_name.Goals as goal

-- the entries from one place earlier on
earlier : (entries : List Entry) (left : ℕ) (e : Entry) → 0 < left → left - 1 < length entries → e ≡ get_or entries (left - 1) e
    → drop (left - 1) entries ≡ e ∷ drop left entries
earlier entries left e some within is =
    let back : left - 1 + 1 ≡ left = omega arith in
    drop_more entries (left - 1) e within ∙ ap (λ x. x ∷ drop (left - 1 + 1) entries) (sym is) ∙ ap (λ i. e ∷ drop i entries) back

pub loop-left-preserved : goal.loop-left-preserved
loop-left-preserved c = record {
  within = omega arith;
  found =
      let position = c.position_by_name-position.result in
      let found = c.loop-left.found.items in
      let entry = c.index-entries-left.result in
      let within : c.loop-left.left - 1 < length c.args.entries.now = omega arith in
      ap (map entry_at) c.in_ok-insert.ensures.items
      ∙ map-append entry_at (take position found) _
      ∙ sym (subst (λ xs. put_by_name entry (map entry_at xs) ≡ map entry_at (take position xs) ++ entry ∷ map entry_at (drop position xs)) c.deref.ensures.value c.position_by_name-position.ensures.placed)
      ∙ ap (put_by_name entry) c.loop-left.invariant.found
      ∙ ap by_name (sym (earlier c.args.entries.now c.loop-left.left entry c.loop-left-test.true within c.index-entries-left.is));
}
