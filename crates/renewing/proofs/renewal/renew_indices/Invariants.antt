use Rattle.std.proofs.Common.{◌≡◌, ◌++◌, map, take}
use Rattle.std.specs.List.{flat_map}
use Rattle.book.specs.Book.{text_at}
use Rattle.book.specs.Keeping.{Reads}
use Rattle.renewing.specs.Renewal.{index_after, renewed_index}
use Rattle.renewing.proofs.renewal.renew_indices.Given as goal

abbrev pub invariant-loop-place : goal.invariant-loop-place
invariant-loop-place g l =
    let k = g.K.Keeper in
    let before = l.fn.keeper in
    record {
      reads : Reads k.is_clean k.is_open k.faults k.book k.may_leave before l.keeper;
      served : k.is_clean l.keeper → k.is_open before → k.is_open l.keeper;
      indices : k.is_clean l.keeper → l.indices.items ≡ map (index_after (text_at (k.book before)) l.amendment.shelves.now l.amendment.steps.now l.folder) (take l.place-index l.folder.places);
      texts : k.is_clean l.keeper → l.texts.items ≡ l.fn.texts.items ++ flat_map (renewed_index (text_at (k.book before)) l.amendment.shelves.now l.amendment.steps.now l.folder) (take l.place-index l.folder.places);
    }
