-- The stores of the library are in order.
use Rattle.std.proofs.Common.{ℕ, zero, suc, true, false, if◌then◌else◌, List, [], ◌∷◌, map, refl, ◌==◌, IsTrue}
use Rattle.std.proofs.Math.Logic.{∥∥₁_elim}
use Rattle.sqlite_disk.specs.declared.Disk.{Ghosts}
use Rattle.sqlite_trees.specs.declared.memory.MemStore.{MemStore}
use Rattle.sqlite_trees.specs.declared.memory.tree.Tree.{Tree}
use Rattle.sqlite_trees.specs.declared.store.Shape.TheVariants.{Table}
use Rattle.sqlite_trees.specs.Listing.{objects_are_listed, objects_are_ordered}
use Rattle.sqlite_trees.specs.Memory.{all_shapes, forest, heading, memory_view, objects_of, rows_of, shape_of, shapes}
use Rattle.sqlite_trees.specs.Objects.{catalog_tree, version_tree, version_rows, with_version}
use Rattle.sqlite_trees.specs.Props.{IsOrdered-prop, IsShaped-prop}
use Rattle.sqlite_trees.specs.View.{IsOrdered, IsShaped}
use Rattle.sqlite_store.specs.declared.store.FileStore.{FileStore}
use Rattle.sqlite_store.specs.FileStore.{state, view}
use Rattle.sqlite_store.specs.Listed.{catalog_rows, is_listed}
use Rattle.sqlite_store.specs.Saved.{kept_schema}
use Rattle.sqlite_store.proofs.ListingLemmas.{all_ordered}
use Rattle.sqlite_wal.proofs.StateLemmas.{clean_of}
use Rattle.tables_read.specs.InOrder.{IsInOrder}

-- the store of a file is in order: its pages are a sound file
module _ {D : Type 0} {g : Ghosts D} (it : FileStore D g) where
  pub file_in_order : IsTrue (view it).is_open → IsInOrder (view it)
  file_in_order is_open = record {
    listed = rw (clean_of (state it) is_open, catalog_rows (state it).page_size (kept_schema it.saved it.schema.items) _) (is_listed (kept_schema it.saved it.schema.items));
    ordered = rw (clean_of (state it) is_open) (∥∥₁_elim (it.stored is_open) (IsOrdered-prop _ _) (λ stored. all_ordered stored.ours.file.db _));
  }

-- the store in memory is in order: each tree is in order by itself
trees_in_order : (trees : List Tree) → IsOrdered (shape_of trees) (rows_of trees)
trees_in_order [] t = refl
trees_in_order (x ∷ trees) zero = ∥∥₁_elim x.ordered (IsShaped-prop x.shape x.rows.items) (λ h. h)
trees_in_order (x ∷ trees) (suc t) = trees_in_order trees t

all_in_order : (trees : List Tree) (version : ℕ) → IsOrdered (all_shapes trees) (with_version (forest trees) version)
all_in_order trees version t =
    let below : IsShaped (shapes trees t) (forest trees t) =
    elim (t == catalog_tree) as (λ b. IsShaped (if b then Table else shape_of trees t) (if b then objects_of trees else rows_of trees t))
    [ true ↦ objects_are_ordered (map heading trees) 0 | false ↦ trees_in_order trees t ] in
    elim (t == version_tree) as (λ b. IsShaped (if b then Table else shapes trees t) (if b then version_rows version else forest trees t))
    [ true ↦ ((tt, tt), (refl, tt)) | false ↦ below ]

pub memory_in_order : (s : MemStore) → IsInOrder (memory_view s)
memory_in_order s = record { listed = objects_are_listed (map heading s.base.items); ordered = all_in_order s.base.items s.base_version }
