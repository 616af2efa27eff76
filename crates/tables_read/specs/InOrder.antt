-- The order of what a store has committed.
use Rattle.sqlite_trees.specs.Objects.{catalog_tree, IsListed}
use Rattle.sqlite_trees.specs.View.{View, IsOrdered}

-- What was committed has a list of its trees that says the shape of each, and each tree is in the order of its shape: the rows of a
-- table rise by their rowids.
pub record IsInOrder (v : View) : Type 0 where
  pub listed : IsListed (v.committed catalog_tree) v.committed_shape v.committed_reals
  pub ordered : IsOrdered v.committed_shape v.committed
