-- The paths so far lead to files of the pool, and so do those that are not looked at yet.
use Rattle.std.proofs.Common.{◌≡◌, true}
use Rattle.std.specs.List.{list_all}
use Rattle.exported.specs.Names.{have_pool_paths, is_pool_path}
use Rattle.exported.proofs.manifest.Manifest.left.Given as goal

abbrev pub invariant-loop-path : goal.invariant-loop-path
invariant-loop-path l = record {
  done : list_all is_pool_path l.left.items ≡ true;
  rest : have_pool_paths l.path-iterator ≡ true;
}
