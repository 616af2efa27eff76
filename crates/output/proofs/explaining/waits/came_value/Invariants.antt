use Rattle.std.proofs.Common.{◌≡◌, ◌++◌, drop, length, map}
use Rattle.std.specs.List.{flat_map, zip}
use Rattle.serde_json.specs.View.{view}
use Rattle.output.specs.Explaining.Waits.{came_items, file_data}
use Rattle.output.proofs.explaining.waits.came_value.Given as goal

abbrev pub invariant-loop-lack : goal.invariant-loop-lack
invariant-loop-lack l =
    map view l.values.items ++ flat_map (λ pair. map (file_data pair.0.name) pair.1) (drop (length l.yielded) (zip l.lacks l.came)) ≡ came_items l.lacks l.came
