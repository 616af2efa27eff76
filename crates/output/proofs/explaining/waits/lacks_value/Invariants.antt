use Rattle.std.proofs.Common.{◌≡◌, filter, if◌then◌else◌, map, take}
use Rattle.serde_json.specs.View.{view}
use Rattle.output.specs.Explaining.Waits.{has_ended, lack_data, never_came}
use Rattle.output.proofs.explaining.waits.lacks_value.Given as goal

abbrev pub invariant-loop-lack : goal.invariant-loop-lack
invariant-loop-lack l = map view l.values.items ≡ map lack_data (filter (λ it. if l.is_ended then has_ended it else never_came it) (take l.lack-index l.lacks))
