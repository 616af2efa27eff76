use Rattle.std.proofs.Common.{◌≡◌, map, string_bytes, take}
use Rattle.serde_json.specs.View.{view}
use Rattle.output.specs.Explaining.Judged.{name_data}
use Rattle.output.proofs.explaining.answer.names_value.Given as goal

abbrev pub invariant-loop-name : goal.invariant-loop-name
invariant-loop-name l = map view l.values.items ≡ map name_data (map string_bytes (take l.name-index l.names))
