use Rattle.std.proofs.Common.{◌≡◌, map, take, string_bytes}
use Rattle.serde_json.specs.Written.{compact_text}
use Rattle.output.specs.Json.{waiting_data}
use Rattle.output.proofs.listing.json.waiting_json.Given as goal

abbrev pub invariant-loop-upload : goal.invariant-loop-upload
invariant-loop-upload l = map string_bytes l.lines.items ≡ map (λ it. compact_text (waiting_data it)) (take l.upload-index l.uploads)
