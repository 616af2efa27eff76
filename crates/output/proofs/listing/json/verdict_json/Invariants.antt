use Rattle.std.proofs.Common.{◌≡◌, map, take, string_bytes}
use Rattle.serde_json.specs.Written.{compact_text}
use Rattle.output.specs.Json.{judgement_data}
use Rattle.output.proofs.listing.json.verdict_json.Given as goal

abbrev pub invariant-loop-judgement : goal.invariant-loop-judgement
invariant-loop-judgement l = map string_bytes l.lines.items ≡ map (λ it. compact_text (judgement_data it)) (take l.judgement-index l.judged)
