-- What the fields give is what those that follow give, with the length that was found.
use Rattle.std.proofs.Common.{◌≡◌, map, drop}
use Rattle.httparse.specs.Spans.{header_bytes}
use Rattle.desk.specs.Want.{content_length}
use Rattle.desk.proofs.FieldLemmas.{length_after, lengths}
use Rattle.desk.proofs.head.content_length.Given as goal

abbrev pub invariant-loop-field : goal.invariant-loop-field
invariant-loop-field l = content_length (map (header_bytes l.head) l.fields) ≡ length_after l.length (lengths (map (header_bytes l.head) (drop l.field-index l.fields)))
