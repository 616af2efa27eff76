-- No field so far has the name.
use Rattle.std.proofs.Common.{◌≡◌, map, drop}
use Rattle.std.specs.List.{list_any}
use Rattle.httparse.specs.Spans.{header_bytes}
use Rattle.desk.specs.Want.{is_named}
use Rattle.desk.proofs.head.has_field.Given as goal

abbrev pub invariant-loop-field : goal.invariant-loop-field
invariant-loop-field l =
    list_any (is_named l.name) (map (header_bytes l.head) (drop l.field-index l.fields)) ≡ list_any (is_named l.name) (map (header_bytes l.head) l.fields)
