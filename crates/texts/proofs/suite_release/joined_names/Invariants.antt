use Rattle.std.proofs.Common.{◌≡◌, take, not, string_bytes}
use Rattle.std.specs.List.{join_with_byte}
use Rattle.para.specs.Bytes.{is_nil}
use Rattle.texts.proofs.suite_release.joined_names.Given as goal

abbrev pub invariant-loop-name : goal.invariant-loop-name
invariant-loop-name l = record {
  joined : string_bytes l.joined ≡ join_with_byte 32 (take l.name-index l.names);
  begun : l.has_begun ≡ not (is_nil (take l.name-index l.names));
}
