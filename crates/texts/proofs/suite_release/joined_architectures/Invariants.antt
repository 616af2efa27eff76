use Rattle.std.proofs.Common.{◌≡◌, take, not, filter, string_bytes}
use Rattle.std.specs.List.{join_with_byte}
use Rattle.para.specs.Bytes.{is_nil}
use Rattle.indices.specs.Release.{is_source}
use Rattle.texts.proofs.suite_release.joined_architectures.Given as goal

abbrev pub invariant-loop-name : goal.invariant-loop-name
invariant-loop-name l = record {
  joined : string_bytes l.joined ≡ join_with_byte 32 (filter (λ a. not (is_source a)) (take l.name-index l.names));
  begun : l.has_begun ≡ not (is_nil (filter (λ a. not (is_source a)) (take l.name-index l.names)));
}
