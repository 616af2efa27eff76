use Rattle.std.proofs.Common.{◌≡◌, ◌++◌, take, string_bytes}
use Rattle.std.specs.List.{list_any}
use Rattle.std.specs.Option.{option_map}
use Rattle.inquiry.specs.Named.{IsByName}
use Rattle.telling.specs.Why.{is_asked, waits_texts}
use Rattle.telling.proofs.why.push_all_waiting.Given as goal

-- what arrived is in groups, what is said of the uploads so far, and whether it is anything
abbrev pub invariant-loop-upload : goal.invariant-loop-upload
invariant-loop-upload l = record {
  named : IsByName l.course.arrived.items l.named;
  text : l.out.items ≡ l.fn.out.items ++ waits_texts l.course.counting l.course.arrived.items (option_map string_bytes l.wanted) l.is_json (take l.upload-index l.course.waiting.items);
  has_one : l.has_one ≡ list_any (is_asked (option_map string_bytes l.wanted)) (take l.upload-index l.course.waiting.items);
}
