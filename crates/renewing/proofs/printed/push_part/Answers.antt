use Rattle.std.proofs.Common.{◌∙◌}
use Rattle.std.proofs.Math.Logic.{∥∥₁_map}
use Rattle.renewing.proofs.PrintedLemmas.{behind_pushed, same_printer}
use Rattle.renewing.proofs.printed.push_part.Goals as goal

pub returns-clause-behind : goal.returns-clause-behind
returns-clause-behind c =
    ∥∥₁_map c.requires (λ behind. behind_pushed c.args.parts.now.items c.push.new.self.items c.args.bytes.now _ c.args.printer.now c.update.new.self
    behind c.update.ensures (c.from_vec.ensures ∙ c.in_ok-from_slice.ensures.items) (same_printer c.in_ok-clone.field-0 c.update.new.self c.in_ok-clone.ensures.cases) c.in_ok-push.ensures.items)
