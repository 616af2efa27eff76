use Rattle.std.proofs.Common.{sym, subst}
use Rattle.std.proofs.Math.Logic.{∥∥₁_map}
use Rattle.sums.specs.declared.print.Printer.{Printer}
use Rattle.renewing.specs.Printed.{IsBehind}
use Rattle.renewing.proofs.PrintedLemmas.{behind_last, behind_none, same_printer}
use Rattle.renewing.proofs.printed.printer_behind.Goals as goal

pub returns-in_ok-clone-in-Some : goal.returns-in_ok-clone-in-Some
returns-in_ok-clone-in-Some c =
    ∥∥₁_map c.requires (λ are. subst (λ (p : Printer). IsBehind c.args.parts.now p) (sym (same_printer c.in_ok-clone-in-Some.field-0 c.in-Some.part.now.printer c.in_ok-clone-in-Some.ensures.cases)) (behind_last c.args.parts.now c.in-Some.part.now are (sym c.in-Some.ensures.value)))

pub returns-in-None : goal.returns-in-None
returns-in-None c = ∣ behind_none c.args.parts.now c.new.result (sym c.in-None.ensures.value) c.new.ensures ∣₁
