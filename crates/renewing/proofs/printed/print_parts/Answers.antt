use Rattle.std.proofs.Common.{◌≡◌, ◌++◌, ◌∙◌, [], List, ℕ, length, ap, sym, subst, arith}
use Rattle.std.proofs.Props.{props}
use Rattle.std.proofs.Math.Logic.{∥∥₁_elim, ∥∥₁_map}
use Rattle.sums.specs.Prints.{print}
use Rattle.renewing.specs.Printed.{ArePrinted, joined}
use Rattle.renewing.proofs.PrintedLemmas.{first_printed}
use Rattle.renewing.proofs.printed.print_parts.Goals as goal

pub printer_behind-requires : goal.printer_behind-requires
printer_behind-requires c =
    ∥∥₁_map c.requires (λ are. subst (ArePrinted []) (sym (c.as_slice-2.ensures.value ∙ c.truncate.ensures.items)) (first_printed [] c.args.parts.now.items c.parts_met-met.result.0 are))

pub returns-clause-parts : goal.returns-clause-parts
returns-clause-parts c = ∥∥₁_map c.loop-rest.invariant.behind (λ behind. behind.printed)

pub returns-clause-print : goal.returns-clause-print
returns-clause-print c =
    ∥∥₁_elim c.loop-rest.invariant.behind (hlevel props) (λ behind.
    let all : List ℕ = joined c.loop-rest.parts.items ++ c.loop-rest.rest.now in
    let whole : all ≡ c.args.text.now = c.loop-rest.invariant.text in
    c.finish.ensures all (c.update.ensures (joined c.loop-rest.parts.items) behind.given) (omega (arith, ap length whole)) ∙ ap print whole)
