use Rattle.std.proofs.Common.{[], sym, subst}
use Rattle.renewing.specs.Printed.{ArePrinted}
use Rattle.renewing.proofs.printed.take_parts.Goals as goal

pub returns-in-None : goal.returns-in-None
unfolding ArePrinted
returns-in-None c = ∣ subst (ArePrinted []) (sym c.new.ensures.items) tt ∣₁
