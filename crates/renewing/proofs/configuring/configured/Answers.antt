use Rattle.std.proofs.Common.{subst}
use Rattle.std.specs.FinMap.{values}
use Rattle.suites.specs.Pool.{AreAgreed, files_of}
use Rattle.suites.specs.Shelves.{ShelvesValue}
use Rattle.renewing.proofs.configuring.configured.Goals as goal

pub returns-clause-agreed : goal.returns-clause-agreed
returns-clause-agreed g c clean path a b p q =
    let clean_then = c.in_ok-dates.ensures.reads.lasts.clean clean in
    let agreed : AreAgreed (files_of (values c.in_ok-shelves.shelves)) = c.agree.ensures.agreed in
    subst (λ (s : ShelvesValue). AreAgreed (files_of (values s))) (c.in_ok-shelves.ensures.shelves clean_then) agreed path a b p q
