use Rattle.std.proofs.Common.{◌≢◌, AllPairs, sym, subst}
use Rattle.indices.proofs.Paths.{config_codenames}
use Rattle.tables_audit.proofs.dates.dates_in.Goals as goal

pub dates_of-requires : goal.dates_of-requires
dates_of-requires c = record {
  apart = subst (AllPairs (λ s u. s.codename ≢ u.codename)) (sym c.suites.ensures) (config_codenames c.args.config.now c.text.ensures.read);
}
