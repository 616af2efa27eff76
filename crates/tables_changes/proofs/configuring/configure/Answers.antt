use Rattle.std.proofs.Common.{◌≡◌, rules}
use Rattle.tables_meaning.specs.Configuring.{with_configured}
use Rattle.tables_meaning.proofs.Commits.{survives_commit}
use Rattle.tables_changes.proofs.configuring.configure.Goals as goal

pub returns-clause-crash : goal.returns-clause-crash
returns-clause-crash g c =
    let same : c.commit.new.self.0 ≡ c.conn-2-1.given.0 = search rules in
    survives_commit g.S.Store c.args.conn.now c.transaction-tx.result.conn.now c.configure_inside.new.tx.conn.now c.commit.new.self.0 c.conn-2-1.given.0 c.transaction-tx.ensures.begun same
    (with_configured c.args.config.now c.args.shelves.now c.args.dates.now) c.in_ok-configure_inside.ensures.ok c.commit.ensures.survives c.configure_inside.ensures.survives
