use Rattle.std.proofs.Common.{◌≡◌, rules}
use Rattle.tables_meaning.specs.Cleaning.{with_cleaned}
use Rattle.tables_meaning.proofs.Commits.{survives_commit}
use Rattle.tables_bodies.proofs.cleaning.clean.Goals as goal

pub returns-in_err-commit-clause-crash : goal.returns-in_err-commit-clause-crash
returns-in_err-commit-clause-crash g c =
    let same : c.commit.new.self.0 ≡ c.conn-2-1.given.0 = search rules in
    survives_commit g.S.Store c.args.conn.now c.transaction-tx.result.conn.now c.clean_inside.new.tx.conn.now c.commit.new.self.0 c.conn-2-1.given.0 c.transaction-tx.ensures.begun same
    (with_cleaned c.args.span c.args.moment) (λ early inside. (c.in_ok-count.ensures.ok early inside).0) c.commit.ensures.survives c.clean_inside.ensures.survives

pub returns-clause-crash : goal.returns-clause-crash
returns-clause-crash g c =
    let same : c.commit.new.self.0 ≡ c.conn-2-1.given.0 = search rules in
    survives_commit g.S.Store c.args.conn.now c.transaction-tx.result.conn.now c.clean_inside.new.tx.conn.now c.commit.new.self.0 c.conn-2-1.given.0 c.transaction-tx.ensures.begun same
    (with_cleaned c.args.span c.args.moment) (λ early inside. (c.in_ok-count.ensures.ok early inside).0) c.commit.ensures.survives c.clean_inside.ensures.survives
