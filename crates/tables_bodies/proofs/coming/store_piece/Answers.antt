use Rattle.std.proofs.Common.{◌≡◌, rules}
use Rattle.tables_meaning.specs.Coming.{with_next_piece}
use Rattle.tables_meaning.proofs.Commits.{survives_commit}
use Rattle.tables_bodies.proofs.coming.store_piece.Goals as goal

pub returns-in_err-commit-clause-crash : goal.returns-in_err-commit-clause-crash
returns-in_err-commit-clause-crash g c =
    let same : c.commit.new.self.0 ≡ c.conn-2-1.given.0 = search rules in
    survives_commit g.S.Store c.args.conn.now c.transaction-tx.result.conn.now c.add_piece.new.tx.conn.now c.commit.new.self.0 c.conn-2-1.given.0 c.transaction-tx.ensures.begun same
    (with_next_piece c.args.body c.args.number c.args.bytes.now) (λ early inside. (c.in_ok-id.ensures.ok early inside).0) c.commit.ensures.survives c.add_piece.ensures.survives

pub returns-clause-crash : goal.returns-clause-crash
returns-clause-crash g c =
    let same : c.commit.new.self.0 ≡ c.conn-2-1.given.0 = search rules in
    survives_commit g.S.Store c.args.conn.now c.transaction-tx.result.conn.now c.add_piece.new.tx.conn.now c.commit.new.self.0 c.conn-2-1.given.0 c.transaction-tx.ensures.begun same
    (with_next_piece c.args.body c.args.number c.args.bytes.now) (λ early inside. (c.in_ok-id.ensures.ok early inside).0) c.commit.ensures.survives c.add_piece.ensures.survives
