use Rattle.std.proofs.Common.{◌≡◌, rules}
use Rattle.tables_meaning.proofs.TakingLemmas.{survives_found}
use Rattle.tables_bodies.specs.AtOnce.{HasNoOtherPiece}
use Rattle.tables_bodies.proofs.at_once.take_one_piece.Goals as goal

pub returns-in_err-commit-clause-crash : goal.returns-in_err-commit-clause-crash
returns-in_err-commit-clause-crash g c =
    let same : c.commit.new.self.0 ≡ c.conn-2-1.given.0 = search rules in
    survives_found g.S.Store c.args.conn.now c.transaction-tx.result.conn.now c.take_inside.new.tx.conn.now c.commit.new.self.0 c.conn-2-1.given.0 c.transaction-tx.ensures.begun same
    _ (HasNoOtherPiece c.args.file.now.print c.args.file.now.bytes.now)
    (λ early inside. let did = c.in_ok-new.ensures.ok early inside in (did.0, λ t held. (did.1 t held).0)) c.commit.ensures.survives c.take_inside.ensures.survives

pub returns-clause-crash : goal.returns-clause-crash
returns-clause-crash g c =
    let same : c.commit.new.self.0 ≡ c.conn-2-1.given.0 = search rules in
    survives_found g.S.Store c.args.conn.now c.transaction-tx.result.conn.now c.take_inside.new.tx.conn.now c.commit.new.self.0 c.conn-2-1.given.0 c.transaction-tx.ensures.begun same
    _ (HasNoOtherPiece c.args.file.now.print c.args.file.now.bytes.now)
    (λ early inside. let did = c.in_ok-new.ensures.ok early inside in (did.0, λ t held. (did.1 t held).0)) c.commit.ensures.survives c.take_inside.ensures.survives
