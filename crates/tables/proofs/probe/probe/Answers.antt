use Rattle.sqlite.specs.Held.{state}
use Rattle.sqlite.proofs.StateLemmas.{survives_weaker}
use Rattle.tables.proofs.ReadLemmas.{on_err}
use Rattle.tables.proofs.ServingMeaning.{select_one_plain}
use Rattle.tables.proofs.probe.probe.Goals as goal

pub returns-in_err-_ones-clause-err : goal.returns-in_err-_ones-clause-err
returns-in_err-_ones-clause-err g c clean =
    on_err _ (c.in_err-_ones.ensures.err clean (select_one_plain (state g.S.Store c.args.conn.now).now.schema))

pub returns-in_err-_ones-clause-survives : goal.returns-in_err-_ones-clause-survives
returns-in_err-_ones-clause-survives g c =
    survives_weaker _ _ _ _ (λ _ db not_plain. not_plain (select_one_plain (state g.S.Store c.args.conn.now).now.schema)) c.select.ensures.survives

pub returns-clause-ok : goal.returns-clause-ok
returns-clause-ok g c clean =
    (c.in_ok-_ones.ensures.ok clean (select_one_plain (state g.S.Store c.args.conn.now).now.schema)).same

pub returns-clause-survives : goal.returns-clause-survives
returns-clause-survives g c =
    survives_weaker _ _ _ _ (λ _ db not_plain. not_plain (select_one_plain (state g.S.Store c.args.conn.now).now.schema)) c.select.ensures.survives
