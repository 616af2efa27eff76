use Rattle.std.proofs.Common.{rules}
use Rattle.std.proofs.lemmas.Result.{err_from_is_err_and}
use Rattle.tables_read.proofs.CauseLemmas.{lacks_number}
use Rattle.tables_read.proofs.answer.numbered.Goals as goal

pub returns-in_err-id-clause-cause : goal.returns-in_err-id-clause-cause
returns-in_err-id-clause-cause g c =
    let p = err_from_is_err_and c.from_residual.result c.from_residual.ensures.1 in
    rw (p.1, p.2) (lacks_number g.T.Stored.layout g.met.T.Stored.laid c.args.row.now c.in_err-id.field-0.0 c.in_err-id.ensures.cause)

pub returns-in_default-clause-none : goal.returns-in_default-clause-none
returns-in_default-clause-none g c = λ _ x real s. c.in_ok-id.ensures.none (search rules) (record { number = x.0 }) tt s.0
