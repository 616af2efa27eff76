use Rattle.std.proofs.Common.{arith}
use Rattle.std.proofs.lemmas.Option.{IfSome_then}
use Rattle.std.proofs.lemmas.Result.{IfOk-weaker}
use Rattle.tables_audit.proofs.MetaLemmas.{row_of_read}
use Rattle.tables_audit.proofs.meta.config_in_row.Goals as goal

pub returns-clause-some : goal.returns-clause-some
returns-clause-some c =
    IfOk-weaker c.config_of.result _ _
    (λ o h. IfSome_then o h (λ config read. row_of_read c.args.row.now c.as_slice.result.now config (omega arith) c.as_slice.ensures read))
    c.config_of.ensures.some
