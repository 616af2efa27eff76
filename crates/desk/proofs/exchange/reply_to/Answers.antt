use Rattle.std.proofs.Common.{inl, string_bytes, sym}
use Rattle.desk.specs.Request.{want_of}
use Rattle.desk.proofs.ExchangeLemmas.{broken_behind, handled_asked, handled_refused}
use Rattle.sums.proofs.Results.{on_err}
use Rattle.desk.proofs.FileLemmas.{outgoing_found}
use Rattle.desk.proofs.WantedLemmas.{small_body}
use Rattle.desk.proofs.exchange.reply_to.Goals as goal

pub returns-in-Err-clause-err : goal.returns-in-Err-clause-err
returns-in-Err-clause-err g c = (c.in-Err.ensures.err, λ h kept clean. kept, λ h kept faithful clean left may. inl may)

pub returns-in-Ok-Refused-clause-ok : goal.returns-in-Ok-Refused-clause-ok
returns-in-Ok-Refused-clause-ok g c =
    let h = rw c.in-Ok-Refused.field-0-is at c.in-Ok-Refused.ensures.ok in
    handled_refused g.K.Keeper _ _ _ _ c.in-Ok-Refused.refusal _ h c.to_refusal.ensures

pub carry_out-requires : goal.carry_out-requires
carry_out-requires g c =
    let h = rw c.in-Ok-Asks.field-0-is at c.in-Ok-Asks.ensures.ok in
    let head = rw (sym c.in-Err-pool_path.ensures) at h in
    small_body _ head.head (want_of c.in-Err-pool_path.wanted) head.asked

pub returns-in_err-reply-in-Err-pool_path-clause-err : goal.returns-in_err-reply-in-Err-pool_path-clause-err
returns-in_err-reply-in-Err-pool_path-clause-err g c =
    let h = rw c.in-Ok-Asks.field-0-is at c.in-Ok-Asks.ensures.ok in
    let head = rw (sym c.in-Err-pool_path.ensures) at h in
    on_err c.from_residual.result (broken_behind g.K.Keeper _ _ _ _ _ (want_of c.in-Err-pool_path.wanted) c.args.moment head c.in_err-reply-in-Err-pool_path.ensures.err)

pub returns-in_ok-reply-in-Err-pool_path-clause-ok : goal.returns-in_ok-reply-in-Err-pool_path-clause-ok
returns-in_ok-reply-in-Err-pool_path-clause-ok g c =
    let h = rw c.in-Ok-Asks.field-0-is at c.in-Ok-Asks.ensures.ok in
    let head = rw (sym c.in-Err-pool_path.ensures) at h in
    handled_asked g.K.Keeper _ _ _ _ _ (want_of c.in-Err-pool_path.wanted) c.args.moment _ head c.in_ok-reply-in-Err-pool_path.ensures.carried_out

pub returns-in-Ok-clause-ok : goal.returns-in-Ok-clause-ok
returns-in-Ok-clause-ok g c =
    let h = rw c.in-Ok-Asks.field-0-is at c.in-Ok-Asks.ensures.ok in
    let head = rw c.in-Ok.ensures at h in
    outgoing_found g.K.Keeper _ _ _ _ (string_bytes c.in-Ok.path) c.args.moment c.find_file.result head c.find_file.ensures.found
