use Rattle.std.proofs.Common.{◌≡◌, ℕ, List, [], Err, subst, refl, true, false}
use Rattle.desk.specs.Request.{want_of}
use Rattle.desk.specs.Want.{cleaning, copying, delivery, fetching, may_ask, promoting, queue_run, removing, verdict_list, waiting_list}
use Rattle.desk.specs.declared.head.Ask.{Ask}
use Rattle.queue.specs.Commands.{counted, found, promoted, reported}
use Rattle.queue.specs.Receiving.{IsReceived, LeavesReceived}
use Rattle.history.specs.Deliveries.{most_named}
use Rattle.history.proofs.Runs.{leaves_read, leaves_step}
use Rattle.desk.proofs.ExchangeLemmas.{received_done, received_not, reply_missing, reply_told, was_told, within_limit, without_body}
use Rattle.desk.proofs.exchange.carry_out.Goals as goal
use Rattle.telling.specs.Told.{bytes_of, question_of}

pub returns-in-Ok-clause-carried_out : goal.returns-in-Ok-clause-carried_out
returns-in-Ok-clause-carried_out g c =
    let received = rw c.as_str.ensures.value at c.in-Ok.ensures.received in
    let large = rw c.as_str.ensures.value at c.in-Ok.ensures.large in
    let within = within_limit (most_named (g.K.Keeper.book c.args.archive.now.keeper).config _) c.in-Deliver.length (λ above. (large above).1) in
    rw c.in-Deliver.is (received_done g.K.Keeper _ _ _ _ _ c.in-Deliver.length c.args.moment c.in-Ok.arrived _ g.met.K.Keeper.settled c.in-Ok.ensures.served received within
    (c.arrived_reply.ensures false))

pub returns-in-Err-clause-carried_out : goal.returns-in-Err-clause-carried_out
returns-in-Err-clause-carried_out g c =
    let received = subst (λ (name : List ℕ). IsReceived g.K.Keeper (g.R.Read.remaining c.args.reader.now) (g.R.Read.remaining c.receive.new.reader) name c.in-Deliver.length c.args.moment
    c.args.archive.now.keeper c.receive.new.self.keeper (Err c.in-Err.fault)) c.as_str.ensures.value c.in-Err.ensures.received in
    let left = subst (λ (name : List ℕ). LeavesReceived g.K.Keeper (g.R.Read.remaining c.args.reader.now) (g.R.Read.remaining c.receive.new.reader) name c.in-Deliver.length c.args.moment
    c.args.archive.now.keeper c.receive.new.self.keeper) c.as_str.ensures.value c.in-Err.ensures.crash in
    let asked = subst (λ (w : Ask). may_ask (want_of w) ≡ true) c.in-Deliver.is c.requires in
    rw c.in-Deliver.is (reply_told g.K.Keeper _ _ _ _ (delivery _ c.in-Deliver.length) c.args.moment c.reception_reply.result _ c.reception_reply.ensures
    (received_not g.K.Keeper _ _ _ _ _ c.in-Deliver.length c.args.moment c.in-Err.fault left asked received))

pub returns-in-Err-clause-err : goal.returns-in-Err-clause-err
returns-in-Err-clause-err g c =
    let received = subst (λ (name : List ℕ). IsReceived g.K.Keeper (g.R.Read.remaining c.args.reader.now) (g.R.Read.remaining c.receive.new.reader) name c.in-Deliver.length c.args.moment
    c.args.archive.now.keeper c.receive.new.self.keeper (Err c.in-Err.fault)) c.as_str.ensures.value c.in-Err.ensures.received in
    let left = subst (λ (name : List ℕ). LeavesReceived g.K.Keeper (g.R.Read.remaining c.args.reader.now) (g.R.Read.remaining c.receive.new.reader) name c.in-Deliver.length c.args.moment
    c.args.archive.now.keeper c.receive.new.self.keeper) c.as_str.ensures.value c.in-Err.ensures.crash in
    let asked = subst (λ (w : Ask). may_ask (want_of w) ≡ true) c.in-Deliver.is c.requires in
    rw c.in-Deliver.is (reply_missing g.K.Keeper _ _ _ _ (delivery _ c.in-Deliver.length) c.args.moment refl c.reception_reply.result _ c.reception_reply.ensures
    (received_not g.K.Keeper _ _ _ _ _ c.in-Deliver.length c.args.moment c.in-Err.fault left asked received))

pub returns-in-Run-clause-carried_out : goal.returns-in-Run-clause-carried_out
returns-in-Run-clause-carried_out g c =
    rw c.in-Run.is (without_body g.K.Keeper _ _ _ queue_run c.args.moment _ refl refl (record { outcome = reported c.run.result; done = c.run.ensures.step; crash = leaves_step g.K.Keeper _ _ _ c.run.ensures.crash; message_is = c.report_reply.ensures queue_run }))

pub returns-in-Copy-clause-carried_out : goal.returns-in-Copy-clause-carried_out
returns-in-Copy-clause-carried_out g c =
    let step = rw (c.as_str-in-Copy.ensures.value, c.as_str-in-Copy-2.ensures.value, c.as_str-in-Copy-3.ensures.value) at c.copy-copied.ensures.step in
    let crash = rw (c.as_str-in-Copy.ensures.value, c.as_str-in-Copy-2.ensures.value, c.as_str-in-Copy-3.ensures.value) at c.copy-copied.ensures.crash in
    rw c.in-Copy.is (without_body g.K.Keeper _ _ _ (copying _ _ _) c.args.moment _ refl refl (record { outcome = counted c.copy-copied.result; done = step; crash = leaves_step g.K.Keeper _ _ _ crash; message_is = c.count_reply.ensures (copying [] [] []) }))

pub returns-in-Fetch-clause-carried_out : goal.returns-in-Fetch-clause-carried_out
returns-in-Fetch-clause-carried_out g c =
    let step = rw c.as_str-in-Fetch.ensures.value at c.fetch-fetched.ensures.step in
    rw c.in-Fetch.is (without_body g.K.Keeper _ _ _ (fetching _ _) c.args.moment _ refl refl (record { outcome = found c.fetch-fetched.result; done = step; crash = leaves_read g.K.Keeper _ _ _ c.fetch-fetched.ensures.reads; message_is = c.fetch_reply.ensures [] }))

pub returns-in-Fetch-clause-lasts : goal.returns-in-Fetch-clause-lasts
returns-in-Fetch-clause-lasts g c = c.fetch-fetched.ensures.reads.lasts

pub returns-in-Waiting-clause-carried_out : goal.returns-in-Waiting-clause-carried_out
returns-in-Waiting-clause-carried_out g c =
    rw c.in-Waiting.is (without_body g.K.Keeper _ _ _ waiting_list c.args.moment _ refl refl (record { outcome = reported c.waiting.result; done = c.waiting.ensures.step; crash = leaves_read g.K.Keeper _ _ _ c.waiting.ensures.reads; message_is = c.report_reply-in-Waiting.ensures waiting_list }))

pub returns-in-Waiting-clause-lasts : goal.returns-in-Waiting-clause-lasts
returns-in-Waiting-clause-lasts g c = c.waiting.ensures.reads.lasts

pub returns-in-Clean-clause-carried_out : goal.returns-in-Clean-clause-carried_out
returns-in-Clean-clause-carried_out g c =
    rw c.in-Clean.is (without_body g.K.Keeper _ _ _ cleaning c.args.moment _ refl refl (record { outcome = counted c.clean.result; done = c.clean.ensures.step; crash = leaves_step g.K.Keeper _ _ _ c.clean.ensures.crash; message_is = c.count_reply-in-Clean.ensures cleaning }))

pub returns-in-Verdicts-clause-carried_out : goal.returns-in-Verdicts-clause-carried_out
returns-in-Verdicts-clause-carried_out g c =
    rw c.in-Verdicts.is (without_body g.K.Keeper _ _ _ verdict_list c.args.moment _ refl refl (record { outcome = reported c.verdicts.result; done = c.verdicts.ensures.step; crash = leaves_read g.K.Keeper _ _ _ c.verdicts.ensures.reads; message_is = c.report_reply-in-Verdicts.ensures verdict_list }))

pub returns-in-Verdicts-clause-lasts : goal.returns-in-Verdicts-clause-lasts
returns-in-Verdicts-clause-lasts g c = c.verdicts.ensures.reads.lasts

pub returns-in-Remove-clause-carried_out : goal.returns-in-Remove-clause-carried_out
returns-in-Remove-clause-carried_out g c =
    let step = rw (c.as_str-in-Remove.ensures.value, c.as_str-in-Remove-2.ensures.value) at c.remove-dropped.ensures.step in
    let crash = rw (c.as_str-in-Remove.ensures.value, c.as_str-in-Remove-2.ensures.value) at c.remove-dropped.ensures.crash in
    rw c.in-Remove.is (without_body g.K.Keeper _ _ _ (removing _ _) c.args.moment _ refl refl (record { outcome = counted c.remove-dropped.result; done = step; crash = leaves_step g.K.Keeper _ _ _ crash; message_is = c.count_reply-in-Remove.ensures (removing [] []) }))

pub returns-in-Promote-clause-carried_out : goal.returns-in-Promote-clause-carried_out
returns-in-Promote-clause-carried_out g c =
    let step = rw (c.as_str-in-Promote.ensures.value, c.as_str-in-Promote-2.ensures.value) at c.promote-copied.ensures.step in
    let crash = rw (c.as_str-in-Promote.ensures.value, c.as_str-in-Promote-2.ensures.value) at c.promote-copied.ensures.crash in
    rw c.in-Promote.is (without_body g.K.Keeper _ _ _ (promoting _ _) c.args.moment _ refl refl (record { outcome = promoted c.promote-copied.result; done = step; crash = leaves_step g.K.Keeper _ _ _ crash; message_is = c.promotion_reply.ensures (promoting [] []) }))

pub returns-in-Question-clause-carried_out : goal.returns-in-Question-clause-carried_out
returns-in-Question-clause-carried_out g c =
    rw c.in-Question.is (was_told g.K.Keeper _ _ _ (question_of c.in-Question.question) c.args.moment (bytes_of c.tell-told.result) _ c.told_reply.ensures c.tell-told.ensures.reads c.tell-told.ensures.told)

pub returns-in-Question-clause-lasts : goal.returns-in-Question-clause-lasts
returns-in-Question-clause-lasts g c = c.tell-told.ensures.reads.lasts
