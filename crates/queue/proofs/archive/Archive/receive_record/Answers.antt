use Rattle.std.proofs.Common.{inl, inr, arith}
use Rattle.std.proofs.lemmas.Result.{err_from_is_err_and}
use Rattle.history.proofs.Limits.{named_changes}
use Rattle.history.proofs.Received.{received_delivered, received_none, received_short, too_long}
use Rattle.queue.proofs.archive.Archive.receive_record.Goals as goal

pub returns-in_err-skip-clause-received : goal.returns-in_err-skip-clause-received
returns-in_err-skip-clause-received g c =
    let p = err_from_is_err_and c.from_residual.result c.from_residual.ensures.1 in
    rw (p.1, p.2) (received_short g.K.Keeper _ _ c.args.name.now c.args.whole c.args.moment c.args.self.now.keeper c.in_err-skip.field-0.0 c.in_err-skip.ensures.refused)

pub returns-in_err-skip-clause-crash : goal.returns-in_err-skip-clause-crash
returns-in_err-skip-clause-crash g c h kept clean left may = inl may

pub returns-then-whole-gt-MOST_CHANGES-clause-received : goal.returns-then-whole-gt-MOST_CHANGES-clause-received
returns-then-whole-gt-MOST_CHANGES-clause-received g c =
    let config = (g.K.Keeper.book c.args.self.now.keeper).config in
    let most = named_changes config c.args.name.now c.requires.a_record in
    let read = c.in_ok-skip.ensures.ok in (
      inl (
        read.0,
        read.1,
        omega (arith, most, c.requires.small),
        too_long config c.args.name.now read.0 c.args.moment c.requires.named c.requires.a_record (omega (arith, read.1.1, most, c.requires.small)) (omega (arith, read.1.1, c.if-whole-gt-MOST_CHANGES.true)),
      ),
      λ h kept clean. kept,
    )

pub returns-then-whole-gt-MOST_CHANGES-clause-crash : goal.returns-then-whole-gt-MOST_CHANGES-clause-crash
returns-then-whole-gt-MOST_CHANGES-clause-crash g c h kept clean left may = inl may

pub returns-in_err-body-clause-received : goal.returns-in_err-body-clause-received
returns-in_err-body-clause-received g c =
    let p = err_from_is_err_and c.from_residual-in_err-body.result c.from_residual-in_err-body.ensures.1 in
    rw (p.1, p.2) (received_none g.K.Keeper _ _ c.args.name.now c.args.whole c.args.moment c.args.self.now.keeper c.in_err-body.field-0.0 c.in_err-body.ensures.refused)

pub returns-in_err-body-clause-crash : goal.returns-in_err-body-clause-crash
returns-in_err-body-clause-crash g c h kept clean left may = inl may

pub returns-clause-received : goal.returns-clause-received
returns-clause-received g c =
    let is = c.as_slice.ensures.value in
    let most = named_changes (g.K.Keeper.book c.args.self.now.keeper).config c.args.name.now c.requires.a_record in
    received_delivered g.K.Keeper _ _ c.args.name.now c.args.whole c.args.moment _ _ c.deliver.ensures.lasts c.in_ok-body.body.items c.in_ok-body.ensures.gave (omega (arith, most, c.requires.small)) c.deliver.result
    (rw is at c.deliver.ensures.step) c.deliver.ensures.err (rw is at c.deliver.ensures.refused)

pub returns-clause-crash : goal.returns-clause-crash
returns-clause-crash g c h kept clean left may =
    let stopped = rw c.as_slice.ensures.value at c.deliver.ensures.crash in
    elim (stopped h kept clean left may) [
      | inl before ↦ inl before
      | inr made ↦ inr (elim made [
        | inl is ↦ inl is
        | inr whole ↦ inr (record { body = c.in_ok-body.body.items; gave_it = c.in_ok-body.ensures.gave; stands = whole })
      ])
    ]
