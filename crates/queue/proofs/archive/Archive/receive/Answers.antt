use Rattle.std.proofs.Common.{◌∙◌, sym, inl, inr, arith}
use Rattle.std.proofs.lemmas.Result.{err_from_is_err_and}
use Rattle.queue.proofs.ReaderLemmas.{Keeps-same}
use Rattle.history.proofs.Limits.{named_changes, named_under}
use Rattle.history.proofs.Received.{bad_name, left_stored, may_be_kept, received_new, received_not, received_short, too_large, too_late}
use Rattle.queue.proofs.archive.Archive.receive.Goals as goal

pub returns-then-is_file_name-clause-received : goal.returns-then-is_file_name-clause-received
returns-then-is_file_name-clause-received g c =
    let config = (g.K.Keeper.book c.args.self.now.keeper).config in
    let most = named_under c.most_named-most.result c.config.result.now config c.args.name.now c.most_named-most.ensures c.config.ensures in (
      inr (
        omega (arith, most, c.if-size-most.true),
        Keeps-same _,
        λ body size. too_large config c.args.name.now body c.args.moment (sym c.if-is_file_name.ensures) (omega (arith, size, most, c.if-size-most.true)),
      ),
      λ h kept clean. kept,
    )

pub returns-then-is_file_name-clause-large : goal.returns-then-is_file_name-clause-large
returns-then-is_file_name-clause-large g c large =
    let config = (g.K.Keeper.book c.args.self.now.keeper).config in
    (Keeps-same _, λ body size. too_large config c.args.name.now body c.args.moment (sym c.if-is_file_name.ensures) (omega (arith, size, large)))

pub returns-then-is_file_name-clause-crash : goal.returns-then-is_file_name-clause-crash
returns-then-is_file_name-clause-crash g c h kept clean left may = inl may

pub returns-then-size-most-clause-received : goal.returns-then-size-most-clause-received
returns-then-size-most-clause-received g c =
    let config = (g.K.Keeper.book c.args.self.now.keeper).config in
    let most = named_under c.most_named-most.result c.config.result.now config c.args.name.now c.most_named-most.ensures c.config.ensures in (
      inr (
        omega (arith, most, c.if-size-most.true),
        Keeps-same _,
        λ body size. bad_name config c.args.name.now body c.args.moment (sym c.if-is_file_name.ensures),
      ),
      λ h kept clean. kept,
    )

pub returns-then-size-most-clause-large : goal.returns-then-size-most-clause-large
returns-then-size-most-clause-large g c large =
    let config = (g.K.Keeper.book c.args.self.now.keeper).config in
    (Keeps-same _, λ body size. bad_name config c.args.name.now body c.args.moment (sym c.if-is_file_name.ensures))

pub returns-then-size-most-clause-crash : goal.returns-then-size-most-clause-crash
returns-then-size-most-clause-crash g c h kept clean left may = inl may

pub returns-in_err-skip-clause-received : goal.returns-in_err-skip-clause-received
returns-in_err-skip-clause-received g c =
    let p = err_from_is_err_and c.from_residual.result c.from_residual.ensures.1 in
    rw (p.1, p.2) (received_short g.K.Keeper _ _ c.args.name.now c.args.size c.args.moment c.args.self.now.keeper c.in_err-skip.field-0.0 c.in_err-skip.ensures.refused)

pub returns-in_err-skip-clause-large : goal.returns-in_err-skip-clause-large
returns-in_err-skip-clause-large g c large =
    let config = (g.K.Keeper.book c.args.self.now.keeper).config in
    let most = named_under c.most_named-most.result c.config.result.now config c.args.name.now c.most_named-most.ensures c.config.ensures in
    absurd (omega (arith, most, large, c.if-size-most.false))

pub returns-in_err-skip-clause-crash : goal.returns-in_err-skip-clause-crash
returns-in_err-skip-clause-crash g c h kept clean left may = inl may

pub returns-then-not-is_file_name-clause-received : goal.returns-then-not-is_file_name-clause-received
returns-then-not-is_file_name-clause-received g c =
    let config = (g.K.Keeper.book c.args.self.now.keeper).config in
    let most = named_under c.most_named-most.result c.config.result.now config c.args.name.now c.most_named-most.ensures c.config.ensures in
    let read = c.in_ok-skip.ensures.ok in (
      inl (read.0, read.1, omega (arith, most, c.if-size-most.false), bad_name config c.args.name.now read.0 c.args.moment (sym c.if-not-is_file_name.ensures)),
      λ h kept clean. kept,
    )

pub returns-then-not-is_file_name-clause-large : goal.returns-then-not-is_file_name-clause-large
returns-then-not-is_file_name-clause-large g c large =
    let config = (g.K.Keeper.book c.args.self.now.keeper).config in
    let most = named_under c.most_named-most.result c.config.result.now config c.args.name.now c.most_named-most.ensures c.config.ensures in
    absurd (omega (arith, most, large, c.if-size-most.false))

pub returns-then-not-is_file_name-clause-crash : goal.returns-then-not-is_file_name-clause-crash
returns-then-not-is_file_name-clause-crash g c h kept clean left may = inl may

pub receive_record-requires-clause-small : goal.receive_record-requires-clause-small
receive_record-requires-clause-small g c =
    omega (arith, c.most_named-most.ensures ∙ named_changes c.config.result.now c.args.name.now (sym c.if-is_changes_name.ensures), c.if-size-most.false)

pub returns-then-is_changes_name-clause-large : goal.returns-then-is_changes_name-clause-large
returns-then-is_changes_name-clause-large g c large =
    let config = (g.K.Keeper.book c.args.self.now.keeper).config in
    let most = named_under c.most_named-most.result c.config.result.now config c.args.name.now c.most_named-most.ensures c.config.ensures in
    absurd (omega (arith, most, large, c.if-size-most.false))

pub returns-in_err-skip-2-clause-received : goal.returns-in_err-skip-2-clause-received
returns-in_err-skip-2-clause-received g c =
    let p = err_from_is_err_and c.from_residual-in_err-skip-2.result c.from_residual-in_err-skip-2.ensures.1 in
    rw (p.1, p.2) (received_short g.K.Keeper _ _ c.args.name.now c.args.size c.args.moment c.args.self.now.keeper c.in_err-skip-2.field-0.0 c.in_err-skip-2.ensures.refused)

pub returns-in_err-skip-2-clause-large : goal.returns-in_err-skip-2-clause-large
returns-in_err-skip-2-clause-large g c large =
    let config = (g.K.Keeper.book c.args.self.now.keeper).config in
    let most = named_under c.most_named-most.result c.config.result.now config c.args.name.now c.most_named-most.ensures c.config.ensures in
    absurd (omega (arith, most, large, c.if-size-most.false))

pub returns-in_err-skip-2-clause-crash : goal.returns-in_err-skip-2-clause-crash
returns-in_err-skip-2-clause-crash g c h kept clean left may = inl may

pub returns-then-moment-gt-LATEST-clause-received : goal.returns-then-moment-gt-LATEST-clause-received
returns-then-moment-gt-LATEST-clause-received g c =
    let config = (g.K.Keeper.book c.args.self.now.keeper).config in
    let most = named_under c.most_named-most.result c.config.result.now config c.args.name.now c.most_named-most.ensures c.config.ensures in
    let read = c.in_ok-skip-2.ensures.ok in (
      inl (
        read.0,
        read.1,
        omega (arith, most, c.if-size-most.false),
        too_late config c.args.name.now read.0 c.args.moment (sym c.if-not-is_file_name.ensures) (sym c.if-is_changes_name.ensures)
            (omega (arith, read.1.1, most, c.if-size-most.false)) c.if-moment-gt-LATEST.true,
      ),
      λ h kept clean. kept,
    )

pub returns-then-moment-gt-LATEST-clause-large : goal.returns-then-moment-gt-LATEST-clause-large
returns-then-moment-gt-LATEST-clause-large g c large =
    let config = (g.K.Keeper.book c.args.self.now.keeper).config in
    let most = named_under c.most_named-most.result c.config.result.now config c.args.name.now c.most_named-most.ensures c.config.ensures in
    absurd (omega (arith, most, large, c.if-size-most.false))

pub returns-then-moment-gt-LATEST-clause-crash : goal.returns-then-moment-gt-LATEST-clause-crash
returns-then-moment-gt-LATEST-clause-crash g c h kept clean left may = inl may

pub store-requires-clause-may_be_kept : goal.store-requires-clause-may_be_kept
store-requires-clause-may_be_kept g c =
    may_be_kept c.config.result.now c.args.name.now c.args.size (sym c.if-not-is_file_name.ensures) (sym c.if-is_changes_name.ensures)
    (omega (arith, c.most_named-most.ensures, c.if-size-most.false))

pub returns-in-Ok-clause-received : goal.returns-in-Ok-clause-received
returns-in-Ok-clause-received g c =
    let config = (g.K.Keeper.book c.args.self.now.keeper).config in
    let most = named_under c.most_named-most.result c.config.result.now config c.args.name.now c.most_named-most.ensures c.config.ensures in
    received_new g.K.Keeper _ _ c.args.name.now c.args.size c.args.moment _ _ c.store.ensures.lasts c.in-Ok.fresh c.arrived.result c.arrived.ensures
    (sym c.if-not-is_file_name.ensures) (sym c.if-is_changes_name.ensures) (omega (arith, most, c.if-size-most.false)) (omega (arith, c.if-moment-gt-LATEST.false))
    c.in-Ok.ensures.served c.in-Ok.ensures.stored

pub returns-in-Err-clause-received : goal.returns-in-Err-clause-received
returns-in-Err-clause-received g c =
    let config = (g.K.Keeper.book c.args.self.now.keeper).config in
    let most = named_under c.most_named-most.result c.config.result.now config c.args.name.now c.most_named-most.ensures c.config.ensures in
    received_not g.K.Keeper _ _ c.args.name.now c.args.size c.args.moment _ _ c.store.ensures.lasts c.in-Err.fault
    (sym c.if-not-is_file_name.ensures) (sym c.if-is_changes_name.ensures) (omega (arith, most, c.if-size-most.false)) (omega (arith, c.if-moment-gt-LATEST.false))
    c.in-Err.ensures.refused c.in-Err.ensures.same

pub returns-in-Ok-clause-large : goal.returns-in-Ok-clause-large
returns-in-Ok-clause-large g c large =
    let config = (g.K.Keeper.book c.args.self.now.keeper).config in
    let most = named_under c.most_named-most.result c.config.result.now config c.args.name.now c.most_named-most.ensures c.config.ensures in
    absurd (omega (arith, most, large, c.if-size-most.false))

pub returns-in-Err-clause-large : goal.returns-in-Err-clause-large
returns-in-Err-clause-large g c large =
    let config = (g.K.Keeper.book c.args.self.now.keeper).config in
    let most = named_under c.most_named-most.result c.config.result.now config c.args.name.now c.most_named-most.ensures c.config.ensures in
    absurd (omega (arith, most, large, c.if-size-most.false))

pub returns-in-Ok-clause-crash : goal.returns-in-Ok-clause-crash
returns-in-Ok-clause-crash g c h kept clean left may =
    let config = (g.K.Keeper.book c.args.self.now.keeper).config in
    let most = named_under c.most_named-most.result c.config.result.now config c.args.name.now c.most_named-most.ensures c.config.ensures in
    elim (c.store.ensures.crash clean left may) [
      | inl before ↦ inl before
      | inr made ↦ inr (left_stored g.K.Keeper _ _ c.args.name.now c.args.size c.args.moment h _ (g.K.Keeper.book c.args.self.now.keeper) left kept
          (sym c.if-not-is_file_name.ensures) (sym c.if-is_changes_name.ensures) (omega (arith, most, c.if-size-most.false)) (omega (arith, c.if-moment-gt-LATEST.false)) made)
    ]

pub returns-in-Err-clause-crash : goal.returns-in-Err-clause-crash
returns-in-Err-clause-crash g c h kept clean left may =
    let config = (g.K.Keeper.book c.args.self.now.keeper).config in
    let most = named_under c.most_named-most.result c.config.result.now config c.args.name.now c.most_named-most.ensures c.config.ensures in
    elim (c.store.ensures.crash clean left may) [
      | inl before ↦ inl before
      | inr made ↦ inr (left_stored g.K.Keeper _ _ c.args.name.now c.args.size c.args.moment h _ (g.K.Keeper.book c.args.self.now.keeper) left kept
          (sym c.if-not-is_file_name.ensures) (sym c.if-is_changes_name.ensures) (omega (arith, most, c.if-size-most.false)) (omega (arith, c.if-moment-gt-LATEST.false)) made)
    ]
