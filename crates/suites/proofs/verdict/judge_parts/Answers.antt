use Rattle.std.proofs.Common.{◌∙◌, ap, sym}
use Rattle.suites.specs.Shelves.{pool}
use Rattle.suites.specs.Verdict.{has_bad_listing}
use Rattle.suites.proofs.Refusals.{ok_case, pool_row, are_parts}
use Rattle.suites.proofs.verdict.judge_parts.Goals as goal

pub returns-in-Accepted : goal.returns-in-Accepted
returns-in-Accepted c =
    let source = ok_case c.in_ok-source.field-0 _ _ c.in-Ok.source c.in_ok-source.ensures c.in-Ok.is in
    let binaries = ok_case c.in_ok-binaries.field-0 _ _ c.in-Ok-2.binaries c.in_ok-binaries.ensures c.in-Ok-2.is in (
      pool_row c.args.most (pool c.args.shelves.now) c.args.upload.now c.changes-changes.result.now c.in-Ok.source c.in-Ok-2.binaries.items c.changes-changes.ensures
          (ap has_bad_listing (sym c.changes-changes.ensures) ∙ sym c.has_bad_listing.ensures ∙ c.if-has_bad_listing.false) source binaries
          ∙ sym c.in_ok-refused.ensures ∙ c.in-Accepted.is,
      are_parts c.args.most c.args.upload.now (record { source = c.in-Ok.source; binaries = c.in-Ok-2.binaries }) source binaries,
    )

pub returns : goal.returns
returns c =
    let source = ok_case c.in_ok-source.field-0 _ _ c.in-Ok.source c.in_ok-source.ensures c.in-Ok.is in
    let binaries = ok_case c.in_ok-binaries.field-0 _ _ c.in-Ok-2.binaries c.in_ok-binaries.ensures c.in-Ok-2.is in (
      pool_row c.args.most (pool c.args.shelves.now) c.args.upload.now c.changes-changes.result.now c.in-Ok.source c.in-Ok-2.binaries.items c.changes-changes.ensures
          (ap has_bad_listing (sym c.changes-changes.ensures) ∙ sym c.has_bad_listing.ensures ∙ c.if-has_bad_listing.false) source binaries
          ∙ sym c.in_ok-refused.ensures,
      c.in_default.not-Accepted,
    )
