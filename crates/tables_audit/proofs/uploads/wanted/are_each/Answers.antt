use Rattle.std.proofs.Common.{◌≡◌, map, arith}
use Rattle.std.proofs.lemmas.Bool.Decides.{when_false, when_true}
use Rattle.tables_audit.specs.Uploads.{awaited_view, printed, request_among, request_row}
use Rattle.tables_audit.proofs.UploadsLists.{pair_differs, pair_more, pairs_all, pairs_differ}
use Rattle.tables_audit.proofs.uploads.wanted.are_each.Goals as goal

pub returns-then-rows-awaited : goal.returns-then-rows-awaited
returns-then-rows-awaited c =
    pairs_differ (λ x. request_row c.args.wants.now.all.now x.now) (λ a. request_among (map printed c.args.arrived.now.all.now) (awaited_view a)) c.args.rows.now c.args.awaited.now c.if-rows-awaited.true

pub returns-then-not-branch : goal.returns-then-not-branch
returns-then-not-branch c =
    let wants = c.args.wants.now.all.now in
    let here = map printed c.args.arrived.now.all.now in
    let row = c.index-rows-index.result in
    let one = c.index-awaited-index.result in
    pair_differs (λ x. request_row wants x.now) (λ a. request_among here (awaited_view a)) c.args.rows.now c.args.awaited.now c.loop-index.index row one
    (omega (arith, c.loop-index-test.true)) (omega (arith, c.loop-index-test.true, c.if-rows-awaited.false)) c.index-rows-index.is c.index-awaited-index.is
    (when_false (request_row wants row.now ≡ request_among here (awaited_view one)) (request_row wants row.now ≡ request_among here (awaited_view one) → ⊥) c.if-not-branch.true c.in_ok-is_request.ensures)

pub loop-index-preserved : goal.loop-index-preserved
loop-index-preserved c =
    let wants = c.args.wants.now.all.now in
    let here = map printed c.args.arrived.now.all.now in
    let row = c.index-rows-index.result in
    let one = c.index-awaited-index.result in
    pair_more (λ x. request_row wants x.now) (λ a. request_among here (awaited_view a)) c.args.rows.now c.args.awaited.now c.loop-index.index row one
    (omega (arith, c.loop-index-test.true)) (omega (arith, c.loop-index-test.true, c.if-rows-awaited.false)) c.index-rows-index.is c.index-awaited-index.is
    (when_true (request_row wants row.now ≡ request_among here (awaited_view one)) (request_row wants row.now ≡ request_among here (awaited_view one) → ⊥) c.if-not-branch.false c.in_ok-is_request.ensures)
    c.loop-index.invariant

pub returns : goal.returns
returns c =
    pairs_all (λ x. request_row c.args.wants.now.all.now x.now) (λ a. request_among (map printed c.args.arrived.now.all.now) (awaited_view a)) c.args.rows.now c.args.awaited.now c.loop-index.index
    (omega (arith, c.loop-index-test.false)) c.if-rows-awaited.false c.loop-index.invariant
