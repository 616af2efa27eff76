use Rattle.std.proofs.Common.{◌≡◌, map, arith}
use Rattle.std.proofs.lemmas.Bool.Decides.{when_false, when_true}
use Rattle.tables_matching.specs.Rows.{want_row}
use Rattle.tables_audit.specs.Uploads.{printed, wanted_among}
use Rattle.tables_audit.proofs.UploadsLists.{pair_differs, pair_more, pairs_all, pairs_differ}
use Rattle.tables_audit.proofs.uploads.wanted.are_wanted.Goals as goal

pub returns-then-wants-entries : goal.returns-then-wants-entries
returns-then-wants-entries c =
    pairs_differ (λ w. want_row w.now) (λ e. wanted_among (map printed c.args.arrived.now.all.now) e.now) c.args.wants.now c.args.entries.now c.if-wants-entries.true

pub returns-then-not-is_wanted : goal.returns-then-not-is_wanted
returns-then-not-is_wanted c =
    let here = c.args.arrived.now.all.now in
    let want = c.index-wants-index.result in
    let entry = c.index-entries-index.result in
    pair_differs (λ w. want_row w.now) (λ e. wanted_among (map printed here) e.now) c.args.wants.now c.args.entries.now c.loop-index.index want entry
    (omega (arith, c.loop-index-test.true)) (omega (arith, c.loop-index-test.true, c.if-wants-entries.false)) c.index-wants-index.is c.index-entries-index.is
    (when_false (want_row want.now ≡ wanted_among (map printed here) entry.now) (want_row want.now ≡ wanted_among (map printed here) entry.now → ⊥) c.if-not-is_wanted.true c.is_wanted.ensures)

pub loop-index-preserved : goal.loop-index-preserved
loop-index-preserved c =
    let here = c.args.arrived.now.all.now in
    let want = c.index-wants-index.result in
    let entry = c.index-entries-index.result in
    pair_more (λ w. want_row w.now) (λ e. wanted_among (map printed here) e.now) c.args.wants.now c.args.entries.now c.loop-index.index want entry
    (omega (arith, c.loop-index-test.true)) (omega (arith, c.loop-index-test.true, c.if-wants-entries.false)) c.index-wants-index.is c.index-entries-index.is
    (when_true (want_row want.now ≡ wanted_among (map printed here) entry.now) (want_row want.now ≡ wanted_among (map printed here) entry.now → ⊥) c.if-not-is_wanted.false c.is_wanted.ensures)
    c.loop-index.invariant

pub returns : goal.returns
returns c =
    pairs_all (λ w. want_row w.now) (λ e. wanted_among (map printed c.args.arrived.now.all.now) e.now) c.args.wants.now c.args.entries.now c.loop-index.index
    (omega (arith, c.loop-index-test.false)) c.if-wants-entries.false c.loop-index.invariant
