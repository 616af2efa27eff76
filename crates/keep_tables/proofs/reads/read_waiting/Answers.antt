use Rattle.std.proofs.Common.{not, ap, ◌∙◌, arith}
use Rattle.std.proofs.lemmas.Result.{IfOk-weaker}
use Rattle.sqlite.specs.Held.{state}
use Rattle.sqlite.specs.State.{HasCleanDisk}
use Rattle.tables.specs.Rows.{tables_in}
use Rattle.tables_meaning.proofs.ReadCalls.{open_after, read_after, rows_after, undone_either}
use Rattle.keep_tables.proofs.MomentReads.{waits_at}
use Rattle.keep_tables.proofs.reads.read_waiting.Goals as goal

pub returns-clause-read : goal.returns-clause-read
returns-clause-read g c =
    let old = state g.S.Store c.args.conn.now in
    let mid = state g.S.Store c.probe.new.conn in
    let new = state g.S.Store c.waiting_uploads.new.conn in
    let settled = c.is_autocommit-settled.ensures.settled (c.is_autocommit-settled.ensures.value ∙ ap not c.requires.idle) in
    read_after old mid new c.in_ok-probe.ensures.ok settled (λ other. other _) c.probe.ensures.survives c.waiting_uploads.ensures.survives
    (λ clean archive. undone_either mid new c.waiting_uploads.result (c.waiting_uploads.ensures.unchanged clean _ archive) (c.waiting_uploads.ensures.err clean _ archive))

pub returns-clause-open : goal.returns-clause-open
returns-clause-open g c clean is =
    let old = state g.S.Store c.args.conn.now in
    let mid = state g.S.Store c.probe.new.conn in
    let new = state g.S.Store c.waiting_uploads.new.conn in
    let settled = c.is_autocommit-settled.ensures.settled (c.is_autocommit-settled.ensures.value ∙ ap not c.requires.idle) in
    let early : HasCleanDisk mid = omega (arith, c.waiting_uploads.ensures.survives.clean, clean) in
    open_after old mid new c.in_ok-probe.ensures.ok settled c.waiting_uploads.result early is (λ archive. c.waiting_uploads.ensures.unchanged clean _ archive)

pub returns-clause-waiting : goal.returns-clause-waiting
returns-clause-waiting g c clean config judged shown dates keeps same =
    let old = state g.S.Store c.args.conn.now in
    let mid = state g.S.Store c.probe.new.conn in
    let new = state g.S.Store c.waiting_uploads.new.conn in
    let settled = c.is_autocommit-settled.ensures.settled (c.is_autocommit-settled.ensures.value ∙ ap not c.requires.idle) in
    let early : HasCleanDisk mid = omega (arith, c.waiting_uploads.ensures.survives.clean, clean) in
    let rows = rows_after old mid new c.in_ok-probe.ensures.ok settled early keeps in
    IfOk-weaker c.waiting_uploads.result _ _ (λ all is. is ∙ waits_at old.committed config judged shown dates keeps c.args.seconds same c.args.moment)
    (c.waiting_uploads.ensures.ok clean (tables_in old.committed) rows)
