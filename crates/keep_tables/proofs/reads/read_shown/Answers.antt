use Rattle.std.proofs.Common.{not, ap, ◌∙◌, arith}
use Rattle.sqlite.specs.Held.{state}
use Rattle.sqlite.specs.State.{HasCleanDisk}
use Rattle.tables.specs.Rows.{tables_in}
use Rattle.tables_meaning.proofs.FinishedLemmas.{items_finished}
use Rattle.tables_meaning.proofs.ReadCalls.{open_after, read_after, rows_after, undone_either}
use Rattle.keep_tables.proofs.reads.read_shown.Goals as goal

pub returns-clause-read : goal.returns-clause-read
returns-clause-read g c =
    let old = state g.S.Store c.args.conn.now in
    let mid = state g.S.Store c.probe.new.conn in
    let new = state g.S.Store c.read_shelves.new.conn in
    let settled = c.is_autocommit-settled.ensures.settled (c.is_autocommit-settled.ensures.value ∙ ap not c.requires.idle) in
    read_after old mid new c.in_ok-probe.ensures.ok settled (λ other. other _) c.probe.ensures.survives c.read_shelves.ensures.survives
    (λ clean archive. undone_either mid new c.read_shelves.result (c.read_shelves.ensures.unchanged clean _ archive) (c.read_shelves.ensures.err clean _ archive))

pub returns-clause-open : goal.returns-clause-open
returns-clause-open g c clean is =
    let old = state g.S.Store c.args.conn.now in
    let mid = state g.S.Store c.probe.new.conn in
    let new = state g.S.Store c.read_shelves.new.conn in
    let settled = c.is_autocommit-settled.ensures.settled (c.is_autocommit-settled.ensures.value ∙ ap not c.requires.idle) in
    let early : HasCleanDisk mid = omega (arith, c.read_shelves.ensures.survives.clean, clean) in
    open_after old mid new c.in_ok-probe.ensures.ok settled c.read_shelves.result early is (λ archive. c.read_shelves.ensures.unchanged clean _ archive)

pub returns-clause-shown : goal.returns-clause-shown
returns-clause-shown g c clean judged shown dates keeps =
    let old = state g.S.Store c.args.conn.now in
    let mid = state g.S.Store c.probe.new.conn in
    let new = state g.S.Store c.read_shelves.new.conn in
    let settled = c.is_autocommit-settled.ensures.settled (c.is_autocommit-settled.ensures.value ∙ ap not c.requires.idle) in
    let early : HasCleanDisk mid = omega (arith, c.read_shelves.ensures.survives.clean, clean) in
    let rows = rows_after old mid new c.in_ok-probe.ensures.ok settled early keeps in
    c.read_shelves.ensures.ok clean (tables_in old.committed) rows shown (items_finished (tables_in old.committed) c.args.config.now.suites shown keeps.kept.items) keeps.kept.sound
