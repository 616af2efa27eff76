use Rattle.std.proofs.Common.{map, not, ap, ◌∙◌, arith}
use Rattle.std.proofs.lemmas.Result.{IfOk-weaker}
use Rattle.sqlite.specs.Held.{state}
use Rattle.sqlite.specs.State.{HasCleanDisk}
use Rattle.book.specs.Book.{at_moment, due}
use Rattle.book.proofs.Signs.{signs_of}
use Rattle.tables.specs.Rows.{tables_in}
use Rattle.tables_meaning.specs.Archives.{book_in_database}
use Rattle.tables_meaning.proofs.ReadCalls.{open_after, read_after, rows_after, undone_either}
use Rattle.keep_tables.proofs.MomentReads.{dues_at}
use Rattle.keep_tables.proofs.reads.read_due.Goals as goal

pub returns-clause-read : goal.returns-clause-read
returns-clause-read g c =
    let old = state g.S.Store c.args.conn.now in
    let mid = state g.S.Store c.probe.new.conn in
    let new = state g.S.Store c.due_uploads.new.conn in
    let settled = c.is_autocommit-settled.ensures.settled (c.is_autocommit-settled.ensures.value ∙ ap not c.requires.idle) in
    read_after old mid new c.in_ok-probe.ensures.ok settled (λ other. other _) c.probe.ensures.survives c.due_uploads.ensures.survives
    (λ clean archive. undone_either mid new c.due_uploads.result (c.due_uploads.ensures.unchanged clean _ archive) (c.due_uploads.ensures.err clean _ archive))

pub returns-clause-open : goal.returns-clause-open
returns-clause-open g c clean is =
    let old = state g.S.Store c.args.conn.now in
    let mid = state g.S.Store c.probe.new.conn in
    let new = state g.S.Store c.due_uploads.new.conn in
    let settled = c.is_autocommit-settled.ensures.settled (c.is_autocommit-settled.ensures.value ∙ ap not c.requires.idle) in
    let early : HasCleanDisk mid = omega (arith, c.due_uploads.ensures.survives.clean, clean) in
    open_after old mid new c.in_ok-probe.ensures.ok settled c.due_uploads.result early is (λ archive. c.due_uploads.ensures.unchanged clean _ archive)

pub returns-clause-uploads : goal.returns-clause-uploads
returns-clause-uploads g c clean config judged shown dates keeps same =
    let old = state g.S.Store c.args.conn.now in
    let mid = state g.S.Store c.probe.new.conn in
    let new = state g.S.Store c.due_uploads.new.conn in
    let settled = c.is_autocommit-settled.ensures.settled (c.is_autocommit-settled.ensures.value ∙ ap not c.requires.idle) in
    let early : HasCleanDisk mid = omega (arith, c.due_uploads.ensures.survives.clean, clean) in
    let rows = rows_after old mid new c.in_ok-probe.ensures.ok settled early keeps in
    IfOk-weaker c.due_uploads.result _ _ (λ uploads is. is ∙ dues_at old.committed config judged shown dates keeps c.args.seconds same c.args.moment)
    (c.due_uploads.ensures.ok clean (tables_in old.committed) rows)

pub returns-clause-signs : goal.returns-clause-signs
returns-clause-signs g c clean config judged shown dates keeps same =
    let old = state g.S.Store c.args.conn.now in
    let mid = state g.S.Store c.probe.new.conn in
    let new = state g.S.Store c.due_uploads.new.conn in
    let settled = c.is_autocommit-settled.ensures.settled (c.is_autocommit-settled.ensures.value ∙ ap not c.requires.idle) in
    let early : HasCleanDisk mid = omega (arith, c.due_uploads.ensures.survives.clean, clean) in
    let rows = rows_after old mid new c.in_ok-probe.ensures.ok settled early keeps in
    let b = at_moment c.args.moment (book_in_database old.committed config judged shown dates) in
    IfOk-weaker c.due_uploads.result _ _
    (λ uploads is. ap (map (λ u. (u.name, u.print))) (is ∙ dues_at old.committed config judged shown dates keeps c.args.seconds same c.args.moment) ∙ signs_of b.arrivals (due b))
    (c.due_uploads.ensures.ok clean (tables_in old.committed) rows)
