use Rattle.std.proofs.Common.{fold, arith}
use Rattle.sqlite.specs.State.{HasCleanDisk}
use Rattle.sqlite.specs.Held.{state}
use Rattle.tables.specs.Files.{without_file}
use Rattle.tables.specs.Rows.{Tables, Holds}
use Rattle.tables_meaning.specs.Amending.{HasBodies}
use Rattle.tables.proofs.TransactionLemmas.{on_ok}
use Rattle.tables_meaning.proofs.AmendLemmas.{makes_then, has_bodies, removed_keep}
use Rattle.tables_changes.proofs.amending.pooling.change_pool.Goals as goal

pub returns-clause-ok : goal.returns-clause-ok
returns-clause-ok g c clean inside =
    let a = state g.S.Store c.args.tx.now.conn.now in
    let b = state g.S.Store c.remove_files.new.tx.conn.now in
    let d = state g.S.Store c.add_files.new.tx.conn.now in
    let early : HasCleanDisk b = omega (arith, c.add_files.ensures.survives.clean, clean) in
    let first = c.in_ok-remove_files.ensures.ok early inside in
    let next = rw c.as_slice-added.ensures at (c.add_files.ensures.ok clean first.mode) in
    let begun = rw c.as_slice-removed.ensures at first in
    on_ok _ next (λ second. makes_then a b d _ _ begun second)

pub returns-clause-bodies : goal.returns-clause-bodies
returns-clause-bodies g c clean inside =
    let a = state g.S.Store c.args.tx.now.conn.now in
    let b = state g.S.Store c.remove_files.new.tx.conn.now in
    let early : HasCleanDisk b = omega (arith, c.add_files.ensures.survives.clean, clean) in
    let first = c.in_ok-remove_files.ensures.ok early inside in
    let next = rw c.as_slice-added.ensures at (c.add_files.ensures.bodies clean first.mode) in
    let begun = rw c.as_slice-removed.ensures at first in
    on_ok {Q = (t : Tables) → Holds a.now t → HasBodies t c.args.plan.now.files_added} _ next (λ there t was.
    has_bodies t (fold (λ now f. without_file f.path now) t c.args.plan.now.files_removed) c.args.plan.now.files_added (removed_keep c.args.plan.now.files_removed t) (there _ (begun.held t was)))
