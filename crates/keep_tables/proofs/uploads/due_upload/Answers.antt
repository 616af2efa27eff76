use Rattle.std.proofs.Common.{◌≡◌, if◌then◌else◌, nat_eq, None, sym, ap, ◌∙◌, arith}
use Rattle.sqlite.specs.Held.{state}
use Rattle.sqlite.specs.State.{HasCleanDisk}
use Rattle.sqlite.proofs.Callers.{unchanged_then}
use Rattle.tables.proofs.ReadLemmas.{on_err}
use Rattle.tables_meaning.specs.Reads.{upload_in}
use Rattle.tables_meaning.proofs.ReadsLemmas.{held_after, survives_after, undone_after}
use Rattle.keep_tables.proofs.uploads.due_upload.Goals as goal

pub returns-in_err-missing-clause-survives : goal.returns-in_err-missing-clause-survives
returns-in_err-missing-clause-survives g c =
    c.missing_of.ensures.survives

pub returns-then-missing-gt0-clause-survives : goal.returns-then-missing-gt0-clause-survives
returns-then-missing-gt0-clause-survives g c =
    c.missing_of.ensures.survives

pub returns-in_err-read-clause-err : goal.returns-in_err-read-clause-err
returns-in_err-read-clause-err g c clean t was =
    let old = state g.S.Store c.args.conn.now in
    let mid = state g.S.Store c.missing_of.new.conn in
    let new = state g.S.Store c.read_upload.new.conn in
    let early : HasCleanDisk mid = omega (arith, c.read_upload.ensures.survives.clean, clean) in
    let before = (c.in_ok-missing.ensures.ok early t was).1 in
    on_err _ (undone_after old mid new before (c.in_err-read.ensures.err clean t (held_after old mid before t was)))

pub returns-in_err-read-clause-survives : goal.returns-in_err-read-clause-survives
returns-in_err-read-clause-survives g c =
    let old = state g.S.Store c.args.conn.now in
    let mid = state g.S.Store c.missing_of.new.conn in
    survives_after old mid (state g.S.Store c.read_upload.new.conn)
    (λ clean t was. (c.in_ok-missing.ensures.ok clean t was).1) c.missing_of.ensures.survives c.read_upload.ensures.survives

pub returns-clause-ok : goal.returns-clause-ok
returns-clause-ok g c clean t was =
    let old = state g.S.Store c.args.conn.now in
    let mid = state g.S.Store c.missing_of.new.conn in
    let new = state g.S.Store c.read_upload.new.conn in
    let early : HasCleanDisk mid = omega (arith, c.read_upload.ensures.survives.clean, clean) in
    let first = c.in_ok-missing.ensures.ok early t was in
    let second = c.in_ok-read.ensures.ok clean t (held_after old mid first.1 t was) in
    let none : c.in_ok-missing.missing ≡ 0 = omega (arith, c.if-missing-gt0.false) in
    (sym (ap (λ n. if nat_eq n 0 then upload_in t c.args.upload else None) (sym first.0 ∙ none) ∙ second.0), unchanged_then old mid new first.1 second.1)

pub returns-clause-survives : goal.returns-clause-survives
returns-clause-survives g c =
    let old = state g.S.Store c.args.conn.now in
    let mid = state g.S.Store c.missing_of.new.conn in
    survives_after old mid (state g.S.Store c.read_upload.new.conn)
    (λ clean t was. (c.in_ok-missing.ensures.ok clean t was).1) c.missing_of.ensures.survives c.read_upload.ensures.survives
