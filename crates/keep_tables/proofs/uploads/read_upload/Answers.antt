use Rattle.std.proofs.Common.{All, length, map, zip, ap, sym, subst, ◌∙◌, arith}
use Rattle.sqlite.specs.Held.{state}
use Rattle.sqlite.specs.State.{HasCleanDisk}
use Rattle.sqlite.proofs.Callers.{unchanged_then}
use Rattle.records.specs.Records.{changes_in}
use Rattle.records.proofs.RecordRead.{changes_of_read}
use Rattle.tables.proofs.ReadLemmas.{on_err}
use Rattle.suites.specs.Upload.{IsTextOf}
use Rattle.tables_meaning.specs.Reads.{text_in}
use Rattle.tables_meaning.proofs.DueLemmas.{upload_read}
use Rattle.tables_meaning.proofs.ReadsLemmas.{held_after, survives_after, undone_after}
use Rattle.keep_tables.proofs.uploads.read_upload.Goals as goal

pub new-requires : goal.new-requires
new-requires g c =
    let read = changes_of_read _ c.deref.result.now c.in_ok-changes.changes c.in_ok-changes.ensures in
    record {
      names = read.made.entries.listed.names;
      count = c.in_ok-texts.ensures.count ∙ ap length c.entries.ensures;
      texts = subst (λ es. All IsTextOf (zip es c.in_ok-texts.texts.items)) c.entries.ensures c.in_ok-texts.ensures.kept;
    }

pub returns-in_err-texts-clause-err : goal.returns-in_err-texts-clause-err
returns-in_err-texts-clause-err g c clean t was =
    let old = state g.S.Store c.args.conn.now in
    let mid = state g.S.Store c.body_of.new.conn in
    let new = state g.S.Store c.texts_of.new.conn in
    let early : HasCleanDisk mid = omega (arith, c.texts_of.ensures.survives.clean, clean) in
    let before = (c.in_ok-body.ensures.ok early t was).1 in
    on_err _ (undone_after old mid new before (c.in_err-texts.ensures.err clean t (held_after old mid before t was)))

pub returns-in_err-texts-clause-survives : goal.returns-in_err-texts-clause-survives
returns-in_err-texts-clause-survives g c =
    survives_after (state g.S.Store c.args.conn.now) (state g.S.Store c.body_of.new.conn) (state g.S.Store c.texts_of.new.conn)
    (λ clean t was. (c.in_ok-body.ensures.ok clean t was).1) c.body_of.ensures.survives c.texts_of.ensures.survives

pub returns-clause-ok : goal.returns-clause-ok
returns-clause-ok g c clean t was =
    let old = state g.S.Store c.args.conn.now in
    let mid = state g.S.Store c.body_of.new.conn in
    let new = state g.S.Store c.texts_of.new.conn in
    let early : HasCleanDisk mid = omega (arith, c.texts_of.ensures.survives.clean, clean) in
    let first = c.in_ok-body.ensures.ok early t was in
    let second = c.in_ok-texts.ensures.ok clean t (held_after old mid first.1 t was) in (
      upload_read t c.args.upload c.in_ok-body.body.items c.in_ok-changes.changes c.in_ok-texts.texts.items first.0
          (ap changes_in (sym c.deref.ensures.value) ∙ c.in_ok-changes.ensures) (second.0 ∙ ap (map (text_in t)) c.entries.ensures) c.new.ensures,
      unchanged_then old mid new first.1 (second.1.unchanged first.1.0.is_open),
    )

pub returns-clause-survives : goal.returns-clause-survives
returns-clause-survives g c =
    survives_after (state g.S.Store c.args.conn.now) (state g.S.Store c.body_of.new.conn) (state g.S.Store c.texts_of.new.conn)
    (λ clean t was. (c.in_ok-body.ensures.ok clean t was).1) c.body_of.ensures.survives c.texts_of.ensures.survives
