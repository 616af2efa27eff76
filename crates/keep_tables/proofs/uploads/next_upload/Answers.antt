use Rattle.std.proofs.Common.{subst, sym, ◌∙◌, arith}
use Rattle.sqlite.specs.Held.{state}
use Rattle.sqlite.specs.State.{HasCleanDisk}
use Rattle.sqlite.proofs.Callers.{unchanged_then}
use Rattle.tables.specs.Rows.{rows_of}
use Rattle.tables.specs.Wants.{IsNextWanting}
use Rattle.tables_meaning.proofs.ReadsLemmas.{held_after, survives_after, survives_foreign}
use Rattle.tables_meaning.proofs.WantingLemmas.{next_one, no_next}
use Rattle.keep_tables.proofs.uploads.next_upload.Goals as goal

pub returns-in_err-id-clause-survives : goal.returns-in_err-id-clause-survives
returns-in_err-id-clause-survives g c =
    survives_foreign (state g.S.Store c.args.conn.now) (state g.S.Store c.next_wanting.new.conn) c.next_wanting.ensures.survives

pub returns-in_default-clause-ok : goal.returns-in_default-clause-ok
returns-in_default-clause-ok g c clean t was =
    let read = c.in_ok-id.ensures.ok clean t was in
    (sym (no_next t c.args.after (subst (IsNextWanting c.args.after (rows_of t.wants)) c.in_default.is read.0)), read.1)

pub returns-in_default-clause-survives : goal.returns-in_default-clause-survives
returns-in_default-clause-survives g c =
    survives_foreign (state g.S.Store c.args.conn.now) (state g.S.Store c.next_wanting.new.conn) c.next_wanting.ensures.survives

pub returns-in_err-upload-clause-survives : goal.returns-in_err-upload-clause-survives
returns-in_err-upload-clause-survives g c =
    let old = state g.S.Store c.args.conn.now in
    let mid = state g.S.Store c.next_wanting.new.conn in
    let new = state g.S.Store c.upload_numbered.new.conn in
    survives_after old mid new (λ clean t was. (c.in_ok-id.ensures.ok clean t was).1) (survives_foreign old mid c.next_wanting.ensures.survives) (survives_foreign mid new c.upload_numbered.ensures.survives)

pub returns-in_default-2-clause-survives : goal.returns-in_default-2-clause-survives
returns-in_default-2-clause-survives g c =
    let old = state g.S.Store c.args.conn.now in
    let mid = state g.S.Store c.next_wanting.new.conn in
    let new = state g.S.Store c.upload_numbered.new.conn in
    survives_after old mid new (λ clean t was. (c.in_ok-id.ensures.ok clean t was).1) (survives_foreign old mid c.next_wanting.ensures.survives) (survives_foreign mid new c.upload_numbered.ensures.survives)

pub returns-clause-ok : goal.returns-clause-ok
returns-clause-ok g c clean t was =
    let old = state g.S.Store c.args.conn.now in
    let mid = state g.S.Store c.next_wanting.new.conn in
    let new = state g.S.Store c.upload_numbered.new.conn in
    let early : HasCleanDisk mid = omega (arith, c.upload_numbered.ensures.survives.clean, clean) in
    let first = c.in_ok-id.ensures.ok early t was in
    let second = c.in_ok-upload.ensures.ok clean t (held_after old mid first.1 t was) in (
      sym (next_one t c.args.after c.in-Some.id c.in-Some-2.upload was.rows.uploads.rise (subst (IsNextWanting c.args.after (rows_of t.wants)) c.in-Some.is first.0)
          (sym second.0 ∙ c.in-Some-2.is)),
      unchanged_then old mid new first.1 second.1,
    )

pub returns-clause-survives : goal.returns-clause-survives
returns-clause-survives g c =
    let old = state g.S.Store c.args.conn.now in
    let mid = state g.S.Store c.next_wanting.new.conn in
    let new = state g.S.Store c.upload_numbered.new.conn in
    survives_after old mid new (λ clean t was. (c.in_ok-id.ensures.ok clean t was).1) (survives_foreign old mid c.next_wanting.ensures.survives) (survives_foreign mid new c.upload_numbered.ensures.survives)
