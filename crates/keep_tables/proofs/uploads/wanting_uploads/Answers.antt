use Rattle.std.proofs.Common.{ℕ, [], ◌∷◌, ◌++◌, Some, None, ap, sym, ◌∙◌, arith}
use Rattle.std.proofs.lemmas.List.{append-nil, append_assoc}
use Rattle.sqlite.specs.Held.{state}
use Rattle.sqlite.specs.State.{HasCleanDisk}
use Rattle.sqlite.proofs.Callers.{unchanged_then}
use Rattle.tables.specs.declared.rows.UploadRow.{UploadRow}
use Rattle.tables.proofs.ReadLemmas.{on_err}
use Rattle.tables_meaning.proofs.ReadsLemmas.{held_if_rested, rests_if_unchanged, rests_itself, rests_then, survives_itself, survives_rested, undone_if_unchanged, undone_rested}
use Rattle.tables_meaning.proofs.WantingLemmas.{all_left, none_left, one_less, wanting_behind}
use Rattle.keep_tables.proofs.uploads.wanting_uploads.Goals as goal

pub loop-init : goal.loop-init
loop-init g c = record {
  idle = λ h. h;
  survives = survives_itself (state g.S.Store c.args.conn.now);
  read = λ clean t was. (ap (λ us. us ++ wanting_behind t None) c.new-uploads.ensures.items ∙ all_left t, rests_itself (state g.S.Store c.args.conn.now));
}

pub returns-in_err-id-clause-err : goal.returns-in_err-id-clause-err
returns-in_err-id-clause-err g c clean t was =
    let old = state g.S.Store c.args.conn.now in
    let mid = state g.S.Store c.loop.conn in
    let new = state g.S.Store c.next_upload.new.conn in
    let early : HasCleanDisk mid = omega (arith, c.next_upload.ensures.survives.clean, clean) in
    let before = (c.loop.invariant.read early t was).1 in
    on_err _ (undone_rested old mid new before (c.in_err-id.ensures.err clean t (held_if_rested old mid before t was)))

pub returns-in_err-id-clause-survives : goal.returns-in_err-id-clause-survives
returns-in_err-id-clause-survives g c =
    survives_rested (state g.S.Store c.args.conn.now) (state g.S.Store c.loop.conn) (state g.S.Store c.next_upload.new.conn)
    (λ clean t was. (c.loop.invariant.read clean t was).1) c.loop.invariant.survives c.next_upload.ensures.survives

pub returns-in_default-clause-ok : goal.returns-in_default-clause-ok
returns-in_default-clause-ok g c clean t was =
    let old = state g.S.Store c.args.conn.now in
    let mid = state g.S.Store c.loop.conn in
    let new = state g.S.Store c.next_upload.new.conn in
    let early : HasCleanDisk mid = omega (arith, c.next_upload.ensures.survives.clean, clean) in
    let before = c.loop.invariant.read early t was in
    let read = c.in_ok-id.ensures.ok clean t (held_if_rested old mid before.1 t was) in
    let none = none_left t c.loop.after (sym read.0 ∙ c.in_default.is) in (
      sym (append-nil c.loop.uploads.items) ∙ ap (λ us. c.loop.uploads.items ++ us) (sym none) ∙ before.0,
      unchanged_then old mid new (before.1.unchanged (before.1.stands.was_open read.1.0.was_open)) read.1,
    )

pub returns-in_err-push-clause-err : goal.returns-in_err-push-clause-err
returns-in_err-push-clause-err g c clean t was =
    let old = state g.S.Store c.args.conn.now in
    let mid = state g.S.Store c.loop.conn in
    let new = state g.S.Store c.next_upload.new.conn in
    let early : HasCleanDisk mid = omega (arith, c.next_upload.ensures.survives.clean, clean) in
    let before = (c.loop.invariant.read early t was).1 in
    on_err _ (undone_rested old mid new before (undone_if_unchanged mid new (c.in_ok-id.ensures.ok clean t (held_if_rested old mid before t was)).1))

pub returns-in_err-push-clause-survives : goal.returns-in_err-push-clause-survives
returns-in_err-push-clause-survives g c =
    survives_rested (state g.S.Store c.args.conn.now) (state g.S.Store c.loop.conn) (state g.S.Store c.next_upload.new.conn)
    (λ clean t was. (c.loop.invariant.read clean t was).1) c.loop.invariant.survives c.next_upload.ensures.survives

pub loop-preserved : goal.loop-preserved
loop-preserved g c =
    let old = state g.S.Store c.args.conn.now in
    let mid = state g.S.Store c.loop.conn in
    let new = state g.S.Store c.next_upload.new.conn in (
    record {
      idle = λ was. c.next_upload.ensures.idle (c.loop.invariant.idle was);
      survives = survives_rested old mid new (λ clean t was. (c.loop.invariant.read clean t was).1) c.loop.invariant.survives c.next_upload.ensures.survives;
      read = λ clean t was.
          let early : HasCleanDisk mid = omega (arith, c.next_upload.ensures.survives.clean, clean) in
          let before = c.loop.invariant.read early t was in
          let read = c.in_ok-id.ensures.ok clean t (held_if_rested old mid before.1 t was) in
          let one : ℕ × UploadRow = (c.in-Some.id, c.in-Some.upload) in
          let rest = wanting_behind t (Some c.in-Some.id) in (
            ap (λ us. us ++ rest) c.in_ok-push.ensures.items ∙ append_assoc c.loop.uploads.items (one ∷ []) rest
                ∙ ap (λ us. c.loop.uploads.items ++ us) (sym (one_less t c.loop.after one was.rows.uploads.rise (sym read.0 ∙ c.in-Some.is))) ∙ before.0,
            rests_then old mid new before.1 (rests_if_unchanged mid new read.1),
          );
    }
    )

pub returns-in_default-clause-survives : goal.returns-in_default-clause-survives
returns-in_default-clause-survives g c =
    survives_rested (state g.S.Store c.args.conn.now) (state g.S.Store c.loop.conn) (state g.S.Store c.next_upload.new.conn)
    (λ clean t was. (c.loop.invariant.read clean t was).1) c.loop.invariant.survives c.next_upload.ensures.survives
