use Rattle.std.proofs.Common.{◌≡◌, length, map, take, zip, ap, sym, ◌∙◌, arith}
use Rattle.std.proofs.lemmas.List.{take_all}
use Rattle.std.proofs.lemmas.List.Elements.{All-same}
use Rattle.sqlite.specs.Held.{state}
use Rattle.sqlite.specs.State.{HasCleanDisk}
use Rattle.tables.proofs.ReadLemmas.{on_err}
use Rattle.suites.specs.Upload.{IsTextOf}
use Rattle.tables_meaning.specs.Reads.{text_in}
use Rattle.book.proofs.Lists.{texts_more}
use Rattle.tables_meaning.proofs.ReadsLemmas.{count_more, held_if_rested, mapped_more, rests_itself, rests_then, survives_itself, survives_rested, undone_if_rested, undone_rested}
use Rattle.keep_tables.proofs.uploads.texts_of.Goals as goal

pub loop-entry-init : goal.loop-entry-init
loop-entry-init g c = record {
  count = ap length c.new-texts.ensures.items;
  kept = λ k d h. absurd (omega (arith, h));
  idle = λ h. h;
  survives = survives_itself (state g.S.Store c.args.conn.now);
  read = λ clean t was. (c.new-texts.ensures.items, rests_itself (state g.S.Store c.args.conn.now));
}

pub loop-entry-preserved : goal.loop-entry-preserved
loop-entry-preserved g c =
    let old = state g.S.Store c.args.conn.now in
    let mid = state g.S.Store c.loop-entry.conn in
    let new = state g.S.Store c.text_of.new.conn in
    let entries = c.args.entries.now in
    let i = c.loop-entry.entry-index in
    let e = c.entry-item.result in
    let text = c.in_ok-text_of.field-0 in (
    record {
      count = count_more c.loop-entry.texts.items text c.in_ok-push.ensures.items c.loop-entry.invariant.count;
      kept = texts_more IsTextOf entries c.loop-entry.texts.items i e text c.loop-entry.invariant.count c.loop-entry-test.true c.entry-item.is c.in_ok-push.ensures.items
          c.loop-entry.invariant.kept c.in_ok-text_of.ensures.kept;
      idle = λ was. c.text_of.ensures.idle (c.loop-entry.invariant.idle was);
      survives = survives_rested old mid new (λ clean t was. (c.loop-entry.invariant.read clean t was).1) c.loop-entry.invariant.survives c.text_of.ensures.survives;
      read = λ clean t was.
          let early : HasCleanDisk mid = omega (arith, c.text_of.ensures.survives.clean, clean) in
          let before = c.loop-entry.invariant.read early t was in
          let read = c.in_ok-text_of.ensures.ok clean t (held_if_rested old mid before.1 t was) in (
            mapped_more (text_in t) entries i e c.loop-entry.texts.items c.loop-entry-test.true c.entry-item.is c.in_ok-push.ensures.items read.0 before.0,
            rests_then old mid new before.1 read.1,
          );
    }
    )

pub returns-in_err-text_of-clause-err : goal.returns-in_err-text_of-clause-err
returns-in_err-text_of-clause-err g c clean t was =
    let old = state g.S.Store c.args.conn.now in
    let mid = state g.S.Store c.loop-entry.conn in
    let new = state g.S.Store c.text_of.new.conn in
    let early : HasCleanDisk mid = omega (arith, c.text_of.ensures.survives.clean, clean) in
    let before = (c.loop-entry.invariant.read early t was).1 in
    on_err _ (undone_rested old mid new before (c.in_err-text_of.ensures.err clean t (held_if_rested old mid before t was)))

pub returns-in_err-text_of-clause-survives : goal.returns-in_err-text_of-clause-survives
returns-in_err-text_of-clause-survives g c =
    survives_rested (state g.S.Store c.args.conn.now) (state g.S.Store c.loop-entry.conn) (state g.S.Store c.text_of.new.conn)
    (λ clean t was. (c.loop-entry.invariant.read clean t was).1) c.loop-entry.invariant.survives c.text_of.ensures.survives

pub returns-in_err-push-clause-err : goal.returns-in_err-push-clause-err
returns-in_err-push-clause-err g c clean t was =
    let old = state g.S.Store c.args.conn.now in
    let mid = state g.S.Store c.loop-entry.conn in
    let new = state g.S.Store c.text_of.new.conn in
    let early : HasCleanDisk mid = omega (arith, c.text_of.ensures.survives.clean, clean) in
    let before = (c.loop-entry.invariant.read early t was).1 in
    on_err _ (undone_rested old mid new before (undone_if_rested mid new (c.in_ok-text_of.ensures.ok clean t (held_if_rested old mid before t was)).1))

pub returns-in_err-push-clause-survives : goal.returns-in_err-push-clause-survives
returns-in_err-push-clause-survives g c =
    survives_rested (state g.S.Store c.args.conn.now) (state g.S.Store c.loop-entry.conn) (state g.S.Store c.text_of.new.conn)
    (λ clean t was. (c.loop-entry.invariant.read clean t was).1) c.loop-entry.invariant.survives c.text_of.ensures.survives

pub returns-clause-count : goal.returns-clause-count
returns-clause-count g c =
    let all : c.loop-entry.entry-index ≡ length c.args.entries.now = omega (arith, c.loop-entry-test.false, c.loop-entry.auto.entry-index-end) in
    c.loop-entry.invariant.count ∙ all

pub returns-clause-kept : goal.returns-clause-kept
returns-clause-kept g c =
    let texts = c.loop-entry.texts.items in
    All-same IsTextOf (zip c.args.entries.now texts) (zip (take c.loop-entry.entry-index c.args.entries.now) texts)
    (ap (λ es. zip es texts) (sym (take_all c.loop-entry.entry-index c.args.entries.now c.loop-entry-test.false))) c.loop-entry.invariant.kept

pub returns-clause-ok : goal.returns-clause-ok
returns-clause-ok g c clean t was =
    let read = c.loop-entry.invariant.read clean t was in
    (read.0 ∙ ap (map (text_in t)) (take_all c.loop-entry.entry-index c.args.entries.now c.loop-entry-test.false), read.1)
