use Rattle.std.proofs.Common.{◌≡◌, ◌++◌, ℕ, Option, length, ap, sym, ◌∙◌, arith}
use Rattle.std.specs.List.{filter_map}
use Rattle.sqlite.specs.Held.{state}
use Rattle.sqlite.specs.State.{HasCleanDisk}
use Rattle.sqlite.proofs.Callers.{unchanged_then}
use Rattle.book.specs.declared.arrived.ArrivedFile.{ArrivedFile}
use Rattle.tables.proofs.ReadLemmas.{on_err}
use Rattle.tables.specs.Rows.{Tables}
use Rattle.tables.specs.declared.rows.ArrivalRow.{ArrivalRow}
use Rattle.tables_meaning.proofs.ReadsLemmas.{found_all, found_more, held_after, survives_after, survives_foreign, undone_after, undone_if_unchanged}
use Rattle.keep_tables.specs.Arrived.{file_in, files_in}
use Rattle.keep_tables.proofs.arrived.arrived_files.Goals as goal

abbrev one : Tables → ℕ × ArrivalRow → Option ArrivedFile
one t x = file_in t x.1

pub returns-in_err-row-items-clause-survives : goal.returns-in_err-row-items-clause-survives
returns-in_err-row-items-clause-survives g c = survives_foreign (state g.S.Store c.args.conn.now) (state g.S.Store c.all_arrivals.new.conn) c.all_arrivals.ensures.survives

pub loop-row-init : goal.loop-row-init
unfolding files_in
loop-row-init g c = record {
  idle = c.all_arrivals.ensures.idle;
  survives = survives_foreign (state g.S.Store c.args.conn.now) (state g.S.Store c.all_arrivals.new.conn) c.all_arrivals.ensures.survives;
  read = λ clean t was.
      let read = c.in_ok-row-items.ensures.ok clean t was in
      let rest = c.into_iter-row-iterator.result.rest.items in
      (ap (λ fs. fs ++ filter_map (one t) rest) c.new-files.ensures.items ∙ ap (filter_map (one t)) (c.into_iter-row-iterator.ensures.into_iter_gives.0 ∙ read.0), read.1);
}

pub loop-row-preserved : goal.loop-row-preserved
loop-row-preserved g c =
    let old = state g.S.Store c.args.conn.now in
    let mid = state g.S.Store c.loop-row.conn in
    let new = state g.S.Store c.read_file.new.conn in (
    record {
      idle = λ was. c.read_file.ensures.idle (c.loop-row.invariant.idle was);
      survives = survives_after old mid new (λ clean t was. (c.loop-row.invariant.read clean t was).1) c.loop-row.invariant.survives c.read_file.ensures.survives;
      read = λ clean t was.
          let early : HasCleanDisk mid = omega (arith, c.read_file.ensures.survives.clean, clean) in
          let before = c.loop-row.invariant.read early t was in
          let read = c.in_ok-file.ensures.ok clean t (held_after old mid before.1 t was) in (
            found_more (one t) c.loop-row.files.items c.in-Some.row c.next.new.self.rest.items c.in_ok-push.ensures.items (sym read.0) c.in-Some.ensures.steps.0 before.0,
            unchanged_then old mid new before.1 read.1,
          );
    }
    )

pub returns-in_err-file-clause-err : goal.returns-in_err-file-clause-err
returns-in_err-file-clause-err g c clean t was =
    let old = state g.S.Store c.args.conn.now in
    let mid = state g.S.Store c.loop-row.conn in
    let new = state g.S.Store c.read_file.new.conn in
    let early : HasCleanDisk mid = omega (arith, c.read_file.ensures.survives.clean, clean) in
    let before = (c.loop-row.invariant.read early t was).1 in
    on_err _ (undone_after old mid new before (c.in_err-file.ensures.err clean t (held_after old mid before t was)))

pub returns-in_err-file-clause-survives : goal.returns-in_err-file-clause-survives
returns-in_err-file-clause-survives g c =
    survives_after (state g.S.Store c.args.conn.now) (state g.S.Store c.loop-row.conn) (state g.S.Store c.read_file.new.conn)
    (λ clean t was. (c.loop-row.invariant.read clean t was).1) c.loop-row.invariant.survives c.read_file.ensures.survives

pub returns-in_err-push-clause-err : goal.returns-in_err-push-clause-err
returns-in_err-push-clause-err g c clean t was =
    let old = state g.S.Store c.args.conn.now in
    let mid = state g.S.Store c.loop-row.conn in
    let new = state g.S.Store c.read_file.new.conn in
    let early : HasCleanDisk mid = omega (arith, c.read_file.ensures.survives.clean, clean) in
    let before = (c.loop-row.invariant.read early t was).1 in
    let read = c.in_ok-file.ensures.ok clean t (held_after old mid before t was) in
    on_err _ (undone_after old mid new before (undone_if_unchanged mid new read.1))

pub returns-in_err-push-clause-survives : goal.returns-in_err-push-clause-survives
returns-in_err-push-clause-survives g c =
    survives_after (state g.S.Store c.args.conn.now) (state g.S.Store c.loop-row.conn) (state g.S.Store c.read_file.new.conn)
    (λ clean t was. (c.loop-row.invariant.read clean t was).1) c.loop-row.invariant.survives c.read_file.ensures.survives

pub returns-clause-ok : goal.returns-clause-ok
returns-clause-ok g c clean t was =
    let none : length c.loop-row.row-iterator.rest.items ≡ 0 = omega (arith, c.in-None.ensures.steps.0, c.loop-row.row-iterator.rest.ok.0) in
    let read = c.loop-row.invariant.read clean t was in
    (found_all (one t) c.loop-row.files.items c.loop-row.row-iterator.rest.items none read.0, read.1)
