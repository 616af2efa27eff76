use Rattle.std.proofs.Common.{◌≡◌, List, length, ap, subst, ◌∙◌, arith}
use Rattle.sqlite.specs.Held.{state}
use Rattle.sqlite.specs.State.{HasCleanDisk}
use Rattle.sqlite.proofs.Callers.{unchanged_then}
use Rattle.rules.specs.declared.suite.Suite.{Suite}
use Rattle.tables.specs.declared.rows.Ref.{Ref}
use Rattle.tables_meaning.specs.Kept.{ref_order}
use Rattle.tables_meaning.specs.Reads.{sorted_by}
use Rattle.tables_meaning.specs.Shown.{PutsRow}
use Rattle.indices.proofs.Paths.{config_codenames}
use Rattle.tables_meaning.proofs.ReadsLemmas.{held_after, survives_after, survives_foreign}
use Rattle.tables_meaning.proofs.ShownLemmas.{all_left, none_left, one_less, shown_is}
use Rattle.keep_tables.proofs.shelves.read_shelves.Goals as goal

pub returns-in_err-id-items-clause-survives : goal.returns-in_err-id-items-clause-survives
returns-in_err-id-items-clause-survives g c =
    survives_foreign (state g.S.Store c.args.conn.now) (state g.S.Store c.select_items.new.conn) c.select_items.ensures.survives

pub loop-id-init : goal.loop-id-init
loop-id-init g c = record {
  idle = c.select_items.ensures.idle;
  survives = survives_foreign (state g.S.Store c.args.conn.now) (state g.S.Store c.select_items.new.conn) c.select_items.ensures.survives;
  read = λ clean t was.
      let read = c.in_ok-items.ensures.ok clean t was in
      (all_left c.args.config.now.suites t _ c.into_iter-id-iterator.result.rest.items c.new-shelves.ensures (c.into_iter-id-iterator.ensures.into_iter_gives.0 ∙ read.0), read.1);
}

pub loop-id-preserved : goal.loop-id-preserved
loop-id-preserved g c =
    let old = state g.S.Store c.args.conn.now in
    let mid = state g.S.Store c.loop-id.conn in
    let new = state g.S.Store c.refs_of.new.conn in (
    record {
      idle = λ was. c.refs_of.ensures.idle (c.loop-id.invariant.idle was);
      survives = survives_after old mid new (λ clean t was. (c.loop-id.invariant.read clean t was).1) c.loop-id.invariant.survives (survives_foreign mid new c.refs_of.ensures.survives);
      read = λ clean t was.
          let early : HasCleanDisk mid = omega (arith, c.refs_of.ensures.survives.clean, clean) in
          let before = c.loop-id.invariant.read early t was in
          let read = c.in_ok-refs_of.ensures.ok clean t (held_after old mid before.1 t was) in
          let refs = c.in_ok-refs.ensures ∙ ap (sorted_by ref_order) read.0 in (
            one_less c.args.config.now.suites t c.loop-id.shelves c.put_row.new.shelves (c.in-Some.id, c.in-Some.row) c.next.new.self.rest.items c.loop-id.id-iterator.rest.items
                (subst (λ (p : List Suite × List Ref). PutsRow p.0 c.in-Some.row p.1 c.loop-id.shelves c.put_row.new.shelves) (λ i. (c.suites.ensures i, refs i)) c.in_ok-put_row.ensures.ok)
                c.in-Some.ensures.steps.0 before.0,
            unchanged_then old mid new before.1 read.1,
          );
    }
    )

pub returns-in_err-refs_of-clause-survives : goal.returns-in_err-refs_of-clause-survives
returns-in_err-refs_of-clause-survives g c =
    survives_after (state g.S.Store c.args.conn.now) (state g.S.Store c.loop-id.conn) (state g.S.Store c.refs_of.new.conn)
    (λ clean t was. (c.loop-id.invariant.read clean t was).1) c.loop-id.invariant.survives
    (survives_foreign (state g.S.Store c.loop-id.conn) (state g.S.Store c.refs_of.new.conn) c.refs_of.ensures.survives)

pub returns-in_err-refs-clause-survives : goal.returns-in_err-refs-clause-survives
returns-in_err-refs-clause-survives g c =
    survives_after (state g.S.Store c.args.conn.now) (state g.S.Store c.loop-id.conn) (state g.S.Store c.refs_of.new.conn)
    (λ clean t was. (c.loop-id.invariant.read clean t was).1) c.loop-id.invariant.survives
    (survives_foreign (state g.S.Store c.loop-id.conn) (state g.S.Store c.refs_of.new.conn) c.refs_of.ensures.survives)

pub returns-in_err-put_row-clause-survives : goal.returns-in_err-put_row-clause-survives
returns-in_err-put_row-clause-survives g c =
    survives_after (state g.S.Store c.args.conn.now) (state g.S.Store c.loop-id.conn) (state g.S.Store c.refs_of.new.conn)
    (λ clean t was. (c.loop-id.invariant.read clean t was).1) c.loop-id.invariant.survives
    (survives_foreign (state g.S.Store c.loop-id.conn) (state g.S.Store c.refs_of.new.conn) c.refs_of.ensures.survives)

pub returns-clause-ok : goal.returns-clause-ok
returns-clause-ok g c clean t was shown items sound =
    let none : length c.loop-id.id-iterator.rest.items ≡ 0 = omega (arith, c.in-None.ensures.steps.0, c.loop-id.id-iterator.rest.ok.0) in
    none_left c.args.config.now.suites t c.loop-id.shelves c.loop-id.id-iterator.rest.items none (c.loop-id.invariant.read clean t was).0
    ∙ shown_is t c.args.config.now.suites shown items sound.at_home (config_codenames c.args.config.now c.text.ensures.read)
