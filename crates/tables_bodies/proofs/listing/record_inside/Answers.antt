use Rattle.std.proofs.Common.{sym, ap, ◌∙◌}
use Rattle.std.proofs.lemmas.Result.{IfOk-weaker}
use Rattle.sqlite.specs.Held.{state}
use Rattle.tables.proofs.TransactionLemmas.{on_err}
use Rattle.tables_meaning.specs.Coming.{bytes_so_far}
use Rattle.tables_meaning.specs.Taking.{listed_in}
use Rattle.tables_meaning.proofs.EndedLemmas.{goes_itself, keeps_if_going, listed_none}
use Rattle.tables_meaning.proofs.ReadsLemmas.{rests_itself}
use Rattle.tables_bodies.proofs.listing.record_inside.Goals as goal

pub returns-then-not-is_changes_name-clause-ok : goal.returns-then-not-is_changes_name-clause-ok
returns-then-not-is_changes_name-clause-ok g c clean up t was = (
  listed_none c.args.name.now (bytes_so_far t c.args.body) (sym c.is_changes_name.ensures ∙ c.if-not-is_changes_name.true),
  (rests_itself (state g.S.Store c.args.tx.now.conn.now)).unchanged up,
)

pub returns-then-not-is_changes_name-clause-goes_on : goal.returns-then-not-is_changes_name-clause-goes_on
returns-then-not-is_changes_name-clause-goes_on g c clean inside up = goes_itself (state g.S.Store c.args.tx.now.conn.now) up inside

pub returns-clause-ok : goal.returns-clause-ok
returns-clause-ok g c clean up t was =
    let read = c.in_ok-bytes.ensures.ok clean up t was in
    IfOk-weaker c.record_of.result _ _ (λ found h. (h ∙ ap (listed_in c.args.name.now) (c.as_slice.ensures.value ∙ read.0), read.1)) c.record_of.ensures

pub returns-clause-kept : goal.returns-clause-kept
returns-clause-kept g c clean inside up =
    on_err c.record_of.result (keeps_if_going (state g.S.Store c.args.tx.now.conn.now) (state g.S.Store c.bytes_inside.new.tx.conn.now) (c.in_ok-bytes.ensures.goes_on clean inside up))
