use Rattle.std.proofs.Common.{inl}
use Rattle.sqlite.specs.Held.{state}
use Rattle.tables_read.specs.All.{tables_with}
use Rattle.tables.proofs.ReadLemmas.{fails_unchanged}
use Rattle.tables_audit.proofs.WholeLemmas.{at_some}
use Rattle.old_book.proofs.FoundLemmas.{on_err_is, on_ok_is, shown_book, shown_none}
use Rattle.old_book.proofs.finding.book_as.Goals as goal

pub returns-in-Some-clause-some : goal.returns-in-Some-clause-some
returns-in-Some-clause-some g c clean =
    shown_book c.args.asked.now (state g.S.Store c.args.from.now).now (tables_with c.in-Some.all) c.old_book_in.result (at_some _ _ c.in-Some.all c.in-Some.is (c.in_ok-all.ensures.some clean)) c.old_book_in.ensures.some

pub returns-in-Some-clause-none : goal.returns-in-Some-clause-none
returns-in-Some-clause-none g c clean =
    shown_none c.args.asked.now (state g.S.Store c.args.from.now).now (tables_with c.in-Some.all) c.old_book_in.result (at_some _ _ c.in-Some.all c.in-Some.is (c.in_ok-all.ensures.some clean)) c.old_book_in.ensures.none

pub returns-in-Some-clause-unchanged : goal.returns-in-Some-clause-unchanged
returns-in-Some-clause-unchanged g c clean = on_ok_is c.old_book_in.result (c.in_ok-all.ensures.unchanged clean)

pub returns-in-Some-clause-err : goal.returns-in-Some-clause-err
returns-in-Some-clause-err g c clean =
    on_err_is c.old_book_in.result (fails_unchanged (state g.S.Store c.args.from.now) (state g.S.Store c.old_rows.new.from) (c.in_ok-all.ensures.unchanged clean))

pub returns-in-None-clause-none : goal.returns-in-None-clause-none
returns-in-None-clause-none g c clean none = inl (c.in_ok-all.ensures.none clean c.in-None.is)
