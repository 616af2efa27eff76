use Rattle.std.proofs.Common.{Option, None, Some, IfSome}
use Rattle.sums.specs.declared.print.Print.{Print}
use Rattle.tables.specs.Real.{IsRealPrint}
use Rattle.tables_read.specs.Layouts.{body_seen}
use Rattle.tables_read.specs.Reading.{Agree}
use Rattle.tables_read.proofs.stored.BodyRowStored.from_row.Goals as goal

pub returns-in-None-clause-none : goal.returns-in-None-clause-none
returns-in-None-clause-none c e x real spelled = go x.print real spelled
  where
    go : (o : Option Print) → IfSome o IsRealPrint → Agree c.args.row.now 1 (body_seen (record { print = o })) → ⊥
    go None q h = c.in_ok-cells.ensures.none c.in-None.is (None, (None, (None, (None, tt)))) (tt, (tt, (tt, (tt, tt)))) h
    go (Some p) q h = c.in_ok-cells.ensures.none c.in-None.is (Some p.size, (Some p.md5, (Some p.sha1, (Some p.sha256, tt)))) (tt, (q.md5, (q.sha1, (q.sha256, tt)))) h
