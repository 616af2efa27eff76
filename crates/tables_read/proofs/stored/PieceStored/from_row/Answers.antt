use Rattle.tables_read.proofs.stored.PieceStored.from_row.Goals as goal

pub returns-in-None-clause-none : goal.returns-in-None-clause-none
returns-in-None-clause-none c e x real spelled = c.in_ok-cells.ensures.none c.in-None.is (record { number = x.body }, (x.number, (x.bytes, tt))) (tt, (tt, (tt, tt))) spelled
