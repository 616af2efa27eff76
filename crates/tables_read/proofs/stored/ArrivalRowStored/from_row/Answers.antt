use Rattle.tables_read.proofs.stored.ArrivalRowStored.from_row.Goals as goal

pub returns-in-None-clause-none : goal.returns-in-None-clause-none
returns-in-None-clause-none c e x real spelled = c.in_ok-cells.ensures.none c.in-None.is (x.name, (record { number = x.body }, (x.moment, tt))) (real, (tt, (tt, tt))) spelled
