use Rattle.tables_read.proofs.stored.FileStored.from_row.Goals as goal

pub returns-in-None-clause-none : goal.returns-in-None-clause-none
returns-in-None-clause-none c e x real spelled = c.in_ok-cells.ensures.none c.in-None.is (x.path, (record { number = x.body }, tt)) (real, (tt, tt)) spelled
