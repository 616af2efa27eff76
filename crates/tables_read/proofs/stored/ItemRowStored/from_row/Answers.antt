use Rattle.tables_read.proofs.stored.ItemRowStored.from_row.Goals as goal

pub returns-in-None-clause-none : goal.returns-in-None-clause-none
returns-in-None-clause-none c e x real spelled = c.in_ok-cells.ensures.none c.in-None.is (x.suite, (x.kind, (x.«package», (x.architecture, (x.version, (x.component, (x.source, (x.paragraph, tt)))))))) (real.suite, (tt, (real.named, (real.architecture, (real.version, (real.component, (real.source, (tt, tt)))))))) spelled
