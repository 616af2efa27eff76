use Rattle.tables_read.proofs.stored.WantStored.from_row.Goals as goal

pub returns-in-None-clause-none : goal.returns-in-None-clause-none
returns-in-None-clause-none c e x real spelled = c.in_ok-cells.ensures.none c.in-None.is (record { number = x.upload }, (x.name, (x.print.size, (x.print.md5, (x.print.sha1, (x.print.sha256, (x.here, tt))))))) (tt, (real.name, (tt, (real.print.md5, (real.print.sha1, (real.print.sha256, (tt, tt))))))) spelled
