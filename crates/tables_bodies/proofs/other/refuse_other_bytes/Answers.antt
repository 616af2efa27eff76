use Rattle.tables_bodies.proofs.other.refuse_other_bytes.Goals as goal

pub returns-clause-ok : goal.returns-clause-ok
returns-clause-ok g c clean t was =
    let same = c.in_ok-same.ensures.ok clean t was in
    (same.0 c.if-not-same.false, same.1)
