use Rattle.std.proofs.lemmas.Result.{IfOk-weaker}
use Rattle.std.proofs.Common.{[], sym, ap, ◌∙◌}
use Rattle.std.specs.Option.{option_map_or}
use Rattle.sqlite.specs.Held.{state}
use Rattle.tables_meaning.specs.Kept.{bytes_of}
use Rattle.tables_meaning.proofs.EndedLemmas.{goes_itself}
use Rattle.tables_meaning.proofs.ReadsLemmas.{rests_itself}
use Rattle.tables_bodies.proofs.listing.bytes_inside.Goals as goal

pub returns-in-Some-clause-ok : goal.returns-in-Some-clause-ok
returns-in-Some-clause-ok g c clean up t was =
    IfOk-weaker c.read_body_inside.result _ _ (λ bytes h. (h.0 ∙ sym (ap (λ o. option_map_or (bytes_of t) o []) c.in-Some.is), h.1)) (c.read_body_inside.ensures.ok clean t was)

pub returns-in-None-clause-ok : goal.returns-in-None-clause-ok
returns-in-None-clause-ok g c clean up t was =
    (c.new.ensures.items ∙ sym (ap (λ o. option_map_or (bytes_of t) o []) c.in-None.is), (rests_itself (state g.S.Store c.args.tx.now.conn.now)).unchanged up)

pub returns-in-None-clause-goes_on : goal.returns-in-None-clause-goes_on
returns-in-None-clause-goes_on g c clean inside up = goes_itself (state g.S.Store c.args.tx.now.conn.now) up inside
