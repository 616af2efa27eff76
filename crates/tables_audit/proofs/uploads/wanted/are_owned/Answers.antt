use Rattle.std.proofs.Common.{◌&&◌, IsTrue, nat_eq, not, arith}
use Rattle.std.specs.List.{list_any}
use Rattle.tables.specs.Uploads.{is_judged as has_place}
use Rattle.tables_audit.proofs.UploadsLists.{all_fails, all_step}
use Rattle.tables_audit.proofs.uploads.wanted.are_owned.Goals as goal

pub returns-then-not-is_owned_by_number : goal.returns-then-not-is_owned_by_number
returns-then-not-is_owned_by_number c =
    all_fails c.args.wants.now c.loop-want.want-index c.loop-want-item.result (omega arith) c.loop-want-item.is
    (λ w. IsTrue (list_any (λ x. nat_eq x.0 w.upload && not (has_place x.1)) c.args.uploads.now.all.now))
    (grind arith)
    c.loop-want.invariant

pub loop-want-preserved : goal.loop-want-preserved
loop-want-preserved c =
    all_step c.args.wants.now c.loop-want.want-index c.loop-want-item.result (omega arith) c.loop-want-item.is
    (λ w. IsTrue (list_any (λ x. nat_eq x.0 w.upload && not (has_place x.1)) c.args.uploads.now.all.now))
    (grind arith)
    c.loop-want.invariant
