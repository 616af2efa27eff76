use Rattle.std.proofs.Common.{not, arith}
use Rattle.tables.specs.Uploads.{is_judged as has_place}
use Rattle.tables_audit.proofs.UploadsLists.{passes_stays}
use Rattle.tables_audit.proofs.uploads.wanted.have_places.Goals as goal

pub returns-then-is_none : goal.returns-then-is_none
returns-then-is_none c =
    passes_stays (λ x. not (has_place x.1)) c.args.uploads.now c.loop-row.row-index c.row-item.result (omega arith) c.row-item.is (grind arith)
