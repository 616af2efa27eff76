use Rattle.sums.proofs.Results.{on_err}
use Rattle.desk.proofs.RequestLemmas.{received_long, refused_from_head}
use Rattle.desk.proofs.UniqueLemmas.{head_part}
use Rattle.desk.proofs.request.read_request.Goals as goal

pub returns-in-Limit-clause-ok : goal.returns-in-Limit-clause-ok
returns-in-Limit-clause-ok g c =
    let h = rw c.in-Limit.is at c.in_ok-read_head.ensures.ends in
    received_long _ _ _ c.read_head.ensures.read c.read_head.ensures.earlier h.0 h.1

pub returns-in-Ok-clause-ok : goal.returns-in-Ok-clause-ok
returns-in-Ok-clause-ok g c =
    let ends = rw c.in-EmptyLine.is at c.in_ok-read_head.ensures.ends in
    record {
      head = c.read_head.new.head.items;
      read = c.read_head.ensures.read;
      first = record { ends = ends; first = c.read_head.ensures.earlier; limit = c.read_head.ensures.bound };
      asked = rw c.as_slice.ensures.value at c.in-Ok.ensures;
    }

pub returns-in_err-read_head-clause-err : goal.returns-in_err-read_head-clause-err
returns-in_err-read_head-clause-err g c =
    on_err c.from_residual.result (record {
      front = c.read_head.new.head.items;
      read = c.read_head.ensures.read;
      used = head_part c.args.desk.now.rules c.read_head.new.head.items c.read_head.ensures.earlier c.read_head.ensures.bound;
    })

pub returns-in-Err-clause-ok : goal.returns-in-Err-clause-ok
returns-in-Err-clause-ok g c =
    let ends = rw c.in-EmptyLine.is at c.in_ok-read_head.ensures.ends in
    let asked = rw c.as_slice.ensures.value at c.in-Err.ensures in
    refused_from_head c.args.desk.now.rules _ _ c.read_head.new.head.items c.in-Err.refusal c.read_head.ensures.read
    (record { ends = ends; first = c.read_head.ensures.earlier; limit = c.read_head.ensures.bound }) asked
