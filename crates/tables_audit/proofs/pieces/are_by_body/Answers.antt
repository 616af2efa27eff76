use Rattle.tables_audit.proofs.pieces.are_by_body.Goals as goal

pub returns : goal.returns
returns c = c.are_in_order.ensures
