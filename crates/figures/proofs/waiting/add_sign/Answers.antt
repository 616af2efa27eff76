use Rattle.figures.proofs.Looked.{signs_more}
use Rattle.figures.proofs.waiting.add_sign.Goals as goal

pub returns : goal.returns
returns c = λ uploads has.
    signs_more c.args.signs.now c.insert.new.self _ c.args.upload.now uploads c.in_ok-new.ensures c.in_ok-insert.ensures.updates.0 has
