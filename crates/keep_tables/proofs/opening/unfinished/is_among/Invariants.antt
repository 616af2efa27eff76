use Rattle.std.proofs.Common.{◌≡◌, drop}
use Rattle.keep_tables.specs.Finishing.{is_among}
use Rattle.keep_tables.proofs.opening.unfinished.is_among.Given as goal

abbrev pub invariant-loop-one : goal.invariant-loop-one
invariant-loop-one l = is_among (drop l.one-index l.ids) l.id ≡ is_among l.ids l.id
