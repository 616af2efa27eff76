use Rattle.tables_audit.proofs.FilesLemmas.{those_from, those_to}
use Rattle.tables_audit.proofs.files.are_those.Goals as goal

pub returns : goal.returns
returns c = (
  λ yes.
      those_from c.args.shelves.now c.args.bodies.now.all.now c.args.files.now c.files.result.now c.in_ok-paths.paths c.files.ensures c.in_ok-paths.ensures
      (c.have_prints.ensures.0 c.if-not-have_prints.false) (c.has_each.ensures.0 yes),
  λ those. c.has_each.ensures.1 (those_to c.args.shelves.now c.args.bodies.now.all.now c.args.files.now c.files.result.now c.in_ok-paths.paths c.files.ensures c.in_ok-paths.ensures those),
)
