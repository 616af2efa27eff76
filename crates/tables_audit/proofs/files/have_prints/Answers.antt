use Rattle.std.proofs.Common.{ap, refl, subst, sym, ◌∙◌}
use Rattle.std.specs.FinMap.{get}
use Rattle.std.specs.List.{All}
use Rattle.std.proofs.lemmas.List.{take_all}
use Rattle.suites.specs.Shelves.{pool}
use Rattle.tables_audit.specs.Files.{HasPrint}
use Rattle.tables_audit.proofs.FilesLemmas.{prints_more}
use Rattle.tables_audit.proofs.files.have_prints.Goals as goal

pub loop-file-preserved : goal.loop-file-preserved
loop-file-preserved c =
    prints_more (pool c.args.shelves.now) c.args.bodies.now.all.now c.args.files.now c.loop-file.file-index c.loop-file-item.result c.loop-file-test.true c.loop-file.invariant
    (subst (HasPrint (pool c.args.shelves.now) c.args.bodies.now.all.now) c.loop-file-item.is
    (sym c.print_by_number.ensures ∙ c.are_same.ensures.0 c.if-not-are_same.false ∙ c.file.ensures ∙ ap (get (pool c.args.shelves.now)) c.as_str.ensures))

pub returns : goal.returns
returns c = (
  λ _. subst (All (HasPrint (pool c.args.shelves.now) c.args.bodies.now.all.now)) (take_all c.loop-file.file-index c.args.files.now c.loop-file-test.false) c.loop-file.invariant,
  λ _. refl,
)
