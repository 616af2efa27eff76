use Rattle.std.proofs.Common.{◌∙◌}
use Rattle.std.proofs.lemmas.Result.{IfOk-weaker}
use Rattle.tables_read.specs.All.{tables_with}
use Rattle.tables_audit.proofs.FilesLemmas.{fit_of}
use Rattle.tables_audit.proofs.files.are_files_of.Goals as goal

pub returns : goal.returns
returns c = record {
  fit =
      IfOk-weaker c.are_those.result _ _
      (λ b h keys.
      fit_of b (tables_with c.args.all.now) c.args.shelves.now c.new-bodies.result.all.now c.as_slice-2.result.now (c.new-bodies.ensures ∙ c.as_slice.ensures.value) c.as_slice-2.ensures.value h keys)
      c.are_those.ensures;
}
