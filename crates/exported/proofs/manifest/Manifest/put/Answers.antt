use Rattle.std.proofs.Common.{ap, ◌∙◌}
use Rattle.exported.specs.Names.{is_pool_path}
use Rattle.exported.proofs.PathLemmas.{inserted_or_not}
use Rattle.exported.proofs.manifest.Manifest.put.Goals as goal

pub invariant_of-self-2 : goal.invariant_of-self-2
invariant_of-self-2 c = record {
  within = inserted_or_not c.insert.result _ c.args.self.now.words.entries c.insert.new.self.entries c.in_ok-from_str.field-0 c.args.known c.insert.ensures.entries c.insert.ensures.err
      (ap is_pool_path c.in_ok-from_str.ensures.ok ∙ c.requires) c.args.self.now.within;
}
