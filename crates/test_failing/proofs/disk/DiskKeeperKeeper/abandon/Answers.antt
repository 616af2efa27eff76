use Rattle.std.proofs.Common.{inl, ap, ◌∙◌, rules}
use Rattle.test_failing.specs.Disks.{left_of}
use Rattle.test_failing.proofs.disk.DiskKeeperKeeper.abandon.Goals as goal

pub returns-clause-stays : goal.returns-clause-stays
returns-clause-stays c = record {
  lasts = search rules;
  same = λ clean up. c.abandon.ensures.stays.same tt tt;
  crash = λ clean left is. inl (is ∙ ap (left_of c.args.self.now.is_torn) (c.abandon.ensures.stays.same tt tt));
}
