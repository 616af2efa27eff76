use Rattle.std.proofs.Common.{IsTrue, inl, ap, ◌∙◌, rules}
use Rattle.test_failing.specs.Disks.{left_of}
use Rattle.test_failing.proofs.disk.DiskKeeperKeeper.piece.Goals as goal

pub piece-requires : goal.piece-requires
piece-requires c =
    let up : IsTrue c.args.self.now.is_open = search rules in
    record { begun = λ clean is_up. c.requires.begun tt up }

pub returns-clause-stays : goal.returns-clause-stays
returns-clause-stays c = record {
  lasts = search rules;
  same = λ clean up. c.piece.ensures.stays.same tt tt;
  crash = λ clean left is. inl (is ∙ ap (left_of c.args.self.now.is_torn) (c.piece.ensures.stays.same tt tt));
}
