use Rattle.std.proofs.Common.{IsTrue, Some, inl, inr, ap, ◌∙◌, rules}
use Rattle.keep.specs.Plain.{plain_book}
use Rattle.test_failing.specs.Disks.{left_of}
use Rattle.test_failing.proofs.disk.DiskKeeperKeeper.finish.Goals as goal

pub returns-in-Ok-clause-crash : goal.returns-in-Ok-clause-crash
returns-in-Ok-clause-crash c clean left is =
    let up : IsTrue c.args.self.now.is_open = search rules in
    let whole = ap (λ torn. left_of torn (plain_book c.finish.new.self)) (c.args.self.now.whole up) in
    inr (up, λ body begun bodies apart has here. is ∙ whole ∙ ap Some (c.in-Ok.ensures.ok tt body begun bodies apart has here))

pub returns-in-Err-clause-crash : goal.returns-in-Err-clause-crash
returns-in-Err-clause-crash c clean left is = inl (is ∙ ap (left_of c.args.self.now.is_torn) (c.in-Err.ensures.err tt tt))

pub finish-requires-clause-whole : goal.finish-requires-clause-whole
finish-requires-clause-whole c clean is_up =
    let up : IsTrue c.args.self.now.is_open = search rules in
    c.requires.whole tt up
