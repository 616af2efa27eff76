use Rattle.std.proofs.Common.{arith}
use Rattle.rules.proofs.Sizes.{largest-greatest}
use Rattle.commands.proofs.files.most_read.Goals as goal

pub overflow_add-result : goal.overflow_add-result
overflow_add-result g c = let small = largest-greatest c.config.result.now in let is = c.largest_file-taken.ensures in omega (arith, small, is)
