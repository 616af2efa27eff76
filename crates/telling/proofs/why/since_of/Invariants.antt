use Rattle.std.proofs.Common.{◌≡◌, drop}
use Rattle.inquiry.specs.Named.{moment_in}
use Rattle.telling.proofs.why.since_of.Given as goal

-- what is found is found among those that are left
abbrev pub invariant-loop-delivered : goal.invariant-loop-delivered
invariant-loop-delivered l = moment_in l.upload.print (drop l.delivered-index l.deliveries) ≡ moment_in l.upload.print l.deliveries
