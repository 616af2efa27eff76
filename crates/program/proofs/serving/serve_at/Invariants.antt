-- The connections so far were served, each at a moment that the moments have now or had on the way.
use Rattle.std.proofs.Common.{◌≡◌, ◌≤◌, None}
use Rattle.desk.specs.Connections.{HasServed, IsClientsWithin}
use Rattle.program.proofs.serving.serve_at.Given as goal

abbrev pub invariant-loop-served : goal.invariant-loop-served
invariant-loop-served g l = record {
  turns : HasServed g.K.Keeper l.served (IsClientsWithin l.desk.rules l.initial.moments.greatest l.moments.greatest) l.initial.archive.keeper l.archive.keeper;
  rises : l.initial.moments.greatest ≤ l.moments.greatest;
  still : l.initial.moments.file ≡ None → l.moments.greatest ≡ l.initial.moments.greatest;
  file : l.moments.file ≡ l.initial.moments.file;
}
