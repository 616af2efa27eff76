-- The connections up to the index were served, and the others are as they were.
use Rattle.std.proofs.Common.{◌≡◌, drop, take, length}
use Rattle.queue.specs.Steps.{Lasts}
use Rattle.desk.specs.Connections.{AreServed, visits}
use Rattle.desk.proofs.connection.attend.Given as goal

abbrev pub invariant-loop-connection : goal.invariant-loop-connection
invariant-loop-connection g l = record {
  to_come : drop l.connection-index l.connections ≡ drop l.connection-index l.initial.connections;
  size : length l.connections ≡ length l.initial.connections;
  lasts : Lasts g.K.Keeper l.initial.archive.keeper l.archive.keeper;
  served : AreServed g.K.Keeper l.initial.archive.keeper l.archive.keeper
      (visits l.desk.rules g.R.Read.remaining g.W.Write.contents (take l.connection-index l.initial.connections) (take l.connection-index l.connections));
}
