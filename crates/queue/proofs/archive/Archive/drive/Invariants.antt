use Rattle.std.proofs.Common.{◌≡◌, ◌≤◌, map, take, vec_len, length}
use Rattle.std.specs.Vec.{vec_capacity}
use Rattle.history.specs.Steps.{DoesAll, IsServedLast, Lasts, LeavesRun}
use Rattle.history.specs.Commands.{call_of, outcome_of, kind_of_command, kind_of_outcome}
use Rattle.queue.proofs.archive.Archive.drive.Given as goal

abbrev pub invariant-loop-command : goal.invariant-loop-command
invariant-loop-command g l =
    record {
      count : vec_len l.outcomes ≡ l.command-index;
      kinds : map kind_of_outcome l.outcomes.items ≡ map kind_of_command (take l.command-index l.commands);
      room : length l.commands ≤ vec_capacity l.outcomes;
      lasts : Lasts g.K.Keeper l.fn.self.keeper l.self.keeper;
      served : IsServedLast g.K.Keeper l.self.keeper (map outcome_of l.outcomes.items);
      does : DoesAll g.K.Keeper l.fn.self.keeper (map call_of (take l.command-index l.commands)) (map outcome_of l.outcomes.items) l.self.keeper;
      leaves : LeavesRun g.K.Keeper l.fn.self.keeper (map call_of (take l.command-index l.commands)) (map outcome_of l.outcomes.items) l.self.keeper;
    }
