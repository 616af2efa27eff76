-- The pieces so far are whole ones, and have come.
use Rattle.std.proofs.Common.{◌≡◌, ◌++◌, ◌%◌, ◌<◌, List, ℕ, Some, length}
use Rattle.sqlite.specs.Held.{state}
use Rattle.tables.specs.Rows.{tables_in}
use Rattle.tables_bodies.specs.UnderWay.{coming_in}
use Rattle.keep_tables.proofs.KeeperWords.{StaysIn, clean_in, open_in}
use Rattle.keep_tables.proofs.keeper.TableKeeperKeeper.arrive.Given as goal

abbrev pub invariant-loop-rest : goal.invariant-loop-rest
invariant-loop-rest g l = record {
  stays : StaysIn g.S.Store l.fn.self l.self;
  served : clean_in g.S.Store l.self → open_in g.S.Store l.self;
  parts : (front : List ℕ) × (l.fn.body ≡ front ++ l.rest) × (0 < length l.rest → length front % 65536 ≡ 0)
      × (clean_in g.S.Store l.self → coming_in (tables_in (state g.S.Store l.self.conn).committed) l.self.begun ≡ Some front);
}

abbrev pub decreases-loop-rest : goal.decreases-loop-rest
decreases-loop-rest g l = length l.rest
