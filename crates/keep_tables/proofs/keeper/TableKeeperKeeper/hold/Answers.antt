use Rattle.std.proofs.Common.{inl, refl, arith}
use Rattle.tables_meaning.specs.Kept.{book_in}
use Rattle.keep_tables.proofs.keeper.TableKeeperKeeper.hold.Goals as goal

pub invariant_of-self : goal.invariant_of-self
unfolding book_in
invariant_of-self g c = record {
  idle = c.args.self.now.idle;
  in_range = c.args.self.now.in_range;
  kept = c.args.self.now.kept;
  under_way = c.args.self.now.under_way;
  at_hand = λ clean up. ∣ c.requires.shown clean up ∣₁;
  known = c.args.self.now.known;
}

pub returns-clause-reads : goal.returns-clause-reads
returns-clause-reads g c = record {
  lasts = record { clean = λ clean. clean; counts = omega arith; was_open = λ clean up. up; stays = λ clean up. inl up; config = refl };
  same = λ clean up. refl;
  crash = λ clean left might. might;
}
