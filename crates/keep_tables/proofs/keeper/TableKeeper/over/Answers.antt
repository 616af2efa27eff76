use Rattle.keep_tables.proofs.keeper.TableKeeper.over.Goals as goal

pub invariant_of-result : goal.invariant_of-result
invariant_of-result g c = record {
  idle = c.requires.idle;
  in_range = c.requires.in_range;
  kept = c.requires.kept;
  under_way = λ clean up. ∣ c.requires.whole clean up ∣₁;
  at_hand = λ clean up. ∣ c.requires.shown clean up ∣₁;
  known = c.requires.known;
}
