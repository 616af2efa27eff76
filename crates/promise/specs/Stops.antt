-- A call of a keeper that may stop.
use Rattle.std.specs.Prelude.{ℕ, [], ◌∷◌}
use Rattle.rules.specs.Values.{ConfigValue}
use Rattle.book.specs.declared.keeper.Keeper.{Ghosts}
use Rattle.queue.specs.Answers.{IsFaithful, IsKept}
use Rattle.queue.specs.Configuring.{LeavesConfigured}
use Rattle.queue.specs.Histories.{Call, History}
use Rattle.queue.specs.Steps.{LeavesCall}

-- The call came to a keeper that was open and kept what the history leaves, and it says what a crash leaves.
pub record IsCalled {K : Type 0} (g : Ghosts K) (before after : K) (h : History) (call : Call) : Type 0 where
  pub was_clean : g.is_clean before
  pub was_open : g.is_open before
  pub kept : IsKept (g.is_open before) (g.book before) h
  pub faithful : IsFaithful h (call ∷ [])
  pub clean : g.is_clean after
  pub crash : LeavesCall g before call after

-- The keeper was open and kept what the history leaves when it was given another configuration, from a moment
-- on, and it says what a crash leaves.
pub record IsConfigured {K : Type 0} (g : Ghosts K) (before after : K) (h : History) (config : ConfigValue) (moment : ℕ) : Type 0 where
  pub was_clean : g.is_clean before
  pub was_open : g.is_open before
  pub kept : IsKept (g.is_open before) (g.book before) h
  pub clean : g.is_clean after
  pub crash : LeavesConfigured g before config moment after
