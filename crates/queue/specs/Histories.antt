-- Histories of calls and their outcomes. The definitions are those of `history`.
pub use Rattle.history.specs.Histories.{Call, Delivery, QueueRun, Copying, Lookup, WaitingList, Cleaning, Removing, Promoting, VerdictList, Reply, Stored, Lines, Count, Found, Copies, History, bodies_of, followed, opened_with}
