-- What another configuration makes of an archive. The definitions are those of `history`.
pub use Rattle.history.specs.Configuring.{Endures, IsLeftConfigured, LeavesConfigured}
