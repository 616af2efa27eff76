-- Which deliveries are refused, whatever the archive holds. The definitions are those of `history`.
pub use Rattle.history.specs.Deliveries.{delivery_fault, most_named}
