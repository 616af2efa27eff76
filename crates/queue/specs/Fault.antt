-- Why a call of the archive is refused: the text of each fault. The definitions are those of `history`.
pub use Rattle.history.specs.Fault.{fault_text}
