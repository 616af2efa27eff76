-- The plain archive of a history, and the book that it leaves. The definitions are those of `history`.
pub use Rattle.history.specs.Archives.{Stands, book_of}
