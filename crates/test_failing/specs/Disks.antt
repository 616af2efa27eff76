-- What is on a disk.
use Rattle.std.specs.Prelude.{Bool, true, false, Option, Some, None}
use Rattle.book.specs.Book.{Book}

-- the book, or no archive if a delivery was cut off
abbrev pub left_of : Bool → Book → Option Book
left_of true b = None
left_of false b = Some b
