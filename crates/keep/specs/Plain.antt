-- The book of a plain keeper.
use Rattle.std.specs.Prelude.{ℕ, List, Option}
use Rattle.std.specs.Option.{option_map}
use Rattle.book.specs.Book.{Book}
use Rattle.keep.specs.Scan.{body_at}
use Rattle.keep.specs.declared.plain.PlainKeeper.{PlainKeeper}

-- the book that a plain keeper keeps
unfoldable pub plain_book : PlainKeeper → Book
plain_book k = record {
  config = k.config;
  arrivals = k.arrivals.items;
  judged = k.judged.items;
  shown = k.shelves;
  files = body_at k.files.items;
  dates = k.dates.items;
}

-- the bytes so far of the body that is coming to a plain keeper
abbrev pub plain_coming : PlainKeeper → Option (List ℕ)
plain_coming k = option_map (λ body. body.items) k.coming
