use Rattle.std.specs.Prelude.{◌≡◌, [], map, take, if◌then◌else◌}
use Rattle.suites.specs.Upload.{has_text}
use Rattle.book.specs.Book.{body_for}
use Rattle.keep.specs.Scan.{counted}
use Rattle.keep.proofs.uploads.kept_texts.Given as goal

abbrev pub invariant-loop-entry : goal.invariant-loop-entry
invariant-loop-entry l =
    l.texts.items ≡ map (λ e. if has_text e.name then body_for (counted l.counting l.arrivals) e else []) (take l.entry-index l.entries)
