use Rattle.std.proofs.Common.{◌≡◌, drop}
use Rattle.std.specs.List.{zip}
use Rattle.indices.specs.Indices.{text_at, texts_from}
use Rattle.texts.proofs.index.index_text.Given as goal

abbrev pub invariant-loop-position : goal.invariant-loop-position
invariant-loop-position l =
    text_at l.path (texts_from l.shelves l.position (zip (drop l.position l.suites) (drop l.position l.dates)))
    ≡ text_at l.path (texts_from l.shelves 0 (zip l.suites l.dates))
