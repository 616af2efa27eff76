use Rattle.std.proofs.Common.{◌≡◌, ◌≢◌, ◌++◌, map, None}
use Rattle.std.specs.Prelude.{All, AllPairs}
use Rattle.std.specs.FinMap.{find, from_entries, get, values}
use Rattle.std.specs.Option.{option_or}
use Rattle.suites.specs.Items.{IsAtHome}
use Rattle.suites.specs.Keys.{key_order}
use Rattle.suites.specs.Pool.{AreAgreed, files_of}
use Rattle.suites.specs.declared.key.ShelfKey.{ShelfKey}
use Rattle.suites.proofs.moving.shelves_with.Given as goal

abbrev pub invariant-loop-key : goal.invariant-loop-key
invariant-loop-key l = record {
  left : (key : ShelfKey) → option_or (get l.shelves key) (find key_order key l.key-iterator.rest.items) ≡ get (from_entries {R = key_order} l.fn.entries.items) key;
  free : All (λ e. get l.shelves e.0 ≡ None) l.key-iterator.rest.items;
  apart : AllPairs (λ a b. a.0 ≢ b.0) l.key-iterator.rest.items;
  home : All IsAtHome l.key-iterator.rest.items;
  agreed : AreAgreed (files_of (values l.shelves) ++ files_of (map (λ e. e.1) l.key-iterator.rest.items));
}
