use Rattle.std.proofs.Common.{◌≡◌, ◌++◌, drop, option_map, string_bytes}
use Rattle.pages.specs.IndexPage.{key_value, sections_from}
use Rattle.pages.proofs.index.push_sections.Given as goal

abbrev pub invariant-loop-position : goal.invariant-loop-position
invariant-loop-position l =
    string_bytes l.out ++ sections_from l.site l.shelves l.dates (option_map key_value l.key) l.position (drop l.position l.suites)
    ≡ string_bytes l.fn.out ++ sections_from l.site l.shelves l.dates (option_map key_value l.key) 0 l.suites
