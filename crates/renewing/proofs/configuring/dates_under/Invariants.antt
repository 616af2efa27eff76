use Rattle.std.proofs.Common.{◌≡◌, ◌≤◌, ◌++◌, All, drop, length, map}
use Rattle.std.specs.List.{enumerate_from}
use Rattle.book.specs.Book.{latest}
use Rattle.book.specs.Configured.{date_under, dates_under}
use Rattle.book.specs.Keeping.{Reads}
use Rattle.renewing.proofs.configuring.dates_under.Given as goal

abbrev pub invariant-loop-position : goal.invariant-loop-position
invariant-loop-position g l =
    let k = g.K.Keeper in
    let before = l.fn.keeper in
    record {
      reads : Reads k.is_clean k.is_open k.faults k.book k.may_leave before l.keeper;
      served : k.is_clean l.keeper → k.is_open before → k.is_open l.keeper;
      dates : k.is_clean l.keeper → k.is_open before → l.dates.items ++ map (date_under (k.book before) l.shelves l.moment) (enumerate_from l.position (drop l.position l.config.suites))
          ≡ dates_under l.config l.shelves l.moment (k.book before);
      count : length l.dates.items ≡ l.position;
      in_range : All (λ date. date ≤ latest) l.dates.items;
    }
