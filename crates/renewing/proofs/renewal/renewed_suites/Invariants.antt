use Rattle.std.proofs.Common.{◌≡◌, ◌++◌, drop}
use Rattle.book.specs.Book.{text_at}
use Rattle.book.specs.Keeping.{Reads}
use Rattle.renewing.specs.Renewal.{renewed_from}
use Rattle.renewing.proofs.renewal.renewed_suites.Given as goal

abbrev pub invariant-loop-suite : goal.invariant-loop-suite
invariant-loop-suite g l =
    let k = g.K.Keeper in
    let before = l.fn.keeper in
    let suites = (k.book before).config.suites in
    record {
      reads : Reads k.is_clean k.is_open k.faults k.book k.may_leave before l.keeper;
      served : k.is_clean l.keeper → k.is_open before → k.is_open l.keeper;
      texts : k.is_clean l.keeper → l.texts.items ++ renewed_from (text_at (k.book before)) l.amendment.shelves.now l.amendment.steps.now l.amendment.moment l.suite (drop l.suite suites) ≡ renewed_from (text_at (k.book before)) l.amendment.shelves.now l.amendment.steps.now l.amendment.moment 0 suites;
    }
