use Rattle.std.proofs.Common.{◌≡◌, ◌++◌, All, drop, length, option_map, take, zip}
use Rattle.book.specs.Keeping.{Reads}
use Rattle.suites.specs.Upload.{IsTextOf}
use Rattle.inquiry.specs.Reading.{kept_texts}
use Rattle.inquiry.proofs.reading.texts_of.Given as goal

-- the texts so far, and those of the entries that are left
abbrev pub invariant-loop-entry : goal.invariant-loop-entry
invariant-loop-entry g l =
    let k = g.K.Keeper in
    let before = l.fn.keeper in
    record {
      reads : Reads k.is_clean k.is_open k.faults k.book k.may_leave before l.keeper;
      served : k.is_clean l.keeper → k.is_open before → k.is_open l.keeper;
      count : length l.texts.items ≡ l.entry-index;
      kept : All IsTextOf (zip (take l.entry-index l.entries) l.texts.items);
      texts : k.is_clean l.keeper → k.is_open l.keeper
          → option_map (λ rest. l.texts.items ++ rest) (kept_texts (k.book before).arrivals (drop l.entry-index l.entries)) ≡ kept_texts (k.book before).arrivals l.entries;
    }
