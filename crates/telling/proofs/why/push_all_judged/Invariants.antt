use Rattle.std.proofs.Common.{◌≡◌, ◌++◌, take}
use Rattle.book.specs.Keeping.{Reads}
use Rattle.telling.specs.Why.{judged_texts}
use Rattle.telling.proofs.why.push_all_judged.Given as goal

-- what is said of the uploads so far, by the book as it was
abbrev pub invariant-loop-judgement : goal.invariant-loop-judgement
invariant-loop-judgement g l =
    let k = g.K.Keeper in
    let before = l.fn.keeper in
    record {
      reads : Reads k.is_clean k.is_open k.faults k.book k.may_leave before l.keeper;
      served : k.is_clean l.keeper → k.is_open before → k.is_open l.keeper;
      text : k.is_clean l.keeper → k.is_open l.keeper
          → l.out.items ≡ l.fn.out.items ++ judged_texts (k.book before) l.shelves l.name l.is_json (take l.judgement-index l.judged);
    }
