-- Each fact about the rows reads some of the tables only: it holds of any rows that have these tables.
use Rattle.std.proofs.Common.{◌≡◌, List, sym, subst}
use Rattle.rules.specs.declared.suite.Suite.{Suite}
use Rattle.suites.specs.Shelves.{ShelvesValue}
use Rattle.tables.specs.Rows.{Tables}
use Rattle.tables_meaning.specs.Kept.{AreFiles, AreItems, AreStored, bytes_of, has_body}

module _ (old new : Tables) (suites : List Suite) (shown : ShelvesValue) where
  pub items_like : new.items ≡ old.items → new.refs ≡ old.refs → AreItems old suites shown → AreItems new suites shown
  items_like items refs h =
      let e : record old { items = new.items; refs = new.refs } ≡ old = λ i. record old { items = items i; refs = refs i } in
      let k : AreItems (record old { items = new.items; refs = new.refs }) suites shown = subst (λ t. AreItems t suites shown) (sym e) h in
      record { are = k.are; all = k.all; within = k.within; rows = k.rows; apart = k.apart; owned = k.owned }

  pub files_like : new.bodies ≡ old.bodies → new.files ≡ old.files → AreFiles old shown → AreFiles new shown
  unfolding has_body
  files_like bodies files h =
      let e : record old { bodies = new.bodies; files = new.files } ≡ old = λ i. record old { bodies = bodies i; files = files i } in
      let k : AreFiles (record old { bodies = new.bodies; files = new.files }) shown = subst (λ t. AreFiles t shown) (sym e) h in
      record { are = k.are; bodies = k.bodies; apart = k.apart }

pub stored_like : (old new : Tables) → new.pieces ≡ old.pieces → new.bodies ≡ old.bodies → AreStored old → AreStored new
unfolding bytes_of has_body
stored_like old new pieces bodies h =
    let e : record old { bodies = new.bodies; pieces = new.pieces } ≡ old = λ i. record old { bodies = bodies i; pieces = pieces i } in
    let k : AreStored (record old { bodies = new.bodies; pieces = new.pieces }) = subst AreStored (sym e) h in
    record { whole = k.whole; pieces = k.pieces; apart = k.apart; owned = k.owned }
