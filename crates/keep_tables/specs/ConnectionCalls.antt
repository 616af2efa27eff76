-- What the contracts of a keeper's calls over its connection say: a word for each clause, or for a part that stands in several,
-- beside those of tables_meaning/specs/Calls. `before` and `after` are what is committed before and after the call.
use Rattle.std.specs.Prelude.{◌≡◌, ℕ, Bool, true, false, not, List, [], Option, Result, IfOk, OnOk}
use Rattle.std.specs.List.{list_any}
use Rattle.sqlite_trees.specs.declared.store.Store.{Ghosts}
use Rattle.sqlite.specs.Effect.{Database}
use Rattle.sqlite.specs.Held.{Held, state}
use Rattle.sqlite.specs.State.{HasCleanDisk}
use Rattle.rules.specs.Values.{ConfigValue}
use Rattle.suites.specs.Shelves.{ShelvesValue}
use Rattle.book.specs.Book.{at_moment, span}
use Rattle.book.specs.declared.arrival.Arrival.{Arrival}
use Rattle.book.specs.declared.change.Change.{Change}
use Rattle.book.specs.declared.change.Judgement.{Judgement}
use Rattle.tables.specs.Rows.{tables_in}
use Rattle.tables_meaning.specs.Archives.{Amends, KeepsArchive, Turns}
use Rattle.tables_meaning.specs.Calls.{Delivers, OverMoved, OverOnePiece, OverSound, OverWhole, StaysComing, WithBook, has_delivery}
use Rattle.tables_meaning.specs.Coming.{HasComing}
use Rattle.tables_meaning.specs.Configuring.{Reconfigures}
use Rattle.tables_meaning.specs.Making.{takes_file}
use Rattle.tables_bodies.specs.declared.at_once.OnePiece.{OnePiece}
use Rattle.tables_bodies.specs.declared.finishing.Finished.{Finished}

-- P holds of what is committed before and after, on a disk that returns what was written to it
abbrev pub OnCommitted : {S : Type 0} → Ghosts S → Held S → Held S → (Database → Database → Type 0) → Type 0
OnCommitted store old new P = HasCleanDisk (state store new) → P (state store old).committed (state store new).committed

-- nothing is coming
abbrev pub NothingComes : Database → Type 0
NothingComes db = HasComing (tables_in db) []

-- ---- a body that arrives

-- the file whose body came whole, as it arrives
abbrev pub arrival_of : Finished → List ℕ → Arrival
arrival_of finished body = record { name = finished.name.now; body = body; moment = finished.moment }

-- the file whose body is one piece, as it arrives
abbrev pub arrival_at_once : OnePiece → Arrival
arrival_at_once file = record { name = file.name.now; body = file.bytes.now; moment = file.moment }

module _ (before : Database) where
  -- P holds of the delivery of this body, whatever archive the database keeps and whatever bytes of the body have come, if they may be
  -- delivered
  abbrev pub OverFinished : Finished → (Arrival → ConfigValue → List Judgement → ShelvesValue → List ℕ → Type 0) → Type 0
  OverFinished finished P =
      OverWhole before finished.body finished.pieces finished.print finished.name.now (λ config judged shown dates body. P (arrival_of finished body) config judged shown dates)

  -- P holds of the delivery of this file, whatever archive the database keeps, if nothing is coming and the file may be
  -- delivered
  abbrev pub OverFile : OnePiece → (Arrival → ConfigValue → List Judgement → ShelvesValue → List ℕ → Type 0) → Type 0
  OverFile file P = OverOnePiece before file.name.now file.bytes.now (P (arrival_at_once file))

-- a success makes such a delivery, and nothing else, and nothing is coming afterwards
abbrev pub Arrives : {T E : Type 0} → Result T E → Database → Database → Arrival → ConfigValue → List Judgement → ShelvesValue → List ℕ → Type 0
Arrives result before after delivery config judged shown dates = OnOk result (Delivers before after config judged shown dates delivery × NothingComes after)

-- a success says whether such a delivery is new at its moment; `seconds` says for how long arrivals count, or nothing if
-- they count for good
abbrev pub SaysNew : {E : Type 0} → Result Bool E → Option ℕ → Database → Arrival → ConfigValue → List Judgement → ShelvesValue → List ℕ → Type 0
SaysNew result seconds before delivery config judged shown dates = seconds ≡ span config → IfOk result (λ new. new ≡ not (has_delivery before config judged shown dates delivery))

-- ---- a change

-- a success makes the change of whatever archive of this configuration and this number of judgements, if the change is
-- sound for it
abbrev pub MakesChange : {T E : Type 0} → Result T E → ConfigValue → ℕ → Change → Database → Database → Type 0
MakesChange result config judged change before after = OverSound before config judged change (λ prior shown dates. OnOk result (Amends before after config prior shown dates change))

-- the other database has the change, whatever archive it was, if the change is sound for it
abbrev pub HasChange : ConfigValue → ℕ → Change → Database → Database → Type 0
HasChange config judged change before after = OverSound before config judged change (λ prior shown dates. Amends before after config prior shown dates change)

-- after a success that takes a file away nothing is coming
abbrev pub EndsComing : {T E : Type 0} → Result T E → ConfigValue → ℕ → Change → Database → Database → Type 0
EndsComing result config judged change before after = list_any takes_file change.steps ≡ true → OverSound before config judged change (λ prior shown dates. OnOk result (NothingComes after))

-- after a success that takes no file away, what is coming stays
abbrev pub SparesComing : {T E : Type 0} → Result T E → ConfigValue → Change → Database → Database → Type 0
SparesComing result config change before after = list_any takes_file change.steps ≡ false
    → (prior : List Judgement) (shown : ShelvesValue) (dates : List ℕ) → KeepsArchive before config prior shown dates → OnOk result (StaysComing before after)

-- ---- another configuration

-- a success gives the configuration and these dates to whatever archive shows these shelves under it, and stays whole under it
abbrev pub Configures : {T E : Type 0} → Result T E → ConfigValue → ShelvesValue → List ℕ → Database → Database → Type 0
Configures result config shelves dates before after =
    OverMoved before shelves config (λ prior judged shown was. OnOk result (Reconfigures before after prior config judged shown was shelves dates))

-- the other database has the configuration and these dates, whatever archive it was, if it stays whole under them
abbrev pub HasConfiguration : ConfigValue → ShelvesValue → List ℕ → Database → Database → Type 0
HasConfiguration config shelves dates before after = OverMoved before shelves config (λ prior judged shown was. Reconfigures before after prior config judged shown was shelves dates)

-- ---- a moment

-- P holds of whatever archive the database keeps; `seconds` says for how long arrivals count, or nothing if they count
-- for good
abbrev pub OverSpan : Database → Option ℕ → (ConfigValue → List Judgement → ShelvesValue → List ℕ → Type 0) → Type 0
OverSpan db seconds P = WithBook db (λ config judged shown dates. seconds ≡ span config → P config judged shown dates)

-- from the one database to the other what does not count at the moment goes, and nothing else
abbrev pub TurnsTo : ℕ → Database → Database → ConfigValue → List Judgement → ShelvesValue → List ℕ → Type 0
TurnsTo moment before after config judged shown dates = Turns before after config judged shown dates judged shown dates (at_moment moment)
