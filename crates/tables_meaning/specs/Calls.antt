-- What the contracts of functions over SQL say of the archive that the rows are: a word for each clause, beside those of tables/specs/Calls.
use Rattle.std.specs.Prelude.{◌≡◌, ℕ, Bool, true, List, [], length, Option, Result, IsTrue, IfOk, OnOk, OnErr}
use Rattle.sqlite_trees.specs.declared.store.Store.{Ghosts}
use Rattle.sqlite.specs.Effect.{Database}
use Rattle.sqlite.specs.Held.{Held, state}
use Rattle.sqlite.specs.State.{State, HasCleanDisk, Survives}
use Rattle.sums.specs.Prints.{print as print_of}
use Rattle.sums.specs.declared.print.Print.{Print}
use Rattle.rules.specs.Values.{ConfigValue}
use Rattle.suites.specs.Moved.{all_stay, moved}
use Rattle.suites.specs.Shelves.{ShelvesValue}
use Rattle.book.specs.Book.{at_moment, has_arrival, with_delivery}
use Rattle.book.specs.Keeping.{IsDeliverable, IsSound}
use Rattle.book.specs.declared.arrival.Arrival.{Arrival}
use Rattle.book.specs.declared.change.Change.{Change}
use Rattle.book.specs.declared.change.Judgement.{Judgement}
use Rattle.tables.specs.Rows.{Tables, Holds, IsArchive, tables_in}
use Rattle.tables_meaning.specs.Coming.{Comes, HasComing}
use Rattle.tables_meaning.specs.Archives.{KeepsArchive, Turns, book_in_database}
use Rattle.tables_meaning.specs.Reads.{Rests}
use Rattle.tables_meaning.specs.Transactions.{IsUndone}

module _ {S : Type 0} (store : Ghosts S) (old new : Held S) where
  -- after an error of a read of rows what was committed stays
  abbrev pub ReadUndone : {T E : Type 0} → Result T E → Type 0
  ReadUndone result = HasCleanDisk (state store new) → (t : Tables) → Holds (state store old).now t → OnErr result (IsUndone (state store old) (state store new))

  -- after an error what was committed stays
  abbrev pub Undoes : {T E : Type 0} → Result T E → Type 0
  Undoes result = HasCleanDisk (state store new) → OnErr result (IsUndone (state store old) (state store new))

  -- after a success the connection is open, and was
  abbrev pub StaysOpen : {T E : Type 0} → Result T E → Type 0
  StaysOpen result = HasCleanDisk (state store new) → OnOk result (IsTrue (state store old).is_open × IsTrue (state store new).is_open)

  -- after a success over an archive the connection is open
  abbrev pub IsOpenOverArchive : {T E : Type 0} → Result T E → Type 0
  IsOpenOverArchive result = HasCleanDisk (state store new) → (IsTrue (state store old).is_open → ∥ IsArchive (state store old).committed ∥₁) → OnOk result (IsTrue (state store new).is_open)

  -- a success answers this of the rows, and leaves the connection as it was, whether it is open or not
  abbrev pub ReadsAtRest : {T E : Type 0} → Result T E → (Tables → T → Type 0) → Type 0
  ReadsAtRest result Answers = HasCleanDisk (state store new) → (t : Tables) → Holds (state store old).now t → IfOk result (λ x. Answers t x × Rests (state store old) (state store new))

  -- a crash meanwhile leaves what it could leave before, or a database of which P holds
  abbrev pub CommitsOnly : (State → Database → Type 0) → Type 0
  CommitsOnly P = Survives (state store old) (state store new) (λ trees. (db : Database) × (trees ≡ db.trees) × IsTrue (state store old).is_open × P (state store old) db)

module _ (db : Database) where
  -- P holds of whatever archive the database keeps
  abbrev pub WithBook : (ConfigValue → List Judgement → ShelvesValue → List ℕ → Type 0) → Type 0
  WithBook P = (config : ConfigValue) (judged : List Judgement) (shown : ShelvesValue) (dates : List ℕ) → KeepsArchive db config judged shown dates → P config judged shown dates

  -- P holds of whatever archive the database keeps and whatever bytes of a body have come, in this number of pieces
  abbrev pub WithComing : Option ℕ → ℕ → (ConfigValue → List Judgement → ShelvesValue → List ℕ → List ℕ → Type 0) → Type 0
  WithComing body count P = (config : ConfigValue) (judged : List Judgement) (shown : ShelvesValue) (dates : List ℕ) (bytes : List ℕ)
      → KeepsArchive db config judged shown dates → Comes (tables_in db) body count bytes → P config judged shown dates bytes

  -- P holds of whatever archive the database keeps and whatever bytes of a body have come, in whatever number of pieces
  abbrev pub WithPieces : Option ℕ → (ConfigValue → List Judgement → ShelvesValue → List ℕ → ℕ → List ℕ → Type 0) → Type 0
  WithPieces body P = (config : ConfigValue) (judged : List Judgement) (shown : ShelvesValue) (dates : List ℕ) (count : ℕ) (bytes : List ℕ)
      → KeepsArchive db config judged shown dates → Comes (tables_in db) body count bytes → P config judged shown dates count bytes

-- from the one database to the other such a delivery is made, and nothing else
abbrev pub Delivers : Database → Database → ConfigValue → List Judgement → ShelvesValue → List ℕ → Arrival → Type 0
Delivers before after config judged shown dates delivery = Turns before after config judged shown dates judged shown dates (λ b. with_delivery b delivery)

-- from the one database to the other the book stays
abbrev pub BookStays : Database → Database → ConfigValue → List Judgement → ShelvesValue → List ℕ → Type 0
BookStays before after config judged shown dates = Turns before after config judged shown dates judged shown dates (λ b. b)

-- what is coming in the one database is also coming in the other
abbrev pub StaysComing : Database → Database → Type 0
StaysComing before after = (body : Option ℕ) (count : ℕ) (bytes : List ℕ) → Comes (tables_in before) body count bytes → Comes (tables_in after) body count bytes

-- P holds of whatever archive of this configuration the database keeps after this number of judgements, if the change
-- is sound for it
abbrev pub OverSound : Database → ConfigValue → ℕ → Change → (List Judgement → ShelvesValue → List ℕ → Type 0) → Type 0
OverSound db config judged change P = (before : List Judgement) (shown : ShelvesValue) (dates : List ℕ)
    → KeepsArchive db config before shown dates → length before ≡ judged → IsSound (book_in_database db config before shown dates) change → P before shown dates

-- P holds of whatever archive the database keeps that shows these shelves under the other configuration, and stays
-- whole under it
abbrev pub OverMoved : Database → ShelvesValue → ConfigValue → (ConfigValue → List Judgement → ShelvesValue → List ℕ → Type 0) → Type 0
OverMoved db shelves config P = (before : ConfigValue) (judged : List Judgement) (shown : ShelvesValue) (was : List ℕ)
    → KeepsArchive db before judged shown was → shelves ≡ moved before.suites config.suites shown → all_stay before.suites config.suites shown ≡ true → P before judged shown was

-- P holds of whatever bytes of a body have come whose print is this, if they may be delivered under this name
abbrev pub OverWhole : Database → Option ℕ → ℕ → Print → List ℕ → (ConfigValue → List Judgement → ShelvesValue → List ℕ → List ℕ → Type 0) → Type 0
OverWhole db body count print name P = (config : ConfigValue) (judged : List Judgement) (shown : ShelvesValue) (dates : List ℕ) (bytes : List ℕ)
    → KeepsArchive db config judged shown dates → Comes (tables_in db) body count bytes → print ≡ print_of bytes → IsDeliverable name bytes → P config judged shown dates bytes

-- P holds of whatever archive the database keeps, if nothing is coming and these bytes may be delivered under this name
abbrev pub OverOnePiece : Database → List ℕ → List ℕ → (ConfigValue → List Judgement → ShelvesValue → List ℕ → Type 0) → Type 0
OverOnePiece db name bytes P = (config : ConfigValue) (judged : List Judgement) (shown : ShelvesValue) (dates : List ℕ)
    → KeepsArchive db config judged shown dates → HasComing (tables_in db) [] → IsDeliverable name bytes → P config judged shown dates

-- whether the archive of the database has such a delivery at its moment
abbrev pub has_delivery : Database → ConfigValue → List Judgement → ShelvesValue → List ℕ → Arrival → Bool
has_delivery db config judged shown dates delivery = has_arrival (at_moment delivery.moment (book_in_database db config judged shown dates)).arrivals delivery

-- P holds while the connection is open, on a disk that returns what was written
abbrev pub WhileOpen : {S : Type 0} → Ghosts S → Held S → (State → Type 0) → Type 0
WhileOpen store connection P = HasCleanDisk (state store connection) → IsTrue (state store connection).is_open → P (state store connection)
