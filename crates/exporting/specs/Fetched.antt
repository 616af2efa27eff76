-- What an export has from the archive.
use Rattle.std.specs.Prelude.{◌≡◌, ℕ, List, codes, Option, Some, Ok}
use Rattle.std.specs.Io.KnownBytes.{Appends}
use Rattle.book.specs.declared.keeper.Keeper.{Ghosts}
use Rattle.queue.specs.Answers.{IsKept}
use Rattle.queue.specs.Archives.{book_of}
use Rattle.queue.specs.Histories.{History, Lookup, Found}
use Rattle.queue.specs.Steps.{Does}
use Rattle.indices.specs.Indices.{path_in}
use Rattle.exported.specs.Names.{state_name}

-- After each history whose book is kept, these are the bytes that its plain archive has at the path.
abbrev pub IsFetched : {K : Type 0} (g : Ghosts K) (old : K) (path body : List ℕ) (new : K) → Type 0
IsFetched g old path body new = Does g old (Lookup path) (Ok (Found (Some body))) new

-- After each history whose book is kept, these are the bytes that its plain archive has in the pool at the path.
abbrev pub IsFiled : {K : Type 0} (g : Ghosts K) (old : K) (path body : List ℕ) (new : K) → Type 0
IsFiled g old path body new = (h : History) → IsKept (g.is_open old) (g.book old) h → g.is_clean new → (book_of h).files path ≡ Some body

-- A writer holds what it held before, and after it the bytes that the plain archive has in the pool at the path: all of them, in their
-- order.
pub record IsWritten {K : Type 0} (g : Ghosts K) (old : K) (path : List ℕ) (before after : Option (List ℕ)) (new : K) : Type 0 where
  pub body : List ℕ
  pub filed : IsFiled g old path body new
  pub written : g.is_clean new → Appends before after body

-- The name is that of the state of a suite which has the Release that the plain archive has.
pub record IsStateOf {K : Type 0} (g : Ghosts K) (old : K) (codename name : List ℕ) (new : K) : Type 0 where
  pub release : List ℕ
  pub fetched : IsFetched g old (path_in codename (codes "Release")) release new
  pub named : name ≡ state_name codename release
