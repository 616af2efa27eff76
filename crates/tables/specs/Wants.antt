-- What the statements on wants speak of.
use Rattle.std.specs.Prelude.{ℕ, ◌≤◌, Bool, true, false, ◌&&◌, List, Option, None, Some, IfSome, MatchOption, IsTrue, nat_eq, nat_lt, bytes_eq}
use Rattle.std.specs.List.{list_any}
use Rattle.sums.specs.declared.print.Print.{Print}
use Rattle.sums.specs.Prints.{same_print}
use Rattle.tables.specs.Rows.{Tables, changed, without}
use Rattle.tables.specs.declared.rows.Want.{Want}

-- the entry is one of this upload
abbrev pub is_wanted_by : ℕ → Want → Bool
is_wanted_by upload x = nat_eq x.upload upload

-- the entry is of this name and print
abbrev pub is_want : List ℕ → Print → Want → Bool
is_want name print x = bytes_eq x.name name && same_print x.print print

-- a body of this name and print has arrived
abbrev pub with_here : List ℕ → Print → Tables → Tables
with_here name print t = record t { wants = changed (λ x. is_want name print x.1) (λ x. record x { here = true }) t.wants }

-- no body of this name and print is there any more
abbrev pub with_away : List ℕ → Print → Tables → Tables
with_away name print t = record t { wants = changed (λ x. is_want name print x.1) (λ x. record x { here = false }) t.wants }

-- the entries of this upload are gone
abbrev pub without_wants : ℕ → Tables → Tables
without_wants upload t = record t { wants = without (λ x. is_wanted_by upload x.1) t.wants }

-- the number is greater than this one, or there is no such one
abbrev pub is_behind : Option ℕ → ℕ → Bool
is_behind None id = true
is_behind (Some after) id = nat_lt after id

-- the upload has entries, and its number is greater than this one
abbrev pub wants_behind : Option ℕ → List Want → ℕ → Bool
wants_behind after wants upload = is_behind after upload && list_any (is_wanted_by upload) wants

-- The first upload after a number that has entries: it has some, and no upload before it has.
pub record IsNextWanting (after : Option ℕ) (wants : List Want) (found : Option ℕ) : Type 0 where
  pub one : IfSome found (λ id. IsTrue (wants_behind after wants id))
  pub first : (id : ℕ) → IsTrue (wants_behind after wants id) → MatchOption found ⊥ (λ n. n ≤ id)
