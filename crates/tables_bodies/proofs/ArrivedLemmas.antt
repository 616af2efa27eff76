-- What is stored with an arrival, and whether it is new.
use Rattle.std.proofs.Common.{◌≡◌, ℕ, Bool, not, List, Option, ap, subst}
use Rattle.sqlite.specs.State.{State}
use Rattle.sums.specs.declared.entries.Entry.{Entry}
use Rattle.sums.specs.declared.print.Print.{Print}
use Rattle.tables.specs.Rows.{Tables, Changes, Holds}
use Rattle.tables_bodies.specs.Counting.{arrival_counts}
use Rattle.tables_meaning.specs.Coming.{with_received}
use Rattle.tables_meaning.proofs.DeliverLemmas.{changes_as}
use Rattle.tables_meaning.proofs.Inside.{changes_then}

-- what was answered once a body was stored, which has this number afterwards
pub new_once_stored : (span : Option ℕ) (moment : ℕ) (name : List ℕ) (id : ℕ) (store : Tables → Tables) (number : Tables → ℕ) (a b : State) → Changes a b store
    → ((t : Tables) → Holds a.now t → id ≡ number t) → (new : Bool) → ((t : Tables) → Holds b.now t → new ≡ not (arrival_counts span moment name id t))
    → (t : Tables) → Holds a.now t → new ≡ not (arrival_counts span moment name (number t) (store t))
new_once_stored span moment name id store number a b stored is new tells t was =
    subst (λ n. new ≡ not (arrival_counts span moment name n (store t))) (is t was) (tells (store t) (stored.held t was))

-- what was stored once a body was stored
pub received_once_stored : (name : List ℕ) (print : Print) (moment : ℕ) (listed : Option (List Entry)) (id : ℕ) (store : Tables → Tables) (number : Tables → ℕ) (a b c : State) → Changes a b store
    → ((t : Tables) → Holds a.now t → id ≡ number t) → Changes b c (with_received name id print moment listed) → Changes a c (λ t. with_received name (number t) print moment listed (store t))
received_once_stored name print moment listed id store number a b c stored is received =
    changes_as a c (λ t. with_received name id print moment listed (store t)) _ (λ t was. ap (λ n. with_received name n print moment listed (store t)) (is t was)) (changes_then a b c _ _ stored received)
