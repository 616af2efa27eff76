-- What the statements on a body that came leave of the connection.
use Rattle.std.proofs.Common.{◌≡◌, ℕ, ◌+◌, ◌<◌, cond, true, false, List, Ok, [], Option, Some, None, is_some, unwrap_or, IsTrue, refl, sym, ap, subst, ◌∙◌, arith, inl, inr}
use Rattle.std.proofs.lemmas.Bool.{cases_lt}
use Rattle.records.specs.Records.{changes_in}
use Rattle.records.specs.Values.{ChangesValue}
use Rattle.sqlite.specs.State.{State, IsUnchanged, KeepsCommit}
use Rattle.sums.specs.declared.entries.Entry.{Entry}
use Rattle.sums.specs.declared.print.Print.{Print}
use Rattle.sums.specs.FileNames.{is_changes_name}
use Rattle.tables.specs.Bodies.{body_with, with_print}
use Rattle.tables.specs.Inside.{GoesOn}
use Rattle.tables.specs.Rows.{Tables, Holds, Changes, next_in, with_body, with_piece}
use Rattle.tables_meaning.specs.Coming.{IsNoOther, IsSameAs, bytes_so_far, ended_number, with_ended, with_finished, with_new_print, with_next_piece, with_received, with_whole}
use Rattle.tables_meaning.specs.Finished.{without_whole}
use Rattle.tables_meaning.specs.Kept.{pieces_for}
use Rattle.tables_meaning.specs.Taking.{listed_in}
use Rattle.tables_meaning.proofs.BodySteps.{Looks, bytes_new, bytes_there}
use Rattle.tables_meaning.proofs.DeliverLemmas.{changes_as, read_alone, read_then}
use Rattle.tables_meaning.proofs.Inside.{changes_then}
use Rattle.tables_meaning.proofs.ReadsLemmas.{held_after}

-- ---- reads

pub goes_then : (a b c : State) → GoesOn a b → GoesOn b c → GoesOn a c
goes_then a b c p q = record { was_open = p.was_open; is_open = q.is_open; now_is = refl; committed_is = q.committed_is ∙ p.committed_is; mode = q.mode }

pub goes_itself : (a : State) → IsTrue a.is_open → a.in_transaction ≡ true → GoesOn a a
goes_itself a up inside = record { was_open = up; is_open = up; now_is = refl; committed_is = refl; mode = inside }

pub keeps_if_going : (a b : State) → GoesOn a b → KeepsCommit a b
keeps_if_going a b on = record { was_open = λ _. on.was_open; committed = λ _. on.committed_is }

-- what a file lists
pub listed_none : (name bytes : List ℕ) → is_changes_name name ≡ false → None ≡ listed_in name bytes
listed_none name bytes other = rw other refl

pub listed_some : (name bytes : List ℕ) (changes : ChangesValue) → is_changes_name name ≡ true → changes_in bytes ≡ Ok changes → Some changes.entries ≡ listed_in name bytes
listed_some name bytes changes named read = rw (named, read) refl

-- what holds of each number so far and of the next one
pub one_further : (P : ℕ → Type 0) (k : ℕ) → ((n : ℕ) → n < k → P n) → P k → (n : ℕ) → n < k + 1 → P n
one_further P k before here n below = elim (cases_lt n k) [
  | inl less ↦ before n less
  | inr more ↦ let same : k ≡ n = omega (arith, more, below) in subst P same here
]

-- ---- the next piece

pub first_piece : (a b c : State) (id number : ℕ) (bytes : List ℕ) → Changes a b (with_body (record { print = None })) → ((t : Tables) → Holds a.now t → id ≡ next_in t.bodies)
    → Changes b c (with_piece (record { body = id; number = number; bytes = bytes })) → Changes a c (with_next_piece None number bytes)
unfolding with_next_piece
first_piece a b c id number bytes begun is added =
    changes_as a c (λ t. with_piece (record { body = id; number = number; bytes = bytes }) (with_body (record { print = None }) t)) _
    (λ t was. ap (λ n. with_piece (record { body = n; number = number; bytes = bytes }) (with_body (record { print = None }) t)) (is t was)) (changes_then a b c _ _ begun added)

pub later_piece : (a b : State) (id number : ℕ) (bytes : List ℕ) → Changes a b (with_piece (record { body = id; number = number; bytes = bytes })) → Changes a b (with_next_piece (Some id) number bytes)
unfolding with_next_piece
later_piece a b id number bytes added = changes_as a b _ _ (λ t was. refl) added

-- ---- a body that is whole

pub printed : (a b : State) (id : ℕ) (print : Print) → Changes a b (with_print id print) → Changes a b (with_new_print (Some id) print)
unfolding with_new_print
printed a b id print set = changes_as a b _ _ (λ t was. refl) set

pub printed_new : (a b : State) (print : Print) → Changes a b (with_body (record { print = Some print })) → Changes a b (with_new_print None print)
unfolding with_new_print
printed_new a b print added = changes_as a b _ _ (λ t was. refl) added

ended_known : (id : ℕ) (print : Print) (t : Tables) (stored : ℕ) → body_with print t.bodies ≡ Some stored → without_whole id t ≡ with_ended (Some id) print t
unfolding with_ended with_whole
ended_known id print t stored e = ap (λ o. cond (is_some o) (without_whole id t) (with_print id print t)) (sym e)

ended_nothing : (print : Print) (t : Tables) (stored : ℕ) → body_with print t.bodies ≡ Some stored → t ≡ with_ended None print t
unfolding with_ended
ended_nothing print t stored e = sym (bytes_there print [] t stored e)

ended_new : (body : Option ℕ) (print : Print) (t : Tables) → body_with print t.bodies ≡ None → with_new_print body print t ≡ with_ended body print t
unfolding with_ended with_whole with_new_print pieces_for
ended_new (Some id) print t e = ap (λ o. cond (is_some o) (without_whole id t) (with_print id print t)) (sym e)
ended_new None print t e = sym (bytes_new print [] t e)

number_known : (body : Option ℕ) (print : Print) (t : Tables) (stored : ℕ) → body_with print t.bodies ≡ Some stored → stored ≡ ended_number body print t
unfolding ended_number
number_known body print t stored e = ap (λ o. unwrap_or o (unwrap_or body (next_in t.bodies))) (sym e)

number_unknown : (body : Option ℕ) (print : Print) (t : Tables) → body_with print t.bodies ≡ None → unwrap_or body (next_in t.bodies) ≡ ended_number body print t
unfolding ended_number
number_unknown body print t e = ap (λ o. unwrap_or o (unwrap_or body (next_in t.bodies))) (sym e)

module _ (a b : State) (print : Print) (found : Option ℕ) (looks : Looks a b print found) (on : GoesOn a b) where
  pub number_there : (body : Option ℕ) (stored : ℕ) → found ≡ Some stored → (t : Tables) → Holds a.now t → stored ≡ ended_number body print t
  number_there body stored is t was = number_known body print t stored (sym (looks t was).0 ∙ is)

  pub ends_known : (c : State) (id stored : ℕ) → found ≡ Some stored → Changes b c (without_whole id) → Changes a c (with_ended (Some id) print)
  ends_known c id stored is gone = read_then a b c _ _ on (λ t was. ((looks t was).1, ended_known id print t stored (sym (looks t was).0 ∙ is))) gone

  pub ends_nothing : (stored : ℕ) → found ≡ Some stored → Changes a b (with_ended None print)
  ends_nothing stored is = read_alone a b _ on (λ t was. ((looks t was).1, ended_nothing print t stored (sym (looks t was).0 ∙ is)))

  pub ends_new : (c : State) (body : Option ℕ) (id : ℕ) → found ≡ None → Changes b c (with_new_print body print) → ((t : Tables) → Holds b.now t → id ≡ unwrap_or body (next_in t.bodies))
      → Changes a c (with_ended body print) × ((t : Tables) → Holds a.now t → id ≡ ended_number body print t)
  ends_new c body id is set numbered = (
    read_then a b c _ _ on (λ t was. ((looks t was).1, ended_new body print t (sym (looks t was).0 ∙ is))) set,
    λ t was. numbered t (held_after a b (looks t was).1 t was) ∙ number_unknown body print t (sym (looks t was).0 ∙ is),
  )

-- ---- the whole

pub finished_changes : (name : List ℕ) (body : Option ℕ) (print : Print) (moment : ℕ) (listed : Option (List Entry)) (a m d : State)
    → GoesOn a m → ((t : Tables) → Holds a.now t → IsUnchanged a m × (listed ≡ listed_in name (bytes_so_far t body)))
    → Changes m d (λ t. with_received name (ended_number body print t) print moment listed (with_ended body print t)) → Changes a d (with_finished name body print moment)
unfolding with_finished
finished_changes name body print moment listed a m d on reads did =
    read_then a m d _ _ on (λ t was. ((reads t was).0, ap (λ l. with_received name (ended_number body print t) print moment l (with_ended body print t)) (reads t was).1)) did

pub none_found : (body : Option ℕ) (count : ℕ) (print : Print) (t : Tables) → None ≡ body_with print t.bodies → IsNoOther body count print t
none_found body count print t none found is = absurd (let both : None ≡ Some found = none ∙ is in cc)

pub one_found : (body : Option ℕ) (count : ℕ) (print : Print) (t : Tables) (stored : ℕ) → Some stored ≡ body_with print t.bodies → IsSameAs body count stored t → IsNoOther body count print t
one_found body count print t stored one same found is =
    let both : stored ≡ found = let it : Some stored ≡ Some found = one ∙ is in cc in
    subst (λ n. IsSameAs body count n t) both same
