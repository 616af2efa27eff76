-- What becomes of a body that came, if one of its print is there.
use Rattle.std.proofs.Common.{◌≡◌, ℕ, true, Option, Some, None, IsTrue, refl}
use Rattle.sqlite.specs.State.{State}
use Rattle.sums.specs.declared.print.Print.{Print}
use Rattle.tables.specs.Inside.{GoesOn}
use Rattle.tables.specs.Rows.{Changes}
use Rattle.tables_meaning.specs.Coming.{with_ended}
use Rattle.tables_meaning.specs.Finished.{without_whole}
use Rattle.tables_meaning.proofs.BodySteps.{Looks}
use Rattle.tables_meaning.proofs.DeliverLemmas.{changes_as, read_alone}
use Rattle.tables_meaning.proofs.EndedLemmas.{ends_known, ends_nothing, goes_itself}
use Rattle.tables_meaning.proofs.Inside.{changes_then}
use Rattle.tables_meaning.proofs.ReadsLemmas.{rests_itself}
use Rattle.tables_bodies.specs.Known.{without_known}

pub known_goes : (a b : State) (id : ℕ) → Changes a b (without_whole id) → Changes a b (without_known (Some id))
unfolding without_known
known_goes a b id gone = changes_as a b _ _ (λ t was. refl) gone

pub known_stays : (a : State) → IsTrue a.is_open → a.in_transaction ≡ true → Changes a a (without_known None)
unfolding without_known
known_stays a up inside = read_alone a a _ (goes_itself a up inside) (λ t was. ((rests_itself a).unchanged up, refl))

module _ (a b : State) (print : Print) (found : Option ℕ) (looks : Looks a b print found) (on : GoesOn a b) (stored : ℕ) (is : found ≡ Some stored) where
  some_goes : (c : State) (id : ℕ) → Changes b c (without_known (Some id)) → Changes a c (with_ended (Some id) print)
  unfolding without_known
  some_goes c id gone = ends_known a b print found looks on c id stored is (changes_as b c _ _ (λ t was. refl) gone)

  none_stays : (c : State) → Changes b c (without_known None) → Changes a c (with_ended None print)
  unfolding without_known
  none_stays c same = changes_as a c _ _ (λ t was. refl) (changes_then a b c (with_ended None print) (λ t. t) (ends_nothing a b print found looks on stored is) (changes_as b c _ _ (λ t was. refl) same))

  pub known_ends : (c : State) (body : Option ℕ) → Changes b c (without_known body) → Changes a c (with_ended body print)
  known_ends c (Some id) gone = some_goes c id gone
  known_ends c None same = none_stays c same
