-- Connections of clients were served.
use Rattle.std.proofs.Common.{◌≡◌, ◌≤◌, ℕ, List, [], ◌∷◌, Option, None, length, refl, arith}
use Rattle.std.proofs.lemmas.List.Elements.{All-cons, All-head, All-nil, All-tail}
use Rattle.std.specs.Prelude.{All}
use Rattle.desk.specs.declared.routes.Rules.{Rules}
use Rattle.desk.specs.Connections.{IsClientsWithin, visit, visits}
use Rattle.desk.specs.declared.connection.Connection.{Connection}
use Rattle.desk.proofs.ConnectionLemmas.{a_turn}
use Rattle.program.proofs.Turns.{at_one_moment}
use Rattle.program.proofs.serving.attended.Goals as goal

module _ {R W : Type 0} (rules : Rules) (remaining : R → Option (List ℕ)) (contents : W → Option (List ℕ)) where
  no_more : (olds news : List (Connection R W)) → length (visits rules remaining contents olds news) ≤ length olds
  no_more [] news = omega arith
  no_more (old ∷ olds) [] = omega arith
  no_more (old ∷ olds) (new ∷ news) = let rest = no_more olds news in omega (arith, rest)

  of_clients : (moment : ℕ) (olds news : List (Connection R W)) → All (λ one. (remaining one.reader ≡ None) × (one.moment ≡ moment)) olds
      → All (IsClientsWithin rules moment moment) (visits rules remaining contents olds news)
  of_clients moment [] news all = All-nil (IsClientsWithin rules moment moment)
  of_clients moment (old ∷ olds) [] all = All-nil (IsClientsWithin rules moment moment)
  of_clients moment (old ∷ olds) (new ∷ news) all =
      let here = All-head (λ one. (remaining one.reader ≡ None) × (one.moment ≡ moment)) old olds all in
      All-cons (IsClientsWithin rules moment moment) (visit rules remaining contents old new) (visits rules remaining contents olds news)
      (record { desk = refl; from_first = omega (arith, here.1); to_last = omega (arith, here.1); foreign = here.0 })
      (of_clients moment olds news (All-tail (λ one. (remaining one.reader ≡ None) × (one.moment ≡ moment)) old olds all))

pub returns-clause-served : goal.returns-clause-served
returns-clause-served g c = λ moment all.
    let vs = visits c.args.desk.now.rules g.R.Read.remaining g.W.Write.contents c.args.connections.now c.attend.new.connections in
    let fit = of_clients c.args.desk.now.rules g.R.Read.remaining g.W.Write.contents moment c.args.connections.now c.attend.new.connections all in
    a_turn g.K.Keeper (length c.args.connections.now) (IsClientsWithin c.args.desk.now.rules moment moment) c.args.archive.now.keeper c.attend.new.archive.keeper vs
    (no_more c.args.desk.now.rules g.R.Read.remaining g.W.Write.contents c.args.connections.now c.attend.new.connections) fit (at_one_moment c.args.desk.now.rules moment vs fit) c.attend.ensures.lasts c.attend.ensures.served
