use Rattle.std.proofs.Common.{◌+◌, ◌∙◌, ℕ, refl, subst, arith}
use Rattle.desk.specs.Connections.{HasServed, IsClientsWithin}
use Rattle.desk.proofs.ConnectionLemmas.{no_turn}
use Rattle.program.proofs.Turns.{one_more, or_more}
use Rattle.program.proofs.serving.serve_at.Goals as goal
use Rattle.program.proofs.serving.serve_at.Goals.{in-Ok+else-leaves_shut, in-Err}

pub loop-served-init : goal.loop-served-init
loop-served-init g c = record {
  turns = no_turn g.K.Keeper 0 (IsClientsWithin c.args.desk.now.rules c.args.moments.now.greatest c.args.moments.now.greatest) c.args.archive.now.keeper;
  rises = omega arith;
  still = λ none. refl;
  file = refl;
}

pub returns-then-leaves_shut-clause-served : goal.returns-then-leaves_shut-clause-served
returns-then-leaves_shut-clause-served g c =
    let sofar = c.loop-served.invariant in
    one_more g.K.Keeper c.args.desk.now.rules c.loop-served.served c.args.count c.args.moments.now.greatest c.loop-served.moments.greatest c.next-moment.new.self.greatest c.next-moment.new.self.greatest
    c.args.archive.now.keeper c.loop-served.archive.keeper c.leaves_shut.new.archive.keeper (omega (arith, c.loop-served-test.true)) sofar.rises c.next-moment.ensures.rises (omega arith) sofar.turns
    (subst (λ (m : ℕ). HasServed g.K.Keeper 1 (IsClientsWithin c.args.desk.now.rules m m) c.loop-served.archive.keeper c.leaves_shut.new.archive.keeper) c.next-moment.ensures.is c.leaves_shut.ensures.served)

pub loop-served-preserved : goal.loop-served-preserved
loop-served-preserved g c =
    let sofar = c.loop-served.invariant in
    elim c.match-accepted.branch [
      | in-Ok+else-leaves_shut w ↦ rw (w.archive-is, w.moments-is) (record {
        turns = one_more g.K.Keeper c.args.desk.now.rules c.loop-served.served (c.loop-served.served + 1) c.args.moments.now.greatest c.loop-served.moments.greatest w.next-moment.new.self.greatest w.next-moment.new.self.greatest
            c.args.archive.now.keeper c.loop-served.archive.keeper w.leaves_shut.new.archive.keeper (omega arith) sofar.rises w.next-moment.ensures.rises (omega arith) sofar.turns
            (subst (λ (m : ℕ). HasServed g.K.Keeper 1 (IsClientsWithin c.args.desk.now.rules m m) c.loop-served.archive.keeper w.leaves_shut.new.archive.keeper) w.next-moment.ensures.is w.leaves_shut.ensures.served);
        rises = omega (arith, sofar.rises, w.next-moment.ensures.rises);
        still = λ none. w.next-moment.ensures.still (sofar.file ∙ none) ∙ sofar.still none;
        file = w.next-moment.ensures.file ∙ sofar.file;
      })
      | in-Err w ↦ rw (w.archive-is, w.moments-is) (record {
        turns = or_more g.K.Keeper c.args.desk.now.rules c.loop-served.served (c.loop-served.served + 1) c.args.moments.now.greatest c.loop-served.moments.greatest c.args.archive.now.keeper
            c.loop-served.archive.keeper (omega arith) sofar.turns;
        rises = sofar.rises;
        still = sofar.still;
        file = sofar.file;
      })
    ]
