use Rattle.std.proofs.Common.{◌+◌, ◌∙◌, refl, arith}
use Rattle.desk.specs.Connections.{IsClientsWithin}
use Rattle.desk.proofs.ConnectionLemmas.{no_turn}
use Rattle.program.proofs.Turns.{one_more}
use Rattle.program.proofs.serving_file.serve_and_export.Goals as goal

pub loop-served-init : goal.loop-served-init
loop-served-init g c = record {
  turns = no_turn g.K.Keeper 0 (IsClientsWithin c.args.desk.now.rules c.args.moments.now.greatest c.args.moments.now.greatest) c.args.archive.now.keeper;
  rises = omega arith;
  still = λ none. refl;
  file = refl;
}

pub returns-in-Err-Shut-clause-served : goal.returns-in-Err-Shut-clause-served
returns-in-Err-Shut-clause-served g c =
    let sofar = c.loop-served.invariant in
    one_more g.K.Keeper c.args.desk.now.rules c.loop-served.served c.args.left c.args.moments.now.greatest c.loop-served.moments.greatest c.loop-served.moments.greatest c.serve_one.new.moments.greatest
    c.args.archive.now.keeper c.loop-served.archive.keeper c.serve_one.new.archive.keeper (omega (arith, c.loop-served-test.true)) sofar.rises (omega arith) c.serve_one.ensures.rises sofar.turns
    c.serve_one.ensures.served

pub returns-in-Err : goal.returns-in-Err
returns-in-Err g c =
    let sofar = c.loop-served.invariant in
    record {
      served = one_more g.K.Keeper c.args.desk.now.rules c.loop-served.served c.args.left c.args.moments.now.greatest c.loop-served.moments.greatest c.loop-served.moments.greatest c.serve_one.new.moments.greatest
          c.args.archive.now.keeper c.loop-served.archive.keeper c.serve_one.new.archive.keeper (omega (arith, c.loop-served-test.true)) sofar.rises (omega arith) c.serve_one.ensures.rises sofar.turns
          c.serve_one.ensures.served;
      rises = omega (arith, sofar.rises, c.serve_one.ensures.rises);
      still = λ none. c.serve_one.ensures.still (sofar.file ∙ none) ∙ sofar.still none;
      file = c.serve_one.ensures.file ∙ sofar.file;
    }

pub loop-served-preserved : goal.loop-served-preserved
loop-served-preserved g c =
    let sofar = c.loop-served.invariant in
    record {
      turns = one_more g.K.Keeper c.args.desk.now.rules c.loop-served.served (c.loop-served.served + 1) c.args.moments.now.greatest c.loop-served.moments.greatest c.loop-served.moments.greatest
          c.serve_one.new.moments.greatest c.args.archive.now.keeper c.loop-served.archive.keeper c.serve_one.new.archive.keeper (omega arith) sofar.rises (omega arith) c.serve_one.ensures.rises
          sofar.turns c.serve_one.ensures.served;
      rises = omega (arith, sofar.rises, c.serve_one.ensures.rises);
      still = λ none. c.serve_one.ensures.still (sofar.file ∙ none) ∙ sofar.still none;
      file = c.serve_one.ensures.file ∙ sofar.file;
    }
