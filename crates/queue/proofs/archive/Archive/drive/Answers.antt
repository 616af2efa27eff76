use Rattle.std.proofs.Common.{◌≡◌, ◌+◌, ◌<◌, List, [], ◌∷◌, ◌++◌, map, take, take_all, length, sym, ap, subst, ◌∙◌, arith}
use Rattle.std.proofs.lemmas.List.{take_more, map-append}
use Rattle.book.proofs.ReadLemmas.{lasts_itself, lasts_more}
use Rattle.history.proofs.Runs.{does_append, does_none, does_one, leaves_append, leaves_none, leaves_one, served_last}
use Rattle.history.specs.Commands.{call_of, outcome_of, kind_of_command, kind_of_outcome}
use Rattle.history.specs.Histories.{Call}
use Rattle.history.specs.Steps.{DoesAll, LeavesRun}
use Rattle.queue.proofs.archive.Archive.drive.Goals as goal

pub loop-command-preserved : goal.loop-command-preserved
loop-command-preserved g c =
    let commands = c.args.commands.now in
    let i = c.loop-command.command-index in
    let command = c.command-item.result in
    let inside : i < length commands = omega arith in
    let more : take (i + 1) commands ≡ take i commands ++ command ∷ [] =
    take_more commands i command inside ∙ ap (λ x. take i commands ++ x ∷ []) (sym c.command-item.is) in
    let calls : map call_of (take (i + 1) commands) ≡ map call_of (take i commands) ++ call_of command ∷ [] =
    ap (map call_of) more ∙ map-append call_of (take i commands) (command ∷ []) in
    let before = map outcome_of c.loop-command.outcomes.items in
    let outcome = outcome_of c.make-outcome.result in
    let outcomes : map outcome_of c.push.new.self.items ≡ before ++ outcome ∷ [] =
    ap (map outcome_of) c.in_ok-push.ensures.items ∙ map-append outcome_of c.loop-command.outcomes.items (c.make-outcome.result ∷ []) in
    record {
      count = omega (arith, c.in_ok-push.ensures.len, c.loop-command.invariant.count);
      kinds =
          ap (map kind_of_outcome) c.in_ok-push.ensures.items ∙ map-append kind_of_outcome c.loop-command.outcomes.items (c.make-outcome.result ∷ [])
          ∙ ap (λ ks. ks ++ kind_of_outcome c.make-outcome.result ∷ []) c.loop-command.invariant.kinds
          ∙ ap (λ k. map kind_of_command (take i commands) ++ k ∷ []) c.make-outcome.ensures.kind
          ∙ sym (map-append kind_of_command (take i commands) (command ∷ []))
          ∙ ap (map kind_of_command) (sym more);
      room = omega (arith, c.in_ok-push.ensures.capacity, c.loop-command.invariant.room);
      lasts = lasts_more c.loop-command.invariant.lasts c.make-outcome.ensures.lasts;
      served = rw outcomes (served_last g.K.Keeper c.make-outcome.new.self.keeper before outcome c.make-outcome.ensures.served);
      does = rw (calls, outcomes) (does_append g.K.Keeper _ _ _ (map call_of (take i commands)) (call_of command ∷ []) before (outcome ∷ []) c.make-outcome.ensures.lasts.clean
          c.loop-command.invariant.does (does_one g.K.Keeper _ _ (call_of command) outcome c.make-outcome.ensures.step));
      leaves = rw (calls, outcomes) (leaves_append g.K.Keeper _ _ _ (map call_of (take i commands)) (call_of command ∷ []) before (outcome ∷ []) c.make-outcome.ensures.lasts.clean
          c.loop-command.invariant.does c.loop-command.invariant.leaves (leaves_one g.K.Keeper _ _ (call_of command) outcome c.make-outcome.ensures.crash));
    }

pub returns-clause-once : goal.returns-clause-once
returns-clause-once g c =
    let commands = c.args.commands.now in
    subst (λ (cs : List Call). DoesAll g.K.Keeper c.args.self.now.keeper cs (map outcome_of c.loop-command.outcomes.items) c.loop-command.self.keeper)
    (ap (map call_of) (take_all c.loop-command.command-index commands (omega arith))) c.loop-command.invariant.does

pub returns-clause-crash : goal.returns-clause-crash
returns-clause-crash g c =
    let commands = c.args.commands.now in
    subst (λ (cs : List Call). LeavesRun g.K.Keeper c.args.self.now.keeper cs (map outcome_of c.loop-command.outcomes.items) c.loop-command.self.keeper)
    (ap (map call_of) (take_all c.loop-command.command-index commands (omega arith))) c.loop-command.invariant.leaves

pub loop-command-init : goal.loop-command-init
loop-command-init g c = record {
  count = c.in_ok-outcomes.ensures.len;
  kinds = ap (map kind_of_outcome) c.in_ok-outcomes.ensures.items;
  room = c.in_ok-outcomes.ensures.capacity;
  lasts = lasts_itself c.args.self.now.keeper;
  served = rw c.in_ok-outcomes.ensures.items tt;
  does = rw c.in_ok-outcomes.ensures.items (does_none g.K.Keeper c.args.self.now.keeper);
  leaves = leaves_none g.K.Keeper c.args.self.now.keeper;
}
