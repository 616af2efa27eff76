use Rattle.std.proofs.Common.{ap, sym, subst, ◌∙◌}
use Rattle.std.specs.Prelude.{string_bytes}
use Rattle.history.specs.Commands.{call_of, counted, found, names_given, promoted, reported, stored}
use Rattle.history.specs.Histories.{Call, Copying, Delivery, Lookup, Promoting, Removing}
use Rattle.history.specs.Steps.{Does, LeavesCall}
use Rattle.history.proofs.Runs.{leaves_delivery, leaves_read, leaves_step}
use Rattle.queue.proofs.archive.Archive.make.Goals as goal

pub returns-in-Deliver-clause-step : goal.returns-in-Deliver-clause-step
returns-in-Deliver-clause-step g c =
    subst (λ (call : Call). Does g.K.Keeper c.args.self.now.keeper call (stored c.deliver.result) c.deliver.new.self.keeper)
    (ap (λ name. Delivery name c.deref-in-Deliver.result.now c.in-Deliver.moment) c.deref.ensures
    ∙ ap (λ body. Delivery (string_bytes c.in-Deliver.name) body c.in-Deliver.moment) c.deref-in-Deliver.ensures.value ∙ ap call_of (sym c.in-Deliver.is))
    c.deliver.ensures.step

pub returns-in-Deliver-clause-crash : goal.returns-in-Deliver-clause-crash
returns-in-Deliver-clause-crash g c =
    subst (λ (call : Call). LeavesCall g.K.Keeper c.args.self.now.keeper call c.deliver.new.self.keeper)
    (ap (λ name. Delivery name c.deref-in-Deliver.result.now c.in-Deliver.moment) c.deref.ensures
    ∙ ap (λ body. Delivery (string_bytes c.in-Deliver.name) body c.in-Deliver.moment) c.deref-in-Deliver.ensures.value ∙ ap call_of (sym c.in-Deliver.is))
    (leaves_delivery g.K.Keeper _ _ _ _ _ c.deliver.ensures.crash)

pub returns-in-Run-clause-step : goal.returns-in-Run-clause-step
returns-in-Run-clause-step g c =
    subst (λ (call : Call). Does g.K.Keeper c.args.self.now.keeper call (reported c.run.result) c.run.new.self.keeper)
    (ap call_of (sym c.in-Run.is))
    c.run.ensures.step

pub returns-in-Run-clause-crash : goal.returns-in-Run-clause-crash
returns-in-Run-clause-crash g c =
    subst (λ (call : Call). LeavesCall g.K.Keeper c.args.self.now.keeper call c.run.new.self.keeper)
    (ap call_of (sym c.in-Run.is))
    (leaves_step g.K.Keeper _ _ _ c.run.ensures.crash)

pub returns-in-Copy-clause-step : goal.returns-in-Copy-clause-step
returns-in-Copy-clause-step g c =
    subst (λ (call : Call). Does g.K.Keeper c.args.self.now.keeper call (counted c.copy.result) c.copy.new.self.keeper)
    (ap (λ from. Copying from c.deref-in-Copy-2.result.now c.deref-in-Copy-3.result.now c.in-Copy.moment) c.deref-in-Copy.ensures
    ∙ ap (λ to. Copying (string_bytes c.in-Copy.from) to c.deref-in-Copy-3.result.now c.in-Copy.moment) c.deref-in-Copy-2.ensures
    ∙ ap (λ source. Copying (string_bytes c.in-Copy.from) (string_bytes c.in-Copy.to) source c.in-Copy.moment) c.deref-in-Copy-3.ensures ∙ ap call_of (sym c.in-Copy.is))
    c.copy.ensures.step

pub returns-in-Copy-clause-crash : goal.returns-in-Copy-clause-crash
returns-in-Copy-clause-crash g c =
    subst (λ (call : Call). LeavesCall g.K.Keeper c.args.self.now.keeper call c.copy.new.self.keeper)
    (ap (λ from. Copying from c.deref-in-Copy-2.result.now c.deref-in-Copy-3.result.now c.in-Copy.moment) c.deref-in-Copy.ensures
    ∙ ap (λ to. Copying (string_bytes c.in-Copy.from) to c.deref-in-Copy-3.result.now c.in-Copy.moment) c.deref-in-Copy-2.ensures
    ∙ ap (λ source. Copying (string_bytes c.in-Copy.from) (string_bytes c.in-Copy.to) source c.in-Copy.moment) c.deref-in-Copy-3.ensures ∙ ap call_of (sym c.in-Copy.is))
    (leaves_step g.K.Keeper _ _ _ c.copy.ensures.crash)

pub returns-in-Fetch-clause-step : goal.returns-in-Fetch-clause-step
returns-in-Fetch-clause-step g c =
    subst (λ (call : Call). Does g.K.Keeper c.args.self.now.keeper call (found c.fetch.result) c.fetch.new.self.keeper)
    (ap Lookup c.deref-in-Fetch.ensures ∙ ap call_of (sym c.in-Fetch.is))
    c.fetch.ensures.step

pub returns-in-Fetch-clause-crash : goal.returns-in-Fetch-clause-crash
returns-in-Fetch-clause-crash g c = leaves_read g.K.Keeper _ _ _ c.fetch.ensures.reads

pub returns-in-Waiting-clause-step : goal.returns-in-Waiting-clause-step
returns-in-Waiting-clause-step g c =
    subst (λ (call : Call). Does g.K.Keeper c.args.self.now.keeper call (reported c.waiting.result) c.waiting.new.self.keeper)
    (ap call_of (sym c.in-Waiting.is))
    c.waiting.ensures.step

pub returns-in-Waiting-clause-crash : goal.returns-in-Waiting-clause-crash
returns-in-Waiting-clause-crash g c = leaves_read g.K.Keeper _ _ _ c.waiting.ensures.reads

pub returns-in-Clean-clause-step : goal.returns-in-Clean-clause-step
returns-in-Clean-clause-step g c =
    subst (λ (call : Call). Does g.K.Keeper c.args.self.now.keeper call (counted c.clean.result) c.clean.new.self.keeper)
    (ap call_of (sym c.in-Clean.is))
    c.clean.ensures.step

pub returns-in-Clean-clause-crash : goal.returns-in-Clean-clause-crash
returns-in-Clean-clause-crash g c =
    subst (λ (call : Call). LeavesCall g.K.Keeper c.args.self.now.keeper call c.clean.new.self.keeper)
    (ap call_of (sym c.in-Clean.is))
    (leaves_step g.K.Keeper _ _ _ c.clean.ensures.crash)

pub returns-in-Remove-clause-step : goal.returns-in-Remove-clause-step
returns-in-Remove-clause-step g c =
    subst (λ (call : Call). Does g.K.Keeper c.args.self.now.keeper call (counted c.remove.result) c.remove.new.self.keeper)
    (ap (λ suite. Removing suite c.deref-in-Remove-2.result.now c.in-Remove.moment) c.deref-in-Remove.ensures
    ∙ ap (λ name. Removing (string_bytes c.in-Remove.suite) name c.in-Remove.moment) c.deref-in-Remove-2.ensures ∙ ap call_of (sym c.in-Remove.is))
    c.remove.ensures.step

pub returns-in-Remove-clause-crash : goal.returns-in-Remove-clause-crash
returns-in-Remove-clause-crash g c =
    subst (λ (call : Call). LeavesCall g.K.Keeper c.args.self.now.keeper call c.remove.new.self.keeper)
    (ap (λ suite. Removing suite c.deref-in-Remove-2.result.now c.in-Remove.moment) c.deref-in-Remove.ensures
    ∙ ap (λ name. Removing (string_bytes c.in-Remove.suite) name c.in-Remove.moment) c.deref-in-Remove-2.ensures ∙ ap call_of (sym c.in-Remove.is))
    (leaves_step g.K.Keeper _ _ _ c.remove.ensures.crash)

pub returns-in-Promote-clause-step : goal.returns-in-Promote-clause-step
returns-in-Promote-clause-step g c =
    subst (λ (call : Call). Does g.K.Keeper c.args.self.now.keeper call (promoted c.promote.result) c.promote.new.self.keeper)
    (ap (λ from. Promoting from c.deref-in-Promote-2.result.now (names_given c.in-Promote.sources) c.in-Promote.moment) c.deref-in-Promote.ensures
    ∙ ap (λ to. Promoting (string_bytes c.in-Promote.from) to (names_given c.in-Promote.sources) c.in-Promote.moment) c.deref-in-Promote-2.ensures ∙ ap call_of (sym c.in-Promote.is))
    c.promote.ensures.step

pub returns-in-Promote-clause-crash : goal.returns-in-Promote-clause-crash
returns-in-Promote-clause-crash g c =
    subst (λ (call : Call). LeavesCall g.K.Keeper c.args.self.now.keeper call c.promote.new.self.keeper)
    (ap (λ from. Promoting from c.deref-in-Promote-2.result.now (names_given c.in-Promote.sources) c.in-Promote.moment) c.deref-in-Promote.ensures
    ∙ ap (λ to. Promoting (string_bytes c.in-Promote.from) to (names_given c.in-Promote.sources) c.in-Promote.moment) c.deref-in-Promote-2.ensures ∙ ap call_of (sym c.in-Promote.is))
    (leaves_step g.K.Keeper _ _ _ c.promote.ensures.crash)

pub returns-in-Verdicts-clause-step : goal.returns-in-Verdicts-clause-step
returns-in-Verdicts-clause-step g c =
    subst (λ (call : Call). Does g.K.Keeper c.args.self.now.keeper call (reported c.verdicts.result) c.verdicts.new.self.keeper)
    (ap call_of (sym c.in-Verdicts.is))
    c.verdicts.ensures.step

pub returns-in-Verdicts-clause-crash : goal.returns-in-Verdicts-clause-crash
returns-in-Verdicts-clause-crash g c = leaves_read g.K.Keeper _ _ _ c.verdicts.ensures.reads

pub returns-in-Fetch-clause-lasts : goal.returns-in-Fetch-clause-lasts
returns-in-Fetch-clause-lasts g c = c.fetch.ensures.reads.lasts

pub returns-in-Waiting-clause-lasts : goal.returns-in-Waiting-clause-lasts
returns-in-Waiting-clause-lasts g c = c.waiting.ensures.reads.lasts

pub returns-in-Verdicts-clause-lasts : goal.returns-in-Verdicts-clause-lasts
returns-in-Verdicts-clause-lasts g c = c.verdicts.ensures.reads.lasts
