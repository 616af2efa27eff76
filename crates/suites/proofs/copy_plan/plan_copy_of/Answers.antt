use Rattle.std.proofs.Common.{◌≡◌, ◌<◌, List, map, length, flat_map, refl, sym, ap, subst, ◌∙◌, arith}
use Rattle.std.specs.Prelude.{IfOk, slice_get}
use Rattle.std.specs.FinMap.{get}
use Rattle.std.proofs.lemmas.Option.{slice_get_read}
use Rattle.suites.specs.Admission.{MayJoin}
use Rattle.suites.specs.Items.{standing}
use Rattle.suites.specs.Plan.{IsStep, kept_by}
use Rattle.suites.specs.Shelves.{shown_after, version_of}
use Rattle.suites.specs.declared.item.Item.{Item}
use Rattle.suites.specs.declared.key.ShelfKey.{ShelfKey}
use Rattle.suites.proofs.CopyLemmas.{copies_join, copied-is, kept-taken, taken}
use Rattle.suites.proofs.ToldLemmas.{told_after_copy}
use Rattle.suites.proofs.copy_plan.plan_copy_of.Goals as goal

pub plan_admission-requires : goal.plan_admission-requires
plan_admission-requires c =
    let target = c.index-suites-to.result in
    let are : c.in_ok-kept.kept.items ≡ taken c.args.shelves.now c.args.from c.args.to c.args.source.now target =
    c.in_ok-kept.ensures ∙ ap (flat_map (λ key. kept_by target (get c.args.shelves.now key))) c.requires.keys ∙ kept-taken c.args.shelves.now c.args.from c.args.source.now target in
    subst (λ (items : List Item). MayJoin c.args.shelves.now (map (standing c.args.to) items)) (sym are)
    (copies_join c.args.shelves.now c.args.from c.args.to c.args.source.now target c.agree.ensures)

pub returns-clause-step : goal.returns-clause-step
returns-clause-step c =
    let within : c.args.to < length c.suites.result.now = omega (arith, c.requires.to, ap length c.suites.ensures) in
    let target = ap (λ suites. slice_get suites c.args.to) (sym c.suites.ensures)
    ∙ slice_get_read c.suites.result.now (length c.suites.result.now) c.args.to c.index-suites-to.result refl within c.index-suites-to.is in
    let are : c.in_ok-kept.kept.items ≡ taken c.args.shelves.now c.args.from c.args.to c.args.source.now c.index-suites-to.result =
    c.in_ok-kept.ensures ∙ ap (flat_map (λ key. kept_by c.index-suites-to.result (get c.args.shelves.now key))) c.requires.keys
    ∙ kept-taken c.args.shelves.now c.args.from c.args.source.now c.index-suites-to.result in
    subst (λ (items : List (ShelfKey × Item)). IfOk c.plan_admission.result (IsStep c.args.shelves.now (shown_after version_of c.args.shelves.now items)))
    (ap (map (standing c.args.to)) are
    ∙ sym (copied-is c.args.shelves.now c.args.from c.args.to c.args.source.now c.index-suites-to.result c.args.config.now target))
    c.plan_admission.ensures.step

pub returns-in_err-kept-clause-told : goal.returns-in_err-kept-clause-told
returns-in_err-kept-clause-told c = told_after_copy c.args.config.now c.args.shelves.now c.args.from c.args.to c.args.source.now

pub returns-clause-told : goal.returns-clause-told
returns-clause-told c = told_after_copy c.args.config.now c.args.shelves.now c.args.from c.args.to c.args.source.now
