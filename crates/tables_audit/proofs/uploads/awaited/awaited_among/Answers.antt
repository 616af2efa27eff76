use Rattle.std.proofs.Common.{◌++◌, ◌∷◌, [], List, Option, map, take, ap, ap₂, append-nil, sym, ◌∙◌, arith, Vec, Global, option_map}
use Rattle.std.specs.List.{cons_option, filter_map}
use Rattle.std.proofs.lemmas.List.{map-append}
use Rattle.records.specs.Values.{ChangesValue}
use Rattle.tables_audit.specs.Uploads.{Waiting, awaited_view, found_awaited, printed}
use Rattle.tables_audit.specs.declared.uploads.awaited.Awaited.{Awaited}
use Rattle.tables_audit.proofs.UploadsSteps.{found_more}
use Rattle.tables_audit.proofs.uploads.awaited.awaited_among.Goals as goal
use Rattle.tables_audit.proofs.uploads.awaited.awaited_among.Goals.{in-Some+in_ok-push, in_default}

pub loop-one-preserved : goal.loop-one-preserved
loop-one-preserved c =
    let found = found_awaited c.args.pieces.now.all.now.pieces.items c.args.judged.now.all.now in
    let one = c.one-item.result in
    let before = filter_map found (map printed (take c.loop-one.one-index c.args.arrived.now)) in
    let more = found_more found c.args.arrived.now c.loop-one.one-index one (omega arith) c.one-item.is in
    elim c.match-branch-2.branch [
      | in-Some+in_ok-push w ↦
          let new : Awaited = record { arrival = c.one-item.result.arrival; print = c.one-item.result.print; changes = w.in-Some.changes } in
          ap (λ (v : Vec Awaited Global). map awaited_view v.items) w.awaited-is
          ∙ ap (map awaited_view) w.in_ok-push.ensures.items
          ∙ map-append awaited_view c.loop-one.awaited.items (new ∷ [])
          ∙ ap₂ (λ (l : List Waiting) (o : Option Waiting). l ++ cons_option o []) c.loop-one.invariant (ap (option_map (λ (v : ChangesValue). (printed one, v))) (sym w.in-Some.is ∙ c.in_ok-changes.ensures))
          ∙ sym more
      | in_default w ↦
          ap (λ (v : Vec Awaited Global). map awaited_view v.items) w.awaited-is
          ∙ c.loop-one.invariant
          ∙ sym (append-nil before)
          ∙ ap (λ (o : Option ChangesValue). before ++ cons_option (option_map (λ (v : ChangesValue). (printed one, v)) o) []) (sym w.in_default.is ∙ c.in_ok-changes.ensures)
          ∙ sym more
    ]
