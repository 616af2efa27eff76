use Rattle.std.proofs.Common.{[], ◌∷◌, ◌++◌, map, take, sym, ap, ◌∙◌, arith}
use Rattle.std.proofs.lemmas.List.{map-append, map_more, take_all}
use Rattle.serde_json.specs.Data.{array}
use Rattle.serde_json.specs.View.{items_of, view}
use Rattle.serde_json.proofs.Views.{view-Array}
use Rattle.output.specs.Json.{file_data}
use Rattle.output.proofs.listing.json.files_value.Goals as goal

pub loop-file-init : goal.loop-file-init
loop-file-init c = ap (map view) c.new-values.ensures.items

pub loop-file-preserved : goal.loop-file-preserved
loop-file-preserved c =
    ap (map view) c.in_ok-push.ensures.items
    ∙ map-append view c.loop-file.values.items (c.in_ok-file_value.field-0 ∷ [])
    ∙ (λ i. c.loop-file.invariant i ++ c.in_ok-file_value.ensures i ∷ [])
    ∙ ap (λ file. map file_data (take c.loop-file.file-index c.args.files.now) ++ file_data file ∷ []) c.file-item.is
    ∙ sym (map_more file_data c.args.files.now c.loop-file.file-index c.file-item.result (omega (arith, c.loop-file-test.true)))

pub returns : goal.returns
returns c =
    view-Array c.loop-file.values
    ∙ ap (λ ds. array (items_of ds))
    (c.loop-file.invariant ∙ ap (map file_data) (take_all c.loop-file.file-index c.args.files.now c.loop-file-test.false))
