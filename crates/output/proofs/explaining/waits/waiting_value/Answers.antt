use Rattle.std.proofs.Common.{codes, filter, ap, ap₂, ◌∙◌}
use Rattle.serde_json.specs.Data.{array, object, put, string}
use Rattle.serde_json.specs.View.{items_of, members_view}
use Rattle.serde_json.proofs.Views.{view-Object}
use Rattle.output.specs.Explaining.Waits.{came_items, has_ended, lacks_data, never_came, waits_data}
use Rattle.output.proofs.PlainAnswers.{view-Null}
use Rattle.output.proofs.explaining.waits.waiting_value.Goals as goal

pub returns : goal.returns
unfolding waits_data
returns c =
    view-Object c.put-11.new.map ∙ ap object
    (c.in_ok-put-11.ensures.ok ∙ ap₂ (put (codes "ended")) (c.in_ok-ended.ensures ∙ ap (λ ls. lacks_data (filter has_ended ls)) c.as_slice-lacks.ensures)
    (c.in_ok-put-10.ensures.ok ∙ ap₂ (put (codes "came")) (c.in_ok-others.ensures ∙ ap (λ ls. array (items_of (came_items ls c.args.came.now))) c.as_slice-lacks.ensures)
    (c.in_ok-put-9.ensures.ok ∙ ap₂ (put (codes "lacks")) (c.in_ok-lacking.ensures ∙ ap (λ ls. lacks_data (filter never_came ls)) c.as_slice-lacks.ensures)
    (c.in_ok-put-8.ensures.ok ∙ ap₂ (put (codes "names")) c.no_values.ensures
    (c.in_ok-put-7.ensures.ok ∙ ap₂ (put (codes "today")) view-Null
    (c.in_ok-put-6.ensures.ok ∙ ap₂ (put (codes "todo")) view-Null
    (c.in_ok-put-5.ensures.ok ∙ ap₂ (put (codes "means")) view-Null
    (c.in_ok-put-4.ensures.ok ∙ ap₂ (put (codes "verdict")) view-Null
    (c.in_ok-put-3.ensures.ok ∙ ap₂ (put (codes "sha256")) c.in_ok-digest.ensures
    (c.in_ok-put-2.ensures.ok ∙ ap₂ (put (codes "since")) c.moment_value.ensures
    (c.in_ok-put.ensures.ok ∙ ap₂ (put (codes "upload")) (c.in_ok-name.ensures ∙ ap string c.as_str.ensures)
    (ap members_view c.new-object.ensures.empty))))))))))))
