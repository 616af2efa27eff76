use Rattle.std.proofs.Common.{codes, map, string_bytes, ap, ap₂, ◌∙◌}
use Rattle.serde_json.specs.Data.{array, number, object, put, string, unsigned}
use Rattle.serde_json.specs.View.{items_of, members_view}
use Rattle.serde_json.proofs.Views.{view-Object}
use Rattle.output.specs.Explaining.Judged.{name_data, text_or_null}
use Rattle.output.proofs.PlainAnswers.{view-Null}
use Rattle.output.proofs.explaining.answer.answer_value.Goals as goal

pub returns : goal.returns
returns c =
    view-Object c.put-11.new.map ∙ ap object
    (c.in_ok-put-11.ensures.ok ∙ ap₂ (put (codes "ended")) c.no_values-3.ensures
    (c.in_ok-put-10.ensures.ok ∙ ap₂ (put (codes "came")) c.no_values-2.ensures
    (c.in_ok-put-9.ensures.ok ∙ ap₂ (put (codes "lacks")) c.no_values.ensures
    (c.in_ok-put-8.ensures.ok ∙ ap₂ (put (codes "names")) (c.in_ok-names.ensures ∙ ap (λ ns. array (items_of (map name_data (map string_bytes ns)))) c.as_slice.ensures.value)
    (c.in_ok-put-7.ensures.ok ∙ ap₂ (put (codes "today")) c.today_value.ensures
    (c.in_ok-put-6.ensures.ok ∙ ap₂ (put (codes "todo")) (c.in_ok-todo.ensures ∙ ap text_or_null c.todo_by.ensures)
    (c.in_ok-put-5.ensures.ok ∙ ap₂ (put (codes "means")) (c.in_ok-means.ensures ∙ ap text_or_null c.meant_by.ensures)
    (c.in_ok-put-4.ensures.ok ∙ ap₂ (put (codes "verdict")) (c.from.ensures ∙ ap (λ n. number (unsigned n)) c.number.ensures)
    (c.in_ok-put-3.ensures.ok ∙ ap₂ (put (codes "sha256")) c.in_ok-digest.ensures
    (c.in_ok-put-2.ensures.ok ∙ ap₂ (put (codes "since")) view-Null
    (c.in_ok-put.ensures.ok ∙ ap₂ (put (codes "upload")) (c.in_ok-name.ensures ∙ ap string c.as_str.ensures)
    (ap members_view c.new-object.ensures.empty))))))))))))
