use Rattle.std.proofs.Common.{Some, cond, bytes_eq, ap, ◌∙◌}
use Rattle.std.specs.BTreeMap.{get_by_text}
use Rattle.std.specs.Prelude.{string_bytes}
use Rattle.std.proofs.lemmas.Map.Text.{btree_map_updates_text}
use Rattle.suites.specs.PoolChange.{one_more}
use Rattle.suites.proofs.pool.count_reference.Goals as goal

pub returns : goal.returns
returns c = λ path.
    let key = c.in_ok-from_str.ensures.ok ∙ c.as_str-path.ensures in
    let file = c.with_one_more-file.ensures
    ∙ ap (λ found. one_more found c.args.reference.now.print) (c.get.ensures.value ∙ ap (get_by_text c.args.files.now) c.as_str-path.ensures) in
    btree_map_updates_text (string_bytes c.in_ok-from_str.field-0) c.args.files.now c.insert.new.self _ c.in_ok-insert.ensures.updates path
    ∙ (λ i. cond (bytes_eq (key i) path) (Some (file i)) (get_by_text c.args.files.now path))
