use Rattle.std.proofs.Common.{[], ◌∷◌, ◌++◌, ◌∙◌}
use Rattle.std.specs.String.{string_bytes}
use Rattle.book.proofs.GroupLemmas.{group_added}
use Rattle.book.proofs.groups.add_to_group.Goals as goal

pub returns : goal.returns
returns g c = λ q.
    group_added c.args.groups.now c.take_group-group.new.groups c.insert.new.self c.push.new.self (string_bytes c.in_ok-owned.owned) c.args.name.now c.args.value
    c.in_ok-insert.ensures.updates c.in_ok-owned.ensures.ok
    (c.in_ok-push.ensures.items ∙ (λ i. c.take_group-group.ensures.group i ++ c.args.value ∷ []))
    c.take_group-group.ensures.others q
