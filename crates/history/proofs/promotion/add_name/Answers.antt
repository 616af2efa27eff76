use Rattle.std.proofs.Common.{map, ap, ◌∙◌}
use Rattle.std.specs.String.{string_bytes}
use Rattle.history.specs.Archives.{with_name}
use Rattle.history.proofs.PromotionSteps.{named-insert}
use Rattle.history.proofs.promotion.add_name.Goals as goal

pub returns : goal.returns
returns c =
    ap (map string_bytes) c.in_ok-insert.ensures.keys
    ∙ named-insert c.args.names.now.keys c.in_ok-owned.owned
    ∙ ap (with_name (map string_bytes c.args.names.now.keys)) c.in_ok-owned.ensures.ok
