use Rattle.std.proofs.Common.{List, map, ap, ◌∙◌}
use Rattle.tables_audit.specs.Signs.{has_sign, sign_of}
use Rattle.tables_audit.specs.declared.uploads.signs.Sign.{Sign}
use Rattle.tables_audit.proofs.uploads.lookups.There.has.Goals as goal

pub returns : goal.returns
returns c =
    let wanted = sign_of c.args.sign.now in
    c.is_among.ensures ∙ ap (λ (l : List Sign). has_sign (map sign_of l) wanted) c.deref.ensures.value ∙ c.args.self.now.same wanted
