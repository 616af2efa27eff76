use Rattle.std.proofs.Common.{rules, ◌<◌, length, get_or, IsTrue, sym, ap, subst, ◌∙◌}
use Rattle.std.proofs.lemmas.List.{get_or-map}
use Rattle.migrate.proofs.alike.are_alike_lists.Goals as goal

pub returns-then-not-is_alike : goal.returns-then-not-is_alike
returns-then-not-is_alike g c =
    let f = g.T.Compared.compared in
    let i = c.loop-position.position in
    let x = c.index-ones-position.result in
    let y = c.index-others-position.result in
    let within : i < length c.args.others.now = search rules in (
      λ no. absurd (let e = no in cc),
      λ same.
          subst IsTrue c.if-not-is_alike.true (c.is_alike.ensures.1
          (ap f c.index-ones-position.is
          ∙ sym (get_or-map f c.args.ones.now i x (f x) c.loop-position-test.true)
          ∙ ap (λ ys. get_or ys i (f x)) same
          ∙ get_or-map f c.args.others.now i y (f x) within
          ∙ sym (ap f c.index-others-position.is))),
    )
