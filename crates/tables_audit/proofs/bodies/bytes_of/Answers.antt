use Rattle.std.proofs.Common.{ap, ◌∙◌}
use Rattle.std.proofs.lemmas.Result.{IfOk-weaker}
use Rattle.tables_meaning.specs.Kept.{bytes_of}
use Rattle.tables_audit.specs.Bodies.{bytes_in}
use Rattle.tables_audit.proofs.BodiesLemmas.{views}
use Rattle.tables_audit.proofs.bodies.bytes_of.Goals as goal

pub returns : goal.returns
unfolding bytes_of
returns c =
    IfOk-weaker c.joined.result _ _ (λ bytes is. is ∙ ap (λ ps. bytes_in (views ps)) c.deref.ensures.value ∙ ap bytes_in c.in_ok-found.ensures) c.joined.ensures
