use Rattle.std.proofs.Common.{ap, ◌∙◌}
use Rattle.std.proofs.lemmas.Result.{IfOk-weaker}
use Rattle.suites.specs.declared.key.Kind.{Kind}
use Rattle.renewing.specs.Stanzas.{stanzas_of}
use Rattle.renewing.proofs.StanzaLemmas.{listed_by_kind}
use Rattle.renewing.proofs.stanzas.listed_text_of.Goals as goal

pub returns : goal.returns
returns c = IfOk-weaker c.stanzas_of.result _ _ (λ text is.
    is ∙ ap (λ (kind : Kind). stanzas_of kind c.args.shelves.now c.args.suite c.args.component.now c.args.architecture.now) c.kind_of.ensures
    ∙ listed_by_kind c.args.shelves.now c.args.suite c.args.component.now c.args.architecture.now)
    c.stanzas_of.ensures
