use Rattle.std.proofs.Common.{refl, subst}
use Rattle.std.proofs.lemmas.List.{take_all}
use Rattle.std.proofs.lemmas.List.Elements.{All-more}
use Rattle.book.specs.declared.change.Judgement.{Judgement}
use Rattle.tables_meaning.specs.Kept.{AreSigned, IsSigned}
use Rattle.tables_audit.proofs.signed.are_signed.Goals as goal

pub loop-judgement-preserved : goal.loop-judgement-preserved
loop-judgement-preserved c =
    let P : Judgement → Type 0 = λ j. IsSigned j.name j.print in
    All-more P c.args.judged.now c.loop-judgement.judgement-index c.judgement-item.result c.loop-judgement-test.true c.loop-judgement.invariant
    (subst P c.judgement-item.is (c.is_signed.ensures.0 c.if-not-is_signed.false))

pub returns : goal.returns
returns c = (
  λ e. subst AreSigned (take_all c.loop-judgement.judgement-index c.args.judged.now c.loop-judgement-test.false) c.loop-judgement.invariant,
  λ all. refl,
)
