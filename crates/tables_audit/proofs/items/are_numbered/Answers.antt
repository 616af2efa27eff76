use Rattle.std.proofs.Common.{ap, sym, ◌∙◌}
use Rattle.tables.specs.declared.rows.Ref.{Ref}
use Rattle.tables_audit.proofs.ItemsLemmas.{misnumbered, numbered_all, numbered_more}
use Rattle.tables_audit.proofs.items.are_numbered.Goals as goal

pub returns-then-row-index : goal.returns-then-row-index
returns-then-row-index c =
    misnumbered c.args.refs.now c.loop-index.index c.index-refs-index.result c.loop-index-test.true
    (λ e. c.if-row-index.true (ap (λ (r : Ref). r.number) c.index-refs-index.is ∙ e)) c.loop-index.invariant

pub loop-index-preserved : goal.loop-index-preserved
loop-index-preserved c =
    numbered_more c.args.refs.now c.loop-index.index c.index-refs-index.result c.loop-index-test.true
    (sym (ap (λ (r : Ref). r.number) c.index-refs-index.is) ∙ c.if-row-index.false) c.loop-index.invariant

pub returns : goal.returns
returns c = numbered_all c.args.refs.now c.loop-index.index c.loop-index-test.false c.loop-index.invariant
