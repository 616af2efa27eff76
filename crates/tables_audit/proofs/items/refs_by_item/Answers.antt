use Rattle.std.proofs.Common.{ap, ◌∙◌}
use Rattle.std.proofs.lemmas.Result.{IfOk-weaker}
use Rattle.tables.specs.Refs.{is_ref_of}
use Rattle.tables_meaning.specs.Kept.{ref_order}
use Rattle.tables_meaning.specs.Reads.{sorted_by}
use Rattle.tables_audit.proofs.KeyedLemmas.{rows_same}
use Rattle.tables_audit.proofs.items.refs_by_item.Goals as goal

pub returns : goal.returns
returns c =
    IfOk-weaker c.refs_in_order.result _ _ (λ found is. is
    ∙ ap (sorted_by ref_order) (c.in_ok-refs_of.ensures ∙ rows_same (is_ref_of c.args.item) c.about.result.now c.args.refs.now.all.now c.about.ensures)) c.refs_in_order.ensures
