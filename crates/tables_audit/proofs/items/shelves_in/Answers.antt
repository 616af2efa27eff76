use Rattle.std.proofs.Common.{List, Option, subst, ◌∙◌}
use Rattle.std.specs.Prelude.{IfSome}
use Rattle.rules.specs.declared.suite.Suite.{Suite}
use Rattle.suites.specs.Shelves.{ShelvesValue}
use Rattle.tables.specs.Rows.{Numbered}
use Rattle.tables.specs.declared.rows.ItemRow.{ItemRow}
use Rattle.tables.specs.declared.rows.Ref.{Ref}
use Rattle.tables_read.specs.All.{tables_with}
use Rattle.indices.proofs.Paths.{config_codenames}
use Rattle.tables_audit.specs.Items.{AreShown, AreStopped}
use Rattle.tables_audit.proofs.ItemsLemmas.{all_readable, items_fit, none_stopped}
use Rattle.tables_audit.proofs.items.shelves_in.Goals as goal

pub returns-in_default-clause-none : goal.returns-in_default-clause-none
returns-in_default-clause-none c _ readable shown fit sound =
    let refs = c.new-refs.ensures ∙ c.as_slice.ensures.value in
    none_stopped c.args.config.now.suites (config_codenames c.args.config.now c.text.ensures.read) (tables_with c.args.all.now) readable shown fit sound
    (subst (λ (x : List Suite × Numbered Ref × Numbered ItemRow). AreStopped x.0 x.1 x.2) (λ i. (c.suites.ensures i, refs i, c.as_slice-2.ensures.value i))
    (c.in_ok-found.ensures.none c.in_default.is))

pub returns-clause-some : goal.returns-clause-some
returns-clause-some c keys =
    let t = tables_with c.args.all.now in
    let differ = config_codenames c.args.config.now c.text.ensures.read in
    let refs = c.new-refs.ensures ∙ c.as_slice.ensures.value in
    let found : AreShown c.suites.result.now c.new-refs.result.all.now c.as_slice-2.result.now c.in-Some.shelves =
    subst (λ (o : Option ShelvesValue). IfSome o (AreShown c.suites.result.now c.new-refs.result.all.now c.as_slice-2.result.now)) c.in-Some.is c.in_ok-found.ensures.some in
    let shown : AreShown c.args.config.now.suites t.refs t.items c.in-Some.shelves =
    subst (λ (x : List Suite × Numbered Ref × Numbered ItemRow). AreShown x.0 x.1 x.2 c.in-Some.shelves) (λ i. (c.suites.ensures i, refs i, c.as_slice-2.ensures.value i)) found in (
      items_fit c.args.config.now.suites differ t c.in-Some.shelves shown keys,
      c.agree.ensures,
      all_readable c.args.config.now.suites differ t c.in-Some.shelves shown,
    )
