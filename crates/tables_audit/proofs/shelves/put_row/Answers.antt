use Rattle.std.proofs.Common.{inl, inr, sym, ap, ◌∙◌}
use Rattle.std.proofs.lemmas.Result.{IfErr-weaker, on_ok_weaker}
use Rattle.rules.specs.Suites.{suite_named}
use Rattle.tables_meaning.proofs.ShownLemmas.{item_refused, no_kind, no_suite, row_puts}
use Rattle.tables_audit.proofs.shelves.put_row.Goals as goal

pub returns-clause-ok : goal.returns-clause-ok
returns-clause-ok c =
    on_ok_weaker c.put_item.result
    (row_puts c.args.suites.now c.args.row c.args.refs.items c.args.shelves.now c.put_item.new.shelves c.in-Some.suite c.in-Some-with_number.kind c.in_ok-item.item
    (sym (c.position_of_named.ensures ∙ ap (suite_named c.args.suites.now) c.as_str.ensures) ∙ c.in-Some.is)
    (sym c.with_number.ensures ∙ c.in-Some-with_number.is)
    c.in_ok-item.ensures.ok)
    c.put_item.ensures.ok

pub returns-clause-refused : goal.returns-clause-refused
returns-clause-refused c =
    IfErr-weaker c.put_item.result _ _
    (λ e h. elim h [
      | inl short ↦ inl short
      | inr refused ↦ inr (item_refused c.args.suites.now c.args.row c.args.refs.items c.args.shelves.now c.in-Some.suite c.in-Some-with_number.kind c.in_ok-item.item
          (sym (c.position_of_named.ensures ∙ ap (suite_named c.args.suites.now) c.as_str.ensures) ∙ c.in-Some.is)
          (sym c.with_number.ensures ∙ c.in-Some-with_number.is)
          c.in_ok-item.ensures.ok
          refused)
    ])
    c.put_item.ensures.refused

pub returns-in_default-clause-refused : goal.returns-in_default-clause-refused
returns-in_default-clause-refused c =
    inr (no_suite c.args.suites.now c.args.row c.args.refs.items c.args.shelves.now
    (sym (c.position_of_named.ensures ∙ ap (suite_named c.args.suites.now) c.as_str.ensures) ∙ c.in_default.is))

pub returns-in_default-with_number-clause-refused : goal.returns-in_default-with_number-clause-refused
returns-in_default-with_number-clause-refused c =
    inr (no_kind c.args.suites.now c.args.row c.args.refs.items c.args.shelves.now c.in-Some.suite
    (sym (c.position_of_named.ensures ∙ ap (suite_named c.args.suites.now) c.as_str.ensures) ∙ c.in-Some.is)
    (sym c.with_number.ensures ∙ c.in_default-with_number.is))
