use Rattle.std.proofs.Common.{◌++◌, Result, Ok, Err, OnOk, append-nil, string_bytes, refl, sym, ap, ◌∙◌}
use Rattle.std.proofs.lemmas.Result.{IfOk-weaker}
use Rattle.book.specs.Book.{text_at}
use Rattle.indices.specs.Release.{index_path}
use Rattle.renewing.specs.Renewal.{path_in, print_kept}
use Rattle.renewing.proofs.RenewedSteps.{kept_index, kept_texts}
use Rattle.renewing.proofs.renewal.renew_index.Goals as goal

on_ok : {X E : Type 0} {P : Type 0} (r : Result X E) → P → OnOk r P
on_ok (Ok x) p = p
on_ok (Err e) p = tt

pub returns-then-not-some_changes_index-clause-index : goal.returns-then-not-some_changes_index-clause-index
returns-then-not-some_changes_index-clause-index g c clean =
    let old = text_at (g.K.Keeper.book c.args.keeper.now) in
    let path = string_bytes c.in_ok-path.path in
    let whole = string_bytes c.in_ok-whole.whole in
    IfOk-weaker c.index_kept.result _ _ (λ index is.
    is ∙ kept_index old c.args.amendment.now.shelves.now c.args.amendment.now.steps.now c.args.folder.now c.args.place.now path whole (old whole) (print_kept (old whole))
    (c.in_ok-path.ensures ∙ ap (λ n. index_path n c.as_str-architecture.result.now) c.as_str-component.ensures ∙ ap (index_path c.args.place.now.component) c.as_str-architecture.ensures)
    (c.in_ok-whole.ensures ∙ ap (path_in c.args.folder.now) c.as_str.ensures.value)
    refl
    refl
    (sym c.some_changes_index.ensures ∙ c.if-not-some_changes_index.true))
    (c.index_kept.ensures.index clean)

pub returns-then-not-some_changes_index-clause-texts : goal.returns-then-not-some_changes_index-clause-texts
returns-then-not-some_changes_index-clause-texts g c clean =
    let texts = c.args.texts.now.items in
    on_ok c.index_kept.result
    (sym (append-nil texts)
    ∙ ap (λ more. texts ++ more) (sym (kept_texts (text_at (g.K.Keeper.book c.args.keeper.now)) c.args.amendment.now.shelves.now c.args.amendment.now.steps.now c.args.folder.now c.args.place.now
    (sym c.some_changes_index.ensures ∙ c.if-not-some_changes_index.true))))
