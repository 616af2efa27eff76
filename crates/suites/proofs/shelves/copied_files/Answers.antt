use Rattle.std.proofs.Common.{◌≡◌, ◌++◌, ◌∷◌, refl, sym, ap, ◌∙◌, append-nil, rules}
use Rattle.std.specs.BTreeMap.{insert_entry}
use Rattle.std.specs.String.{string_cmp, string_bytes}
use Rattle.std.specs.FinMap.{find}
use Rattle.suites.specs.Keys.{text_order}
use Rattle.suites.specs.KeyLemmas.{text_order_total}
use Rattle.suites.proofs.MapEntries.{read, copied_more, read_alike, sorted_read}
use Rattle.suites.proofs.shelves.copied_files.Goals as goal

pub loop-path-preserved : goal.loop-path-preserved
loop-path-preserved c =
    ap (λ es. read string_bytes es ++ read string_bytes c.next.new.self) c.in_ok-insert.ensures.entries
    ∙ copied_more string_bytes text_order_total (read string_bytes c.args.files.now.entries) c.loop-path.copy.entries c.in_ok-clone.field-0 c.in-Some.file.now (read string_bytes c.next.new.self)
    (sorted_read string_bytes text_order c.args.files.now.entries c.into_iter-path-iterator.ensures.into_iter_gives.5)
    (ap (λ bs. read string_bytes c.loop-path.copy.entries ++ ((bs, c.in-Some.file.now) ∷ read string_bytes c.next.new.self)) c.in_ok-clone.ensures.cases
    ∙ ap (λ es. read string_bytes c.loop-path.copy.entries ++ read string_bytes es) (sym c.in-Some.ensures.steps) ∙ c.loop-path.invariant)

pub returns : goal.returns
returns c = λ path.
    read_alike string_bytes text_order path c.loop-path.copy.entries
    ∙ ap (λ es. find text_order path es)
    (sym (append-nil (read string_bytes c.loop-path.copy.entries))
    ∙ ap (λ es. read string_bytes c.loop-path.copy.entries ++ read string_bytes es) (sym c.in-None.ensures.steps.0)
    ∙ c.loop-path.invariant)
    ∙ sym (read_alike string_bytes text_order path c.args.files.now.entries)
