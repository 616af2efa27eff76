use Rattle.std.proofs.Common.{rules, sym, ap, refl, ◌∙◌, Some, String, Global, cond, bytes_eq}
use Rattle.std.specs.BTreeMap.{BTreeMap, get_by_text}
use Rattle.std.specs.String.{string_bytes}
use Rattle.suites.specs.Applying.{one_more}
use Rattle.suites.specs.declared.shelves.SharedFile.{SharedFile}
use Rattle.suites.proofs.TextChanges.{text_step, text_kept}
use Rattle.suites.proofs.shelves.add_reference.Goals as goal

pub returns-in_default-checked_add-clause-err : goal.returns-in_default-checked_add-clause-err
returns-in_default-checked_add-clause-err c =
    text_kept c.args.files.now (c.get_mut.follows.lender c.in-Some.file.now) (Some c.in-Some.file.now) c.args.path.now
    c.args.path.now ((c.get_mut.follows.holds c.in-Some.file.now).3 (search rules)) c.in-Some.ensures.value

pub returns-in-Some-clause-ok : goal.returns-in-Some-clause-ok
returns-in-Some-clause-ok c =
    let file : SharedFile = record { print = c.in-Some.file.now.print; references = c.in-Some-checked_add.more } in
    text_step c.args.files.now (c.get_mut.follows.lender file) (Some file) c.args.path.now
    (one_more c.args.print) c.args.path.now ((c.get_mut.follows.holds file).3 (search rules)) refl
    (ap (λ n. Some (record { print = c.in-Some.file.now.print; references = n })) c.in-Some-checked_add.ensures.1
    ∙ ap (one_more c.args.print) c.in-Some.ensures.value)

pub returns-clause-ok : goal.returns-clause-ok
returns-clause-ok c =
    let none = c.get_mut.follows.holds-at-none in
    λ q. text_step c.get_mut.follows.lender-at-none c.insert.new.self (Some (record { print = c.args.print; references = 1 })) c.args.path.now
    (one_more c.args.print) (string_bytes c.in_ok-path.path) c.in_ok-insert.ensures.updates c.in_ok-path.ensures.ok
    (ap (one_more c.args.print)
    (c.in_default.ensures.value
    ∙ ap (get_by_text c.args.files.now) (sym c.in_ok-path.ensures.ok)
    ∙ ap (λ (m : BTreeMap (String Global) SharedFile). get_by_text m (string_bytes c.in_ok-path.path)) (sym none))) q
    ∙ ap (λ (m : BTreeMap (String Global) SharedFile). cond (bytes_eq c.args.path.now q) (one_more c.args.print (get_by_text m q)) (get_by_text m q)) none
