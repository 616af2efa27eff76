use Rattle.std.proofs.Common.{◌≡◌, ◌<◌, ◌≤◌, ◌-◌, rules, refl, sym, ap, ◌∙◌, cond, bytes_eq, Some, None, Option, lt-ltb, le-ltb}
use Rattle.suites.specs.Applying.{one_less}
use Rattle.suites.specs.declared.shelves.SharedFile.{SharedFile}
use Rattle.suites.proofs.TextChanges.{text_step, text_kept}
use Rattle.suites.proofs.shelves.drop_reference.Goals as goal

one_left : (f : SharedFile) → 1 < f.references → Some (record { print = f.print; references = f.references - 1 }) ≡ one_less (Some f)
one_left f h = ap (λ b. cond b (Some (record { print = f.print; references = f.references - 1 })) None) (sym (lt-ltb _ _ h))

none_left : (f : SharedFile) → f.references ≤ 1 → None ≡ one_less (Some f)
none_left f h = ap (λ b. cond b (Some (record { print = f.print; references = f.references - 1 })) None) (sym (le-ltb _ _ h))

pub returns-then-file-gt1 : goal.returns-then-file-gt1
returns-then-file-gt1 c =
    let file : SharedFile = record { print = c.in-Some.file.now.print; references = c.in-Some.file.now.references - 1 } in
    text_step c.args.files.now (c.get_mut.follows.lender file) (Some file) c.args.path.now
    one_less c.args.path.now ((c.get_mut.follows.holds file).3 (search rules)) refl
    (one_left c.in-Some.file.now c.if-file-gt1.true ∙ ap one_less c.in-Some.ensures.value)

pub returns : goal.returns
returns c =
    let after = c.get_mut.follows.lender c.in-Some.file.now in
    let kept = text_kept c.args.files.now after (Some c.in-Some.file.now) c.args.path.now
    c.args.path.now ((c.get_mut.follows.holds c.in-Some.file.now).3 (search rules)) c.in-Some.ensures.value in
    λ q. text_step after c.remove.new.self None c.args.path.now one_less c.args.path.now c.remove.ensures.updates refl
    (none_left c.in-Some.file.now c.if-file-gt1.false
    ∙ ap one_less (c.in-Some.ensures.value ∙ sym (kept c.args.path.now))) q
    ∙ ap (λ (x : Option SharedFile). cond (bytes_eq c.args.path.now q) (one_less x) x) (kept q)
