use Rattle.std.proofs.Common.{◌≡◌, ap, subst, ◌∙◌}
use Rattle.std.proofs.lemmas.Str.{IsUtf8-had}
use Rattle.std.specs.Str.{IsUtf8}
use Rattle.std.specs.String.{string_bytes}
use Rattle.tables_audit.proofs.shelves.text_in.Goals as goal

pub returns-in-Ok-clause-ok : goal.returns-in-Ok-clause-ok
returns-in-Ok-clause-ok c =
    let same : string_bytes c.in-Ok.text ≡ c.args.bytes = ap (λ v. v.items) c.in-Ok.ensures.ok ∙ c.into_vec.ensures in
    (c.from_string.ensures ∙ same, subst IsUtf8 same (IsUtf8-had _ c.in-Ok.text.ok))
