use Rattle.std.proofs.Common.{rules, ◌∙◌}
use Rattle.std.proofs.lemmas.Fn.{always_returns_same}
use Rattle.book.specs.Book.{judging_order}
use Rattle.tables_audit.specs.Signs.{sign_of}
use Rattle.tables_audit.specs.declared.uploads.signs.Sign.{Sign}
use Rattle.tables_audit.proofs.SignsLemmas.{found_among}
use Rattle.tables_audit.proofs.uploads.signs.is_among.Goals as goal

pub returns : goal.returns
returns c =
    let facts = c.binary_search_by.ensures in
    let wanted = sign_of c.args.sign.now in
    let by_sign = facts.position (λ (x : Sign). judging_order (sign_of x) wanted) (always_returns_same _ _ _ (λ a r g called. search rules)) in
    c.is_ok.ensures.value ∙ found_among wanted c.args.signs.now c.binary_search_by.result c.requires facts.bound by_sign
