use Rattle.std.proofs.Common.{◌≡◌, ◌∙◌, sym, ap, rules, arith, not, true, get_or, ◌==◌, ◌||◌, ◌&&◌}
use Rattle.std.specs.List.{list_any}
use Rattle.std.proofs.lemmas.Bool.Decides.{nat_tests}
use Rattle.std.proofs.lemmas.Iterator.{YieldsList-from_slice}
use Rattle.std.proofs.lemmas.Iterator.Search.{any_from_yields_List}
use Rattle.desk.proofs.head.is_path.Goals as goal

pub returns : goal.returns
returns c =
    let none = any_from_yields_List (λ b. b == 63 || b == 35) _ _ _ c.any.ensures.ran (YieldsList-from_slice _ c.iter.ensures.rest) (λ x b q k. search rules) in
    let first = rw c.as_bytes-bytes.ensures.value at c.if-bytes-ne47.false in
    let slash : (get_or c.args.target.now 0 0 == 47) ≡ true = grind (arith, nat_tests, first) in
    ap not (none ∙ ap (list_any (λ b. b == 63 || b == 35)) c.as_bytes-bytes.ensures.value) ∙ sym (ap (λ t. t && not (list_any (λ b. b == 63 || b == 35) c.args.target.now)) slash)
