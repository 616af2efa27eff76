use Rattle.std.proofs.Common.{List, codes, refl, string_bytes, ℕ, ◌++◌}
use Rattle.texts.proofs.Appended.{two}
use Rattle.pages.specs.Escapes.{escaped}
use Rattle.pages.specs.SuitePage.{known_line}
use Rattle.pages.proofs.Appends.{at_last}
use Rattle.pages.proofs.synopsis.push_line.Goals as goal

pub returns : goal.returns
unfolding known_line
returns c =
    let out : List ℕ = string_bytes c.args.out.now in
    let text1 : List ℕ = codes "<div class=\"dim\">" in
    let text2 : List ℕ = escaped c.args.field.now.first.now in
    let text3 : List ℕ = codes "</div>" in
    let part2 = two out text1 text2 _ _ c.in_ok-push_markup.ensures c.in_ok-push_text.ensures in
    at_last c.push_markup-2.result out _ _ (text1 ++ text2) text3 _ part2 c.push_markup-2.ensures
    (refl)
