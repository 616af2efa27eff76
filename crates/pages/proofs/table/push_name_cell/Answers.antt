use Rattle.std.proofs.Common.{List, codes, refl, string_bytes, ℕ, ◌++◌}
use Rattle.texts.proofs.Appended.{two}
use Rattle.pages.specs.Escapes.{escaped}
use Rattle.pages.specs.Frame.{name_cell}
use Rattle.pages.proofs.Appends.{at_last}
use Rattle.pages.proofs.table.push_name_cell.Goals as goal

pub returns : goal.returns
unfolding name_cell
returns c =
    let out : List ℕ = string_bytes c.args.out.now in
    let text1 : List ℕ = codes "<td class=\"name\">" in
    let text2 : List ℕ = escaped c.args.name.now in
    let text3 : List ℕ = codes "</td>" in
    let part2 = two out text1 text2 _ _ c.in_ok-push_markup.ensures c.in_ok-push_text.ensures in
    at_last c.push_markup-2.result out _ _ (text1 ++ text2) text3 _ part2 c.push_markup-2.ensures
    (refl)
