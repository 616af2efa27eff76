use Rattle.std.proofs.Common.{List, ap₂, codes, string_bytes, ℕ, ◌++◌}
use Rattle.texts.proofs.Appended.{two}
use Rattle.pages.specs.UploadsPage.{verdict_cell}
use Rattle.pages.proofs.Appends.{at_last}
use Rattle.pages.proofs.uploads.push_verdict_cell.Goals as goal

pub returns : goal.returns
unfolding verdict_cell
returns c =
    let out : List ℕ = string_bytes c.args.out.now in
    let text1 : List ℕ = codes "<td>" in
    let text2 : List ℕ = c.tag.result.now in
    let text3 : List ℕ = c.verdict_word.result.now in
    let text4 : List ℕ = codes "</span></td>" in
    let part2 = two out text1 text2 _ _ c.in_ok-push_markup.ensures c.in_ok-push_markup-2.ensures in
    let part3 = two out (text1 ++ text2) text3 _ _ part2 c.in_ok-push_markup-3.ensures in
    at_last c.push_markup-4.result out _ _ (text1 ++ text2 ++ text3) text4 _ part3 c.push_markup-4.ensures
    (ap₂ (λ (t w : List ℕ). text1 ++ t ++ w ++ text4) c.tag.ensures c.verdict_word.ensures)
