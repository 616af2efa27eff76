use Rattle.std.proofs.Common.{List, ap, codes, string_bytes, ℕ, ◌++◌}
use Rattle.texts.proofs.Appended.{two}
use Rattle.pages.specs.SuitePage.{row_start}
use Rattle.pages.proofs.Appends.{at_last}
use Rattle.pages.proofs.suite.push_row_start.Goals as goal

pub returns : goal.returns
unfolding row_start
returns c =
    let out : List ℕ = string_bytes c.args.out.now in
    let text1 : List ℕ = codes "<tr class=\"" in
    let text2 : List ℕ = c.kind_word.result.now in
    let text3 : List ℕ = codes "\">" in
    let part2 = two out text1 text2 _ _ c.in_ok-push_markup.ensures c.in_ok-push_markup-2.ensures in
    at_last c.push_markup-3.result out _ _ (text1 ++ text2) text3 _ part2 c.push_markup-3.ensures
    (ap (λ (word : List ℕ). text1 ++ word ++ text3) c.kind_word.ensures)
